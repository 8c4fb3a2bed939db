-- The operations of a deployment, one by one: what is asked for each, and the content before it.
use Rattle.std.proofs.Common.{◌≡◌, ℕ, zero, suc, ◌+◌, ◌-◌, ◌*◌, ◌%◌, ◌<◌, ◌≤◌, min, Bool, true, false, ◌&&◌, List, [], ◌∷◌, ◌++◌, length, map, take, drop, Some, None, refl, sym, ap, subst, ◌∙◌, inl, inr, arith}
use Rattle.std.specs.Prelude.{slice_index, slice_get, if◌then◌else◌, nat_le, nat_lt, ◌==◌, bit_and, bit_xor}
use Rattle.std.specs.List.{range_with_len}
use Rattle.std.proofs.lemmas.Bool.{cases_lt, and_from, le-leb, lt-ltb}
use Rattle.std.proofs.lemmas.Nat.{and_le_l, and_le_r, xor_of_8}
use Rattle.std.proofs.lemmas.List.{length-take, length-drop, get_or_past}
use Rattle.byteorder.specs.Endian.{little_bytes}
use Rattle.byteorder.specs.Numbers.{little_number-reads_back}
use Rattle.flash_trait.specs.Flash.{Operation, Program, Erase, AreBytes, IsStopped, after, start, covers, wanted, chosen}
use Rattle.flash_trait.proofs.FlashBytes.{mask_for, chosen_by_mask}
use Rattle.little_endian.specs.Numbers.{number}
use Rattle.wire_packets.specs.Made.{packet_with}
use Rattle.wire_packets.specs.declared.packet.TheConstants.{REQUEST}
use Rattle.deploy_model.specs.Banks.{base, ROOM, number_bytes}
use Rattle.deploy_model.specs.Deployment.{Plan, zeroings, fillings, erases, pieces, piece, piece_count, PIECE, last_operation, operations, eight_zeros, after_all, command_of, payload_of}
use Rattle.deploy_model.specs.Board.{operation_asked, program_asked, erase_asked}
use Rattle.deploy_model.specs.Moments.{Through}
use Rattle.deploy_laws.proofs.Bytes.{same_byte, stands}

-- ---- a request asks for its operation
abbrev pub Askable : Operation → Type 0
Askable (Program at bytes) = (1 ≤ length bytes) × (length bytes ≤ PIECE) × (at + length bytes ≤ 262144)
Askable (Erase sector) = sector < 32

number_front : (n : ℕ) (rest : List ℕ) → n < 4294967296 → number 4 0 (little_bytes 4 n ++ rest) ≡ n
unfolding number
number_front n rest small = little_number-reads_back 4 n rest small

if_true : {X : Type 0} (b : Bool) (x y : X) → b ≡ true → (if b then x else y) ≡ x
if_true b x y is = ap (λ (c : Bool). if c then x else y) is

program_back : (at : ℕ) (bytes : List ℕ) → Askable (Program at bytes) → program_asked (little_bytes 4 at ++ bytes) ≡ Some (Program at bytes)
program_back at bytes fits =
    let some = fits.0 in
    let few = fits.1 in
    let inside = fits.2 in
    let e : number 4 0 (little_bytes 4 at ++ bytes) ≡ at = number_front at bytes (omega arith) in
    let size : length (little_bytes 4 at ++ bytes) ≡ length bytes + 4 = omega arith in
    let test : ((nat_le 5 (length (little_bytes 4 at ++ bytes)) && nat_le (length (little_bytes 4 at ++ bytes)) (PIECE + 4)) && nat_le (number 4 0 (little_bytes 4 at ++ bytes) + (length (little_bytes 4 at ++ bytes) - 4)) 262144) ≡ true =
    and_from (nat_le 5 (length (little_bytes 4 at ++ bytes)) && nat_le (length (little_bytes 4 at ++ bytes)) (PIECE + 4)) (nat_le (number 4 0 (little_bytes 4 at ++ bytes) + (length (little_bytes 4 at ++ bytes) - 4)) 262144)
    (and_from (nat_le 5 (length (little_bytes 4 at ++ bytes))) (nat_le (length (little_bytes 4 at ++ bytes)) (PIECE + 4)) (le-leb 5 (length (little_bytes 4 at ++ bytes)) (omega arith)) (le-leb (length (little_bytes 4 at ++ bytes)) (PIECE + 4) (omega arith)))
    (le-leb (number 4 0 (little_bytes 4 at ++ bytes) + (length (little_bytes 4 at ++ bytes) - 4)) 262144 (omega arith)) in
    if_true ((nat_le 5 (length (little_bytes 4 at ++ bytes)) && nat_le (length (little_bytes 4 at ++ bytes)) (PIECE + 4)) && nat_le (number 4 0 (little_bytes 4 at ++ bytes) + (length (little_bytes 4 at ++ bytes) - 4)) 262144)
    (Some (Program (number 4 0 (little_bytes 4 at ++ bytes)) (drop 4 (little_bytes 4 at ++ bytes)))) None test
    ∙ ap (λ (n : ℕ). Some (Program n bytes)) e

erase_back : (sector : ℕ) → sector < 32 → erase_asked (little_bytes 4 sector) ≡ Some (Erase sector)
erase_back sector small =
    let e : number 4 0 (little_bytes 4 sector) ≡ sector = number_front sector [] (omega arith) in
    if_true (nat_lt (number 4 0 (little_bytes 4 sector)) 32) (Some (Erase (number 4 0 (little_bytes 4 sector)))) None (lt-ltb (number 4 0 (little_bytes 4 sector)) 32 (omega arith))
    ∙ ap (λ (n : ℕ). Some (Erase n)) e

pub asked_back : (op : Operation) (seq : ℕ) → Askable op → operation_asked (packet_with (command_of op) seq 0 REQUEST (payload_of op)) ≡ Some op
unfolding operation_asked
asked_back (Program at bytes) seq fits = program_back at bytes fits
asked_back (Erase sector) seq fits = erase_back sector fits

-- ---- each operation can be asked for
abbrev EachAskable : List Operation → Type 0
EachAskable [] = Unit {0}
EachAskable (op ∷ ops) = Askable op × EachAskable ops

each_append : (ops more : List Operation) → EachAskable ops → EachAskable more → EachAskable (ops ++ more)
each_append [] more these those = those
each_append (op ∷ ops) more these those = (these.0, each_append ops more these.1 those)

each_of : (f : ℕ → Operation) (i n : ℕ) → ((k : ℕ) → k < i + n → Askable (f k)) → EachAskable (map f (range_with_len i n))
each_of f i zero can = tt
each_of f i (suc n) can = (can i (omega arith), each_of f (i + 1) n (λ k below. can k (omega arith)))

each_if : (b : Bool) (op : Operation) → Askable op → EachAskable (if b then op ∷ [] else [])
each_if true op can = (can, tt)
each_if false op can = tt

each_get : (ops : List Operation) → EachAskable ops → (i : ℕ) (op : Operation) → slice_get ops i ≡ Some op → Askable op
each_get [] all i op is = absurd (cc)
each_get (x ∷ xs) all zero op is = subst Askable (some_same x op is) all.0
  where
    some_same : (a b : Operation) → Some a ≡ Some b → a ≡ b
    some_same a b e = cc
each_get (x ∷ xs) all (suc i) op is = each_get xs all.1 i op is

fillings_askable : (p : Plan) (set : List ℕ) → p.target ≤ 1 → length set ≤ ROOM → EachAskable (fillings p set)
fillings_askable p set small room =
    each_append (erases p.target ++ pieces p.target set) (Program (base p.target + 8) (number_bytes p.number) ∷ [])
    (each_append (erases p.target) (pieces p.target set)
    (each_of (λ (i : ℕ). Erase (16 * p.target + i)) 0 15 (λ k below. omega arith))
    (each_of (piece p.target set) 0 (piece_count set) (λ k below.
    let e : length (take PIECE (drop (PIECE * k) set)) ≡ min PIECE (length set - PIECE * k) = length-take PIECE (drop (PIECE * k) set) ∙ ap (λ (n : ℕ). min PIECE n) (length-drop (PIECE * k) set) in
    (omega arith, omega arith, omega arith))))
    ((omega arith, omega arith, omega arith), tt)

all_askable : (p : Plan) (set : List ℕ) → p.target ≤ 1 → length set ≤ ROOM → EachAskable (operations p set)
unfolding operations
all_askable p set small room =
    each_append (zeroings p ++ fillings p set) (last_operation p ∷ [])
    (each_append (zeroings p) (fillings p set)
    (each_append (if p.front then Program 0 eight_zeros ∷ [] else []) (if p.back then Program (base 1) eight_zeros ∷ [] else [])
    (each_if p.front (Program 0 eight_zeros) (omega arith, omega arith, omega arith))
    (each_if p.back (Program (base 1) eight_zeros) (omega arith, omega arith, omega arith)))
    (fillings_askable p set small room))
    ((omega arith, omega arith, omega arith), tt)

pub nth_askable : (p : Plan) (set : List ℕ) → p.target ≤ 1 → length set ≤ ROOM → (i : ℕ) (op : Operation) → slice_get (operations p set) i ≡ Some op → Askable op
nth_askable p set small room i op is = each_get (operations p set) (all_askable p set small room) i op is

-- ---- the content before the i-th operation
pub next_content : (ops : List Operation) (i : ℕ) (op : Operation) (c : List ℕ) → slice_get ops i ≡ Some op → after op (after_all (take i ops) c) ≡ after_all (take (i + 1) ops) c
next_content [] i op c is = absurd (cc)
next_content (x ∷ xs) zero op c is = ap (λ (o : Operation). after o c) (some_same x op is)
  where
    some_same : (a b : Operation) → Some a ≡ Some b → b ≡ a
    some_same a b e = cc
next_content (x ∷ xs) (suc i) op c is =
    let e : suc i + 1 ≡ suc (i + 1) = omega arith in
    next_content xs i op (after x c) is ∙ ap (λ (n : ℕ). after_all (take n (x ∷ xs)) c) (sym e)

pub last_content : (ops : List Operation) (i : ℕ) (c : List ℕ) → slice_get ops i ≡ None → after_all (take i ops) c ≡ after_all ops c
last_content [] zero c is = refl
last_content [] (suc i) c is = refl
last_content (x ∷ xs) zero c is = absurd (cc)
last_content (x ∷ xs) (suc i) c is = last_content xs i (after x c) is

pub through_end : (P : List ℕ → Type 0) (ops : List Operation) (c : List ℕ) → Through P ops c → P (after_all ops c)
through_end P [] c all = all
through_end P (x ∷ xs) c all = through_end P xs (after x c) all.2

pub through_at : (P : List ℕ → Type 0) (ops : List Operation) (c : List ℕ) → Through P ops c → (i : ℕ) → P (after_all (take i ops) c)
through_at P [] c all zero = all
through_at P [] c all (suc i) = all
through_at P (x ∷ xs) c all zero = all.0
through_at P (x ∷ xs) c all (suc i) = through_at P xs (after x c) all.2 i

pub through_stop : (P : List ℕ → Type 0) (ops : List Operation) (c : List ℕ) → Through P ops c → (i : ℕ) (op : Operation) → slice_get ops i ≡ Some op
    → (d : List ℕ) → IsStopped op (after_all (take i ops) c) d → P d
through_stop P [] c all i op is d stopped = absurd (cc)
through_stop P (x ∷ xs) c all zero op is d stopped = all.1 d (subst (λ (o : Operation). IsStopped o c d) (some_same x op is) stopped)
  where
    some_same : (a b : Operation) → Some a ≡ Some b → b ≡ a
    some_same a b e = cc
through_stop P (x ∷ xs) c all (suc i) op is d stopped = through_stop P xs (after x c) all.2 i op is d stopped

-- ---- bytes stay bytes
wanted_small : (op : Operation) (i old : ℕ) → old < 256 → wanted op i old < 256
wanted_small (Program at bytes) i old small = let e = and_le_l old (slice_index bytes i) in omega arith
wanted_small (Erase sector) i old small = omega arith

chosen_small : (op : Operation) (i mask old : ℕ) → old < 256 → chosen op i mask old < 256
chosen_small (Program at bytes) i mask old small =
    let w = bit_and old (slice_index bytes i) in
    let x = bit_xor old w in
    let a = xor_of_8 old w small (wanted_small (Program at bytes) i old small) in
    let b = and_le_r mask x in
    xor_of_8 old (bit_and mask x) small (omega arith)
chosen_small (Erase sector) i mask old small = either (mask % 2 == 1)
  where
    either : (b : Bool) → (if b then 0xFF else old) < 256
    either true = omega arith
    either false = small

pub bytes_stay : (op : Operation) (c d : List ℕ) → IsStopped op c d → AreBytes c → AreBytes d
bytes_stay op c d stopped bytes i =
    elim (cases_lt i (length c)) [
      | inl low ↦ covered (covers op i) refl low
      | inr high ↦ let size = stopped.size in let e = get_or_past d i 0 (omega arith) in omega arith
    ]
  where
    covered : (b : Bool) → covers op i ≡ b → i < length c → slice_index d i < 256
    covered true is low =
        let e = chosen_by_mask op (i - start op) (slice_index c i) (slice_index d i) (stands op c d stopped i low is) in
        let h = chosen_small op (i - start op) (mask_for op (slice_index c i) (slice_index d i)) (slice_index c i) (bytes i) in
        omega arith
    covered false is low = let e = same_byte op c d stopped i is in let h = bytes i in omega arith
