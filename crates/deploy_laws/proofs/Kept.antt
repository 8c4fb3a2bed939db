-- What the operations of a deployment keep, at each moment of each.
use Rattle.std.proofs.Common.{◌≡◌, ◌⊎◌, ℕ, zero, suc, ◌+◌, ◌-◌, ◌*◌, ◌<◌, ◌≤◌, min, Bool, true, false, List, [], ◌∷◌, ◌++◌, length, map, take, drop, refl, sym, ap, subst, ◌∙◌, inl, inr, arith}
use Rattle.std.specs.Prelude.{slice_index, if◌then◌else◌, bit_and, ◌&&◌, ◌==◌}
use Rattle.std.specs.List.{range_with_len}
use Rattle.std.proofs.lemmas.Bool.{cases_lt, cases_Bool, and_from, eq-eqb}
use Rattle.std.proofs.lemmas.List.{length-take, length-drop, length-append, length-replicate, get_or-take, get_or-drop, get_or_append_left, get_or-append_right, ext_get_or}
use Rattle.flash_trait.specs.Flash.{Operation, Program, Erase, AreBytes, IsStopped, start, span, after}
use Rattle.flash_trait.proofs.FlashContents.{after_stopped}
use Rattle.deploy_model.specs.Banks.{base, BANK_SIZE, BODY, ROOM, image_marker, bank_marker, holds, number_bytes, body_bytes, bank_bytes, bank_of, erased}
use Rattle.deploy_model.specs.Deployment.{Plan, fillings, last_operation, erases, piece, pieces, piece_count, PIECE, after_all, eight_zeros}
use Rattle.deploy_model.specs.Moments.{Through}
use Rattle.std.specs.Int.Bits.{and_zero_r}
use Rattle.deploy_laws.proofs.Bytes.{not_covered, same_byte, length-after, get-after_in}
use Rattle.deploy_laws.proofs.Markers.{holds_byte, erase_none, elsewhere, Unmarked, zeroing, marking}
use Rattle.deploy_laws.proofs.Filling.{IsFilled, filled, after_all-append, after_out}

-- ---- moments
pub through_append : (P : List ℕ → Type 0) (ops more : List Operation) (c : List ℕ) → Through P ops c → Through P more (after_all ops c) → Through P (ops ++ more) c
through_append P [] more c these those = those
through_append P (op ∷ ops) more c these those = (these.0, these.1, through_append P ops more (after op c) these.2 those)

pub through_weaker : (P Q : List ℕ → Type 0) → ((c : List ℕ) → P c → Q c) → (ops : List Operation) (c : List ℕ) → Through P ops c → Through Q ops c
through_weaker P Q weaker [] c all = weaker c all
through_weaker P Q weaker (op ∷ ops) c all = (weaker c all.0, λ d stopped. weaker d (all.1 d stopped), through_weaker P Q weaker ops (after op c) all.2)

-- ---- the fact
-- outside the target bank all is as it was
pub record Around (target : ℕ) (was c : List ℕ) : Type 0 where
  pub size : length c ≡ 262144
  pub same : (place : ℕ) → (place < base target) ⊎ (base target + BANK_SIZE ≤ place) → slice_index c place ≡ slice_index was place

-- the target has no marker of a bank, and at the front of the flash none of the format before
pub record Clear (target : ℕ) (c : List ℕ) : Type 0 where
  pub bank : holds bank_marker (base target) c ≡ false
  pub image : target ≡ 0 → holds image_marker (base target) c ≡ false

pub record Kept (target number : ℕ) (set was c : List ℕ) : Type 0 where
  pub around : Around target was c
  pub which : Clear target c ⊎ ((c ≡ was) ⊎ (bank_of target c ≡ bank_bytes number set))

-- ---- operations that leave the marker's place, or erase it
abbrev pub Gentle : ℕ → Operation → Type 0
Gentle target (Program at bytes) = base target + 8 ≤ at
Gentle target (Erase sector) = Unit {0}

pub record Quiet (target : ℕ) (op : Operation) : Type 0 where
  pub low : base target ≤ start op
  pub high : start op + span op ≤ base target + BANK_SIZE
  pub gentle : Gentle target op

abbrev pub EachQuiet : ℕ → List Operation → Type 0
EachQuiet target [] = Unit {0}
EachQuiet target (op ∷ ops) = Quiet target op × EachQuiet target ops

each_append : (target : ℕ) (ops more : List Operation) → EachQuiet target ops → EachQuiet target more → EachQuiet target (ops ++ more)
each_append target [] more these those = those
each_append target (op ∷ ops) more these those = (these.0, each_append target ops more these.1 those)

each_of : (target : ℕ) (f : ℕ → Operation) (i n : ℕ) → ((k : ℕ) → k < i + n → Quiet target (f k)) → EachQuiet target (map f (range_with_len i n))
each_of target f i zero quiet = tt
each_of target f i (suc n) quiet = (quiet i (omega arith), each_of target f (i + 1) n (λ k below. quiet k (omega arith)))

around_step : (target : ℕ) (op : Operation) (was c d : List ℕ) → base target ≤ start op → start op + span op ≤ base target + BANK_SIZE → IsStopped op c d → Around target was c → Around target was d
around_step target op was c d low high stopped around =
    record {
      size = stopped.size ∙ around.size;
      same = λ place out.
          same_byte op c d stopped place (not_covered op place (elim out [ inl before ↦ inl (omega arith) | inr behind ↦ inr (omega arith) ])) ∙ around.same place out;
    }

clear_step : (target : ℕ) (op : Operation) (c d : List ℕ) → Gentle target op → IsStopped op c d → Clear target c → Clear target d
clear_step target (Program at bytes) c d gentle stopped clear =
    record {
      bank = elsewhere bank_marker (Program at bytes) c d stopped (base target) (inl gentle) ∙ clear.bank;
      image = λ front. elsewhere image_marker (Program at bytes) c d stopped (base target) (inl gentle) ∙ clear.image front;
    }
clear_step target (Erase sector) c d gentle stopped clear =
    record {
      bank = erase_none bank_marker refl sector c d stopped (base target) clear.bank;
      image = λ front. erase_none image_marker refl sector c d stopped (base target) (clear.image front);
    }

-- what stands after quiet operations
pub record Calm (target : ℕ) (was c : List ℕ) : Type 0 where
  pub around : Around target was c
  pub clear : Clear target c

calm_step : (target : ℕ) (op : Operation) (was c d : List ℕ) → Quiet target op → IsStopped op c d → Calm target was c → Calm target was d
calm_step target op was c d quiet stopped calm =
    record {
      around = around_step target op was c d quiet.low quiet.high stopped calm.around;
      clear = clear_step target op c d quiet.gentle stopped calm.clear;
    }

calm_kept : (target number : ℕ) (set was c : List ℕ) → Calm target was c → Kept target number set was c
calm_kept target number set was c calm = record { around = calm.around; which = inl calm.clear }

quiet_through : (target number : ℕ) (set was : List ℕ) (ops : List Operation) (c : List ℕ) → EachQuiet target ops → Calm target was c
    → Through (Kept target number set was) ops c × Calm target was (after_all ops c)
quiet_through target number set was [] c quiet calm = (calm_kept target number set was c calm, calm)
quiet_through target number set was (op ∷ ops) c quiet calm =
    let rest = quiet_through target number set was ops (after op c) quiet.1 (calm_step target op was c (after op c) quiet.0 (after_stopped op c) calm) in (
      (calm_kept target number set was c calm, λ d stopped. calm_kept target number set was d (calm_step target op was c d quiet.0 stopped calm), rest.0),
      rest.1,
    )

-- ---- the fillings are quiet
fillings_quiet : (p : Plan) (set : List ℕ) → p.target ≤ 1 → length set ≤ ROOM → EachQuiet p.target (fillings p set)
fillings_quiet p set small room =
    each_append p.target (erases p.target ++ pieces p.target set) (Program (base p.target + 8) (number_bytes p.number) ∷ [])
    (each_append p.target (erases p.target) (pieces p.target set)
    (each_of p.target (λ (i : ℕ). Erase (16 * p.target + i)) 0 15 (λ k below. record { low = omega arith; high = omega arith; gentle = tt }))
    (each_of p.target (piece p.target set) 0 (piece_count set) (λ k below.
    let e : length (take PIECE (drop (PIECE * k) set)) ≡ min PIECE (length set - PIECE * k) = length-take PIECE (drop (PIECE * k) set) ∙ ap (λ (n : ℕ). min PIECE n) (length-drop (PIECE * k) set) in
    record { low = omega arith; high = omega arith; gentle = omega arith })))
    ((record { low = omega arith; high = omega arith; gentle = omega arith }), tt)

-- ---- the marker
holds_from : (xs : List ℕ) (at : ℕ) (c : List ℕ) → ((i : ℕ) → i < length xs → slice_index c (at + i) ≡ slice_index xs i) → holds xs at c ≡ true
holds_from [] at c same = refl
holds_from (x ∷ xs) at c same =
    let e : at + 0 ≡ at = omega arith in
    and_from (slice_index c at == x) (holds xs (suc at) c) (eq-eqb (slice_index c at) x (ap (λ (n : ℕ). slice_index c n) (sym e) ∙ same 0 (omega arith)))
    (holds_from xs (suc at) c (λ i within. let g : at + suc i ≡ suc at + i = omega arith in ap (λ (n : ℕ). slice_index c n) (sym g) ∙ same (suc i) (omega arith)))

length-bank_bytes : (number : ℕ) (set : List ℕ) → length set ≤ ROOM → length (bank_bytes number set) ≡ BANK_SIZE
length-bank_bytes number set room =
    let e : length (bank_bytes number set) ≡ 16 + length (body_bytes set) = length-append (bank_marker ++ number_bytes number) (body_bytes set) in
    let f : length (body_bytes set) ≡ length set + length (erased (ROOM - length set)) = length-append set (erased (ROOM - length set)) in
    let g : length (erased (ROOM - length set)) ≡ ROOM - length set = length-replicate (ROOM - length set) 0xFF in
    omega arith

pub get-bank : (target : ℕ) (c : List ℕ) (i : ℕ) → i < BANK_SIZE → slice_index (bank_of target c) i ≡ slice_index c (base target + i)
get-bank target c i below = get_or-take BANK_SIZE (drop (base target) c) i 0 below ∙ get_or-drop (base target) c i 0

bank_fits : (n t : ℕ) → n ≡ min 122880 (262144 - 131072 * t) → t ≤ 1 → n ≡ 122880
bank_fits n t e small = omega arith

pub length-bank : (target : ℕ) (c : List ℕ) → target ≤ 1 → length c ≡ 262144 → length (bank_of target c) ≡ BANK_SIZE
length-bank target c small size =
    bank_fits (length (bank_of target c)) target
    (length-take BANK_SIZE (drop (base target) c) ∙ ap (λ (n : ℕ). min BANK_SIZE n) (length-drop (base target) c ∙ ap (λ (n : ℕ). n - base target) size)) small

below_by : (i n m : ℕ) → i < n → n ≡ m → i < m
below_by i n m low e = omega arith

-- a bank byte by byte
bank_byte : (target n : ℕ) (set c : List ℕ) → holds bank_marker (base target) c ≡ true
    → ((j : ℕ) → j < 8 → slice_index c (base target + 8 + j) ≡ slice_index (number_bytes n) j)
    → ((j : ℕ) → j < ROOM → slice_index c (base target + BODY + j) ≡ slice_index (body_bytes set) j)
    → (i : ℕ) → i < BANK_SIZE → slice_index c (base target + i) ≡ slice_index (bank_bytes n set) i
bank_byte target n set c marked numbers body i inside =
    elim (cases_lt i 16) [
      | inl front ↦
          elim (cases_lt i 8) [
            | inl first ↦
                holds_byte bank_marker (base target) c marked i first
                ∙ sym (get_or_append_left bank_marker (number_bytes n) 0 i first)
                ∙ sym (get_or_append_left (bank_marker ++ number_bytes n) (body_bytes set) 0 i front)
            | inr second ↦
                let e : base target + 8 + (i - 8) ≡ base target + i = omega arith in
                ap (λ (m : ℕ). slice_index c m) (sym e) ∙ numbers (i - 8) (omega arith)
                ∙ sym (get_or-append_right bank_marker (number_bytes n) 8 i 0 refl second)
                ∙ sym (get_or_append_left (bank_marker ++ number_bytes n) (body_bytes set) 0 i front)
          ]
      | inr behind ↦
          let e : base target + BODY + (i - 16) ≡ base target + i = omega arith in
          ap (λ (m : ℕ). slice_index c m) (sym e) ∙ body (i - 16) (omega arith)
          ∙ sym (get_or-append_right (bank_marker ++ number_bytes n) (body_bytes set) 16 i 0 refl behind)
    ]

bank_is : (target n : ℕ) (set c : List ℕ) → target ≤ 1 → length c ≡ 262144 → length set ≤ ROOM → holds bank_marker (base target) c ≡ true
    → ((j : ℕ) → j < 8 → slice_index c (base target + 8 + j) ≡ slice_index (number_bytes n) j)
    → ((j : ℕ) → j < ROOM → slice_index c (base target + BODY + j) ≡ slice_index (body_bytes set) j)
    → bank_of target c ≡ bank_bytes n set
bank_is target n set c small size room marked numbers body =
    ext_get_or 0 (bank_of target c) (bank_bytes n set) (length-bank target c small size ∙ sym (length-bank_bytes n set room)) (λ i low.
    let inside = below_by i (length (bank_of target c)) BANK_SIZE low (length-bank target c small size) in
    get-bank target c i inside ∙ bank_byte target n set c marked numbers body i inside)

last_step : (target n : ℕ) (set was c d : List ℕ) → target ≤ 1 → length set ≤ ROOM → Around target was c → IsFilled target n set c → IsStopped (Program (base target) bank_marker) c d
    → Kept target n set was d
last_step target n set was c d small room around filled_bank stopped =
    let size = around.size in
    let after_around = around_step target (Program (base target) bank_marker) was c d (omega arith) (omega arith) stopped around in
    record {
      around = after_around;
      which = elim (cases_Bool (holds bank_marker (base target) d)) [
        | inl marked ↦
            inr (inr (bank_is target n set d small after_around.size room marked
            (λ j below. same_byte (Program (base target) bank_marker) c d stopped (base target + 8 + j) (not_covered (Program (base target) bank_marker) (base target + 8 + j) (inr (omega arith))) ∙ filled_bank.number j below)
            (λ j below. same_byte (Program (base target) bank_marker) c d stopped (base target + BODY + j) (not_covered (Program (base target) bank_marker) (base target + BODY + j) (inr (omega arith))) ∙ filled_bank.body j below)))
        | inr unmarked ↦ inl (record { bank = unmarked; image = λ front. marking (base target) c d (omega arith) stopped (filled_bank.head 6 (omega arith)) })
      ];
    }

marker_byte : (i : ℕ) → i < 8 → bit_and 0xFF (slice_index bank_marker i) ≡ slice_index bank_marker i
marker_byte zero below = refl
marker_byte (suc zero) below = refl
marker_byte (suc (suc zero)) below = refl
marker_byte (suc (suc (suc zero))) below = refl
marker_byte (suc (suc (suc (suc zero)))) below = refl
marker_byte (suc (suc (suc (suc (suc zero))))) below = refl
marker_byte (suc (suc (suc (suc (suc (suc zero)))))) below = refl
marker_byte (suc (suc (suc (suc (suc (suc (suc zero))))))) below = refl
marker_byte (suc (suc (suc (suc (suc (suc (suc (suc i)))))))) below = absurd (omega arith)

last_whole : (target n : ℕ) (set c : List ℕ) → target ≤ 1 → length c ≡ 262144 → length set ≤ ROOM → IsFilled target n set c
    → bank_of target (after (Program (base target) bank_marker) c) ≡ bank_bytes n set
last_whole target n set c small size room filled_bank =
    let op = Program (base target) bank_marker in
    bank_is target n set (after op c) small (length-after op c ∙ size) room
    (holds_from bank_marker (base target) (after op c) (λ i within.
    get-after_in op c i (omega arith) within ∙ ap (λ (m : ℕ). bit_and m (slice_index bank_marker i)) (filled_bank.head i within) ∙ marker_byte i within))
    (λ j below. after_out op c (base target + 8 + j) (omega arith) (inr (omega arith)) ∙ filled_bank.number j below)
    (λ j below. after_out op c (base target + BODY + j) (omega arith) (inr (omega arith)) ∙ filled_bank.body j below)

-- ---- the whole of it
-- the zeroing of the target's marker, the fillings and the marker
abbrev pub from_zeroing : Bool → Plan → List ℕ → List Operation
from_zeroing marked p set = (if marked then Program (base p.target) eight_zeros ∷ [] else []) ++ fillings p set ++ last_operation p ∷ []

around_refl : (target : ℕ) (c : List ℕ) → length c ≡ 262144 → Around target c c
around_refl target c size = record { size = size; same = λ place out. refl }

-- from a content whose target has no marker
calm_all : (p : Plan) (set was c : List ℕ) → p.target ≤ 1 → length set ≤ ROOM → AreBytes set → Calm p.target was c
    → Through (Kept p.target p.number set was) (fillings p set ++ last_operation p ∷ []) c
    × (Around p.target was (after_all (fillings p set ++ last_operation p ∷ []) c))
    × (bank_of p.target (after_all (fillings p set ++ last_operation p ∷ []) c) ≡ bank_bytes p.number set)
calm_all p set was c small room bytes calm =
    let quiet = quiet_through p.target p.number set was (fillings p set) c (fillings_quiet p set small room) calm in
    let middle = after_all (fillings p set) c in
    let full = filled p set c calm.around.size small room bytes in
    let size = quiet.1.around.size in
    let end = last_step p.target p.number set was middle (after (last_operation p) middle) small room quiet.1.around full (after_stopped (last_operation p) middle) in
    let e : after_all (fillings p set ++ last_operation p ∷ []) c ≡ after (last_operation p) middle = after_all-append (fillings p set) (last_operation p ∷ []) c in (
      through_append (Kept p.target p.number set was) (fillings p set) (last_operation p ∷ []) c quiet.0
          (calm_kept p.target p.number set was middle quiet.1, λ d stopped. last_step p.target p.number set was middle d small room quiet.1.around full stopped, end),
      subst (λ (d : List ℕ). Around p.target was d) (sym e) end.around,
      ap (λ (d : List ℕ). bank_of p.target d) e ∙ last_whole p.target p.number set middle small size room full,
    )

zeroed_byte : (at : ℕ) (c : List ℕ) → at + 8 ≤ length c → slice_index (after (Program at eight_zeros) c) at ≡ 0
zeroed_byte at c inside =
    let e : at + 0 ≡ at = omega arith in
    ap (λ (n : ℕ). slice_index (after (Program at eight_zeros) c) n) (sym e) ∙ get-after_in (Program at eight_zeros) c 0 (omega arith) (omega arith) ∙ and_zero_r _

-- what a whole zeroing leaves has no marker there
pub zeroed : (at : ℕ) (c : List ℕ) → at + 8 ≤ length c → Unmarked at (after (Program at eight_zeros) c)
zeroed at c inside =
    let e = zeroed_byte at c inside in
    record {
      image = ap (λ (n : ℕ). (n == 0x4D) && holds (0x53 ∷ 0x53 ∷ 0x70 ∷ 0x6F ∷ 0x74 ∷ 0x31 ∷ 0x00 ∷ []) (suc at) (after (Program at eight_zeros) c)) e;
      bank = ap (λ (n : ℕ). (n == 0x4D) && holds (0x53 ∷ 0x53 ∷ 0x70 ∷ 0x6F ∷ 0x74 ∷ 0x32 ∷ 0x00 ∷ []) (suc at) (after (Program at eight_zeros) c)) e;
    }

pub kept_all : (p : Plan) (set was : List ℕ) → p.target ≤ 1 → length set ≤ ROOM → AreBytes set → length was ≡ 262144 → (marked : Bool)
    → (marked ≡ true → (holds image_marker (base p.target) was ≡ true) ⊎ (holds bank_marker (base p.target) was ≡ true))
    → (marked ≡ false → Clear p.target was)
    → Through (Kept p.target p.number set was) (from_zeroing marked p set) was
    × (Around p.target was (after_all (from_zeroing marked p set) was))
    × (bank_of p.target (after_all (from_zeroing marked p set) was) ≡ bank_bytes p.number set)
kept_all p set was small room bytes size false marks clear =
    calm_all p set was was small room bytes (record { around = around_refl p.target was size; clear = clear refl })
kept_all p set was small room bytes size true marks clear =
    let op = Program (base p.target) eight_zeros in
    let blank = zeroed (base p.target) was (omega arith) in
    let around : (d : List ℕ) → IsStopped op was d → Around p.target was d = λ d stopped. around_step p.target op was was d (omega arith) (omega arith) stopped (around_refl p.target was size) in
    let rest = calm_all p set was (after op was) small room bytes (record { around = around (after op was) (after_stopped op was); clear = record { bank = blank.bank; image = λ front. blank.image } }) in (
      (
        record { around = around_refl p.target was size; which = inr (inl refl) },
        λ d stopped.
            record {
              around = around d stopped;
              which = elim (zeroing (base p.target) was d (omega arith) stopped (marks refl)) [
                | inl same ↦ inr (inl same)
                | inr none ↦ inl (record { bank = none.bank; image = λ front. none.image })
              ];
            },
        rest.0,
      ),
      rest.1,
      rest.2,
    )
