-- What the operations between the zeroing and the marker make of a bank.
use Rattle.std.proofs.Common.{◌≡◌, ◌⊎◌, ℕ, zero, suc, ◌+◌, ◌-◌, ◌*◌, ◌<◌, ◌≤◌, min, Bool, List, [], ◌∷◌, ◌++◌, length, map, take, drop, refl, sym, ap, subst, ◌∙◌, inl, inr, arith}
use Rattle.std.specs.Prelude.{slice_index, if◌then◌else◌, bit_and}
use Rattle.std.specs.List.{range_with_len}
use Rattle.std.proofs.lemmas.Bool.{cases_lt}
use Rattle.std.proofs.lemmas.Nat.{and_comm, and_mask, mod_below}
use Rattle.std.proofs.Math.Nat.{mod-eq_of_lt}
use Rattle.std.proofs.lemmas.List.{length-take, length-drop, get_or-take, get_or-drop, get_or-replicate, get_or_append_left, get_or-append_right}
use Rattle.flash_trait.specs.Flash.{Operation, Program, Erase, AreBytes, start, span, covers, after}
use Rattle.deploy_model.specs.Banks.{base, BANK_SIZE, BODY, ROOM, number_bytes, body_bytes, erased}
use Rattle.deploy_model.specs.Deployment.{Plan, fillings, erases, piece, pieces, piece_count, PIECE, after_all}
use Rattle.deploy_laws.proofs.Bytes.{not_covered, length-after, get-after, get-after_in}

pub length-after_all : (ops : List Operation) (c : List ℕ) → length (after_all ops c) ≡ length c
length-after_all [] c = refl
length-after_all (op ∷ ops) c = length-after_all ops (after op c) ∙ length-after op c

pub after_all-append : (ops more : List Operation) (c : List ℕ) → after_all (ops ++ more) c ≡ after_all more (after_all ops c)
after_all-append [] more c = refl
after_all-append (op ∷ ops) more c = after_all-append ops more (after op c)

-- a whole operation leaves what it doesn't cover
pub after_out : (op : Operation) (c : List ℕ) (place : ℕ) → place < length c → (place < start op) ⊎ (start op + span op ≤ place) → slice_index (after op c) place ≡ slice_index c place
after_out op c place low out =
    get-after op c place low
    ∙ ap (λ (b : Bool). if b then Rattle.flash_trait.specs.Flash.wanted op (place - start op) (slice_index c place) else slice_index c place) (not_covered op place out)

pub and_ff : (b : ℕ) → b < 256 → bit_and 0xFF b ≡ b
and_ff b small = and_comm 0xFF b ∙ and_mask b 8 ∙ mod-eq_of_lt small

-- ---- erases
-- the first n bytes from a place are 0xFF
abbrev pub AreErased : ℕ → ℕ → List ℕ → Type 0
AreErased at n c = (j : ℕ) → j < n → slice_index c (at + j) ≡ 0xFF

one_erased : (target i : ℕ) (c : List ℕ) → length c ≡ 262144 → target ≤ 1 → i < 15 → AreErased (base target) (8192 * i) c
    → AreErased (base target) (8192 * (i + 1)) (after (Erase (16 * target + i)) c)
one_erased target i c size small within sofar j below =
    elim (cases_lt j (8192 * i)) [
      | inl low ↦ after_out (Erase (16 * target + i)) c (base target + j) (omega arith) (inl (omega arith)) ∙ sofar j low
      | inr from ↦
          let e : start (Erase (16 * target + i)) + (j - 8192 * i) ≡ base target + j = omega arith in
          ap (λ (n : ℕ). slice_index (after (Erase (16 * target + i)) c) n) (sym e)
          ∙ get-after_in (Erase (16 * target + i)) c (j - 8192 * i) (omega arith) (omega arith)
    ]

sectors_erased : (target n i : ℕ) (c : List ℕ) → length c ≡ 262144 → target ≤ 1 → i + n ≤ 15 → AreErased (base target) (8192 * i) c
    → AreErased (base target) (8192 * (i + n)) (after_all (map (λ (k : ℕ). Erase (16 * target + k)) (range_with_len i n)) c)
sectors_erased target zero i c size small within sofar j below = sofar j (omega arith)
sectors_erased target (suc n) i c size small within sofar j below =
    sectors_erased target n (i + 1) (after (Erase (16 * target + i)) c) (length-after (Erase (16 * target + i)) c ∙ size) small (omega arith)
    (one_erased target i c size small (omega arith) sofar) j (omega arith)

pub bank_erased : (target : ℕ) (c : List ℕ) → length c ≡ 262144 → target ≤ 1 → AreErased (base target) BANK_SIZE (after_all (erases target) c)
bank_erased target c size small j below =
    sectors_erased target 15 0 c size small (omega arith) (λ k none. absurd (omega arith)) j (omega arith)

-- ---- pieces
-- the i-th byte of a bank's body
body_set : (set : List ℕ) (i : ℕ) → i < length set → slice_index (body_bytes set) i ≡ slice_index set i
body_set set i low = get_or_append_left set (erased (ROOM - length set)) 0 i low

body_rest : (set : List ℕ) (i : ℕ) → length set ≤ i → i < ROOM → slice_index (body_bytes set) i ≡ 0xFF
body_rest set i past below =
    get_or-append_right set (erased (ROOM - length set)) (length set) i 0 refl past ∙ get_or-replicate (ROOM - length set) (i - length set) 0xFF 0 (omega arith)

-- the first i pieces stand in the bank, and behind them all is 0xFF
record HasPieces (target : ℕ) (set : List ℕ) (i : ℕ) (c : List ℕ) : Type 0 where
  pub head : AreErased (base target) BODY c
  pub done : (j : ℕ) → j < PIECE * i → j < ROOM → slice_index c (base target + BODY + j) ≡ slice_index (body_bytes set) j
  pub rest : (j : ℕ) → PIECE * i ≤ j → j < ROOM → slice_index c (base target + BODY + j) ≡ 0xFF

length-piece : (set : List ℕ) (i : ℕ) → length (take PIECE (drop (PIECE * i) set)) ≡ min PIECE (length set - PIECE * i)
length-piece set i = length-take PIECE (drop (PIECE * i) set) ∙ ap (λ (n : ℕ). min PIECE n) (length-drop (PIECE * i) set)

get-piece : (set : List ℕ) (i k : ℕ) → k < PIECE → slice_index (take PIECE (drop (PIECE * i) set)) k ≡ slice_index set (PIECE * i + k)
get-piece set i k below = get_or-take PIECE (drop (PIECE * i) set) k 0 below ∙ get_or-drop (PIECE * i) set k 0

one_piece : (target i : ℕ) (set c : List ℕ) → length c ≡ 262144 → target ≤ 1 → length set ≤ ROOM → AreBytes set → PIECE * i < length set
    → HasPieces target set i c → HasPieces target set (i + 1) (after (piece target set i) c)
one_piece target i set c size small room bytes some sofar =
    record {
      head = λ j below. after_out (piece target set i) c (base target + j) (omega arith) (inl (omega arith)) ∙ sofar.head j below;
      done = λ j below inside.
          elim (cases_lt j (PIECE * i)) [
            | inl low ↦ after_out (piece target set i) c (base target + BODY + j) (omega arith) (inl (omega arith)) ∙ sofar.done j low inside
            | inr from ↦
                elim (cases_lt j (length set)) [
                  | inl there ↦
                      let long = length-piece set i in
                      let e : start (piece target set i) + (j - PIECE * i) ≡ base target + BODY + j = omega arith in
                      let f : PIECE * i + (j - PIECE * i) ≡ j = omega arith in
                      ap (λ (n : ℕ). slice_index (after (piece target set i) c) n) (sym e)
                      ∙ get-after_in (piece target set i) c (j - PIECE * i) (omega arith) (omega arith)
                      ∙ ap (λ (n : ℕ). bit_and (slice_index c n) (slice_index (take PIECE (drop (PIECE * i) set)) (j - PIECE * i))) e
                      ∙ ap (λ (n : ℕ). bit_and n (slice_index (take PIECE (drop (PIECE * i) set)) (j - PIECE * i))) (sofar.rest j from inside)
                      ∙ ap (λ (n : ℕ). bit_and 0xFF n) (get-piece set i (j - PIECE * i) (omega arith) ∙ ap (λ (n : ℕ). slice_index set n) f)
                      ∙ and_ff (slice_index set j) (bytes j)
                      ∙ sym (body_set set j there)
                  | inr past ↦
                      let long = length-piece set i in
                      after_out (piece target set i) c (base target + BODY + j) (omega arith) (inr (omega arith))
                      ∙ sofar.rest j from inside ∙ sym (body_rest set j past inside)
                ]
          ];
      rest = λ j from inside.
          let long = length-piece set i in
          after_out (piece target set i) c (base target + BODY + j) (omega arith) (inr (omega arith)) ∙ sofar.rest j (omega arith) inside;
    }

all_pieces : (target n i : ℕ) (set c : List ℕ) → length c ≡ 262144 → target ≤ 1 → length set ≤ ROOM → AreBytes set → PIECE * (i + n) < length set + PIECE
    → HasPieces target set i c → HasPieces target set (i + n) (after_all (map (piece target set) (range_with_len i n)) c)
all_pieces target zero i set c size small room bytes some sofar = let e : i + 0 ≡ i = omega arith in rw e sofar
all_pieces target (suc n) i set c size small room bytes some sofar =
    let e : i + suc n ≡ i + 1 + n = omega arith in
    rw e (all_pieces target n (i + 1) set (after (piece target set i) c) (length-after (piece target set i) c ∙ size) small room bytes (omega arith)
    (one_piece target i set c size small room bytes (omega arith) sofar))

-- ---- the number
byte_small : (number j : ℕ) → slice_index (number_bytes number) j < 256
byte_small number zero = mod_below _ 256 (omega arith)
byte_small number (suc zero) = mod_below _ 256 (omega arith)
byte_small number (suc (suc zero)) = mod_below _ 256 (omega arith)
byte_small number (suc (suc (suc zero))) = mod_below _ 256 (omega arith)
byte_small number (suc (suc (suc (suc zero)))) = omega arith
byte_small number (suc (suc (suc (suc (suc zero))))) = omega arith
byte_small number (suc (suc (suc (suc (suc (suc zero)))))) = omega arith
byte_small number (suc (suc (suc (suc (suc (suc (suc zero))))))) = omega arith
byte_small number (suc (suc (suc (suc (suc (suc (suc (suc j)))))))) = omega arith

-- the bank as it is before its marker
pub record IsFilled (target n : ℕ) (set c : List ℕ) : Type 0 where
  pub head : AreErased (base target) 8 c
  pub number : (j : ℕ) → j < 8 → slice_index c (base target + 8 + j) ≡ slice_index (number_bytes n) j
  pub body : (j : ℕ) → j < ROOM → slice_index c (base target + BODY + j) ≡ slice_index (body_bytes set) j

numbered : (target n i : ℕ) (set c : List ℕ) → length c ≡ 262144 → target ≤ 1 → length set ≤ PIECE * i → HasPieces target set i c
    → IsFilled target n set (after (Program (base target + 8) (number_bytes n)) c)
numbered target n i set c size small whole sofar =
    record {
      head = λ j below. after_out (Program (base target + 8) (number_bytes n)) c (base target + j) (omega arith) (inl (omega arith)) ∙ sofar.head j (omega arith);
      number = λ j below.
          let e : base target + (8 + j) ≡ base target + 8 + j = omega arith in
          get-after_in (Program (base target + 8) (number_bytes n)) c j (omega arith) below
          ∙ ap (λ (m : ℕ). bit_and m (slice_index (number_bytes n) j)) (ap (λ (m : ℕ). slice_index c m) (sym e) ∙ sofar.head (8 + j) (omega arith))
          ∙ and_ff (slice_index (number_bytes n) j) (byte_small n j);
      body = λ j inside.
          after_out (Program (base target + 8) (number_bytes n)) c (base target + BODY + j) (omega arith) (inr (omega arith))
          ∙ elim (cases_lt j (PIECE * i)) [
            | inl low ↦ sofar.done j low inside
            | inr from ↦ sofar.rest j from inside ∙ sym (body_rest set j (omega arith) inside)
          ];
    }

pub filled : (p : Plan) (set c : List ℕ) → length c ≡ 262144 → p.target ≤ 1 → length set ≤ ROOM → AreBytes set
    → IsFilled p.target p.number set (after_all (fillings p set) c)
filled p set c size small room bytes =
    let last = Program (base p.target + 8) (number_bytes p.number) in
    let e = after_all-append (erases p.target ++ pieces p.target set) (last ∷ []) c in
    let f = after_all-append (erases p.target) (pieces p.target set) c in
    let wiped = after_all (erases p.target) c in
    let wiped_size = length-after_all (erases p.target) c ∙ size in
    let clean = bank_erased p.target c size small in
    let count = piece_count set in
    let most : PIECE * count < length set + PIECE = omega arith in
    let least : length set ≤ PIECE * count = omega arith in
    let none : HasPieces p.target set 0 wiped =
    record {
      head = λ j below. clean j (omega arith);
      done = λ j below inside. absurd (omega arith);
      rest = λ j from inside. let g : base p.target + (BODY + j) ≡ base p.target + BODY + j = omega arith in ap (λ (m : ℕ). slice_index wiped m) (sym g) ∙ clean (BODY + j) (omega arith);
    } in
    let z : 0 + count ≡ count = omega arith in
    let all : HasPieces p.target set count (after_all (pieces p.target set) wiped) =
    subst (λ (k : ℕ). HasPieces p.target set k (after_all (pieces p.target set) wiped)) z
    (all_pieces p.target count 0 set wiped wiped_size small room bytes (omega arith) none) in
    subst (λ (d : List ℕ). IsFilled p.target p.number set d) (sym (e ∙ ap (λ (d : List ℕ). after last d) f))
    (numbered p.target p.number count set (after_all (pieces p.target set) wiped) (length-after_all (pieces p.target set) wiped ∙ wiped_size) small least all)
