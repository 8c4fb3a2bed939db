-- Whole, stopped and cut operations, byte by byte.
use Rattle.std.proofs.Common.{◌≡◌, ℕ, ◌+◌, ◌-◌, ◌%◌, ◌<◌, ◌≤◌, Bool, true, false, List, length, map, refl, sym, ap, ◌∙◌, inl, inr, arith}
use Rattle.std.specs.Int.Bits.{xor_self, and_zero_l}
use Rattle.std.specs.Prelude.{◌==◌, bit_and, bit_xor, nat_le, nat_lt, slice_index, if◌then◌else◌}
use Rattle.std.specs.List.{range_with_len}
use Rattle.std.proofs.lemmas.List.{ext_get_or, get_or_past}
use Rattle.std.proofs.lemmas.List.FromFn.{length-map-range_with_len, get_or-map-range_with_len}
use Rattle.std.proofs.lemmas.Bool.{eq-eqb, eqb-true, cases_lt, leb-true, ltb-true, and_parts, and_from, le-leb, lt-ltb, or_left}
use Rattle.std.proofs.Math.Nat.{mod-eq_of_lt}
use Rattle.flash_trait.specs.Flash.{Operation, Program, Erase, IsPossible, AreBytes, start, span, covers, by_place, wanted, may_stand, chosen, after, cut, IsStopped}
use Rattle.flash_trait.proofs.FlashBytes.{wanted_stands, chosen_stands, mask_for, chosen_by_mask, mask_for-lt}

pub length-by_place : (f : ℕ → ℕ → ℕ) (xs : List ℕ) → length (by_place f xs) ≡ length xs
length-by_place f xs = length-map-range_with_len (λ (i : ℕ). f i (slice_index xs i)) 0 (length xs)

pub get-by_place : (f : ℕ → ℕ → ℕ) (xs : List ℕ) (i : ℕ) → i < length xs → slice_index (by_place f xs) i ≡ f i (slice_index xs i)
get-by_place f xs i below = get_or-map-range_with_len (λ (j : ℕ). f j (slice_index xs j)) 0 (length xs) i i 0 below (omega arith)

abbrev byte_stands : Operation → ℕ → ℕ → ℕ → Bool
byte_stands op place old new = if covers op place then may_stand op (place - start op) old new else (new == old)

stands_if : (op : Operation) (place old new : ℕ) (b : Bool) → may_stand op (place - start op) old new ≡ true → (if b then may_stand op (place - start op) old (if b then new else old) else ((if b then new else old) == old)) ≡ true
stands_if op place old new true stands = stands
stands_if op place old new false stands = eq-eqb old old refl

-- a content made byte by byte of bytes that may stand is one that a stop may leave
stopped_by : (op : Operation) (f : ℕ → ℕ → ℕ) (xs : List ℕ) → ((i old : ℕ) → may_stand op (i - start op) old (f i old) ≡ true)
    → IsStopped op xs (by_place (λ i old. if covers op i then f i old else old) xs)
stopped_by op f xs stands =
    record {
      size = length-by_place (λ i old. if covers op i then f i old else old) xs;
      bytes = λ i below.
          ap (λ (byte : ℕ). byte_stands op i (slice_index xs i) byte) (get-by_place (λ j old. if covers op j then f j old else old) xs i below)
          ∙ stands_if op i (slice_index xs i) (f i (slice_index xs i)) (covers op i) (stands i (slice_index xs i));
    }

pub after_stopped : (op : Operation) (xs : List ℕ) → IsStopped op xs (after op xs)
unfolding after
after_stopped op xs = stopped_by op (λ i old. wanted op (i - start op) old) xs (λ i old. wanted_stands op (i - start op) old)

pub cut_stopped : (op : Operation) (mask xs : List ℕ) → IsStopped op xs (cut op mask xs)
unfolding cut
cut_stopped op mask xs =
    stopped_by op (λ i old. chosen op (i - start op) (slice_index mask ((i - start op) % length mask)) old) xs
    (λ i old. chosen_stands op (i - start op) (slice_index mask ((i - start op) % length mask)) old)

old_stands : (op : Operation) (i old : ℕ) → may_stand op i old old ≡ true
old_stands (Program at bytes) i old = eq-eqb _ 0 (ap (λ (n : ℕ). bit_and n (bit_xor old (wanted (Program at bytes) i old))) (xor_self old) ∙ and_zero_l (bit_xor old (wanted (Program at bytes) i old)))
old_stands (Erase sector) i old = or_left (old == old) (old == 0xFF) (eq-eqb old old refl)

same_if : (op : Operation) (b : Bool) (old i : ℕ) → (if b then may_stand op i old old else (old == old)) ≡ true
same_if op true old i = old_stands op i old
same_if op false old i = eq-eqb old old refl

-- a stop may leave all as it was
pub same_stopped : (op : Operation) (xs : List ℕ) → IsStopped op xs xs
same_stopped op xs = record { size = refl; bytes = λ i below. same_if op (covers op i) (slice_index xs i) (i - start op) }

-- what covers says
pub covers-true : (op : Operation) (place : ℕ) → covers op place ≡ true → (start op ≤ place) × (place < start op + span op)
covers-true op place is =
    let parts = and_parts (nat_le (start op) place) (nat_lt place (start op + span op)) is in
    (leb-true (start op) place parts.0, ltb-true place (start op + span op) parts.1)

pub covers-from : (op : Operation) (place : ℕ) → start op ≤ place → place < start op + span op → covers op place ≡ true
covers-from op place low high =
    and_from (nat_le (start op) place) (nat_lt place (start op + span op)) (le-leb (start op) place low) (lt-ltb place (start op + span op) high)

-- the mask that leaves a content
abbrev pub mask_of : Operation → List ℕ → List ℕ → List ℕ
mask_of op old new = map (λ i. mask_for op (slice_index old (start op + i)) (slice_index new (start op + i))) (range_with_len 0 (span op))

length-mask_of : (op : Operation) (old new : List ℕ) → length (mask_of op old new) ≡ span op
length-mask_of op old new = length-map-range_with_len (λ (i : ℕ). mask_for op (slice_index old (start op + i)) (slice_index new (start op + i))) 0 (span op)

get-mask_of : (op : Operation) (old new : List ℕ) (i : ℕ) → i < span op → slice_index (mask_of op old new) i ≡ mask_for op (slice_index old (start op + i)) (slice_index new (start op + i))
get-mask_of op old new i below = get_or-map-range_with_len (λ (j : ℕ). mask_for op (slice_index old (start op + j)) (slice_index new (start op + j))) 0 (span op) i i 0 below (omega arith)

-- the mask byte of a covered place
mask_at : (op : Operation) (old new : List ℕ) (place : ℕ) → start op ≤ place → place < start op + span op
    → slice_index (mask_of op old new) ((place - start op) % length (mask_of op old new)) ≡ mask_for op (slice_index old place) (slice_index new place)
mask_at op old new place low high =
    let i = place - start op in
    let below : i < span op = omega arith in
    let back : start op + i ≡ place = omega arith in
    ap (λ (n : ℕ). slice_index (mask_of op old new) (i % n)) (length-mask_of op old new)
    ∙ ap (λ (n : ℕ). slice_index (mask_of op old new) n) (mod-eq_of_lt below)
    ∙ get-mask_of op old new i below
    ∙ ap (λ (n : ℕ). mask_for op (slice_index old n) (slice_index new n)) back

abbrev cut_byte : Operation → List ℕ → ℕ → ℕ → ℕ
cut_byte op mask place old = if covers op place then chosen op (place - start op) (slice_index mask ((place - start op) % length mask)) old else old

byte_spelt : (op : Operation) (old new : List ℕ) → IsStopped op old new → (place : ℕ) → place < length old → (b : Bool) → covers op place ≡ b
    → cut_byte op (mask_of op old new) place (slice_index old place) ≡ slice_index new place
byte_spelt op old new stopped place below true covered =
    let range = covers-true op place covered in
    let stands : may_stand op (place - start op) (slice_index old place) (slice_index new place) ≡ true =
    sym (ap (λ (b : Bool). if b then may_stand op (place - start op) (slice_index old place) (slice_index new place) else (slice_index new place == slice_index old place)) covered) ∙ stopped.bytes place below in
    ap (λ (b : Bool). if b then chosen op (place - start op) (slice_index (mask_of op old new) ((place - start op) % length (mask_of op old new))) (slice_index old place) else slice_index old place) covered
    ∙ ap (λ (m : ℕ). chosen op (place - start op) m (slice_index old place)) (mask_at op old new place range.0 range.1)
    ∙ chosen_by_mask op (place - start op) (slice_index old place) (slice_index new place) stands
byte_spelt op old new stopped place below false uncovered =
    let same : (slice_index new place == slice_index old place) ≡ true =
    sym (ap (λ (b : Bool). if b then may_stand op (place - start op) (slice_index old place) (slice_index new place) else (slice_index new place == slice_index old place)) uncovered) ∙ stopped.bytes place below in
    ap (λ (b : Bool). if b then chosen op (place - start op) (slice_index (mask_of op old new) ((place - start op) % length (mask_of op old new))) (slice_index old place) else slice_index old place) uncovered
    ∙ sym (eqb-true (slice_index new place) (slice_index old place) same)

pub cut_by_mask : (op : Operation) (old new : List ℕ) → IsStopped op old new → cut op (mask_of op old new) old ≡ new
unfolding cut
cut_by_mask op old new stopped =
    ext_get_or 0 (cut op (mask_of op old new) old) new (length-by_place (cut_byte op (mask_of op old new)) old ∙ sym stopped.size)
    (λ i below.
    let within : i < length old = omega (arith, length-by_place (cut_byte op (mask_of op old new)) old) in
    get-by_place (cut_byte op (mask_of op old new)) old i within ∙ byte_spelt op old new stopped i within (covers op i) refl)

-- the mask has a byte for each of the operation's
pub mask_fits : (op : Operation) (old new : List ℕ) → IsPossible op → (0 < length (mask_of op old new)) × (length (mask_of op old new) ≤ 8192)
mask_fits (Program at bytes) old new possible = let e = length-mask_of (Program at bytes) old new in let some = possible.0 in let most = possible.1 in (omega arith, omega arith)
mask_fits (Erase sector) old new possible = let e = length-mask_of (Erase sector) old new in (omega arith, omega arith)

pub mask_bytes : (op : Operation) (old new : List ℕ) → AreBytes old → AreBytes new → AreBytes (mask_of op old new)
mask_bytes op old new a b i =
    elim (cases_lt i (span op)) [
      | inl below ↦ let e = get-mask_of op old new i below in let h = mask_for-lt op (slice_index old (start op + i)) (slice_index new (start op + i)) (a (start op + i)) (b (start op + i)) in omega arith
      | inr past ↦ let e = get_or_past (mask_of op old new) i 0 (omega (arith, length-mask_of op old new)) in omega arith
    ]
