-- Bytes of a content under an operation, whole or stopped.
use Rattle.std.proofs.Common.{◌≡◌, ◌⊎◌, ℕ, ◌+◌, ◌-◌, ◌<◌, ◌≤◌, Bool, true, false, List, length, sym, ap, ◌∙◌, inl, inr, arith}
use Rattle.std.specs.Prelude.{◌==◌, slice_index, if◌then◌else◌, bit_and, nat_le, nat_lt}
use Rattle.std.proofs.lemmas.Bool.{eqb-true, cases_lt, cases_Bool, or_cases, lt-leb, le-ltb, and_left, and_right}
use Rattle.std.proofs.lemmas.List.{get_or_past, ext_get_or}
use Rattle.flash_trait.specs.Flash.{Operation, Program, Erase, start, span, covers, wanted, may_stand, mixes, after, IsStopped}
use Rattle.flash_trait.proofs.FlashContents.{length-by_place, get-by_place, covers-from}

-- a place before or behind the range isn't covered
pub not_covered : (op : Operation) (place : ℕ) → (place < start op) ⊎ (start op + span op ≤ place) → covers op place ≡ false
not_covered op place (inl low) = and_left (nat_le (start op) place) (nat_lt place (start op + span op)) (lt-leb (start op) place low)
not_covered op place (inr high) = and_right (nat_le (start op) place) (nat_lt place (start op + span op)) (le-ltb place (start op + span op) high)

-- what a stop doesn't cover stays
pub same_byte : (op : Operation) (c d : List ℕ) → IsStopped op c d → (place : ℕ) → covers op place ≡ false → slice_index d place ≡ slice_index c place
same_byte op c d stopped place uncovered =
    elim (cases_lt place (length c)) [
      | inl low ↦
          let same : (slice_index d place == slice_index c place) ≡ true =
          sym (ap (λ (b : Bool). if b then may_stand op (place - start op) (slice_index c place) (slice_index d place) else (slice_index d place == slice_index c place)) uncovered) ∙ stopped.bytes place low in
          eqb-true (slice_index d place) (slice_index c place) same
      | inr high ↦
          let size = stopped.size in
          get_or_past d place 0 (omega arith) ∙ sym (get_or_past c place 0 high)
    ]

-- what it covers may stand
pub stands : (op : Operation) (c d : List ℕ) → IsStopped op c d → (place : ℕ) → place < length c → covers op place ≡ true
    → may_stand op (place - start op) (slice_index c place) (slice_index d place) ≡ true
stands op c d stopped place low covered =
    sym (ap (λ (b : Bool). if b then may_stand op (place - start op) (slice_index c place) (slice_index d place) else (slice_index d place == slice_index c place)) covered) ∙ stopped.bytes place low

-- a stopped erase leaves the old byte or 0xFF
pub erase_byte : (sector : ℕ) (c d : List ℕ) → IsStopped (Erase sector) c d → (place : ℕ) → (slice_index d place ≡ slice_index c place) ⊎ (slice_index d place ≡ 0xFF)
erase_byte sector c d stopped place =
    elim (cases_Bool (covers (Erase sector) place)) [
      | inl covered ↦
          elim (cases_lt place (length c)) [
            | inl low ↦
                elim (or_cases (slice_index d place == slice_index c place) (slice_index d place == 0xFF) (stands (Erase sector) c d stopped place low covered)) [
                  | inl same ↦ inl (eqb-true (slice_index d place) (slice_index c place) same)
                  | inr set ↦ inr (eqb-true (slice_index d place) 0xFF set)
                ]
            | inr high ↦
                let size = stopped.size in
                inl (get_or_past d place 0 (omega arith) ∙ sym (get_or_past c place 0 high))
          ]
      | inr uncovered ↦ inl (same_byte (Erase sector) c d stopped place uncovered)
    ]

-- a stopped program mixes the bits of the old byte and of the new one
pub program_byte : (at : ℕ) (bytes c d : List ℕ) → IsStopped (Program at bytes) c d → (i : ℕ) → i < length bytes → at + i < length c
    → mixes (slice_index c (at + i)) (bit_and (slice_index c (at + i)) (slice_index bytes i)) (slice_index d (at + i)) ≡ true
program_byte at bytes c d stopped i within low =
    let back : at + i - at ≡ i = omega arith in
    ap (λ (j : ℕ). mixes (slice_index c (at + i)) (bit_and (slice_index c (at + i)) (slice_index bytes j)) (slice_index d (at + i))) (sym back)
    ∙ stands (Program at bytes) c d stopped (at + i) low (covers-from (Program at bytes) (at + i) (omega arith) (omega arith))

-- whole operations
pub length-after : (op : Operation) (c : List ℕ) → length (after op c) ≡ length c
unfolding after
length-after op c = length-by_place (λ place old. if covers op place then wanted op (place - start op) old else old) c

pub get-after : (op : Operation) (c : List ℕ) (place : ℕ) → place < length c
    → slice_index (after op c) place ≡ (if covers op place then wanted op (place - start op) (slice_index c place) else slice_index c place)
unfolding after
get-after op c place low = get-by_place (λ place old. if covers op place then wanted op (place - start op) old else old) c place low

pub get-after_in : (op : Operation) (c : List ℕ) (i : ℕ) → start op + i < length c → i < span op
    → slice_index (after op c) (start op + i) ≡ wanted op i (slice_index c (start op + i))
get-after_in op c i low within =
    let back : start op + i - start op ≡ i = omega arith in
    get-after op c (start op + i) low
    ∙ ap (λ (b : Bool). if b then wanted op (start op + i - start op) (slice_index c (start op + i)) else slice_index c (start op + i)) (covers-from op (start op + i) (omega arith) (omega arith))
    ∙ ap (λ (j : ℕ). wanted op j (slice_index c (start op + i))) back

pub same_lists : (c d : List ℕ) → length d ≡ length c → ((i : ℕ) → slice_index d i ≡ slice_index c i) → d ≡ c
same_lists c d size same = ext_get_or 0 d c size (λ i low. same i)
