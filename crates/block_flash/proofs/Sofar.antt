-- A content of which the first n bytes of a range are changed.
use Rattle.std.proofs.Common.{◌≡◌, ℕ, ◌+◌, ◌-◌, ◌%◌, ◌<◌, ◌≤◌, Bool, true, false, ◌&&◌, List, length, refl, sym, ap, ◌∙◌, get_or-set_same, get_or-set_other, length-set, subst, inl, inr, arith}
use Rattle.std.specs.Prelude.{nat_le, nat_lt, slice_index, slice_set, if◌then◌else◌}
use Rattle.std.proofs.lemmas.List.{ext_get_or}
use Rattle.std.proofs.lemmas.Bool.{cases_lt, cases_eq, and_from, and_left, and_right, le-leb, lt-leb, lt-ltb, le-ltb}
use Rattle.flash_trait.specs.Flash.{Operation, AreBytes, start, span, covers, chosen, cut}
use Rattle.flash_trait.proofs.FlashContents.{length-by_place, get-by_place}

-- the mask byte of the i-th byte
abbrev pub mask_byte : List ℕ → ℕ → ℕ
mask_byte mask i = slice_index mask (i % length mask)

abbrev pub front_covers : Operation → ℕ → ℕ → Bool
front_covers op n place = nat_le (start op) place && nat_lt place (start op + n)

pub record Sofar (op : Operation) (mask : List ℕ) (n : ℕ) (old now : List ℕ) : Type 0 where
  pub size : length now ≡ length old
  pub bytes : (place : ℕ) → place < length old → slice_index now place ≡ (if front_covers op n place then chosen op (place - start op) (mask_byte mask (place - start op)) (slice_index old place) else slice_index old place)

in_front : (op : Operation) (n place : ℕ) → start op ≤ place → place < start op + n → front_covers op n place ≡ true
in_front op n place low high = and_from (nat_le (start op) place) (nat_lt place (start op + n)) (le-leb (start op) place low) (lt-ltb place (start op + n) high)

before_front : (op : Operation) (n place : ℕ) → place < start op → front_covers op n place ≡ false
before_front op n place low = and_left (nat_le (start op) place) (nat_lt place (start op + n)) (lt-leb (start op) place low)

past_front : (op : Operation) (n place : ℕ) → start op + n ≤ place → front_covers op n place ≡ false
past_front op n place high = and_right (nat_le (start op) place) (nat_lt place (start op + n)) (le-ltb place (start op + n) high)

abbrev by_test : Operation → List ℕ → List ℕ → ℕ → Bool → ℕ
by_test op mask old place b = if b then chosen op (place - start op) (mask_byte mask (place - start op)) (slice_index old place) else slice_index old place

outside_zero : (op : Operation) (place : ℕ) → front_covers op 0 place ≡ false
outside_zero op place = elim (cases_lt place (start op)) [ inl low ↦ before_front op 0 place low | inr high ↦ past_front op 0 place (omega arith) ]

pub sofar_none : (op : Operation) (mask old : List ℕ) → Sofar op mask 0 old old
sofar_none op mask old =
    record { size = refl; bytes = λ place below. sym (ap (by_test op mask old place) (outside_zero op place)) }

-- other places are covered as before
same_cover : (op : Operation) (n place : ℕ) → (place ≡ start op + n → ⊥) → front_covers op (n + 1) place ≡ front_covers op n place
same_cover op n place other =
    elim (cases_lt place (start op)) [
      | inl low ↦ before_front op (n + 1) place low ∙ sym (before_front op n place low)
      | inr from ↦ elim (cases_lt place (start op + n)) [
        | inl front ↦ in_front op (n + 1) place from (omega arith) ∙ sym (in_front op n place from front)
        | inr past ↦ past_front op (n + 1) place (let ne : (place ≡ start op + n → ⊥) = other in omega arith) ∙ sym (past_front op n place past)
      ]
    ]

-- the byte to be changed is still the old one
pub still_old : (op : Operation) (mask old now : List ℕ) (n : ℕ) → Sofar op mask n old now → start op + n < length old → slice_index now (start op + n) ≡ slice_index old (start op + n)
still_old op mask old now n sofar within = sofar.bytes (start op + n) within ∙ ap (by_test op mask old (start op + n)) (past_front op n (start op + n) (omega arith))

changed_here : (op : Operation) (mask old now : List ℕ) (n v : ℕ) → Sofar op mask n old now → start op + n < length old
    → v ≡ chosen op n (mask_byte mask n) (slice_index now (start op + n))
    → slice_index (slice_set now (start op + n) v) (start op + n) ≡ by_test op mask old (start op + n) (front_covers op (n + 1) (start op + n))
changed_here op mask old now n v sofar within is =
    let inside : start op + n < length now = omega (arith, sofar.size) in
    let back : start op + n - start op ≡ n = omega arith in
    get_or-set_same now (start op + n) v 0 inside
    ∙ is
    ∙ ap (λ (byte : ℕ). chosen op n (mask_byte mask n) byte) (still_old op mask old now n sofar within)
    ∙ ap (λ (i : ℕ). chosen op i (mask_byte mask i) (slice_index old (start op + n))) (sym back)
    ∙ sym (ap (by_test op mask old (start op + n)) (in_front op (n + 1) (start op + n) (omega arith) (omega arith)))

pub sofar_more : (op : Operation) (mask old now : List ℕ) (n v : ℕ) → Sofar op mask n old now → start op + n < length old
    → v ≡ chosen op n (mask_byte mask n) (slice_index now (start op + n)) → Sofar op mask (n + 1) old (slice_set now (start op + n) v)
sofar_more op mask old now n v sofar within is =
    record {
      size = length-set now (start op + n) v ∙ sofar.size;
      bytes = λ place below.
          elim (cases_eq place (start op + n)) [
            | inl here ↦ subst (λ (at : ℕ). slice_index (slice_set now (start op + n) v) at ≡ by_test op mask old at (front_covers op (n + 1) at)) (sym here) (changed_here op mask old now n v sofar within is)
            | inr other ↦
                get_or-set_other now (start op + n) place v 0 other ∙ sofar.bytes place below ∙ ap (by_test op mask old place) (sym (same_cover op n place other))
          ];
    }

-- the same, where the range begins at s
pub sofar_at : (op : Operation) (mask old now : List ℕ) (n v s : ℕ) → s ≡ start op → Sofar op mask n old now → s + n < length old
    → v ≡ chosen op n (mask_byte mask n) (slice_index now (s + n)) → Sofar op mask (n + 1) old (slice_set now (s + n) v)
sofar_at op mask old now n v s at sofar within is =
    let P : ℕ → Type 0 = λ b. b + n < length old → v ≡ chosen op n (mask_byte mask n) (slice_index now (b + n)) → Sofar op mask (n + 1) old (slice_set now (b + n) v) in
    subst P (sym at) (λ w e. sofar_more op mask old now n v sofar w e) within is

pub sofar_all : (op : Operation) (mask old now : List ℕ) → Sofar op mask (span op) old now → now ≡ cut op mask old
unfolding cut
sofar_all op mask old now sofar =
    ext_get_or 0 now (cut op mask old) (sofar.size ∙ sym (length-by_place (λ place byte. if covers op place then chosen op (place - start op) (mask_byte mask (place - start op)) byte else byte) old))
    (λ i below.
    let within : i < length old = omega (arith, sofar.size) in
    sofar.bytes i within ∙ sym (get-by_place (λ place byte. if covers op place then chosen op (place - start op) (mask_byte mask (place - start op)) byte else byte) old i within))

-- a byte is written among bytes
pub set_bytes : (now : List ℕ) (at v : ℕ) → at < length now → v < 256 → AreBytes now → AreBytes (slice_set now at v)
set_bytes now at v within small bytes place =
    elim (cases_eq place at) [
      | inl here ↦ subst (λ (p : ℕ). slice_index (slice_set now at v) p < 256) (sym here) (subst (λ (b : ℕ). b < 256) (sym (get_or-set_same now at v 0 within)) small)
      | inr other ↦ subst (λ (b : ℕ). b < 256) (sym (get_or-set_other now at place v 0 other)) (bytes place)
    ]
