-- A mask of ones makes the whole operation.
use Rattle.std.proofs.Common.{◌≡◌, ℕ, ◌-◌, ◌%◌, ◌<◌, ◌≤◌, Bool, true, false, List, [], ◌∷◌, length, refl, sym, ap, ◌∙◌, arith}
use Rattle.std.specs.Prelude.{bit_and, bit_xor, slice_index, if◌then◌else◌}
use Rattle.std.proofs.lemmas.List.{ext_get_or}
use Rattle.std.specs.Int.Bits.{xor_self, xor_assoc, xor_zero_l}
use Rattle.std.proofs.lemmas.Nat.{and_mask, and_comm, xor_of_8, and_le_l}
use Rattle.std.proofs.Math.Nat.{mod-eq_of_lt}
use Rattle.flash_trait.specs.Flash.{Operation, Program, Erase, AreBytes, start, covers, wanted, chosen, after, cut}
use Rattle.flash_trait.proofs.FlashContents.{length-by_place, get-by_place}

abbrev pub ones : List ℕ
ones = 255 ∷ []

-- a byte as itself under a mask of ones
ones_and : (n : ℕ) → n < 256 → bit_and 255 n ≡ n
ones_and n small = and_comm 255 n ∙ and_mask n 8 ∙ mod-eq_of_lt small

-- what was flipped twice is back
xor_back : (a b : ℕ) → bit_xor a (bit_xor a b) ≡ b
xor_back a b = sym (xor_assoc a a b) ∙ ap (λ (n : ℕ). bit_xor n b) (xor_self a) ∙ xor_zero_l b

pub chosen_whole : (op : Operation) (i old : ℕ) → old < 256 → chosen op i 255 old ≡ wanted op i old
chosen_whole (Program at bytes) i old small =
    let new = bit_and old (slice_index bytes i) in
    let less : new ≤ old = and_le_l old (slice_index bytes i) in
    ap (λ (m : ℕ). bit_xor old m) (ones_and (bit_xor old new) (xor_of_8 old new small (omega arith)))
    ∙ xor_back old new
chosen_whole (Erase sector) i old small = refl

at_ones : (n : ℕ) → slice_index ones (n % 1) ≡ 255
at_ones n = let e : n % 1 ≡ 0 = omega arith in ap (slice_index ones) e

abbrev whole_byte : Operation → ℕ → ℕ → ℕ
whole_byte op place old = if covers op place then wanted op (place - start op) old else old

abbrev ones_byte : Operation → ℕ → ℕ → ℕ
ones_byte op place old = if covers op place then chosen op (place - start op) (slice_index ones ((place - start op) % length ones)) old else old

same_byte : (op : Operation) (place old : ℕ) (b : Bool) → old < 256 → (if b then chosen op (place - start op) (slice_index ones ((place - start op) % 1)) old else old) ≡ (if b then wanted op (place - start op) old else old)
same_byte op place old true small = ap (λ (m : ℕ). chosen op (place - start op) m old) (at_ones (place - start op)) ∙ chosen_whole op (place - start op) old small
same_byte op place old false small = refl

pub cut_by_ones : (op : Operation) (content : List ℕ) → AreBytes content → cut op ones content ≡ after op content
unfolding cut after
cut_by_ones op content bytes =
    ext_get_or 0 (cut op ones content) (after op content) (length-by_place (ones_byte op) content ∙ sym (length-by_place (whole_byte op) content))
    (λ i below.
    let within : i < length content = omega (arith, length-by_place (ones_byte op) content) in
    get-by_place (ones_byte op) content i within
    ∙ same_byte op i (slice_index content i) (covers op i) (bytes i)
    ∙ sym (get-by_place (whole_byte op) content i within))
