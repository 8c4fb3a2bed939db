-- Marks, set and read.
use Rattle.std.proofs.Common.{◌≡◌, ℕ, ◌*◌, ◌/◌, ◌%◌, ◌^◌, ◌<◌, true, false, ◌&&◌, ◌||◌, List, length, set, get_or, get_or-set_same, get_or-set_other, sym, ap, ◌∙◌, arith, inl, inr}
use Rattle.std.specs.Prelude.{nat_eq, bit_or, replicate}
use Rattle.std.specs.Int.{bit_at, w64}
use Rattle.std.proofs.lemmas.Bool.{cases_eq, eq-eqb, ne_eqb}
use Rattle.std.proofs.lemmas.Nat.Bits.{bit_at-zero, bit_at_set_same, bit_at_set_other}
use Rattle.msspot_read.specs.Marked.{is_marked}
use Rattle.msspot_read.proofs.PartLaws.{all_zeros}

pub none_marked : (n k : ℕ) → is_marked (replicate n 0) k ≡ false
none_marked n k = ap (λ w. nat_eq (bit_at w (k % 64)) 1) (all_zeros n (k / 64)) ∙ ap (λ b. nat_eq b 1) (bit_at-zero (k % 64))

pub noted : (words : List ℕ) (word at : ℕ) → word ≡ at / 64 → word < length words → (k : ℕ) → is_marked (set words word (bit_or (get_or words word 0) (1 * 2 ^ (at % 64) % 18446744073709551616))) k ≡ (nat_eq k at && true || is_marked words k)
noted words word at e h k =
    let new = bit_or (get_or words word 0) (1 * 2 ^ (at % 64) % 18446744073709551616) in
    elim (cases_eq (k / 64) word) [
      | inl same ↦
          let here : get_or (set words word new) (k / 64) 0 ≡ new = ap (λ j. get_or (set words word new) j 0) same ∙ get_or-set_same words word new 0 h in
          let within : at % 64 < 64 = omega arith in
          elim (cases_eq (k % 64) (at % 64)) [
            | inl bit ↦
                let equal : k ≡ at = omega (arith, e, same, bit) in
                ap (λ w. nat_eq (bit_at w (k % 64)) 1) here
                ∙ ap (λ b. nat_eq (bit_at new b) 1) bit
                ∙ ap (λ b. nat_eq b 1) (bit_at_set_same w64 (get_or words word 0) (at % 64) within)
                ∙ sym (ap (λ t. t && true || is_marked words k) (eq-eqb k at equal))
            | inr other ↦
                ap (λ w. nat_eq (bit_at w (k % 64)) 1) here
                ∙ ap (λ b. nat_eq b 1) (bit_at_set_other w64 (get_or words word 0) (at % 64) within (k % 64) other)
                ∙ ap (λ j. nat_eq (bit_at (get_or words j 0) (k % 64)) 1) (sym same)
                ∙ sym (ap (λ t. t && true || is_marked words k) (ne_eqb k at (λ q. other (ap (λ n. n % 64) q))))
          ]
      | inr other ↦
          ap (λ w. nat_eq (bit_at w (k % 64)) 1) (get_or-set_other words word (k / 64) new 0 other)
          ∙ sym (ap (λ t. t && true || is_marked words k) (ne_eqb k at (λ q. other (ap (λ n. n / 64) q ∙ sym e))))
    ]
