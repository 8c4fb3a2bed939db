-- When a stopped operation leaves a marker.
use Rattle.std.proofs.Common.{◌≡◌, ◌⊎◌, ℕ, zero, suc, ◌+◌, ◌-◌, ◌<◌, ◌≤◌, Bool, true, false, not, ◌&&◌, List, [], ◌∷◌, length, refl, sym, ap, ◌∙◌, inl, inr, arith}
use Rattle.std.specs.Prelude.{◌==◌, slice_index, bit_and}
use Rattle.std.proofs.lemmas.Bool.{eqb-true, eq-eqb, cases_lt, cases_Bool, and_parts, and_from, false_from_ne_true, true≢false}
use Rattle.flash_trait.specs.Flash.{Operation, Program, Erase, start, span, mixes, IsStopped}
use Rattle.deploy_model.specs.Banks.{holds, image_marker, bank_marker}
use Rattle.deploy_model.specs.Deployment.{eight_zeros}
use Rattle.deploy_laws.proofs.Bytes.{same_byte, not_covered, erase_byte, program_byte, same_lists}

-- bytes that stand at a place, one by one
pub holds_byte : (xs : List ℕ) (at : ℕ) (c : List ℕ) → holds xs at c ≡ true → (i : ℕ) → i < length xs → slice_index c (at + i) ≡ slice_index xs i
holds_byte [] at c is i within = absurd (omega arith)
holds_byte (x ∷ xs) at c is zero within =
    let e : at + 0 ≡ at = omega arith in
    ap (λ (n : ℕ). slice_index c n) e ∙ eqb-true (slice_index c at) x (and_parts (slice_index c at == x) (holds xs (suc at) c) is).0
holds_byte (x ∷ xs) at c is (suc i) within =
    let e : at + suc i ≡ suc at + i = omega arith in
    ap (λ (n : ℕ). slice_index c n) e ∙ holds_byte xs (suc at) c (and_parts (slice_index c at == x) (holds xs (suc at) c) is).1 i (omega arith)

-- the same bytes at another content
pub holds_same : (xs : List ℕ) (at : ℕ) (c d : List ℕ) → ((i : ℕ) → i < length xs → slice_index d (at + i) ≡ slice_index c (at + i)) → holds xs at d ≡ holds xs at c
holds_same [] at c d same = refl
holds_same (x ∷ xs) at c d same =
    let e : at + 0 ≡ at = omega arith in
    let head : slice_index d at ≡ slice_index c at = ap (λ (n : ℕ). slice_index d n) (sym e) ∙ same 0 (omega arith) ∙ ap (λ (n : ℕ). slice_index c n) e in
    ap (λ (n : ℕ). (n == x) && holds xs (suc at) d) head
    ∙ ap (λ (b : Bool). (slice_index c at == x) && b) (holds_same xs (suc at) c d (λ i within.
    let g : suc at + i ≡ at + suc i = omega arith in
    ap (λ (n : ℕ). slice_index d n) g ∙ same (suc i) (omega arith) ∙ ap (λ (n : ℕ). slice_index c n) (sym g)))

-- no byte is 0xFF
abbrev pub without : List ℕ → Bool
without [] = true
without (x ∷ xs) = not (x == 0xFF) && without xs

not_ff : (x : ℕ) → not (x == 0xFF) ≡ true → x ≡ 0xFF → ⊥
not_ff x is same = let e : (x == 0xFF) ≡ true = eq-eqb x 0xFF same in absurd (true≢false (sym is ∙ ap not e))

-- what an erase leaves of a marker was there before
pub erase_back : (xs : List ℕ) → without xs ≡ true → (sector : ℕ) (c d : List ℕ) → IsStopped (Erase sector) c d → (at : ℕ) → holds xs at d ≡ true → holds xs at c ≡ true
erase_back [] w sector c d stopped at is = refl
erase_back (x ∷ xs) w sector c d stopped at is =
    let parts = and_parts (slice_index d at == x) (holds xs (suc at) d) is in
    let free = and_parts (not (x == 0xFF)) (without xs) w in
    let byte : slice_index d at ≡ x = eqb-true (slice_index d at) x parts.0 in
    and_from (slice_index c at == x) (holds xs (suc at) c)
    (elim (erase_byte sector c d stopped at) [
      | inl same ↦ eq-eqb (slice_index c at) x (sym same ∙ byte)
      | inr set ↦ absurd (not_ff x free.0 (sym byte ∙ set))
    ])
    (erase_back xs free.1 sector c d stopped (suc at) parts.1)

pub erase_none : (xs : List ℕ) → without xs ≡ true → (sector : ℕ) (c d : List ℕ) → IsStopped (Erase sector) c d → (at : ℕ) → holds xs at c ≡ false → holds xs at d ≡ false
erase_none xs w sector c d stopped at none =
    false_from_ne_true (holds xs at d) (λ is. absurd (true≢false (sym (erase_back xs w sector c d stopped at is) ∙ none)))

-- an operation elsewhere leaves what stands at a place
pub elsewhere : (xs : List ℕ) (op : Operation) (c d : List ℕ) → IsStopped op c d → (at : ℕ) → (at + length xs ≤ start op) ⊎ (start op + span op ≤ at) → holds xs at d ≡ holds xs at c
elsewhere xs op c d stopped at (inl before) =
    holds_same xs at c d (λ i within. same_byte op c d stopped (at + i) (not_covered op (at + i) (inl (omega arith))))
elsewhere xs op c d stopped at (inr behind) =
    holds_same xs at c d (λ i within. same_byte op c d stopped (at + i) (not_covered op (at + i) (inr (omega arith))))

-- neither marker stands at a place
pub record Unmarked (at : ℕ) (c : List ℕ) : Type 0 where
  pub image : holds image_marker at c ≡ false
  pub bank : holds bank_marker at c ≡ false

-- the byte in which the markers differ
image_six : (at : ℕ) (c : List ℕ) → holds image_marker at c ≡ true → slice_index c (at + 6) ≡ 0x31
image_six at c is = holds_byte image_marker at c is 6 (omega arith)

bank_six : (at : ℕ) (c : List ℕ) → holds bank_marker at c ≡ true → slice_index c (at + 6) ≡ 0x32
bank_six at c is = holds_byte bank_marker at c is 6 (omega arith)

-- a stopped program of eight bytes that leaves eight bytes which stood there before leaves all
eight_same : (xs bytes : List ℕ) (at : ℕ) (c d : List ℕ) → length bytes ≡ length xs → IsStopped (Program at bytes) c d → holds xs at c ≡ true → holds xs at d ≡ true → d ≡ c
eight_same xs bytes at c d size stopped was is =
    same_lists c d stopped.size (λ i.
    elim (cases_lt i at) [
      | inl low ↦ same_byte (Program at bytes) c d stopped i (not_covered (Program at bytes) i (inl low))
      | inr from ↦
          elim (cases_lt i (at + length bytes)) [
            | inl within ↦
                let e : at + (i - at) ≡ i = omega arith in
                let short : i - at < length xs = omega arith in
                ap (λ (n : ℕ). slice_index d n) (sym e) ∙ holds_byte xs at d is (i - at) short
                ∙ sym (ap (λ (n : ℕ). slice_index c n) (sym e) ∙ holds_byte xs at c was (i - at) short)
            | inr past ↦ same_byte (Program at bytes) c d stopped i (not_covered (Program at bytes) i (inr past))
          ]
    ])

mixed_by : (old byte x y : ℕ) (n : ℕ) → old ≡ x → byte ≡ y → mixes old (bit_and old n) byte ≡ true → mixes x (bit_and x n) y ≡ true
mixed_by old byte x y n a b is = ap (λ (m : ℕ). mixes m (bit_and m n) y) (sym a) ∙ ap (λ (m : ℕ). mixes old (bit_and old n) m) (sym b) ∙ is

-- a stopped zeroing of a marker leaves it, with all else, or no marker
pub zeroing : (at : ℕ) (c d : List ℕ) → at + 8 ≤ length c → IsStopped (Program at eight_zeros) c d → (holds image_marker at c ≡ true) ⊎ (holds bank_marker at c ≡ true)
    → (d ≡ c) ⊎ Unmarked at d
zeroing at c d inside stopped marked =
    elim (cases_Bool (holds image_marker at d)) [
      | inl image ↦
          elim marked [
            | inl was ↦ inl (eight_same image_marker eight_zeros at c d refl stopped was image)
            | inr was ↦
                let bad : mixes 0x32 (bit_and 0x32 0) 0x31 ≡ true = mixed_by (slice_index c (at + 6)) (slice_index d (at + 6)) 0x32 0x31 0 (bank_six at c was) (image_six at d image) (program_byte at eight_zeros c d stopped 6 (omega arith) (omega arith)) in
                absurd (true≢false (sym bad))
          ]
      | inr no_image ↦
          elim (cases_Bool (holds bank_marker at d)) [
            | inl bank ↦
                elim marked [
                  | inl was ↦
                      let bad : mixes 0x31 (bit_and 0x31 0) 0x32 ≡ true = mixed_by (slice_index c (at + 6)) (slice_index d (at + 6)) 0x31 0x32 0 (image_six at c was) (bank_six at d bank) (program_byte at eight_zeros c d stopped 6 (omega arith) (omega arith)) in
                      absurd (true≢false (sym bad))
                  | inr was ↦ inl (eight_same bank_marker eight_zeros at c d refl stopped was bank)
                ]
            | inr no_bank ↦ inr (record { image = no_image; bank = no_bank })
          ]
    ]

-- a stopped program of the bank marker over 0xFF never leaves the other marker
pub marking : (at : ℕ) (c d : List ℕ) → at + 8 ≤ length c → IsStopped (Program at bank_marker) c d → slice_index c (at + 6) ≡ 0xFF → holds image_marker at d ≡ false
marking at c d inside stopped set =
    false_from_ne_true (holds image_marker at d) (λ image.
    let bad : mixes 0xFF (bit_and 0xFF 0x32) 0x31 ≡ true = mixed_by (slice_index c (at + 6)) (slice_index d (at + 6)) 0xFF 0x31 0x32 set (image_six at d image) (program_byte at bank_marker c d stopped 6 (omega arith) (omega arith)) in
    absurd (true≢false (sym bad)))
