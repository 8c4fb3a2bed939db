-- A byte written into a word leaves the other bytes.
use Rattle.std.proofs.Common.{◌≡◌, ◌≢◌, inl, inr, ℕ, zero, suc, ◌+◌, ◌/◌, ◌%◌, ◌<◌, List, [], ◌∷◌, length, sym, ap, ◌∙◌, subst, arith, get_or, set, lit<, w32}
use Rattle.std.specs.Int.{to_le_bytes, from_le_bytes}
use Rattle.std.proofs.lemmas.Bool.{cases_eq}
use Rattle.std.proofs.lemmas.List.{get_or-set_other, length-set}
use Rattle.std.proofs.lemmas.Grind.{get_or-set_at}
use Rattle.std.proofs.lemmas.Nat.{le_bytes_4, mod_below}
use Rattle.ram_words.specs.Elements.{byte_at}

bytes_small : (n i : ℕ) → get_or (to_le_bytes w32 n) i 0 < 256
bytes_small n zero = mod_below n 256 (lit< tt)
bytes_small n (suc zero) = mod_below (n / 256) 256 (lit< tt)
bytes_small n (suc (suc zero)) = mod_below (n / 65536) 256 (lit< tt)
bytes_small n (suc (suc (suc zero))) = mod_below (n / 16777216) 256 (lit< tt)
bytes_small n (suc (suc (suc (suc i)))) = lit< tt

set_small : (bs : List ℕ) (k b i : ℕ) → ((j : ℕ) → get_or bs j 0 < 256) → b < 256 → get_or (set bs k b) i 0 < 256
set_small [] k b i h s = h i
set_small (x ∷ xs) zero b zero h s = s
set_small (x ∷ xs) zero b (suc i) h s = h (suc i)
set_small (x ∷ xs) (suc k) b zero h s = h zero
set_small (x ∷ xs) (suc k) b (suc i) h s = set_small xs k b i (λ j. h (suc j)) s

pub other_byte : (ws : List ℕ) (a i j b n : ℕ) (bs : List ℕ) → a + i / 4 < length ws → j ≢ i → b < 256 → bs ≡ to_le_bytes w32 (get_or ws (a + i / 4) 0) → n ≡ from_le_bytes w32 (set bs (i % 4) b) → byte_at (set ws (a + i / 4) n) a j ≡ byte_at ws a j
other_byte ws a i j b n bs inside ne small e en = elim (cases_eq (j / 4) (i / 4)) [
  | inl q ↦
      let small_bs : (k : ℕ) → get_or bs k 0 < 256 = λ k. subst (λ cs. get_or cs k 0 < 256) (sym e) (bytes_small (get_or ws (a + i / 4) 0) k) in
      let size : length (set bs (i % 4) b) ≡ 4 = length-set bs (i % 4) b ∙ ap length e in
      let back : to_le_bytes w32 n ≡ set bs (i % 4) b = le_bytes_4 (set bs (i % 4) b) n size (λ k. set_small bs (i % 4) b k small_bs small) en in
      let word : get_or (set ws (a + i / 4) n) (a + j / 4) 0 ≡ n = get_or-set_at ws (a + i / 4) (a + j / 4) n 0 (ap (λ k. a + k) q) inside in
      let apart : j % 4 ≢ i % 4 = λ m. ne (omega arith) in
      ap (λ w. get_or (to_le_bytes w32 w) (j % 4) 0) word ∙ ap (λ cs. get_or cs (j % 4) 0) back ∙ get_or-set_other bs (i % 4) (j % 4) b 0 apart
      ∙ ap (λ cs. get_or cs (j % 4) 0) e ∙ ap (λ k. get_or (to_le_bytes w32 (get_or ws (a + k) 0)) (j % 4) 0) (sym q)
  | inr d ↦
      let apart : a + j / 4 ≢ a + i / 4 = λ m. d (omega arith) in
      ap (λ w. get_or (to_le_bytes w32 w) (j % 4) 0) (get_or-set_other ws (a + i / 4) (a + j / 4) n 0 apart)
]
