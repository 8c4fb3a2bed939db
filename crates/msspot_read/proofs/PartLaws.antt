-- Where the parts of an image are found again.
use Rattle.std.proofs.Common.{◌≡◌, ℕ, zero, suc, ◌+◌, ◌*◌, ◌<◌, ◌≤◌, Bool, true, false, ◌&&◌, List, [], ◌∷◌, map, length, take, drop, set, get_or, refl, sym, ap, ◌∙◌, arith, length-drop, length-take-le, inl, inr, add-one}
use Rattle.std.specs.Prelude.{nat_le, replicate}
use Rattle.std.specs.List.{list_all}
use Rattle.std.proofs.lemmas.Bool.{cases_lt, leb-true, and_parts}
use Rattle.std.proofs.Math.Nat.{mul-le-mul, mul-le-mul_right}
use Rattle.std.proofs.lemmas.List.{drop_more, drop_all}
use Rattle.std.proofs.lemmas.List.Edits.{fill_by_more}
use Rattle.std.proofs.lemmas.Option.{slice_get-get_or, slice_get_past, unwrap_or-slice_get}
use Rattle.little_endian.specs.Numbers.{number}
use Rattle.image_bytes.specs.Layout.{widths, total, sum, rows_in, rows_of, counts_of, lengths_of, unpadded}
use Rattle.image_form.specs.Whole.{table, bytes_at}
use Rattle.msspot_read.specs.Places.{listed, words, rows, tables, pools, counts_at, lengths_at, table_start, pool_start, image_at}
use Rattle.msspot_read.specs.Rows.{row_of, code_start}

-- ---- things of one size

pub length_listed : {A : Type 0} (size : ℕ) (value : ℕ → List ℕ → A) (n at : ℕ) (bytes : List ℕ) → length (listed size value n at bytes) ≡ n
length_listed size value zero at bytes = refl
length_listed size value (suc n) at bytes = ap suc (length_listed size value n (size + at) bytes)

pub listed_at : {A : Type 0} (size : ℕ) (value : ℕ → List ℕ → A) (n at : ℕ) (bytes : List ℕ) (k : ℕ) (d : A) → k < n → get_or (listed size value n at bytes) k d ≡ value (k * size + at) bytes
listed_at size value zero at bytes k d h = absurd (omega arith)
listed_at size value (suc n) at bytes zero d h = let same : at ≡ 0 * size + at = omega arith in ap (λ p. value p bytes) same
listed_at size value (suc n) at bytes (suc k) d h =
    let same : k * size + (size + at) ≡ suc k * size + at = omega arith in
    listed_at size value n (size + at) bytes k d (omega arith) ∙ ap (λ p. value p bytes) same

pub word_is : (n at k place : ℕ) (bytes : List ℕ) → k < n → place ≡ at + 2 * k → get_or (words n at bytes) k 0 ≡ number 2 place bytes
word_is n at k place bytes h e =
    let same : k * 2 + at ≡ place = omega (arith, e) in
    listed_at 2 (number 2) n at bytes k 0 h ∙ ap (λ p. number 2 p bytes) same

-- ---- tables

tables_length : (ws cs : List ℕ) (at : ℕ) (bytes : List ℕ) → length ws ≤ length cs → length (tables ws cs at bytes) ≡ length ws
tables_length [] cs at bytes h = refl
tables_length (w ∷ ws) [] at bytes h = absurd (omega arith)
tables_length (w ∷ ws) (c ∷ cs) at bytes h = ap suc (tables_length ws cs (2 * (w * c) + at) bytes (omega arith))

tables_at : (ws cs : List ℕ) (at t : ℕ) (bytes : List ℕ) → t < length ws → t < length cs → get_or (tables ws cs at bytes) t [] ≡ rows (get_or ws t 0) (get_or cs t 0) (total (take t ws) (take t cs) + at) bytes
tables_at [] cs at t bytes h g = absurd (omega arith)
tables_at (w ∷ ws) [] at t bytes h g = absurd (omega arith)
tables_at (w ∷ ws) (c ∷ cs) at zero bytes h g = let same : at ≡ 0 + at = omega arith in ap (λ p. rows w c p bytes) same
tables_at (w ∷ ws) (c ∷ cs) at (suc t) bytes h g =
    let same : total (take t ws) (take t cs) + (2 * (w * c) + at) ≡ 2 * (w * c) + total (take t ws) (take t cs) + at = omega arith in
    tables_at ws cs (2 * (w * c) + at) t bytes (omega arith) (omega arith) ∙ ap (λ p. rows (get_or ws t 0) (get_or cs t 0) p bytes) same

total_next : (ws cs : List ℕ) (t : ℕ) → t < length ws → t < length cs → total (take (suc t) ws) (take (suc t) cs) ≡ total (take t ws) (take t cs) + 2 * (get_or ws t 0 * get_or cs t 0)
total_next [] cs t h g = absurd (omega arith)
total_next (w ∷ ws) [] t h g = absurd (omega arith)
total_next (w ∷ ws) (c ∷ cs) zero h g = omega arith
total_next (w ∷ ws) (c ∷ cs) (suc t) h g = let ih = total_next ws cs t (omega arith) (omega arith) in omega (arith, ih)

pub total_more : (ws cs : List ℕ) (t : ℕ) → t < length ws → t < length cs → total (take (t + 1) ws) (take (t + 1) cs) ≡ total (take t ws) (take t cs) + 2 * (get_or ws t 0 * get_or cs t 0)
total_more ws cs t h g = ap (λ k. total (take k ws) (take k cs)) (add-one t) ∙ total_next ws cs t h g

pub total_fits : (ws cs : List ℕ) (t : ℕ) → t < length ws → t < length cs → total (take t ws) (take t cs) + 2 * (get_or ws t 0 * get_or cs t 0) ≤ total ws cs
total_fits [] cs t h g = absurd (omega arith)
total_fits (w ∷ ws) [] t h g = absurd (omega arith)
total_fits (w ∷ ws) (c ∷ cs) zero h g = omega arith
total_fits (w ∷ ws) (c ∷ cs) (suc t) h g = let ih = total_fits ws cs t (omega arith) (omega arith) in omega (arith, ih)

tables_counts : (ws cs : List ℕ) (at : ℕ) (bytes : List ℕ) → length ws ≡ length cs → map length (tables ws cs at bytes) ≡ cs
tables_counts [] [] at bytes h = refl
tables_counts [] (c ∷ cs) at bytes h = absurd (omega (arith, h))
tables_counts (w ∷ ws) [] at bytes h = absurd (omega (arith, h))
tables_counts (w ∷ ws) (c ∷ cs) at bytes h =
    ap (λ n. n ∷ map length (tables ws cs (2 * (w * c) + at) bytes)) (length_listed (w * 2) (words w) c at bytes)
    ∙ ap (λ ns. c ∷ ns) (tables_counts ws cs (2 * (w * c) + at) bytes (omega (arith, h)))

-- ---- pools

sum_next : (ns : List ℕ) (k : ℕ) → k < length ns → sum (take (suc k) ns) ≡ sum (take k ns) + get_or ns k 0
sum_next [] k h = absurd (omega arith)
sum_next (n ∷ ns) zero h = omega arith
sum_next (n ∷ ns) (suc k) h = let ih = sum_next ns k (omega arith) in omega (arith, ih)

pub sum_more : (ns : List ℕ) (k : ℕ) → k < length ns → sum (take (k + 1) ns) ≡ sum (take k ns) + get_or ns k 0
sum_more ns k h = ap (λ m. sum (take m ns)) (add-one k) ∙ sum_next ns k h

pub sum_fits : (ns : List ℕ) (k : ℕ) → k < length ns → sum (take k ns) + get_or ns k 0 ≤ sum ns
sum_fits [] k h = absurd (omega arith)
sum_fits (n ∷ ns) zero h = omega arith
sum_fits (n ∷ ns) (suc k) h = let ih = sum_fits ns k (omega arith) in omega (arith, ih)

pools_length : (ns : List ℕ) (at : ℕ) (bytes : List ℕ) → length (pools ns at bytes) ≡ length ns
pools_length [] at bytes = refl
pools_length (n ∷ ns) at bytes = ap suc (pools_length ns (n + at) bytes)

pools_at : (ns : List ℕ) (at k : ℕ) (bytes : List ℕ) → k < length ns → get_or (pools ns at bytes) k [] ≡ take (get_or ns k 0) (drop (sum (take k ns) + at) bytes)
pools_at [] at k bytes h = absurd (omega arith)
pools_at (n ∷ ns) at zero bytes h = let same : at ≡ 0 + at = omega arith in ap (λ p. take n (drop p bytes)) same
pools_at (n ∷ ns) at (suc k) bytes h =
    let same : sum (take k ns) + (n + at) ≡ n + sum (take k ns) + at = omega arith in
    pools_at ns (n + at) k bytes (omega arith) ∙ ap (λ p. take (get_or ns k 0) (drop p bytes)) same

pools_lengths : (ns : List ℕ) (at : ℕ) (bytes : List ℕ) → sum ns + at ≤ length bytes → map length (pools ns at bytes) ≡ ns
pools_lengths [] at bytes h = refl
pools_lengths (n ∷ ns) at bytes h =
    ap (λ m. m ∷ map length (pools ns (n + at) bytes)) (length-take-le n (drop at bytes) (omega (arith, length-drop at bytes)))
    ∙ ap (λ ms. n ∷ ms) (pools_lengths ns (n + at) bytes (omega arith))

-- ---- of the image

module _ (bytes : List ℕ) where
  pub rows_is : (t place : ℕ) → t < 11 → place ≡ 24 + 2 * t → rows_of (image_at bytes) t ≡ number 2 place bytes
  unfolding image_at
  rows_is t place h e =
      let len : length (tables widths (counts_at bytes) 56 bytes) ≡ 11 = tables_length widths (counts_at bytes) 56 bytes (omega arith) in
      ap rows_in (slice_get-get_or (tables widths (counts_at bytes) 56 bytes) t [] (omega arith))
      ∙ ap length (tables_at widths (counts_at bytes) 56 t bytes h h)
      ∙ length_listed (get_or widths t 0 * 2) (words (get_or widths t 0)) (get_or (counts_at bytes) t 0) (table_start bytes t) bytes
      ∙ word_is 11 24 t place bytes h e

  pub rows_past : (t : ℕ) → 11 ≤ t → rows_of (image_at bytes) t ≡ 0
  unfolding image_at
  rows_past t h =
      let len : length (tables widths (counts_at bytes) 56 bytes) ≡ 11 = tables_length widths (counts_at bytes) 56 bytes (omega arith) in
      ap rows_in (slice_get_past (tables widths (counts_at bytes) 56 bytes) t (omega arith))

  pub table_is : (t : ℕ) → t < 11 → table (image_at bytes) t ≡ rows (get_or widths t 0) (get_or (counts_at bytes) t 0) (table_start bytes t) bytes
  unfolding image_at
  table_is t h = unwrap_or-slice_get (tables widths (counts_at bytes) 56 bytes) t [] ∙ tables_at widths (counts_at bytes) 56 t bytes h h

  count_is : (t : ℕ) → t < 11 → get_or (counts_at bytes) t 0 ≡ rows_of (image_at bytes) t
  count_is t h = word_is 11 24 t (24 + 2 * t) bytes h refl ∙ sym (rows_is t (24 + 2 * t) h refl)

  pub row_is : (t n : ℕ) → n < rows_of (image_at bytes) t → (t < 11) × (row_of (image_at bytes) t n ≡ words (get_or widths t 0) (n * (get_or widths t 0 * 2) + table_start bytes t) bytes)
  row_is t n h =
      elim (cases_lt t 11) [
        | inl lt ↦
            let count = count_is t lt in
            (lt, ap (λ rs. get_or rs n []) (table_is t lt) ∙ listed_at (get_or widths t 0 * 2) (words (get_or widths t 0)) (get_or (counts_at bytes) t 0) (table_start bytes t) bytes n [] (omega (arith, count, h)))
        | inr le ↦ absurd (omega (arith, rows_past t le, h))
      ]

  -- a row ends before the pools begin
  pub row_fits : (t n : ℕ) → t < 11 → n < rows_of (image_at bytes) t → get_or widths t 0 * 2 + (n * (get_or widths t 0 * 2) + table_start bytes t) ≤ total widths (counts_at bytes) + 56
  row_fits t n h below =
      let count = count_is t h in
      let within : n < get_or (counts_at bytes) t 0 = omega (arith, count) in
      let fits = total_fits widths (counts_at bytes) t h h in
      let product : suc n * (get_or widths t 0 * 2) ≤ get_or (counts_at bytes) t 0 * (get_or widths t 0 * 2) = mul-le-mul_right (get_or widths t 0 * 2) (omega arith) in
      omega (arith, fits, product)

  -- as the pools begin behind the tables
  pub pools_behind : total widths (counts_at bytes) + 56 ≤ pool_start bytes 4
  pools_behind = omega arith

  pub pool_is : (k : ℕ) → k < 4 → bytes_at (image_at bytes) k ≡ take (get_or (lengths_at bytes) k 0) (drop (pool_start bytes k) bytes)
  unfolding image_at
  pool_is k h = unwrap_or-slice_get (pools (lengths_at bytes) (total widths (counts_at bytes) + 56) bytes) k [] ∙ pools_at (lengths_at bytes) (total widths (counts_at bytes) + 56) k bytes h

  pub pool_fits : (k : ℕ) → k < 4 → get_or (lengths_at bytes) k 0 + pool_start bytes k ≤ pool_start bytes 4
  pool_fits k h = let fits = sum_fits (lengths_at bytes) k h in omega (arith, fits)

  pub counts_are : counts_of (image_at bytes) ≡ counts_at bytes
  unfolding image_at
  counts_are = tables_counts widths (counts_at bytes) 56 bytes refl

  pub lengths_are : pool_start bytes 4 ≤ length bytes → lengths_of (image_at bytes) ≡ lengths_at bytes
  unfolding image_at
  lengths_are h = pools_lengths (lengths_at bytes) (total widths (counts_at bytes) + 56) bytes (omega (arith, h))

  pub end_is : pool_start bytes 4 ≤ length bytes → unpadded (counts_of (image_at bytes)) (lengths_of (image_at bytes)) ≡ pool_start bytes 4
  end_is h = ap (λ cs. unpadded cs (lengths_of (image_at bytes))) counts_are ∙ ap (unpadded (counts_at bytes)) (lengths_are h) ∙ omega arith

  pub code_begins : pool_start bytes 4 ≤ length bytes → code_start (image_at bytes) ≡ pool_start bytes 2
  code_begins h =
      let lens = lengths_are h in
      let zeroth : length (bytes_at (image_at bytes) 0) ≡ get_or (lengths_at bytes) 0 0 = ap length (pool_is 0 (omega arith)) ∙ length-take-le _ _ (omega (arith, h, length-drop (pool_start bytes 0) bytes)) in
      let first : length (bytes_at (image_at bytes) 1) ≡ get_or (lengths_at bytes) 1 0 = ap length (pool_is 1 (omega arith)) ∙ length-take-le _ _ (omega (arith, h, length-drop (pool_start bytes 1) bytes)) in
      let counts : total widths (counts_of (image_at bytes)) ≡ total widths (counts_at bytes) = ap (total widths) counts_are in
      omega (arith, zeroth, first, counts)

-- ---- loops over lists

pub all_more : {X : Type 0} (p : X → Bool) (xs : List X) (i : ℕ) (d : X) (whole : Bool) → i < length xs → p (get_or xs i d) ≡ true → list_all p (drop i xs) ≡ whole → list_all p (drop (i + 1) xs) ≡ whole
all_more p xs i d whole h good e =
    sym (ap (list_all p) (drop_more xs i d h) ∙ ap (λ t. t && list_all p (drop (i + 1) xs)) good) ∙ e

pub all_stops : {X : Type 0} (p : X → Bool) (xs : List X) (i : ℕ) (d : X) (whole : Bool) → i < length xs → p (get_or xs i d) ≡ false → list_all p (drop i xs) ≡ whole → whole ≡ false
all_stops p xs i d whole h bad e = sym e ∙ ap (list_all p) (drop_more xs i d h) ∙ ap (λ t. t && list_all p (drop (i + 1) xs)) bad

pub all_done : {X : Type 0} (p : X → Bool) (xs : List X) (i : ℕ) (whole : Bool) → length xs ≤ i → list_all p (drop i xs) ≡ whole → whole ≡ true
all_done p xs i whole h e = sym e ∙ ap (list_all p) (drop_all i xs h)

pub filled_more : {X : Type 0} (f : ℕ → X) (xs : List X) (i : ℕ) (v d : X) → i < length xs → v ≡ f i → ((k : ℕ) → k < i → get_or xs k d ≡ f k) → (k : ℕ) → k < i + 1 → get_or (set xs i v) k d ≡ f k
filled_more f xs i v d below e before k h = rw e (fill_by_more f xs i d below before k h)

pub all_zeros : (n j : ℕ) → ◌≡◌ {A = ℕ} (get_or (replicate n 0) j 0) 0
all_zeros zero j = refl
all_zeros (suc n) zero = refl
all_zeros (suc n) (suc j) = all_zeros n j

pub all_small : (xs : List ℕ) (n : ℕ) → list_all (λ x. nat_le x n) xs ≡ true → (t : ℕ) → get_or xs t 0 ≤ n
all_small [] n h t = omega arith
all_small (x ∷ xs) n h zero = leb-true x n (and_parts (nat_le x n) (list_all (λ x. nat_le x n) xs) h).0
all_small (x ∷ xs) n h (suc t) = all_small xs n (and_parts (nat_le x n) (list_all (λ x. nat_le x n) xs) h).1 t

pub product_small : (a b m n : ℕ) → a ≤ m → b ≤ n → a * b ≤ m * n
product_small a b m n h g = mul-le-mul h g
