-- How many bytes an image has: as many as its header says, and a multiple of four.
use Rattle.std.proofs.Common.{◌≡◌, ℕ, zero, suc, ◌+◌, ◌-◌, ◌*◌, ◌/◌, ◌%◌, List, [], ◌∷◌, map, length, refl, ap, ◌∙◌, arith, mul-suc}
use Rattle.image_bytes.specs.Layout.{widths, Image, AllOfLength, HaveWidths, HasShape, word_onto, all_onto, words_onto, table_onto, byte_onto, zeros_onto, total, sum, unpadded, padding, counts_of, lengths_of, body_onto, onto}
use Rattle.msspot_read.specs.Rows.{size_of}

bytes_size : (bs rest : List ℕ) → length (all_onto byte_onto bs rest) ≡ length bs + length rest
bytes_size [] rest = omega arith
bytes_size (b ∷ bs) rest = omega (arith, bytes_size bs rest)

words_size : (ws rest : List ℕ) → length (words_onto ws rest) ≡ 2 * length ws + length rest
words_size [] rest = omega arith
words_size (w ∷ ws) rest = omega (arith, words_size ws rest)

table_size : (n : ℕ) (rows : List (List ℕ)) (rest : List ℕ) → AllOfLength n rows → length (table_onto rows rest) ≡ 2 * (n * length rows) + length rest
table_size n [] rest h = let none : n * 0 ≡ 0 = omega arith in omega (arith, none)
table_size n (r ∷ rows) rest h =
    let first = words_size r (table_onto rows rest) in
    let more = table_size n rows rest h.1 in
    let wide : length r ≡ n = h.0 in
    let product : n * suc (length rows) ≡ n * length rows + n = mul-suc n (length rows) in
    omega (arith, first, more, wide, product)

tables_size : (ns : List ℕ) (ts : List (List (List ℕ))) (rest : List ℕ) → HaveWidths ns ts → length (all_onto table_onto ts rest) ≡ total ns (map length ts) + length rest
tables_size [] [] rest h = omega arith
tables_size [] (t ∷ ts) rest h = absurd h
tables_size (n ∷ ns) [] rest h = absurd h
tables_size (n ∷ ns) (t ∷ ts) rest h =
    let first = table_size n t (all_onto table_onto ts rest) h.0 in
    let more = tables_size ns ts rest h.1 in
    omega (arith, first, more)

pools_size : (ps : List (List ℕ)) (rest : List ℕ) → length (all_onto (λ pool more. all_onto byte_onto pool more) ps rest) ≡ sum (map length ps) + length rest
pools_size [] rest = omega arith
pools_size (p ∷ ps) rest =
    let first = bytes_size p (all_onto (λ pool more. all_onto byte_onto pool more) ps rest) in
    let more = pools_size ps rest in
    omega (arith, first, more)

zeros_size : (n : ℕ) (rest : List ℕ) → length (zeros_onto n rest) ≡ n + length rest
zeros_size zero rest = omega arith
zeros_size (suc n) rest = omega (arith, zeros_size n rest)

body_size : (i : Image) (rest : List ℕ) → HasShape i → length (body_onto i rest) ≡ total widths (counts_of i) + (sum (lengths_of i) + (padding (unpadded (counts_of i) (lengths_of i)) + length rest))
unfolding body_onto
body_size i rest h =
    let ended = zeros_onto (padding (unpadded (counts_of i) (lengths_of i))) rest in
    tables_size widths i.tables (all_onto (λ pool more. all_onto byte_onto pool more) i.pools ended) h.tables
    ∙ ap (λ n. total widths (counts_of i) + n) (pools_size i.pools ended ∙ ap (λ n. sum (lengths_of i) + n) (zeros_size (padding (unpadded (counts_of i) (lengths_of i))) rest))

module _ (i : Image) (rest : List ℕ) (h : HasShape i) (few : length (counts_of i) ≡ 11) (four : length (lengths_of i) ≡ 4) where
  abbrev n : ℕ
  n = unpadded (counts_of i) (lengths_of i)

  pub onto_size : length (onto i rest) ≡ size_of i + length rest
  onto_size =
      let body = body_size i rest h in
      let b9 = word_onto 0 (body_onto i rest) in
      let lengths = words_size (lengths_of i) b9 in
      let counts = words_size (counts_of i) (words_onto (lengths_of i) b9) in
      let version = words_size i.version (word_onto i.name (word_onto i.entry (words_onto (counts_of i) (words_onto (lengths_of i) b9)))) in
      let wide : length i.version ≡ 4 = h.version in
      omega (arith, body, lengths, counts, version, wide, few, four)

-- the padding fills up to a multiple of four
fours : (n d : ℕ) → d ≡ 4 - n % 4 → n + d % 4 ≡ 4 * (n / 4 + 1 - d / 4)
fours n d e = omega (arith, e)

pub in_fours : (i : Image) → (q : ℕ) × (size_of i ≡ 4 * q)
in_fours i =
    let n = unpadded (counts_of i) (lengths_of i) in
    (n / 4 + 1 - (4 - n % 4) / 4, fours n (4 - n % 4) refl)
