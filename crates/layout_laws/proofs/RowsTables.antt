-- The rows of tables that lie one behind the other are read as they are.
use Rattle.std.proofs.Common.{◌≡◌, ℕ, zero, suc, ◌+◌, ◌*◌, ◌<◌, ◌≤◌, List, [], ◌∷◌, ◌++◌, length, get_or, map, sum_by, refl, ap, sym, ◌∙◌, arith, length-append}
use Rattle.std.specs.List.{All, AllZip, flat_map, range_with_len}
use Rattle.std.proofs.Math.Nat.{suc-mul, zero-mul}
use Rattle.std.proofs.lemmas.List.{append_assoc}
use Rattle.std.proofs.lemmas.List.Sums.{sum_by-cons}
use Rattle.std.proofs.lemmas.List.Elements.{All-head, All-tail}
use Rattle.std.proofs.lemmas.List.FromFn.{fill_by_all, length-map-range_with_len, get_or-map-range_with_len}
use Rattle.cil_layout.specs.Layout.{spelled}
use Rattle.file_tables.specs.Tables.{Shape, count_of, widths_of, row_width, table_size, sizes_before, numbers_at, row_at, rows_at}
use Rattle.layout_laws.proofs.RowsNumbers.{FitsIn, numbers_behind, spelled_length, spelled_read}

-- the bytes of one row
abbrev width_sum : List ℕ → ℕ
width_sum ws = sum_by (λ w. w) ws

-- rows whose numbers fit take as many bytes as their widths say
rows_length : (ws : List ℕ) (rows : List (List ℕ)) → All (AllZip FitsIn ws) rows → length (flat_map (spelled ws) rows) ≡ length rows * width_sum ws
rows_length ws [] fits = sym (zero-mul (width_sum ws))
rows_length ws (row ∷ rows) fits =
    omega (arith, suc-mul (length rows) (width_sum ws), length-append (spelled ws row) (flat_map (spelled ws) rows), spelled_length ws row (All-head (AllZip FitsIn ws) row rows fits), rows_length ws rows (All-tail (AllZip FitsIn ws) row rows fits))

-- row k behind the rows before
row_read : (ws : List ℕ) (rows : List (List ℕ)) (ys : List ℕ) (k at : ℕ) → All (AllZip FitsIn ws) rows → k < length rows → at ≡ k * width_sum ws → numbers_at (flat_map (spelled ws) rows ++ ys) at ws ≡ get_or rows k []
row_read ws [] ys k at fits below e = absurd (omega arith)
row_read ws (row ∷ rows) ys zero at fits below e =
    ap (λ n. numbers_at (flat_map (spelled ws) (row ∷ rows) ++ ys) n ws) (e ∙ zero-mul (width_sum ws))
    ∙ ap (λ zs. numbers_at zs 0 ws) (append_assoc (spelled ws row) (flat_map (spelled ws) rows) ys)
    ∙ spelled_read ws row (flat_map (spelled ws) rows ++ ys) (All-head (AllZip FitsIn ws) row rows fits)
row_read ws (row ∷ rows) ys (suc k) at fits below e =
    let more : at ≡ length (spelled ws row) + k * width_sum ws = omega (arith, e, suc-mul k (width_sum ws), spelled_length ws row (All-head (AllZip FitsIn ws) row rows fits)) in
    ap (λ zs. numbers_at zs at ws) (append_assoc (spelled ws row) (flat_map (spelled ws) rows) ys)
    ∙ numbers_behind (spelled ws row) (flat_map (spelled ws) rows ++ ys) at (k * width_sum ws) ws more
    ∙ row_read ws rows ys k (k * width_sum ws) (All-tail (AllZip FitsIn ws) row rows fits) (omega arith) refl

-- the rows of one table behind what stands before
table_read : (shape : Shape) (table first : ℕ) (xs : List ℕ) (rows : List (List ℕ)) (ys : List ℕ)
    → length xs ≡ first + sizes_before shape table
    → count_of shape table ≡ length rows
    → All (AllZip FitsIn (widths_of shape table)) rows
    → rows_at (xs ++ (flat_map (spelled (widths_of shape table)) rows ++ ys)) shape first table ≡ rows
unfolding rows_at row_at row_width
table_read shape table first xs rows ys start count fits =
    let ws : List ℕ = widths_of shape table in
    let zs : List ℕ = flat_map (spelled ws) rows ++ ys in
    sym (fill_by_all (λ k. numbers_at (xs ++ zs) (first + sizes_before shape table + k * width_sum ws) ws) rows (count_of shape table) [] (sym count) (λ k below. sym (
    numbers_behind xs zs (first + sizes_before shape table + k * width_sum ws) (k * width_sum ws) ws (omega (arith, start))
    ∙ row_read ws rows ys k (k * width_sum ws) fits (omega (arith, below, count)) refl
    )))

-- the bytes of a table
abbrev pub block : Shape → (ℕ → List (List ℕ)) → ℕ → List ℕ
block shape rows table = flat_map (spelled (widths_of shape table)) (rows table)

-- the numbers of the first tables' rows fit
pub record HasTables (shape : Shape) (rows : ℕ → List (List ℕ)) (n : ℕ) : Type 0 where
  pub counts : (table : ℕ) → table < n → count_of shape table ≡ length (rows table)
  pub fits : (table : ℕ) → table < n → All (AllZip FitsIn (widths_of shape table)) (rows table)

block_size : (shape : Shape) (rows : ℕ → List (List ℕ)) (n table : ℕ) → HasTables shape rows n → table < n → length (block shape rows table) ≡ table_size shape table
unfolding table_size row_width
block_size shape rows n table has below = rows_length (widths_of shape table) (rows table) (has.fits table below) ∙ ap (λ k. k * width_sum (widths_of shape table)) (sym (has.counts table below))

-- parts with sizes, one behind the other
parts_length : (f : ℕ → List ℕ) (size : ℕ → ℕ) (s n : ℕ) → ((k : ℕ) → k < s + n → length (f k) ≡ size k) → length (flat_map f (range_with_len s n)) ≡ sum_by size (range_with_len s n)
parts_length f size s zero each = refl
parts_length f size s (suc n) each =
    omega (
      arith,
      each s (omega arith),
      length-append (f s) (flat_map f (range_with_len (s + 1) n)),
      sum_by-cons size s (range_with_len (s + 1) n),
      parts_length f size (s + 1) n (λ k below. each k (omega arith)),
    )

-- the part at a number, between those before and the rest
parts_split : (f : ℕ → List ℕ) (s n k t : ℕ) → k < n → t ≡ s + k → (rest : List ℕ) × (flat_map f (range_with_len s n) ≡ flat_map f (range_with_len s k) ++ (f t ++ rest))
parts_split f s zero k t below e = absurd (omega arith)
parts_split f s (suc n) zero t below e =
    let same : t ≡ s = omega arith in
    (flat_map f (range_with_len (s + 1) n), rw same refl)
parts_split f s (suc n) (suc k) t below e =
    let more : (rest : List ℕ) × (flat_map f (range_with_len (s + 1) n) ≡ flat_map f (range_with_len (s + 1) k) ++ (f t ++ rest)) = parts_split f (s + 1) n k t (omega arith) (omega (arith, e)) in
    (more.0, ap (λ zs. f s ++ zs) more.1 ∙ sym (append_assoc (f s) (flat_map f (range_with_len (s + 1) k)) (f t ++ more.0)))

-- the first tables take as many bytes as the shape says
pub blocks_size : (shape : Shape) (rows : ℕ → List (List ℕ)) (n table : ℕ) → HasTables shape rows n → table ≤ n → length (flat_map (block shape rows) (range_with_len 0 table)) ≡ sizes_before shape table
unfolding sizes_before
blocks_size shape rows n table has le = parts_length (block shape rows) (table_size shape) 0 table (λ k below. block_size shape rows n k has (omega arith))

regroup : (xs before here rest ys all : List ℕ) → all ≡ before ++ (here ++ rest) → xs ++ (all ++ ys) ≡ (xs ++ before) ++ (here ++ (rest ++ ys))
regroup xs before here rest ys all e = rw e (simp append_assoc)

one_read : (shape : Shape) (rows : ℕ → List (List ℕ)) (n : ℕ) (xs ys : List ℕ) (table : ℕ) → HasTables shape rows n → table < n
    → rows_at (xs ++ (flat_map (block shape rows) (range_with_len 0 n) ++ ys)) shape (length xs) table ≡ rows table
one_read shape rows n xs ys table has below =
    let before : List ℕ = flat_map (block shape rows) (range_with_len 0 table) in
    let split : (rest : List ℕ) × (flat_map (block shape rows) (range_with_len 0 n) ≡ before ++ (block shape rows table ++ rest)) = parts_split (block shape rows) 0 n table table below (omega arith) in
    let start : length (xs ++ before) ≡ length xs + sizes_before shape table = omega (arith, length-append xs before, blocks_size shape rows n table has (omega arith)) in
    ap (λ region. rows_at region shape (length xs) table) (regroup xs before (block shape rows table) split.0 ys (flat_map (block shape rows) (range_with_len 0 n)) split.1)
    ∙ table_read shape table (length xs) (xs ++ before) (rows table) (split.0 ++ ys) start (has.counts table below) (has.fits table below)

-- the rows of all tables
pub rows_read : (shape : Shape) (rows : ℕ → List (List ℕ)) (n first : ℕ) (region xs ys : List ℕ) → HasTables shape rows n
    → region ≡ xs ++ (flat_map (block shape rows) (range_with_len 0 n) ++ ys) → first ≡ length xs
    → map (rows_at region shape first) (range_with_len 0 n) ≡ map rows (range_with_len 0 n)
rows_read shape rows n first region xs ys has parts start =
    let f : ℕ → List (List ℕ) = rows_at region shape first in
    fill_by_all rows (map f (range_with_len 0 n)) n [] (length-map-range_with_len f 0 n) (λ k below.
    get_or-map-range_with_len f 0 n k k [] below (omega arith)
    ∙ ap (λ bytes. rows_at bytes shape first k) parts
    ∙ ap (λ at. rows_at (xs ++ (flat_map (block shape rows) (range_with_len 0 n) ++ ys)) shape at k) start
    ∙ one_read shape rows n xs ys k has below
    )
