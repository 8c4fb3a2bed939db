-- One more column, row and table that is written, and what is left.
use Rattle.std.proofs.Common.{◌≡◌, ℕ, zero, suc, ◌+◌, ◌<◌, ◌≤◌, List, [], ◌∷◌, ◌++◌, length, drop, get_or, refl, sym, ap, ◌∙◌, append_assoc, arith, add-one, length-append}
use Rattle.std.specs.List.{flat_map}
use Rattle.std.specs.Global.{Vec}
use Rattle.std.proofs.Math.Seq.{drop-cons}
use Rattle.std.proofs.Math.ListN.{drop_of_length-le}
use Rattle.std.proofs.lemmas.List.{append-nil}
use Rattle.image_bytes.specs.Layout.{words_onto, table_onto, all_onto}
use Rattle.msspot_write.specs.declared.parts.Column.{Column}
use Rattle.msspot_write.specs.declared.parts.PartRow.{PartRow}
use Rattle.msspot_write.specs.declared.parts.Parts.{Parts}
use Rattle.msspot_write.specs.Parts.{PoolsOf, rows_of, in_row, in_rows, data_bytes, next_code, column_words, row_words, table_words, tables_words}
use Rattle.msspot_write.specs.Written.{codes_of}
use Rattle.msspot_write.proofs.OntoLaws.{words_before, table_before, words_both}

-- the elements from a place on
pub drop_step : {X : Type 0} (xs : List X) (i : ℕ) (x : X) → i < length xs → x ≡ get_or xs i x → drop i xs ≡ x ∷ drop (i + 1) xs
drop_step xs i x below is = drop-cons xs i x below ∙ ap (λ y. y ∷ drop (suc i) xs) (sym is) ∙ ap (λ j. x ∷ drop j xs) (sym (add-one i))

drop_next : {X : Type 0} (i : ℕ) (xs : List X) → drop 1 (drop i xs) ≡ drop (suc i) xs
drop_next zero xs = refl
drop_next (suc i) [] = refl
drop_next (suc i) (x ∷ xs) = drop_next i xs

pub drop_one : {X : Type 0} (i : ℕ) (xs : List X) → drop 1 (drop i xs) ≡ drop (i + 1) xs
drop_one i xs = drop_next i xs ∙ ap (λ j. drop j xs) (sym (add-one i))

-- data, and codes, from a place on
pub less_left : {X : Type 0} (f : X → List ℕ) (xs : List X) (i : ℕ) (x : X) → i < length xs → x ≡ get_or xs i x → length (flat_map f (drop i xs)) ≡ length (f x) + length (flat_map f (drop (i + 1) xs))
less_left f xs i x below is = ap (λ ys. length (flat_map f ys)) (drop_step xs i x below is) ∙ length-append (f x) (flat_map f (drop (i + 1) xs))

codes_split : (codes : List (List ℕ)) → length (flat_map (λ c. c) codes) ≡ length (next_code codes) + length (flat_map (λ c. c) (drop 1 codes))
codes_split [] = omega arith
codes_split (c ∷ cs) = length-append c (flat_map (λ c. c) cs)

pub less_code : (codes : List (List ℕ)) (i : ℕ) → length (flat_map (λ c. c) (drop i codes)) ≡ length (next_code (drop i codes)) + length (flat_map (λ c. c) (drop (i + 1) codes))
less_code codes i = codes_split (drop i codes) ∙ ap (λ cs. length (next_code (drop i codes)) + length (flat_map (λ c. c) cs)) (drop_one i codes)

module _ (ps : PoolsOf) where
  pub column_step : (s c i at next : ℕ) (cols : List Column) (x : Column) (out new : List ℕ) → i < length cols → x ≡ get_or cols i x → next ≡ at + length (data_bytes x)
      → new ≡ out ++ words_onto (column_words ps s c i at x) []
      → new ++ words_onto (row_words ps s c (i + 1) next (drop (i + 1) cols)) [] ≡ out ++ words_onto (row_words ps s c i at (drop i cols)) []
  column_step s c i at next cols x out new below is moved grew =
      let rest : List ℕ = row_words ps s c (i + 1) (at + length (data_bytes x)) (drop (i + 1) cols) in
      ap (λ n. new ++ words_onto (row_words ps s c (i + 1) n (drop (i + 1) cols)) []) moved
      ∙ ap (λ ys. ys ++ words_onto rest []) grew
      ∙ append_assoc out (words_onto (column_words ps s c i at x) []) (words_onto rest [])
      ∙ ap (λ ys. out ++ ys) (sym (words_both (column_words ps s c i at x) rest))
      ∙ ap (λ cs. out ++ words_onto (row_words ps s c i at cs) []) (sym (drop_step cols i x below is))

  pub row_step : (codes : List (List ℕ)) (i start at begun next : ℕ) (rows : List PartRow) (r : PartRow) (out new : List ℕ) → i < length rows → r ≡ get_or rows i r
      → begun ≡ start + length (next_code (drop i codes)) → next ≡ at + length (in_row data_bytes r)
      → new ≡ out ++ words_onto (row_words ps start (length (next_code (drop i codes))) 0 at r.columns) []
      → new ++ table_onto (table_words ps (drop (i + 1) codes) begun next (drop (i + 1) rows)) [] ≡ out ++ table_onto (table_words ps (drop i codes) start at (drop i rows)) []
  row_step codes i start at begun next rows r out new below is begins moved grew =
      let n : ℕ = length (next_code (drop i codes)) in
      let words : List ℕ = row_words ps start n 0 at r.columns in
      let rest : List (List ℕ) = table_words ps (drop 1 (drop i codes)) (start + n) (at + length (in_row data_bytes r)) (drop (i + 1) rows) in
      ap (λ k. new ++ table_onto (table_words ps (drop (i + 1) codes) k next (drop (i + 1) rows)) []) begins
      ∙ ap (λ k. new ++ table_onto (table_words ps (drop (i + 1) codes) (start + n) k (drop (i + 1) rows)) []) moved
      ∙ ap (λ cs. new ++ table_onto (table_words ps cs (start + n) (at + length (in_row data_bytes r)) (drop (i + 1) rows)) []) (sym (drop_one i codes))
      ∙ ap (λ ys. ys ++ table_onto rest []) grew
      ∙ append_assoc out (words_onto words []) (table_onto rest [])
      ∙ ap (λ ys. out ++ ys) (sym (words_before words (table_onto rest [])))
      ∙ ap (λ rs. out ++ table_onto (table_words ps (drop i codes) start at rs) []) (sym (drop_step rows i r below is))

  pub table_step : (p : Parts) (codes : List (List ℕ)) (i at next : ℕ) (ts : List ℕ) (t : ℕ) (out new : List ℕ) → i < length ts → t ≡ get_or ts i t
      → next ≡ at + length (in_rows data_bytes (rows_of p t))
      → new ≡ out ++ table_onto (table_words ps codes 0 at (rows_of p t)) []
      → new ++ all_onto table_onto (tables_words ps p codes next (drop (i + 1) ts)) [] ≡ out ++ all_onto table_onto (tables_words ps p codes at (drop i ts)) []
  table_step p codes i at next ts t out new below is moved grew =
      let table : List (List ℕ) = table_words ps codes 0 at (rows_of p t) in
      let rest : List (List (List ℕ)) = tables_words ps p codes (at + length (in_rows data_bytes (rows_of p t))) (drop (i + 1) ts) in
      ap (λ n. new ++ all_onto table_onto (tables_words ps p codes n (drop (i + 1) ts)) []) moved
      ∙ ap (λ ys. ys ++ all_onto table_onto rest []) grew
      ∙ append_assoc out (table_onto table []) (all_onto table_onto rest [])
      ∙ ap (λ ys. out ++ ys) (sym (table_before table (all_onto table_onto rest [])))
      ∙ ap (λ us. out ++ all_onto table_onto (tables_words ps p codes at us) []) (sym (drop_step ts i t below is))

  -- nothing is left
  pub columns_done : (s c i at : ℕ) (cols : List Column) (out : List ℕ) → length cols ≤ i → out ++ words_onto (row_words ps s c i at (drop i cols)) [] ≡ out
  columns_done s c i at cols out past = ap (λ cs. out ++ words_onto (row_words ps s c i at cs) []) (drop_of_length-le cols past) ∙ append-nil out

  pub rows_done : (codes : List (List ℕ)) (i start at : ℕ) (rows : List PartRow) (out : List ℕ) → length rows ≤ i → out ++ table_onto (table_words ps codes start at (drop i rows)) [] ≡ out
  rows_done codes i start at rows out past = ap (λ rs. out ++ table_onto (table_words ps codes start at rs) []) (drop_of_length-le rows past) ∙ append-nil out

  pub tables_done : (p : Parts) (codes : List (List ℕ)) (i at : ℕ) (ts : List ℕ) (out : List ℕ) → length ts ≤ i → out ++ all_onto table_onto (tables_words ps p codes at (drop i ts)) [] ≡ out
  tables_done p codes i at ts out past = ap (λ us. out ++ all_onto table_onto (tables_words ps p codes at us) []) (drop_of_length-le ts past) ∙ append-nil out

pub none_left : {X : Type 0} (f : X → List ℕ) (xs : List X) (i : ℕ) → length xs ≤ i → length (flat_map f (drop i xs)) ≡ 0
none_left f xs i past = ap (λ ys. length (flat_map f ys)) (drop_of_length-le xs past)

-- ---- codes by number, numbers by place

pub code_at : (cs : List (Vec ℕ)) (i : ℕ) (x : Vec ℕ) → i < length cs → x ≡ get_or cs i x → length (next_code (drop i (codes_of cs))) ≡ length x.items
code_at [] i x below is = absurd (omega arith)
code_at (c ∷ cs) zero x below is = ap (λ (v : Vec ℕ). length v.items) (sym is)
code_at (c ∷ cs) (suc i) x below is = code_at cs i x (omega arith) is

pub same_default : (xs : List ℕ) (i d e : ℕ) → i < length xs → get_or xs i d ≡ get_or xs i e
same_default [] i d e below = absurd (omega arith)
same_default (x ∷ xs) zero d e below = refl
same_default (x ∷ xs) (suc i) d e below = same_default xs i d e (omega arith)

pub fits_here : (a h r t : ℕ) → a + (h + r) ≡ t → t ≤ 65535 → a + h ≤ 65535
fits_here a h r t e most = omega (arith, e, most)

pub room_next : (n a h r t : ℕ) → n ≡ a + h → a + (h + r) ≡ t → n + r ≡ t
room_next n a h r t e f = omega (arith, e, f)
