-- Numbers that fit two bytes stay where numbers are cut, and there are as many rows as before.
use Rattle.std.proofs.Common.{◌≡◌, ℕ, suc, ◌+◌, ◌<◌, List, [], ◌∷◌, ◌++◌, map, length, drop, Option, Some, None, refl, sym, ap, ◌∙◌}
use Rattle.std.specs.Prelude.{slice_get, unwrap_or}
use Rattle.std.specs.List.{flat_map}
use Rattle.std.specs.Option.{option_map}
use Rattle.std.proofs.lemmas.List.{length-map}
use Rattle.std.proofs.lemmas.Option.{slice_get-map}
use Rattle.std.proofs.Math.Nat.{mod-eq_of_lt}
use Rattle.assemblies.specs.Closed.{Each}
use Rattle.image_bytes.specs.Layout.{counts_of, lengths_of}
use Rattle.image_pools.specs.Pools.{pool_onto}
use Rattle.msspot_write.specs.declared.parts.Column.{Column}
use Rattle.msspot_write.specs.declared.parts.Column.TheVariants.{Number, Name, Signature, Data, Code}
use Rattle.msspot_write.specs.declared.parts.PartRow.{PartRow}
use Rattle.msspot_write.specs.declared.parts.Parts.{Parts}
use Rattle.msspot_write.specs.Parts.{PoolsOf, rows_of, tables, in_row, in_rows, data_bytes, next_code, table_words, tables_words, pools_of, image_of_parts, first_over, over_of_parts}
use Rattle.converted.specs.Cut.{two_bytes, one_byte}
use Rattle.converted.specs.Images.{column_cut, row_cut, parts_cut, ColumnFits, NumbersFit}

-- what stays of each stays of the list
each_stays : {A : Type 0} (P : A → Type 0) (cut : A → A) → ((x : A) → P x → cut x ≡ x) → (xs : List A) → Each P xs → map cut xs ≡ xs
each_stays P cut h [] each = refl
each_stays P cut h (x ∷ xs) each = λ i. (h x each.0 i) ∷ (each_stays P cut h xs each.1 i)

column_stays : (c : Column) → ColumnFits c → column_cut c ≡ c
column_stays (Number n) fits = ap Number (mod-eq_of_lt fits)
column_stays (Name text) fits = refl
column_stays (Signature bytes) fits = ap Signature (each_stays (λ b. b < 256) one_byte (λ b small. mod-eq_of_lt small) bytes fits)
column_stays (Data bytes) fits = refl
column_stays Code fits = refl

abbrev RowFits : PartRow → Type 0
RowFits r = Each ColumnFits r.columns

row_stays : (r : PartRow) → RowFits r → row_cut r ≡ r
row_stays r fits = λ i. record { columns = each_stays ColumnFits column_cut column_stays r.columns fits i }

abbrev RowsFit : List PartRow → Type 0
RowsFit rows = Each RowFits rows

pub stays : (p : Parts) → NumbersFit p → parts_cut p ≡ p
stays p fits =
    let version : map two_bytes p.version ≡ p.version = each_stays (λ n. n < 65536) two_bytes (λ n small. mod-eq_of_lt small) p.version fits.version in
    let entry : two_bytes p.entry ≡ p.entry = mod-eq_of_lt fits.entry in
    let rows : map (map row_cut) p.tables ≡ p.tables = each_stays RowsFit (map row_cut) (λ rs. each_stays RowFits row_cut row_stays rs) p.tables fits.tables in
    λ i. record { version = version i; name = p.name; entry = entry i; tables = rows i; literals = p.literals }

-- ---- the rows of an image's tables are those of the parts

module _ (ps : PoolsOf) where
  as_many : (codes : List (List ℕ)) (start at : ℕ) (rows : List PartRow) → length (table_words ps codes start at rows) ≡ length rows
  as_many codes start at [] = refl
  as_many codes start at (r ∷ rows) = ap suc (as_many (drop 1 codes) (start + length (next_code codes)) (at + length (in_row data_bytes r)) rows)

  all_counted : (p : Parts) (codes : List (List ℕ)) (at : ℕ) (ts : List ℕ) → map length (tables_words ps p codes at ts) ≡ map (λ t. length (rows_of p t)) ts
  all_counted p codes at [] = refl
  all_counted p codes at (t ∷ ts) = λ i. (as_many codes 0 at (rows_of p t) i) ∷ (all_counted p codes (at + length (in_rows data_bytes (rows_of p t))) ts i)

rows_cut : (o : Option (List PartRow)) → length (unwrap_or (option_map (map row_cut) o) []) ≡ length (unwrap_or o [])
rows_cut None = refl
rows_cut (Some rows) = length-map rows row_cut

row_counts : (p : Parts) (t : ℕ) → length (rows_of (parts_cut p) t) ≡ length (rows_of p t)
row_counts p t = ap (λ (o : Option (List PartRow)). length (unwrap_or o [])) (slice_get-map (map row_cut) p.tables t) ∙ rows_cut (slice_get p.tables t)

counts_same : (p : Parts) (ts : List ℕ) → map (λ t. length (rows_of (parts_cut p) t)) ts ≡ map (λ t. length (rows_of p t)) ts
counts_same p [] = refl
counts_same p (t ∷ ts) = λ i. (row_counts p t i) ∷ (counts_same p ts i)

pub counts_stay : (p : Parts) (codes : List (List ℕ)) → counts_of (image_of_parts (parts_cut p) codes) ≡ counts_of (image_of_parts p codes)
counts_stay p codes =
    all_counted (pools_of (parts_cut p)) (parts_cut p) codes 0 tables
    ∙ counts_same p tables
    ∙ sym (all_counted (pools_of p) p codes 0 tables)

-- ---- of the codes the limits count their bytes alone

pub same_bytes : (p : Parts) (codes others : List (List ℕ)) → length (flat_map (λ c. c) codes) ≡ length (flat_map (λ c. c) others) → over_of_parts p codes ≡ over_of_parts p others
same_bytes p codes others same =
    let ps : PoolsOf = pools_of p in
    let counts : counts_of (image_of_parts p codes) ≡ counts_of (image_of_parts p others) = all_counted ps p codes 0 tables ∙ sym (all_counted ps p others 0 tables) in
    ap (λ ns. first_over 0 (ns ++ lengths_of (image_of_parts p codes))) counts
    ∙ ap (λ n. first_over 0 (counts_of (image_of_parts p others) ++ (length (pool_onto ps.strings []) ∷ length (pool_onto ps.signatures []) ∷ n ∷ length ps.data_pool ∷ []))) same
