-- The limits of parts stay where numbers are cut, if the bytes of their signatures stay.
use Rattle.std.proofs.Common.{◌≡◌, ◌∙◌, ℕ, zero, suc, ◌+◌, ◌<◌, Bool, true, false, List, [], ◌∷◌, ◌++◌, map, length, Option, Some, None, refl, sym, ap}
use Rattle.std.specs.Prelude.{nat_lt, if◌then◌else◌, slice_get, unwrap_or}
use Rattle.std.specs.List.{flat_map}
use Rattle.std.specs.Option.{option_map}
use Rattle.std.proofs.lemmas.Option.{slice_get-map}
use Rattle.std.proofs.Math.Nat.{mod-eq_of_lt}
use Rattle.plain_types.specs.declared.fault.Limit.{Limit}
use Rattle.assemblies.specs.Closed.{Each}
use Rattle.image_bytes.specs.Layout.{counts_of}
use Rattle.image_pools.specs.Pools.{pool, pool_onto}
use Rattle.image_form.specs.Whole.{name_entry, signature_entry}
use Rattle.msspot_write.specs.declared.parts.Column.{Column}
use Rattle.msspot_write.specs.declared.parts.Column.TheVariants.{Number, Name, Signature, Data, Code}
use Rattle.msspot_write.specs.declared.parts.PartRow.{PartRow}
use Rattle.msspot_write.specs.declared.parts.PartLiteral.{PartLiteral}
use Rattle.msspot_write.specs.declared.parts.Parts.{Parts}
use Rattle.msspot_write.specs.Parts.{PoolsOf, rows_of, tables, in_rows, in_tables, names, signatures, data_bytes, literal_of, pools_of, image_of_parts, most, first_over, over_of_parts}
use Rattle.converted.specs.Cut.{one_byte}
use Rattle.converted.specs.Images.{column_cut, row_cut, parts_cut}
use Rattle.converted.proofs.CutLaws.{counts_stay}
use Rattle.kept_image.specs.Kept.{SignatureFits, SignaturesFit}

bytes_stay : (bytes : List ℕ) → Each (λ b. b < 256) bytes → map one_byte bytes ≡ bytes
bytes_stay [] each = refl
bytes_stay (b ∷ bytes) each = λ i. (mod-eq_of_lt each.0 i) ∷ (bytes_stay bytes each.1 i)

-- ---- what columns give

names_stay : (c : Column) → SignatureFits c → names (column_cut c) ≡ names c
names_stay (Number n) fits = refl
names_stay (Name text) fits = refl
names_stay (Signature bytes) fits = refl
names_stay (Data bytes) fits = refl
names_stay Code fits = refl

signatures_stay : (c : Column) → SignatureFits c → signatures (column_cut c) ≡ signatures c
signatures_stay (Number n) fits = refl
signatures_stay (Name text) fits = refl
signatures_stay (Signature bytes) fits = ap (λ bs. signature_entry bs ∷ []) (bytes_stay bytes fits)
signatures_stay (Data bytes) fits = refl
signatures_stay Code fits = refl

data_stay : (c : Column) → SignatureFits c → data_bytes (column_cut c) ≡ data_bytes c
data_stay (Number n) fits = refl
data_stay (Name text) fits = refl
data_stay (Signature bytes) fits = refl
data_stay (Data bytes) fits = refl
data_stay Code fits = refl

-- ---- by table, row and column

abbrev RowFits : PartRow → Type 0
RowFits r = Each SignatureFits r.columns

each_table : (ts : List (List PartRow)) (t : ℕ) → Each (λ (rows : List PartRow). Each RowFits rows) ts → Each RowFits (unwrap_or (slice_get ts t) [])
each_table [] t each = tt
each_table (rows ∷ ts) zero each = each.0
each_table (rows ∷ ts) (suc t) each = each_table ts t each.1

rows_cut : (o : Option (List PartRow)) → unwrap_or (option_map (map row_cut) o) [] ≡ map row_cut (unwrap_or o [])
rows_cut None = refl
rows_cut (Some rows) = refl

module _ {A : Type 0} (pick : Column → List A) (stay : (c : Column) → SignatureFits c → pick (column_cut c) ≡ pick c) where
  columns_same : (cs : List Column) → Each SignatureFits cs → flat_map pick (map column_cut cs) ≡ flat_map pick cs
  columns_same [] each = refl
  columns_same (c ∷ cs) each = λ i. (stay c each.0 i) ++ (columns_same cs each.1 i)

  rows_same : (rows : List PartRow) → Each RowFits rows → in_rows pick (map row_cut rows) ≡ in_rows pick rows
  rows_same [] each = refl
  rows_same (r ∷ rows) each = λ i. (columns_same r.columns each.0 i) ++ (rows_same rows each.1 i)

  module _ (p : Parts) (fits : SignaturesFit p) where
    table_same : (t : ℕ) → in_rows pick (rows_of (parts_cut p) t) ≡ in_rows pick (rows_of p t)
    table_same t =
        ap (λ (o : Option (List PartRow)). in_rows pick (unwrap_or o [])) (slice_get-map (map row_cut) p.tables t)
        ∙ ap (in_rows pick) (rows_cut (slice_get p.tables t))
        ∙ rows_same (rows_of p t) (each_table p.tables t fits)

    tables_same : (ts : List ℕ) → in_tables pick (parts_cut p) ts ≡ in_tables pick p ts
    tables_same [] = refl
    tables_same (t ∷ ts) = λ i. (table_same t i) ++ (tables_same ts i)

-- ---- the limits

pools_same : (p : Parts) → SignaturesFit p → pools_of (parts_cut p) ≡ pools_of p
pools_same p fits =
    λ i. record {
      strings = pool (name_entry p.name ∷ ((tables_same names names_stay p fits tables i) ++ map (λ (l : PartLiteral). literal_of l.text) p.literals));
      signatures = pool (tables_same signatures signatures_stay p fits tables i);
      data_pool = tables_same data_bytes data_stay p fits tables i;
    }

abbrev lengths : PoolsOf → List (List ℕ) → List ℕ
lengths ps codes = length (pool_onto ps.strings []) ∷ length (pool_onto ps.signatures []) ∷ length (flat_map (λ c. c) codes) ∷ length ps.data_pool ∷ []

over_first : (limit : ℕ) (xs ys : List ℕ) (l : Limit) → first_over limit xs ≡ Some l → first_over limit (xs ++ ys) ≡ Some l
over_first limit [] ys l e = absurd (cc e)
over_first limit (x ∷ xs) ys l e = go (nat_lt (most limit) x) e (λ f. over_first (limit + 1) xs ys l f)
  where
    go : (b : Bool) → (if b then Some (record { number = limit; count = x; assembly = 0 }) else first_over (limit + 1) xs) ≡ Some l → (first_over (limit + 1) xs ≡ Some l → first_over (limit + 1) (xs ++ ys) ≡ Some l) → (if b then Some (record { number = limit; count = x; assembly = 0 }) else first_over (limit + 1) (xs ++ ys)) ≡ Some l
    go true e rest = e
    go false e rest = rest e

-- behind the counts of tables
behind : (p : Parts) (codes : List (List ℕ)) (counts : List ℕ) (o : Option Limit) → first_over 0 counts ≡ o → (o ≡ None → SignaturesFit p) → first_over 0 (counts ++ lengths (pools_of (parts_cut p)) codes) ≡ first_over 0 (counts ++ lengths (pools_of p) codes)
behind p codes counts None none fits = ap (λ (ps : PoolsOf). first_over 0 (counts ++ lengths ps codes)) (pools_same p (fits refl))
behind p codes counts (Some l) some fits =
    over_first 0 counts (lengths (pools_of (parts_cut p)) codes) l some
    ∙ sym (over_first 0 counts (lengths (pools_of p) codes) l some)

pub limits_stay : (p : Parts) (codes : List (List ℕ)) → (first_over 0 (counts_of (image_of_parts p codes)) ≡ None → SignaturesFit p) → over_of_parts (parts_cut p) codes ≡ over_of_parts p codes
limits_stay p codes fits =
    ap (λ ns. first_over 0 (ns ++ lengths (pools_of (parts_cut p)) codes)) (counts_stay p codes)
    ∙ behind p codes (counts_of (image_of_parts p codes)) (first_over 0 (counts_of (image_of_parts p codes))) refl fits
