-- Where parts pass none of the limits 0 to 10, few rows are kept of the tables that types are named in.
use Rattle.std.proofs.Common.{◌≡◌, ℕ, suc, ◌+◌, ◌<◌, ◌≤◌, Bool, true, false, List, [], ◌∷◌, map, length, Some, None, refl, ap, arith}
use Rattle.std.specs.Prelude.{nat_lt, if◌then◌else◌, drop}
use Rattle.std.proofs.lemmas.Bool.{ltb-false}
use Rattle.std.proofs.lemmas.List.{length-map}
use Rattle.kept_rows.specs.Select.{select}
use Rattle.assemblies.specs.Rows.{TypeRow, Assembly}
use Rattle.assemblies.specs.Chosen.{Choice, ref_to, type_row_to, raw_to, chosen}
use Rattle.assemblies.specs.Closed.{Each}
use Rattle.image_bytes.specs.Layout.{counts_of}
use Rattle.image_form.specs.Whole.{Methods}
use Rattle.msspot_write.specs.declared.parts.PartRow.{PartRow}
use Rattle.msspot_write.specs.declared.parts.Parts.{Parts}
use Rattle.msspot_write.specs.Parts.{PoolsOf, most, first_over, tables, rows_of, next_code, in_row, in_rows, data_bytes, table_words, tables_words, image_of_parts, pools_of}
use Rattle.msspot_write.specs.Spelt.{ref_part, type_parts, spec_part}
use Rattle.converted.specs.Images.{parts_of}
use Rattle.fitting_parts.proofs.TokenLaws.{TypesAreFew}

abbrev Few : ℕ → Type 0
Few n = n < 16384

-- of the limits 0 to 10
most_rows : (limit : ℕ) → limit < 11 → most limit ≤ 16383
most_rows limit lt = go (nat_lt limit 11) refl
  where
    go : (b : Bool) → nat_lt limit 11 ≡ b → (if b then 16383 else 65535) ≤ 16383
    go true e = omega arith
    go false e = let past = ltb-false limit 11 e in absurd (omega (arith, past, lt))

all_few : (limit : ℕ) (ns : List ℕ) → limit + length ns ≤ 11 → first_over limit ns ≡ None → Each Few ns
all_few limit [] top e = tt
all_few limit (n ∷ ns) top e = go (nat_lt (most limit) n) refl e (all_few (limit + 1) ns (omega (arith, top)))
  where
    go : (b : Bool) → nat_lt (most limit) n ≡ b → (if b then Some (record { number = limit; count = n; assembly = 0 }) else first_over (limit + 1) ns) ≡ None → (first_over (limit + 1) ns ≡ None → Each Few ns) → Each Few (n ∷ ns)
    go true over h later = absurd (cc h)
    go false within h later = let rows = most_rows limit (omega (arith, top)) in let fits = ltb-false (most limit) n within in (omega (arith, fits, rows), later h)

-- as many rows as the parts have
as_many : (ps : PoolsOf) (codes : List (List ℕ)) (start at : ℕ) (rs : List PartRow) → length (table_words ps codes start at rs) ≡ length rs
as_many ps codes start at [] = refl
as_many ps codes start at (r ∷ rs) = ap suc (as_many ps (drop 1 codes) (start + length (next_code codes)) (at + length (in_row data_bytes r)) rs)

each_table : (ps : PoolsOf) (p : Parts) (codes : List (List ℕ)) (at : ℕ) (ts : List ℕ) → Each Few (map length (tables_words ps p codes at ts)) → Each (λ t. Few (length (rows_of p t))) ts
each_table ps p codes at [] few = tt
each_table ps p codes at (t ∷ ts) few =
    let head = few.0 in
    let same = as_many ps codes 0 at (rows_of p t) in
    (omega (arith, head, same), each_table ps p codes (at + length (in_rows data_bytes (rows_of p t))) ts few.1)

tables_few : (p : Parts) (codes : List (List ℕ)) → first_over 0 (counts_of (image_of_parts p codes)) ≡ None → Each (λ t. Few (length (rows_of p t))) tables
tables_few p codes none = each_table (pools_of p) p codes 0 tables (all_few 0 (counts_of (image_of_parts p codes)) (omega arith) none)

type_count : (at : ℕ) (ts : List TypeRow) → length (type_parts at ts) ≡ length ts
type_count at [] = refl
type_count at (t ∷ ts) = ap suc (type_count (at + length t.interfaces) ts)

pub types_are_few : (k : Choice) (p : Assembly) (ms : Methods) (codes : List (List ℕ)) → first_over 0 (counts_of (image_of_parts (parts_of k p ms) codes)) ≡ None → TypesAreFew k p
types_are_few k p ms codes none =
    let few = tables_few (parts_of k p ms) codes none in
    let q : Assembly = chosen k p in
    let few_refs : length (map ref_part q.refs) < 16384 = few.1.0 in
    let few_types : length (type_parts 0 q.types) < 16384 = few.1.1.1.1.0 in
    let few_specs : length (map spec_part q.specs) < 16384 = few.1.1.1.1.1.1.1.1.1.0 in
    let ref_parts = length-map q.refs ref_part in
    let refs = length-map (select k.refs p.refs) (ref_to k) in
    let parts = type_count 0 q.types in
    let types = length-map (select k.types p.types) (type_row_to k) in
    let spec_parts = length-map q.specs spec_part in
    let specs = length-map (select k.specs p.specs) (raw_to k) in
    record {
      types = omega (arith, few_types, parts, types);
      refs = omega (arith, few_refs, ref_parts, refs);
      specs = omega (arith, few_specs, spec_parts, specs);
    }
