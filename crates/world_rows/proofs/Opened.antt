-- The rows of a file that opens keep rule 12.
use Rattle.std.proofs.Common.{◌≡◌, ◌≢◌, ◌⊎◌, ⊎_elim, ℕ, zero, suc, ◌+◌, ◌<◌, ◌≤◌, Bool, true, false, List, [], ◌∷◌, ◌++◌, map, Option, Some, None, refl, sym, ap, ◌∙◌, subst, arith, cond}
use Rattle.std.specs.Prelude.{slice_get, Result, Ok, Err}
use Rattle.std.specs.List.{flat_map, range_with_len}
use Rattle.std.proofs.lemmas.Bool.{cases_eq}
use Rattle.plain_types.specs.declared.fault.Fault.{Fault}
use Rattle.file_tables.specs.declared.schema.TheConstants.{LOOKED_AT}
use Rattle.file_tables.specs.Rules.{Rule, rule_at, rule_of_row, first_broken, unless_broken}
use Rattle.file_tables.specs.Pe.{PePart, pe_of}
use Rattle.file_tables.specs.Streams.{is_root, streams_of, rules_of_streams}
use Rattle.file_tables.specs.Metadata.{MetadataPart, row_count, is_row, rules_of_rows, has_one_assembly, rules_of_tables, tables_begin, tables_end, has_tables, is_tables_header, has_rows, metadata_rules, metadata_part, metadata_of}
use Rattle.file_tables.specs.File.{FilePart, with_metadata, after_pe, file_of}
use Rattle.world_rows.specs.Tokens.{type_defs}
use Rattle.world_rows.specs.Read.{TypesStand}

-- ---- lists of rules of which none is broken

tail_kept : (r : Rule) (rs : List Rule) → first_broken (r ∷ rs) ≡ None → (r.is_kept ≡ true) × (first_broken rs ≡ None)
tail_kept r rs e = by r.is_kept refl e
  where
    by : (b : Bool) → r.is_kept ≡ b → cond b (first_broken rs) (Some r.fault) ≡ None → (r.is_kept ≡ true) × (first_broken rs ≡ None)
    by true k h = (k, h)
    by false k h = absurd (cc h)

parts_kept : (xs ys : List Rule) → first_broken (xs ++ ys) ≡ None → (first_broken xs ≡ None) × (first_broken ys ≡ None)
parts_kept [] ys e = (refl, e)
parts_kept (x ∷ xs) ys e =
    let t = tail_kept x (xs ++ ys) e in
    let r = parts_kept xs ys t.1 in
    (ap (λ b. cond b (first_broken xs) (Some x.fault)) t.0 ∙ r.0, r.1)

each_kept : (f : ℕ → Rule) (a n k : ℕ) → first_broken (map f (range_with_len a n)) ≡ None → a ≤ k → k < a + n → (f k).is_kept ≡ true
each_kept f a zero k e low high = absurd (omega (arith, low, high))
each_kept f a (suc n) k e low high =
    let t = tail_kept (f a) (map f (range_with_len (a + 1) n)) e in
    ⊎_elim (λ same. subst (λ z. (f z).is_kept ≡ true) (sym same) t.0) (λ apart. each_kept f (a + 1) n k t.1 (omega (arith, low, apart)) (omega (arith, high))) (cases_eq k a)

table_kept : (f : ℕ → List Rule) (tables : List ℕ) (i table : ℕ) → first_broken (flat_map f tables) ≡ None → slice_get tables i ≡ Some table → first_broken (f table) ≡ None
table_kept f [] i table e at = absurd (cc at)
table_kept f (t ∷ ts) zero table e at = let same : t ≡ table = cc at in subst (λ z. first_broken (f z) ≡ None) same (parts_kept (f t) (flat_map f ts) e).0
table_kept f (t ∷ ts) (suc i) table e at = table_kept f ts i table (parts_kept (f t) (flat_map f ts) e).1 at

-- ---- the metadata, and the file

rows_kept : (m : MetadataPart) (i table row : ℕ) → first_broken (rules_of_tables m) ≡ None → slice_get LOOKED_AT i ≡ Some table → row ≤ row_count m table → is_row m table row ≡ true
unfolding rules_of_tables rules_of_rows is_row
rows_kept m i table zero e at below = refl
rows_kept m i table (suc row) e at below =
    let tables = (parts_kept (flat_map (rules_of_rows m) LOOKED_AT) (rule_at 13 0 (has_one_assembly m) ∷ []) e).0 in
    each_kept (λ row. rule_of_row 12 table row (is_row m table row)) 1 (row_count m table) (suc row) (table_kept (rules_of_rows m) LOOKED_AT i table tables at) (omega arith) (omega (arith, below))

unbroken : {A : Type 0} (o : Option Fault) (parts m : A) → unless_broken o parts ≡ Ok m → (o ≡ None) × (parts ≡ m)
unbroken None parts m e = (refl, let same : parts ≡ m = cc e in same)
unbroken (Some fault) parts m e = absurd (cc e)

metadata_kept : (region : List ℕ) (m : MetadataPart) → metadata_of region ≡ Ok m → first_broken (rules_of_tables m) ≡ None
unfolding metadata_of metadata_rules
metadata_kept region m e =
    let u = unbroken (first_broken (metadata_rules region)) (metadata_part region) m e in
    let last = rules_of_tables (metadata_part region) in
    let rows = rule_at 11 (tables_end region) (has_rows region) ∷ last in
    let header = rule_at 10 (tables_begin region) (is_tables_header region) ∷ rows in
    let tables = rule_at 9 0 (has_tables region) ∷ header in
    let a = tail_kept (rule_at 8 0 (is_root region)) (rules_of_streams region [] (streams_of region) ++ tables) u.0 in
    let b = parts_kept (rules_of_streams region [] (streams_of region)) tables a.1 in
    let c = tail_kept (rule_at 9 0 (has_tables region)) header b.1 in
    let d = tail_kept (rule_at 10 (tables_begin region) (is_tables_header region)) rows c.1 in
    let f = tail_kept (rule_at 11 (tables_end region) (has_rows region)) last d.1 in
    subst (λ z. first_broken (rules_of_tables z) ≡ None) u.1 f.1

file_kept : (bytes : List ℕ) (x : FilePart) → file_of bytes ≡ Ok x → first_broken (rules_of_tables x.metadata) ≡ None
unfolding file_of after_pe with_metadata
file_kept bytes x e = by (pe_of bytes) e
  where
    of_metadata : (pe : PePart) (o : Result MetadataPart Fault) → metadata_of pe.region ≡ o → with_metadata pe o ≡ Ok x → first_broken (rules_of_tables x.metadata) ≡ None
    of_metadata pe (Err fault) k h = absurd (cc h)
    of_metadata pe (Ok m) k h = let same : m ≡ x.metadata = (let z : FilePart = record { pe = pe; metadata = m } in let whole : z ≡ x = cc h in ap (λ (z : FilePart). z.metadata) whole) in subst (λ z. first_broken (rules_of_tables z) ≡ None) same (metadata_kept pe.region m k)

    by : (o : Result PePart Fault) → after_pe o ≡ Ok x → first_broken (rules_of_tables x.metadata) ≡ None
    by (Err fault) h = absurd (cc h)
    by (Ok pe) h = of_metadata pe (metadata_of pe.region) refl h

pub opened : (bytes : List ℕ) (x : FilePart) (i table row : ℕ) → file_of bytes ≡ Ok x → slice_get LOOKED_AT i ≡ Some table → row ≤ row_count x.metadata table → is_row x.metadata table row ≡ true
opened bytes x i table row e at below = rows_kept x.metadata i table row (file_kept bytes x e) at below

pub types_stand : (xs : List FilePart) → ((f : ℕ) (x : FilePart) → slice_get xs f ≡ Some x → (bytes : List ℕ) × (file_of bytes ≡ Ok x)) → TypesStand xs
types_stand xs files f x at row below = let file = files f x at in opened file.0 x 1 type_defs row file.1 refl below
