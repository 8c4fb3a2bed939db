-- The image of the parts that spell rows is the image that is laid for the rows.
use Rattle.std.proofs.Common.{◌≡◌, ℕ, ◌+◌, Bool, true, false, List, [], ◌∷◌, ◌++◌, map, length, Option, Some, None, refl, ap, ◌∙◌, append_assoc, arith}
use Rattle.std.specs.Prelude.{drop, if◌then◌else◌}
use Rattle.std.specs.List.{flat_map}
use Rattle.std.proofs.lemmas.List.{append-nil, map-append}
use Rattle.machine.specs.Program.{Body, native_number}
use Rattle.classes.specs.Classes.{FieldKind}
use Rattle.assemblies.specs.Chosen.{first_of}
use Rattle.assemblies.specs.Rows.{RawType, AssemblyRow, TypeRefRow, FieldRefRow, MethodRefRow, TypeRow, FieldRow, RawOperand, RawNothing, RawNumber, RawTargets, RawTypeOf, RawField, RawMethod, RawText, RawLine, RawKind, RawCatch, RawFinally, RawOther, RawClause, RawCode, MethodRow, Assembly}
use Rattle.image_bytes.specs.Layout.{Image}
use Rattle.image_pools.specs.Pools.{pool, offset, pool_onto}
use Rattle.image_form.specs.Signatures.{raw_onto, signature_onto, locals_onto}
use Rattle.image_form.specs.Form.{or_none, method_flags, is_native, Offsets, Manner, raw_word, signature_word, locals_word, assembly_row, ref_row, field_ref_row, method_ref_row, type_row, type_rows, interface_row, field_words, field_row, field_rows, clause_words, clause_row, spec_row, body_words, method_rows, bytes_in, clauses_in, data_of, data_rows}
use Rattle.image_form.specs.Whole.{name_entry, literal_entry, signature_entry, literals, literals_in, locals_entry, Methods, strings_walk, signatures_walk, interfaces_of, clauses_of, datas_of, laid}
use Rattle.msspot_write.specs.declared.parts.Column.{Column}
use Rattle.msspot_write.specs.declared.parts.Column.TheVariants.{Number, Signature, Code}
use Rattle.msspot_write.specs.declared.parts.PartRow.{PartRow}
use Rattle.msspot_write.specs.declared.parts.PartLiteral.{PartLiteral}
use Rattle.msspot_write.specs.Parts.{rows_of, tables, in_row, in_rows, in_tables, names, signatures, data_bytes, literal_of, strings_walk_of, signatures_walk_of, PoolsOf, pools_of, next_code, row_words, table_words, tables_words, image_of_parts}
use Rattle.msspot_write.specs.Spelt.{numbers, assembly_part, ref_part, field_ref_part, method_ref_part, type_part, type_parts, interface_part, field_numbers, field_part, field_parts, locals_column, body_columns, method_part, method_parts, clause_numbers, clause_part, spec_part, data_part, operand_parts, code_parts, literal_parts, parts_for, codes_for, BodyFits, BodiesFit}

both : {A : Type 0} {x y : A} {xs ys : List A} → x ≡ y → xs ≡ ys → x ∷ xs ≡ y ∷ ys
both p q = λ i. p i ∷ q i

joins : {A : Type 0} {a b c d : List A} → a ≡ b → c ≡ d → a ++ c ≡ b ++ d
joins p q = λ i. p i ++ q i

abbrev offsets_of : PoolsOf → Offsets
offsets_of ps =
    record { name = λ n. offset ps.strings (name_entry n); literal = λ us. offset ps.strings (literal_entry us); signature = λ b. offset ps.signatures (signature_entry b) }

-- ---- rows

module _ (ps : PoolsOf) where
  numbers_law : (s c i at : ℕ) (ns : List ℕ) → row_words ps s c i at (numbers ns) ≡ ns
  numbers_law s c i at [] = refl
  numbers_law s c i at (n ∷ ns) = ap (λ ws. n ∷ ws) (numbers_law s c (i + 1) (at + 0) ns)

  rows_law : {X : Type 0} (part : X → PartRow) (row : X → List ℕ) → ((s c at : ℕ) (x : X) → row_words ps s c 0 at (part x).columns ≡ row x) → (codes : List (List ℕ)) (start at : ℕ) (xs : List X) → table_words ps codes start at (map part xs) ≡ map row xs
  rows_law part row h codes start at [] = refl
  rows_law part row h codes start at (x ∷ xs) =
      both (h start (length (next_code codes)) at x) (rows_law part row h (drop 1 codes) (start + length (next_code codes)) (at + length (in_row data_bytes (part x))) xs)

  assembly_law : (s c at : ℕ) (a : AssemblyRow) → row_words ps s c 0 at (assembly_part a).columns ≡ assembly_row (offsets_of ps) a
  assembly_law s c at a = ap (λ ws. offset ps.strings (name_entry a.name) ∷ ws) (numbers_law s c 1 (at + 0) a.version)

  type_law : (s c at k : ℕ) (t : TypeRow) → row_words ps s c 0 at (type_part k t).columns ≡ type_row (offsets_of ps) k t
  type_law s c at k t = refl

  types_law : (codes : List (List ℕ)) (start at k : ℕ) (ts : List TypeRow) → table_words ps codes start at (type_parts k ts) ≡ type_rows (offsets_of ps) k ts
  types_law codes start at k [] = refl
  types_law codes start at k (t ∷ ts) =
      both (type_law start (length (next_code codes)) at k t) (types_law (drop 1 codes) (start + length (next_code codes)) (at + length (in_row data_bytes (type_part k t))) (k + length t.interfaces) ts)

  kind_law : (n : ℕ) (k : FieldKind) → field_numbers n k ≡ field_words (offsets_of ps) n k
  kind_law n FieldKind.InstanceField = refl
  kind_law n FieldKind.StaticField = refl
  kind_law n FieldKind.LiteralField = refl
  kind_law n (FieldKind.DataField bytes) = refl

  field_law : (s c at n : ℕ) (f : FieldRow) → row_words ps s c 0 at (field_part n f).columns ≡ field_row (offsets_of ps) n f
  field_law s c at n f =
      ap (λ ws. offset ps.strings (name_entry f.name) ∷ raw_word (offsets_of ps) f.signature ∷ ws) (numbers_law s c 2 (at + 0 + 0) (field_numbers n f.kind) ∙ kind_law n f.kind)

  fields_law : (codes : List (List ℕ)) (start at n : ℕ) (fs : List FieldRow) → table_words ps codes start at (field_parts n fs) ≡ field_rows (offsets_of ps) n fs
  fields_law codes start at n [] = refl
  fields_law codes start at n (f ∷ fs) =
      both (field_law start (length (next_code codes)) at n f) (fields_law (drop 1 codes) (start + length (next_code codes)) (at + length (in_row data_bytes (field_part n f))) (n + length (data_of f.kind)) fs)

  locals_law : (s c at : ℕ) (b : Bool) (ts : List RawType) (ns : List ℕ) → row_words ps s c 5 at (locals_column b ts ∷ numbers ns) ≡ locals_word (offsets_of ps) b ts ∷ ns
  locals_law s c at true ts ns = ap (λ ws. offset ps.signatures (signature_entry (locals_onto ts [])) ∷ ws) (numbers_law s c 6 (at + 0) ns)
  locals_law s c at false ts ns = ap (λ ws. 65535 ∷ ws) (numbers_law s c 6 (at + 0) ns)

  body_law : (s at clause : ℕ) (k : Manner) (b : Body) (c : Option RawCode) → BodyFits b c → row_words ps s (length (bytes_in (offsets_of ps) k c)) 3 at (body_columns clause k b c) ≡ body_words (offsets_of ps) s clause k b c
  body_law s at clause k (Body.Native name) None fit = refl
  body_law s at clause k (Body.Native name) (Some c) fit = absurd fit
  body_law s at clause k Body.Code None fit = refl
  body_law s at clause k Body.Missing None fit = refl
  body_law s at clause k Body.Code (Some c) fit =
      ap (λ ws. s ∷ length (bytes_in (offsets_of ps) k (Some c)) ∷ ws) (locals_law s (length (bytes_in (offsets_of ps) k (Some c))) (at + 0 + 0) k.has_locals c.locals (c.max_stack ∷ first_of clause (length c.clauses) ∷ length c.clauses ∷ []))
  body_law s at clause k Body.Missing (Some c) fit =
      ap (λ ws. s ∷ length (bytes_in (offsets_of ps) k (Some c)) ∷ ws) (locals_law s (length (bytes_in (offsets_of ps) k (Some c))) (at + 0 + 0) k.has_locals c.locals (c.max_stack ∷ first_of clause (length c.clauses) ∷ length c.clauses ∷ []))

  abbrev codes_by : Methods → List (List ℕ)
  codes_by ms = map (λ x. bytes_in (offsets_of ps) x.0 x.1.code) ms

  methods_law : (start at clause : ℕ) (ms : Methods) → BodiesFit ms → table_words ps (codes_by ms) start at (method_parts clause ms) ≡ method_rows (offsets_of ps) start clause ms
  methods_law start at clause [] fit = refl
  methods_law start at clause (x ∷ xs) fit =
      let m : MethodRow = x.1 in
      both
      (ap (λ ws. offset ps.strings (name_entry m.name) ∷ signature_word (offsets_of ps) m.signature ∷ method_flags m.is_static m.is_virtual m.is_newslot m.is_abstract (is_native m.body) ∷ ws)
      (body_law start (at + 0 + 0 + 0) clause x.0 m.body m.code fit.0))
      (methods_law (start + length (bytes_in (offsets_of ps) x.0 m.code)) (at + length (in_row data_bytes (method_part clause x.0 m))) (clause + length (clauses_in m.code)) xs fit.1)

  clause_kind_law : (k : RawKind) (places : List ℕ) → clause_numbers k places ≡ clause_words (offsets_of ps) k ++ places
  clause_kind_law (RawCatch t) places = refl
  clause_kind_law RawFinally places = refl
  clause_kind_law RawOther places = refl

  clause_law : (s c at : ℕ) (k : RawClause) → row_words ps s c 0 at (clause_part k).columns ≡ clause_row (offsets_of ps) k
  clause_law s c at k =
      let places : List ℕ = k.try_start ∷ k.try_end ∷ k.start ∷ k.end ∷ [] in
      numbers_law s c 0 at (clause_numbers k.kind places) ∙ clause_kind_law k.kind places

  datas_law : (codes : List (List ℕ)) (start at : ℕ) (ds : List (List ℕ)) → table_words ps codes start at (map data_part ds) ≡ data_rows at ds
  datas_law codes start at [] = refl
  datas_law codes start at (d ∷ ds) =
      ap (λ ws. (at ∷ length d ∷ []) ∷ ws)
      (ap (λ (l : List ℕ). table_words ps (drop 1 codes) (start + length (next_code codes)) (at + length l) (map data_part ds)) (append-nil d)
      ∙ datas_law (drop 1 codes) (start + length (next_code codes)) (at + length d) ds)

-- ---- walks

module _ {A : Type 0} (pick : Column → List A) where
  numbers_none : ((n : ℕ) → pick (Number n) ≡ []) → (ns : List ℕ) → flat_map pick (numbers ns) ≡ []
  numbers_none h [] = refl
  numbers_none h (n ∷ ns) = joins (h n) (numbers_none h ns)

  rows_walk : {X : Type 0} (part : X → PartRow) (g : X → List A) → ((x : X) → in_row pick (part x) ≡ g x) → (xs : List X) → in_rows pick (map part xs) ≡ flat_map g xs
  rows_walk part g h [] = refl
  rows_walk part g h (x ∷ xs) = joins (h x) (rows_walk part g h xs)

  rows_one : {X : Type 0} (part : X → PartRow) (g : X → A) → ((x : X) → in_row pick (part x) ≡ g x ∷ []) → (xs : List X) → in_rows pick (map part xs) ≡ map g xs
  rows_one part g h [] = refl
  rows_one part g h (x ∷ xs) = joins (h x) (rows_one part g h xs)

  rows_none : {X : Type 0} (part : X → PartRow) → ((x : X) → in_row pick (part x) ≡ []) → (xs : List X) → in_rows pick (map part xs) ≡ []
  rows_none part h [] = refl
  rows_none part h (x ∷ xs) = joins (h x) (rows_none part h xs)

-- what neither a number nor code gives
record Skips {A : Type 0} (pick : Column → List A) : Type 0 where
  number : (n : ℕ) → pick (Number n) ≡ []
  code : pick Code ≡ []

names_skip : Skips names
names_skip = record { number = λ n. refl; code = refl }

signatures_skip : Skips signatures
signatures_skip = record { number = λ n. refl; code = refl }

data_skip : Skips data_bytes
data_skip = record { number = λ n. refl; code = refl }

-- ---- names

types_names : (k : ℕ) (ts : List TypeRow) → in_rows names (type_parts k ts) ≡ flat_map (λ (t : TypeRow). name_entry t.namespace ∷ name_entry t.name ∷ []) ts
types_names k [] = refl
types_names k (t ∷ ts) = ap (λ es. name_entry t.namespace ∷ name_entry t.name ∷ es) (types_names (k + length t.interfaces) ts)

fields_names : (n : ℕ) (fs : List FieldRow) → in_rows names (field_parts n fs) ≡ map (λ (f : FieldRow). name_entry f.name) fs
fields_names n [] = refl
fields_names n (f ∷ fs) =
    joins (ap (λ es. name_entry f.name ∷ es) (numbers_none names names_skip.number (field_numbers n f.kind))) (fields_names (n + length (data_of f.kind)) fs)

module _ {A : Type 0} (pick : Column → List A) (skips : Skips pick) where
  -- a body has neither names nor data
  body_none : ((b : List ℕ) → pick (Signature b) ≡ []) → (clause : ℕ) (k : Manner) (b : Body) (c : Option RawCode) → flat_map pick (body_columns clause k b c) ≡ []
  body_none h clause k (Body.Native name) c = numbers_none pick skips.number (native_number name ∷ 0 ∷ 65535 ∷ 0 ∷ 0 ∷ 0 ∷ [])
  body_none h clause k Body.Code None = numbers_none pick skips.number (65535 ∷ 0 ∷ 65535 ∷ 0 ∷ 0 ∷ 0 ∷ [])
  body_none h clause k Body.Missing None = numbers_none pick skips.number (65535 ∷ 0 ∷ 65535 ∷ 0 ∷ 0 ∷ 0 ∷ [])
  body_none h clause k Body.Code (Some c) =
      joins skips.code (joins skips.code (joins (column k.has_locals) (numbers_none pick skips.number (c.max_stack ∷ first_of clause (length c.clauses) ∷ length c.clauses ∷ []))))
    where
      column : (b : Bool) → pick (locals_column b c.locals) ≡ []
      column true = h (locals_onto c.locals [])
      column false = skips.number 65535
  body_none h clause k Body.Missing (Some c) =
      joins skips.code (joins skips.code (joins (column k.has_locals) (numbers_none pick skips.number (c.max_stack ∷ first_of clause (length c.clauses) ∷ length c.clauses ∷ []))))
    where
      column : (b : Bool) → pick (locals_column b c.locals) ≡ []
      column true = h (locals_onto c.locals [])
      column false = skips.number 65535

methods_names : (clause : ℕ) (ms : Methods) → in_rows names (method_parts clause ms) ≡ map (λ (x : Manner × MethodRow). name_entry x.1.name) ms
methods_names clause [] = refl
methods_names clause (x ∷ xs) =
    let m : MethodRow = x.1 in
    joins (ap (λ es. name_entry m.name ∷ es) (body_none names names_skip (λ b. refl) clause x.0 m.body m.code)) (methods_names (clause + length (clauses_in m.code)) xs)

-- ---- signatures

types_signatures : (k : ℕ) (ts : List TypeRow) → in_rows signatures (type_parts k ts) ≡ []
types_signatures k [] = refl
types_signatures k (t ∷ ts) = types_signatures (k + length t.interfaces) ts

fields_signatures : (n : ℕ) (fs : List FieldRow) → in_rows signatures (field_parts n fs) ≡ map (λ (f : FieldRow). signature_entry (raw_onto f.signature [])) fs
fields_signatures n [] = refl
fields_signatures n (f ∷ fs) =
    joins (ap (λ es. signature_entry (raw_onto f.signature []) ∷ es) (numbers_none signatures signatures_skip.number (field_numbers n f.kind))) (fields_signatures (n + length (data_of f.kind)) fs)

body_signatures : (clause : ℕ) (k : Manner) (b : Body) (c : Option RawCode) → BodyFits b c → flat_map signatures (body_columns clause k b c) ≡ locals_entry k c
body_signatures clause k (Body.Native name) None fit = refl
body_signatures clause k (Body.Native name) (Some c) fit = absurd fit
body_signatures clause k Body.Code None fit = refl
body_signatures clause k Body.Missing None fit = refl
body_signatures clause k Body.Code (Some c) fit = column k.has_locals
  where
    column : (b : Bool) → signatures (locals_column b c.locals) ++ [] ≡ (if b then signature_entry (locals_onto c.locals []) ∷ [] else [])
    column true = refl
    column false = refl
body_signatures clause k Body.Missing (Some c) fit = column k.has_locals
  where
    column : (b : Bool) → signatures (locals_column b c.locals) ++ [] ≡ (if b then signature_entry (locals_onto c.locals []) ∷ [] else [])
    column true = refl
    column false = refl

methods_signatures : (clause : ℕ) (ms : Methods) → BodiesFit ms → in_rows signatures (method_parts clause ms) ≡ flat_map (λ (x : Manner × MethodRow). signature_entry (signature_onto x.1.signature []) ∷ locals_entry x.0 x.1.code) ms
methods_signatures clause [] fit = refl
methods_signatures clause (x ∷ xs) fit =
    let m : MethodRow = x.1 in
    joins (ap (λ es. signature_entry (signature_onto m.signature []) ∷ es) (body_signatures clause x.0 m.body m.code fit.0)) (methods_signatures (clause + length (clauses_in m.code)) xs fit.1)

-- ---- data

types_data : (k : ℕ) (ts : List TypeRow) → in_rows data_bytes (type_parts k ts) ≡ []
types_data k [] = refl
types_data k (t ∷ ts) = types_data (k + length t.interfaces) ts

fields_data : (n : ℕ) (fs : List FieldRow) → in_rows data_bytes (field_parts n fs) ≡ []
fields_data n [] = refl
fields_data n (f ∷ fs) = joins (numbers_none data_bytes data_skip.number (field_numbers n f.kind)) (fields_data (n + length (data_of f.kind)) fs)

methods_data : (clause : ℕ) (ms : Methods) → in_rows data_bytes (method_parts clause ms) ≡ []
methods_data clause [] = refl
methods_data clause (x ∷ xs) =
    let m : MethodRow = x.1 in
    joins (body_none data_bytes data_skip (λ b. refl) clause x.0 m.body m.code) (methods_data (clause + length (clauses_in m.code)) xs)

datas_data : (ds : List (List ℕ)) → in_rows data_bytes (map data_part ds) ≡ flat_map (λ d. d) ds
datas_data ds = rows_walk data_bytes data_part (λ d. d) append-nil ds

clause_skips : {A : Type 0} (pick : Column → List A) → Skips pick → (c : RawClause) → in_row pick (clause_part c) ≡ []
clause_skips pick skips c = numbers_none pick skips.number (clause_numbers c.kind (c.try_start ∷ c.try_end ∷ c.start ∷ c.end ∷ []))

-- ---- literals

literals_law : (n : ℕ) (ms : Methods) → map (λ (l : PartLiteral). literal_of l.text) (literal_parts n ms) ≡ flat_map (λ (x : Manner × MethodRow). literals_in x.1.code) ms
literals_law n [] = refl
literals_law n (x ∷ xs) = map-append (λ (l : PartLiteral). literal_of l.text) (code_parts n x.1.code) (literal_parts (n + 1) xs) ∙ joins (code_law x.1.code) (literals_law (n + 1) xs)
  where
    operand_law : (at : ℕ) (o : RawOperand) → map (λ (l : PartLiteral). literal_of l.text) (operand_parts n at o) ≡ literals o
    operand_law at RawNothing = refl
    operand_law at (RawNumber z) = refl
    operand_law at (RawTargets to) = refl
    operand_law at (RawTypeOf t) = refl
    operand_law at (RawField t) = refl
    operand_law at (RawMethod t) = refl
    operand_law at (RawText units) = refl

    lines_law : (ls : List RawLine) → map (λ (l : PartLiteral). literal_of l.text) (flat_map (λ (l : RawLine). operand_parts n l.at l.operand) ls) ≡ flat_map (λ (l : RawLine). literals l.operand) ls
    lines_law [] = refl
    lines_law (l ∷ ls) =
        map-append (λ (l : PartLiteral). literal_of l.text) (operand_parts n l.at l.operand) (flat_map (λ (l : RawLine). operand_parts n l.at l.operand) ls)
        ∙ joins (operand_law l.at l.operand) (lines_law ls)

    code_law : (c : Option RawCode) → map (λ (l : PartLiteral). literal_of l.text) (code_parts n c) ≡ literals_in c
    code_law None = refl
    code_law (Some c) = lines_law c.lines

-- ---- the whole walks

-- eleven lists, of which some are empty, before one more
regroup : {A : Type 0} (a b c d e f g l : List A) → (a ++ (b ++ (c ++ (d ++ (e ++ (f ++ (g ++ []))))))) ++ l ≡ a ++ (b ++ (c ++ (d ++ (e ++ (f ++ (g ++ l))))))
regroup a b c d e f g l =
    append_assoc a (b ++ (c ++ (d ++ (e ++ (f ++ (g ++ [])))))) l
    ∙ ap (λ ys. a ++ ys)
    (append_assoc b (c ++ (d ++ (e ++ (f ++ (g ++ []))))) l
    ∙ ap (λ ys. b ++ ys)
    (append_assoc c (d ++ (e ++ (f ++ (g ++ [])))) l
    ∙ ap (λ ys. c ++ ys)
    (append_assoc d (e ++ (f ++ (g ++ []))) l
    ∙ ap (λ ys. d ++ ys) (append_assoc e (f ++ (g ++ [])) l ∙ ap (λ ys. e ++ ys) (append_assoc f (g ++ []) l ∙ ap (λ ys. f ++ ys) (append_assoc g [] l))))))

module _ (p : Assembly) (ms : Methods) where
  tables_names : in_tables names (parts_for p ms) tables
      ≡ map (λ (a : AssemblyRow). name_entry a.name) p.assemblies
      ++ (flat_map (λ (r : TypeRefRow). name_entry r.namespace ∷ name_entry r.name ∷ []) p.refs
      ++ (map (λ (r : FieldRefRow). name_entry r.name) p.field_refs
      ++ (map (λ (r : MethodRefRow). name_entry r.name) p.method_refs
      ++ (flat_map (λ (t : TypeRow). name_entry t.namespace ∷ name_entry t.name ∷ []) p.types
      ++ (map (λ (f : FieldRow). name_entry f.name) p.fields
      ++ (map (λ (x : Manner × MethodRow). name_entry x.1.name) ms ++ []))))))
  tables_names =
      joins (rows_one names assembly_part (λ (a : AssemblyRow). name_entry a.name) (λ a. ap (λ es. name_entry a.name ∷ es) (numbers_none names names_skip.number a.version)) p.assemblies)
      (joins (rows_walk names ref_part (λ (r : TypeRefRow). name_entry r.namespace ∷ name_entry r.name ∷ []) (λ r. refl) p.refs)
      (joins (rows_one names field_ref_part (λ (r : FieldRefRow). name_entry r.name) (λ r. refl) p.field_refs)
      (joins (rows_one names method_ref_part (λ (r : MethodRefRow). name_entry r.name) (λ r. refl) p.method_refs)
      (joins (types_names 0 p.types)
      (joins (rows_none names interface_part (λ t. refl) (interfaces_of p))
      (joins (fields_names 0 p.fields)
      (joins (methods_names 0 ms)
      (joins (rows_none names clause_part (clause_skips names names_skip) (clauses_of ms))
      (joins (rows_none names spec_part (λ s. refl) p.specs)
      (joins (rows_none names data_part (λ d. refl) (datas_of p)) refl))))))))))

  strings_law : strings_walk_of (parts_for p ms) ≡ strings_walk p ms
  strings_law =
      ap (λ es. name_entry p.name ∷ es)
      (joins tables_names (literals_law 0 ms)
      ∙ regroup
      (map (λ (a : AssemblyRow). name_entry a.name) p.assemblies)
      (flat_map (λ (r : TypeRefRow). name_entry r.namespace ∷ name_entry r.name ∷ []) p.refs)
      (map (λ (r : FieldRefRow). name_entry r.name) p.field_refs)
      (map (λ (r : MethodRefRow). name_entry r.name) p.method_refs)
      (flat_map (λ (t : TypeRow). name_entry t.namespace ∷ name_entry t.name ∷ []) p.types)
      (map (λ (f : FieldRow). name_entry f.name) p.fields)
      (map (λ (x : Manner × MethodRow). name_entry x.1.name) ms)
      (flat_map (λ (x : Manner × MethodRow). literals_in x.1.code) ms))

  module _ (fit : BodiesFit ms) where
    signatures_law : signatures_walk_of (parts_for p ms) ≡ signatures_walk p ms
    signatures_law =
        joins (rows_none signatures assembly_part (λ a. numbers_none signatures signatures_skip.number a.version) p.assemblies)
        (joins (rows_none signatures ref_part (λ r. refl) p.refs)
        (joins (rows_one signatures field_ref_part (λ (r : FieldRefRow). signature_entry (raw_onto r.signature [])) (λ r. refl) p.field_refs)
        (joins (rows_one signatures method_ref_part (λ (r : MethodRefRow). signature_entry (signature_onto r.signature [])) (λ r. refl) p.method_refs)
        (joins (types_signatures 0 p.types)
        (joins (rows_none signatures interface_part (λ t. refl) (interfaces_of p))
        (joins (fields_signatures 0 p.fields)
        (joins (methods_signatures 0 ms fit)
        (joins (rows_none signatures clause_part (clause_skips signatures signatures_skip) (clauses_of ms))
        (joins (rows_one signatures spec_part (λ (s : RawType). signature_entry (raw_onto s [])) (λ s. refl) p.specs)
        (joins (rows_none signatures data_part (λ d. refl) (datas_of p)) refl))))))))))
        ∙ ap (λ es. map (λ (r : FieldRefRow). signature_entry (raw_onto r.signature [])) p.field_refs ++ (map (λ (r : MethodRefRow). signature_entry (signature_onto r.signature [])) p.method_refs ++ (map (λ (f : FieldRow). signature_entry (raw_onto f.signature [])) p.fields ++ (flat_map (λ (x : Manner × MethodRow). signature_entry (signature_onto x.1.signature []) ∷ locals_entry x.0 x.1.code) ms ++ es))))
        (append-nil (map (λ (s : RawType). signature_entry (raw_onto s [])) p.specs))

    -- no table before the last has data
    before_data : (t : ℕ) → in_rows data_bytes (rows_of (parts_for p ms) t) ≡ [] → length (in_rows data_bytes (rows_of (parts_for p ms) t)) ≡ 0
    before_data t h = ap length h

    data_law : in_tables data_bytes (parts_for p ms) tables ≡ flat_map (λ d. d) (datas_of p)
    data_law =
        joins (rows_none data_bytes assembly_part (λ a. numbers_none data_bytes data_skip.number a.version) p.assemblies)
        (joins (rows_none data_bytes ref_part (λ r. refl) p.refs)
        (joins (rows_none data_bytes field_ref_part (λ r. refl) p.field_refs)
        (joins (rows_none data_bytes method_ref_part (λ r. refl) p.method_refs)
        (joins (types_data 0 p.types)
        (joins (rows_none data_bytes interface_part (λ t. refl) (interfaces_of p))
        (joins (fields_data 0 p.fields)
        (joins (methods_data 0 ms)
        (joins (rows_none data_bytes clause_part (clause_skips data_bytes data_skip) (clauses_of ms))
        (joins (rows_none data_bytes spec_part (λ s. refl) p.specs)
        (joins (datas_data (datas_of p)) refl))))))))))
        ∙ append-nil (flat_map (λ d. d) (datas_of p))

    tables_law : (ps : PoolsOf) → tables_words ps (parts_for p ms) (map (λ x. bytes_in (offsets_of ps) x.0 x.1.code) ms) 0 tables
        ≡ map (assembly_row (offsets_of ps)) p.assemblies
        ∷ map (ref_row (offsets_of ps)) p.refs
        ∷ map (field_ref_row (offsets_of ps)) p.field_refs
        ∷ map (method_ref_row (offsets_of ps)) p.method_refs
        ∷ type_rows (offsets_of ps) 0 p.types
        ∷ map (interface_row (offsets_of ps)) (interfaces_of p)
        ∷ field_rows (offsets_of ps) 0 p.fields
        ∷ method_rows (offsets_of ps) 0 0 ms
        ∷ map (clause_row (offsets_of ps)) (clauses_of ms)
        ∷ map (spec_row (offsets_of ps)) p.specs
        ∷ data_rows 0 (datas_of p)
        ∷ []
    tables_law ps =
        both (rows_law ps assembly_part (assembly_row o) (assembly_law ps) codes 0 0 p.assemblies)
        (both (rows_law ps ref_part (ref_row o) (λ s c at r. refl) codes 0 _ p.refs)
        (both (rows_law ps field_ref_part (field_ref_row o) (λ s c at r. refl) codes 0 _ p.field_refs)
        (both (rows_law ps method_ref_part (method_ref_row o) (λ s c at r. refl) codes 0 _ p.method_refs)
        (both (types_law ps codes 0 _ 0 p.types)
        (both (rows_law ps interface_part (interface_row o) (λ s c at t. refl) codes 0 _ (interfaces_of p))
        (both (fields_law ps codes 0 _ 0 p.fields)
        (both (methods_law ps 0 _ 0 ms fit)
        (both (rows_law ps clause_part (clause_row o) (clause_law ps) codes 0 _ (clauses_of ms))
        (both (rows_law ps spec_part (spec_row o) (λ s c at t. refl) codes 0 _ p.specs)
        (both (datas_law ps codes 0 last (datas_of p) ∙ ap (λ n. data_rows n (datas_of p)) last_law) refl))))))))))
      where
        o : Offsets
        o = offsets_of ps

        codes : List (List ℕ)
        codes = map (λ x. bytes_in (offsets_of ps) x.0 x.1.code) ms

        len : ℕ → ℕ
        len t = length (in_rows data_bytes (rows_of (parts_for p ms) t))

        last : ℕ
        last = 0 + len 0 + len 1 + len 2 + len 3 + len 4 + len 5 + len 6 + len 7 + len 8 + len 9

        last_law : last ≡ 0
        last_law =
            let a : len 0 ≡ 0 = ap length (rows_none data_bytes assembly_part (λ a. numbers_none data_bytes data_skip.number a.version) p.assemblies) in
            let b : len 1 ≡ 0 = ap length (rows_none data_bytes ref_part (λ r. refl) p.refs) in
            let c : len 2 ≡ 0 = ap length (rows_none data_bytes field_ref_part (λ r. refl) p.field_refs) in
            let d : len 3 ≡ 0 = ap length (rows_none data_bytes method_ref_part (λ r. refl) p.method_refs) in
            let e : len 4 ≡ 0 = ap length (types_data 0 p.types) in
            let f : len 5 ≡ 0 = ap length (rows_none data_bytes interface_part (λ t. refl) (interfaces_of p)) in
            let g : len 6 ≡ 0 = ap length (fields_data 0 p.fields) in
            let h : len 7 ≡ 0 = ap length (methods_data 0 ms) in
            let k : len 8 ≡ 0 = ap length (rows_none data_bytes clause_part (clause_skips data_bytes data_skip) (clauses_of ms)) in
            let l : len 9 ≡ 0 = ap length (rows_none data_bytes spec_part (λ s. refl) p.specs) in
            omega (arith, a, b, c, d, e, f, g, h, k, l)

    codes_law : (o : Offsets) (xs : Methods) → flat_map (λ c. c) (map (λ (x : Manner × MethodRow). bytes_in o x.0 x.1.code) xs) ≡ flat_map (λ (x : Manner × MethodRow). bytes_in o x.0 x.1.code) xs
    codes_law o [] = refl
    codes_law o (x ∷ xs) = ap (λ bs. bytes_in o x.0 x.1.code ++ bs) (codes_law o xs)

    abbrev spelt_pools : PoolsOf
    spelt_pools = record { strings = pool (strings_walk p ms); signatures = pool (signatures_walk p ms); data_pool = flat_map (λ d. d) (datas_of p) }

    pools_law : pools_of (parts_for p ms) ≡ spelt_pools
    pools_law = λ i. record { strings = pool (strings_law i); signatures = pool (signatures_law i); data_pool = data_law i }

    image_by : PoolsOf → Image
    image_by ps =
        record {
          version = p.version;
          name = offset ps.strings (name_entry p.name);
          entry = or_none (λ n. n) p.entry;
          tables = tables_words ps (parts_for p ms) (codes_for p ms) 0 tables;
          pools = pool_onto ps.strings [] ∷ pool_onto ps.signatures [] ∷ flat_map (λ c. c) (codes_for p ms) ∷ ps.data_pool ∷ [];
        }

    pub image_law : image_of_parts (parts_for p ms) (codes_for p ms) ≡ laid p ms
    unfolding image_by
    image_law =
        let ps = spelt_pools in
        ap image_by pools_law
        ∙ (λ i.
        record {
          version = p.version;
          name = offset ps.strings (name_entry p.name);
          entry = or_none (λ n. n) p.entry;
          tables = tables_law ps i;
          pools = pool_onto ps.strings [] ∷ pool_onto ps.signatures [] ∷ codes_law (offsets_of ps) ms i ∷ ps.data_pool ∷ [];
        })
