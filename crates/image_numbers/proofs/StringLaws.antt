-- The names and literals of the parts that spell rows are those that are laid for the rows.
use Rattle.std.proofs.Common.{◌≡◌, ℕ, ◌+◌, Bool, true, false, List, [], ◌∷◌, ◌++◌, map, length, Option, Some, None, refl, ap, ◌∙◌, append_assoc}
use Rattle.std.specs.List.{flat_map}
use Rattle.std.proofs.lemmas.List.{map-append}
use Rattle.machine.specs.Program.{Body, native_number}
use Rattle.assemblies.specs.Chosen.{first_of}
use Rattle.assemblies.specs.Rows.{AssemblyRow, TypeRefRow, FieldRefRow, MethodRefRow, TypeRow, FieldRow, RawOperand, RawNothing, RawNumber, RawTargets, RawTypeOf, RawField, RawMethod, RawText, RawLine, RawClause, RawCode, MethodRow, Assembly}
use Rattle.image_form.specs.Signatures.{locals_onto}
use Rattle.image_form.specs.Form.{Manner, clauses_in, data_of}
use Rattle.image_form.specs.Whole.{name_entry, literals, literals_in, Methods, strings_walk, interfaces_of, clauses_of, datas_of}
use Rattle.msspot_write.specs.declared.parts.Column.{Column}
use Rattle.msspot_write.specs.declared.parts.Column.TheVariants.{Number, Signature, Code}
use Rattle.msspot_write.specs.declared.parts.PartRow.{PartRow}
use Rattle.msspot_write.specs.declared.parts.PartLiteral.{PartLiteral}
use Rattle.msspot_write.specs.Parts.{tables, in_row, in_rows, in_tables, names, literal_of, strings_walk_of}
use Rattle.msspot_write.specs.Spelt.{numbers, assembly_part, ref_part, field_ref_part, method_ref_part, type_parts, interface_part, field_numbers, field_parts, locals_column, body_columns, method_parts, clause_numbers, clause_part, spec_part, data_part, operand_parts, code_parts, literal_parts, parts_for}

joins : {A : Type 0} {a b c d : List A} → a ≡ b → c ≡ d → a ++ c ≡ b ++ d
joins p q = λ i. p i ++ q i

module _ {A : Type 0} (pick : Column → List A) where
  numbers_none : ((n : ℕ) → pick (Number n) ≡ []) → (ns : List ℕ) → flat_map pick (numbers ns) ≡ []
  numbers_none h [] = refl
  numbers_none h (n ∷ ns) = joins (h n) (numbers_none h ns)

  rows_walk : {X : Type 0} (part : X → PartRow) (g : X → List A) → ((x : X) → in_row pick (part x) ≡ g x) → (xs : List X) → in_rows pick (map part xs) ≡ flat_map g xs
  rows_walk part g h [] = refl
  rows_walk part g h (x ∷ xs) = joins (h x) (rows_walk part g h xs)

  rows_one : {X : Type 0} (part : X → PartRow) (g : X → A) → ((x : X) → in_row pick (part x) ≡ g x ∷ []) → (xs : List X) → in_rows pick (map part xs) ≡ map g xs
  rows_one part g h [] = refl
  rows_one part g h (x ∷ xs) = joins (h x) (rows_one part g h xs)

  rows_none : {X : Type 0} (part : X → PartRow) → ((x : X) → in_row pick (part x) ≡ []) → (xs : List X) → in_rows pick (map part xs) ≡ []
  rows_none part h [] = refl
  rows_none part h (x ∷ xs) = joins (h x) (rows_none part h xs)

-- what neither a number nor code gives
record Skips {A : Type 0} (pick : Column → List A) : Type 0 where
  number : (n : ℕ) → pick (Number n) ≡ []
  code : pick Code ≡ []

names_skip : Skips names
names_skip = record { number = λ n. refl; code = refl }

-- ---- names

types_names : (k : ℕ) (ts : List TypeRow) → in_rows names (type_parts k ts) ≡ flat_map (λ (t : TypeRow). name_entry t.namespace ∷ name_entry t.name ∷ []) ts
types_names k [] = refl
types_names k (t ∷ ts) = ap (λ es. name_entry t.namespace ∷ name_entry t.name ∷ es) (types_names (k + length t.interfaces) ts)

fields_names : (n : ℕ) (fs : List FieldRow) → in_rows names (field_parts n fs) ≡ map (λ (f : FieldRow). name_entry f.name) fs
fields_names n [] = refl
fields_names n (f ∷ fs) =
    joins (ap (λ es. name_entry f.name ∷ es) (numbers_none names names_skip.number (field_numbers n f.kind))) (fields_names (n + length (data_of f.kind)) fs)

module _ {A : Type 0} (pick : Column → List A) (skips : Skips pick) where
  -- a body has neither names nor data
  body_none : ((b : List ℕ) → pick (Signature b) ≡ []) → (clause : ℕ) (k : Manner) (b : Body) (c : Option RawCode) → flat_map pick (body_columns clause k b c) ≡ []
  body_none h clause k (Body.Native name) c = numbers_none pick skips.number (native_number name ∷ 0 ∷ 65535 ∷ 0 ∷ 0 ∷ 0 ∷ [])
  body_none h clause k Body.Code None = numbers_none pick skips.number (65535 ∷ 0 ∷ 65535 ∷ 0 ∷ 0 ∷ 0 ∷ [])
  body_none h clause k Body.Missing None = numbers_none pick skips.number (65535 ∷ 0 ∷ 65535 ∷ 0 ∷ 0 ∷ 0 ∷ [])
  body_none h clause k Body.Code (Some c) =
      joins skips.code (joins skips.code (joins (column k.has_locals) (numbers_none pick skips.number (c.max_stack ∷ first_of clause (length c.clauses) ∷ length c.clauses ∷ []))))
    where
      column : (b : Bool) → pick (locals_column b c.locals) ≡ []
      column true = h (locals_onto c.locals [])
      column false = skips.number 65535
  body_none h clause k Body.Missing (Some c) =
      joins skips.code (joins skips.code (joins (column k.has_locals) (numbers_none pick skips.number (c.max_stack ∷ first_of clause (length c.clauses) ∷ length c.clauses ∷ []))))
    where
      column : (b : Bool) → pick (locals_column b c.locals) ≡ []
      column true = h (locals_onto c.locals [])
      column false = skips.number 65535

methods_names : (clause : ℕ) (ms : Methods) → in_rows names (method_parts clause ms) ≡ map (λ (x : Manner × MethodRow). name_entry x.1.name) ms
methods_names clause [] = refl
methods_names clause (x ∷ xs) =
    let m : MethodRow = x.1 in
    joins (ap (λ es. name_entry m.name ∷ es) (body_none names names_skip (λ b. refl) clause x.0 m.body m.code)) (methods_names (clause + length (clauses_in m.code)) xs)

clause_skips : {A : Type 0} (pick : Column → List A) → Skips pick → (c : RawClause) → in_row pick (clause_part c) ≡ []
clause_skips pick skips c = numbers_none pick skips.number (clause_numbers c.kind (c.try_start ∷ c.try_end ∷ c.start ∷ c.end ∷ []))

-- ---- literals

literals_law : (n : ℕ) (ms : Methods) → map (λ (l : PartLiteral). literal_of l.text) (literal_parts n ms) ≡ flat_map (λ (x : Manner × MethodRow). literals_in x.1.code) ms
literals_law n [] = refl
literals_law n (x ∷ xs) = map-append (λ (l : PartLiteral). literal_of l.text) (code_parts n x.1.code) (literal_parts (n + 1) xs) ∙ joins (code_law x.1.code) (literals_law (n + 1) xs)
  where
    operand_law : (at : ℕ) (o : RawOperand) → map (λ (l : PartLiteral). literal_of l.text) (operand_parts n at o) ≡ literals o
    operand_law at RawNothing = refl
    operand_law at (RawNumber z) = refl
    operand_law at (RawTargets to) = refl
    operand_law at (RawTypeOf t) = refl
    operand_law at (RawField t) = refl
    operand_law at (RawMethod t) = refl
    operand_law at (RawText units) = refl

    lines_law : (ls : List RawLine) → map (λ (l : PartLiteral). literal_of l.text) (flat_map (λ (l : RawLine). operand_parts n l.at l.operand) ls) ≡ flat_map (λ (l : RawLine). literals l.operand) ls
    lines_law [] = refl
    lines_law (l ∷ ls) =
        map-append (λ (l : PartLiteral). literal_of l.text) (operand_parts n l.at l.operand) (flat_map (λ (l : RawLine). operand_parts n l.at l.operand) ls)
        ∙ joins (operand_law l.at l.operand) (lines_law ls)

    code_law : (c : Option RawCode) → map (λ (l : PartLiteral). literal_of l.text) (code_parts n c) ≡ literals_in c
    code_law None = refl
    code_law (Some c) = lines_law c.lines

-- ---- the whole walks

-- eleven lists, of which some are empty, before one more
regroup : {A : Type 0} (a b c d e f g l : List A) → (a ++ (b ++ (c ++ (d ++ (e ++ (f ++ (g ++ []))))))) ++ l ≡ a ++ (b ++ (c ++ (d ++ (e ++ (f ++ (g ++ l))))))
regroup a b c d e f g l =
    append_assoc a (b ++ (c ++ (d ++ (e ++ (f ++ (g ++ [])))))) l
    ∙ ap (λ ys. a ++ ys)
    (append_assoc b (c ++ (d ++ (e ++ (f ++ (g ++ []))))) l
    ∙ ap (λ ys. b ++ ys)
    (append_assoc c (d ++ (e ++ (f ++ (g ++ [])))) l
    ∙ ap (λ ys. c ++ ys)
    (append_assoc d (e ++ (f ++ (g ++ []))) l
    ∙ ap (λ ys. d ++ ys) (append_assoc e (f ++ (g ++ [])) l ∙ ap (λ ys. e ++ ys) (append_assoc f (g ++ []) l ∙ ap (λ ys. f ++ ys) (append_assoc g [] l))))))

module _ (p : Assembly) (ms : Methods) where
  tables_names : in_tables names (parts_for p ms) tables
      ≡ map (λ (a : AssemblyRow). name_entry a.name) p.assemblies
      ++ (flat_map (λ (r : TypeRefRow). name_entry r.namespace ∷ name_entry r.name ∷ []) p.refs
      ++ (map (λ (r : FieldRefRow). name_entry r.name) p.field_refs
      ++ (map (λ (r : MethodRefRow). name_entry r.name) p.method_refs
      ++ (flat_map (λ (t : TypeRow). name_entry t.namespace ∷ name_entry t.name ∷ []) p.types
      ++ (map (λ (f : FieldRow). name_entry f.name) p.fields
      ++ (map (λ (x : Manner × MethodRow). name_entry x.1.name) ms ++ []))))))
  tables_names =
      joins (rows_one names assembly_part (λ (a : AssemblyRow). name_entry a.name) (λ a. ap (λ es. name_entry a.name ∷ es) (numbers_none names names_skip.number a.version)) p.assemblies)
      (joins (rows_walk names ref_part (λ (r : TypeRefRow). name_entry r.namespace ∷ name_entry r.name ∷ []) (λ r. refl) p.refs)
      (joins (rows_one names field_ref_part (λ (r : FieldRefRow). name_entry r.name) (λ r. refl) p.field_refs)
      (joins (rows_one names method_ref_part (λ (r : MethodRefRow). name_entry r.name) (λ r. refl) p.method_refs)
      (joins (types_names 0 p.types)
      (joins (rows_none names interface_part (λ t. refl) (interfaces_of p))
      (joins (fields_names 0 p.fields)
      (joins (methods_names 0 ms)
      (joins (rows_none names clause_part (clause_skips names names_skip) (clauses_of ms))
      (joins (rows_none names spec_part (λ s. refl) p.specs)
      (joins (rows_none names data_part (λ d. refl) (datas_of p)) refl))))))))))

  pub strings_law : strings_walk_of (parts_for p ms) ≡ strings_walk p ms
  strings_law =
      ap (λ es. name_entry p.name ∷ es)
      (joins tables_names (literals_law 0 ms)
      ∙ regroup
      (map (λ (a : AssemblyRow). name_entry a.name) p.assemblies)
      (flat_map (λ (r : TypeRefRow). name_entry r.namespace ∷ name_entry r.name ∷ []) p.refs)
      (map (λ (r : FieldRefRow). name_entry r.name) p.field_refs)
      (map (λ (r : MethodRefRow). name_entry r.name) p.method_refs)
      (flat_map (λ (t : TypeRow). name_entry t.namespace ∷ name_entry t.name ∷ []) p.types)
      (map (λ (f : FieldRow). name_entry f.name) p.fields)
      (map (λ (x : Manner × MethodRow). name_entry x.1.name) ms)
      (flat_map (λ (x : Manner × MethodRow). literals_in x.1.code) ms))
