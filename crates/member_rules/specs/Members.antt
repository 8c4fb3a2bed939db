-- What the rows of types and members of a file keep, beside what they name.
use Rattle.std.specs.Prelude.{codes, ℕ, suc, Bool, false, ◌&&◌, if◌then◌else◌, List, [], ◌∷◌, ◌++◌}
use Rattle.std.specs.List.{flat_map}
use Rattle.board_types.specs.declared.board.Known.{Known}
use Rattle.board_types.specs.declared.board.Known.TheVariants.{Argument, ArgumentNull, ArgumentOutOfRange}
use Rattle.machine.specs.Data.{Id}
use Rattle.machine.specs.Program.{Body, Code, Native, Missing}
use Rattle.machine.specs.Texts.{same_text}
use Rattle.machine_rename.specs.Rename.{throws}
use Rattle.classes.specs.Classes.{Classes}
use Rattle.classes.specs.Queries.{is_instance_kind, known}
use Rattle.assemblies.specs.Binding.{range}
use Rattle.class_table.specs.declared.rows.ClassRow.{ClassRow}
use Rattle.class_table.specs.declared.rows.FieldRow.{FieldRow}
use Rattle.class_table.specs.declared.rows.MethodRow.{MethodRow}
use Rattle.class_table.specs.declared.rows.FileRows.{FileRows}
use Rattle.class_table.specs.Seen.{body_seen, field_kind_seen}
use Rattle.kept_rules.specs.Row.{Row, TypeAt, FieldAt, MethodAt, in_option, enclosing_row}
use Rattle.kept_rules.specs.Rules.{type_at}
use Rattle.row_rules.specs.Links.{Link, links_from}

abbrev pub rows_where : Bool → List Row → List Row
rows_where passes rows = if passes then rows else []

abbrev pub row_where : Bool → Row → List Row
row_where passes row = rows_where passes (row ∷ [])

-- of rows that stand from a number on, those that pass
abbrev pub passing_rows : {A : Type 0} → (ℕ → Row) → (A → Bool) → ℕ → List A → List Row
passing_rows at test n [] = []
passing_rows at test n (x ∷ xs) = row_where (test x) (at n) ++ passing_rows at test (suc n) xs

-- ---- types

abbrev pub is_instance : FieldRow → Bool
is_instance x = is_instance_kind (field_kind_seen x.kind)

-- II.10.5.3
abbrev pub is_initialiser : MethodRow → Bool
is_initialiser m = m.is_static && same_text m.name.now (codes ".cctor")

-- ---- natives

abbrev pub class_row : Id → List Row
class_row c = type_at c ∷ []

abbrev pub throws_in : Body → Known → Bool
throws_in (Native name) k = throws name k
throws_in Code k = false
throws_in Missing k = false

-- the classes of the exceptions that a body throws and instructions don't
abbrev pub thrown_by : Classes → Body → List Row
thrown_by cs body = flat_map (λ k. rows_where (throws_in body k) (in_option class_row (known cs k))) (Argument ∷ ArgumentNull ∷ ArgumentOutOfRange ∷ [])

-- ---- a file

module _ (f : ℕ) where
  -- a type its instance fields, and its initialisers
  abbrev pub parts_of : FileRows → ClassRow → List Row
  parts_of x c =
      passing_rows (FieldAt f) is_instance c.first_field (range c.first_field c.field_count x.fields.items)
      ++ passing_rows (MethodAt f) is_initialiser c.first_method (range c.first_method c.method_count x.methods.items)

  abbrev pub part_links : FileRows → List Link
  part_links x = links_from (TypeAt f) (parts_of x) 0 x.classes.items

  -- a type the one that it is nested in (II.22.32)
  abbrev pub enclosing_links : FileRows → List Link
  enclosing_links x = links_from (TypeAt f) (λ (c : ClassRow). in_option (enclosing_row f) c.enclosing) 0 x.classes.items

  -- a member the first type that lists it
  abbrev pub field_links : FileRows → List Link
  field_links x = links_from (FieldAt f) (λ (y : FieldRow). in_option (enclosing_row f) y.owner) 0 x.fields.items

module _ (cs : Classes) (f : ℕ) where
  -- and a native what it throws
  abbrev pub kept_by_method : MethodRow → List Row
  kept_by_method m = in_option (enclosing_row f) m.owner ++ thrown_by cs (body_seen m.body)

  abbrev pub method_links : FileRows → List Link
  method_links x = links_from (MethodAt f) kept_by_method 0 x.methods.items

  abbrev pub member_links : FileRows → List Link
  member_links x = field_links f x ++ (method_links x ++ part_links f x)
