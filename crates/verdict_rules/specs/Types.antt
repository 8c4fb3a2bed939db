-- Rules 20 to 26: generic rows, explicit overridings, assembly names, the entry, superclasses, interfaces, value types.
use Rattle.std.specs.Prelude.{ℕ, suc, ◌/◌, ◌%◌, ◌==◌, nat_le, Bool, true, false, not, ◌&&◌, List, [], ◌∷◌, take, drop, length, slice_get, slice_index, Option, Some, None, is_some}
use Rattle.std.specs.List.{list_any}
use Rattle.file_tables.specs.declared.schema.Coded.TheVariants.{TypeDefOrRef}
use Rattle.file_tables.specs.Metadata.{MetadataPart, rows_of, token_row}
use Rattle.file_tables.specs.File.{FilePart}
use Rattle.machine.specs.Texts.{same_text}
use Rattle.machine.specs.Data.{Id}
use Rattle.classes.specs.Classes.{TypeKind, OtherValue, Class}
use Rattle.classes.specs.Queries.{own_instance_fields}
use Rattle.class_rules.specs.Rules.{holds_some, is_user, only_if, extends_well, may_be_implemented, value_well, is_none_there, is_enclosed_well, entry_fits}
use Rattle.assemblies.specs.Rows.{TypeRow, Assembly, Nowhere}
use Rattle.assemblies.specs.Binding.{id_at, is_type}
use Rattle.world_rows.specs.Tokens.{type_defs, interface_impls, class_layouts, assemblies, coded_type}
use Rattle.world_rows.specs.Rows.{row_with}
use Rattle.verdict_rules.specs.Order.{Test, test, FileRules}
use Rattle.verdict_rules.specs.World.{World, classes_of, named_class}

abbrev pub method_impls : ℕ
method_impls = 0x19

abbrev pub generic_params : ℕ
generic_params = 0x2A

abbrev pub method_specs : ℕ
method_specs = 0x2B

abbrev pub generic_constraints : ℕ
generic_constraints = 0x2C

-- 20, 21: a row that has to be missing
abbrev pub refused : ℕ → ℕ → List ℕ → List Test
refused rule n row = test rule false ∷ []

-- 22: an earlier file has the assembly's name (II.22.2)
abbrev pub is_named_before : List Assembly → ℕ → Bool
is_named_before ps file = holds_some (slice_get ps file) (λ p. list_any (λ (q : Assembly). same_text q.name p.name) (take file ps))

abbrev pub assembly_tests : World → ℕ → ℕ → List ℕ → List Test
assembly_tests w file n row = test 22 (not (is_named_before w.rows file)) ∷ []

-- 23: the entry token of a file behind the base library (II.25.3.3); one such file has one, and it names a fitting method
abbrev pub has_entry : FilePart → Bool
has_entry x = not (x.pe.entry == 0)

abbrev pub is_user_file : ℕ → Bool
is_user_file file = nat_le 2 file

abbrev pub begins_in : World → ℕ → Bool
begins_in w file = holds_some w.sources.entry (λ (c : Id). c.file == file) && entry_fits w.sources

abbrev pub own_entry_well : World → ℕ → FilePart → Bool
own_entry_well w file x =
    only_if (is_user_file file && has_entry x) (not (list_any has_entry (drop 2 (take file w.files))) && begins_in w file)

-- told of the last file
abbrev pub some_entry : World → ℕ → Bool
some_entry w file = only_if (suc file == length w.files) (list_any has_entry (drop 2 w.files))

abbrev pub entry_tests : World → ℕ → FilePart → List Test
entry_tests w file x = test 23 (own_entry_well w file x && some_entry w file) ∷ []

-- 24: the superclass (II.22.37)
abbrev pub is_found : List ℕ → Class → Bool
is_found row k = only_if (not (token_row TypeDefOrRef (slice_index row 3) == 0)) (is_some k.superclass)

-- 25: an interface (II.22.23)
abbrev pub interface_tests : World → ℕ → MetadataPart → ℕ → List ℕ → List Test
interface_tests w file m n row =
    test 25 (holds_some (named_class w file (coded_type m TypeDefOrRef (slice_index row 1))) (may_be_implemented w.types (classes_of w))) ∷ []

-- 26: a value type of the user's that is no enum is a data type: it has no fields, and a layout (II.22.8)
abbrev pub has_layout : MetadataPart → ℕ → Bool
has_layout m n = is_some (row_with 2 (suc n) (rows_of m class_layouts))

abbrev pub data_type_well : MetadataPart → Id → Class → TypeKind → Bool
data_type_well m c k OtherValue = only_if (is_user c) (is_none_there k.fields && has_layout m c.row)
data_type_well m c k _ = true

-- explicit layout (II.23.1.15)
abbrev pub is_explicit : List ℕ → Bool
is_explicit row = (slice_index row 0 / 8) % 4 == 2

abbrev pub has_name : TypeRow → TypeRow → Bool
has_name t u = is_type t.enclosing (record { scope = Nowhere; namespace = t.namespace; name = t.name }) u

-- an earlier type of the file has the same names
abbrev pub is_type_before : List Assembly → Id → Bool
is_type_before ps c = holds_some (slice_get ps c.file) (λ p. holds_some (slice_get p.types c.row) (λ t. list_any (has_name t) (take c.row p.types)))

abbrev pub type_well : World → MetadataPart → Id → List ℕ → Class → Bool
type_well w m c row k =
    value_well (classes_of w) c k.kind
    && (data_type_well m c k k.kind
    && (only_if (is_explicit row) (is_none_there (own_instance_fields (classes_of w) c))
    && (is_enclosed_well w.types (classes_of w) c
    && not (is_type_before w.rows c))))

abbrev pub class_tests : World → MetadataPart → Id → List ℕ → Class → List Test
class_tests w m c row k =
    test 24 (is_found row k && extends_well w.types (classes_of w) c k)
    ∷ test 26 (type_well w m c row k)
    ∷ []

-- the tests of a class that is there
abbrev pub of_class : Option Class → (Class → List Test) → List Test
of_class None tests = []
of_class (Some k) tests = tests k

abbrev pub type_tests : World → ℕ → MetadataPart → ℕ → List ℕ → List Test
type_tests w file m n row = of_class ((classes_of w).class (id_at file n)) (class_tests w m (id_at file n) row)

abbrev pub type_rules : World → ℕ → FilePart → FileRules
type_rules w file x =
    record {
      tables =
          record { table = type_defs; tests = type_tests w file x.metadata }
          ∷ record { table = interface_impls; tests = interface_tests w file x.metadata }
          ∷ record { table = method_impls; tests = refused 21 }
          ∷ record { table = assemblies; tests = assembly_tests w file }
          ∷ record { table = generic_params; tests = refused 20 }
          ∷ record { table = method_specs; tests = refused 20 }
          ∷ record { table = generic_constraints; tests = refused 20 }
          ∷ [];
      whole = entry_tests w file x;
    }
