-- The names by which types and assemblies are looked up, as the rows tell them and as the code keeps them.
use Rattle.std.specs.Prelude.{◌≡◌, ℕ, Bool, ◌&&◌, List, [], ◌∷◌, map, slice_index, slice_get, Option, Some}
use Rattle.std.specs.List.{position}
use Rattle.std.specs.Option.{option_cmp}
use Rattle.std.specs.Ordering.{nat_cmp, ordering_then}
use Rattle.std.specs.Cmp.Lexicographic.{slice_cmp}
use Rattle.std.specs.declared.cmp.Ordering.{Ordering}
use Rattle.std.specs.BTreeMap.{BTreeMap, get}
use Rattle.file_tables.specs.Metadata.{MetadataPart, rows_of, row_of}
use Rattle.file_tables.specs.File.{FilePart}
use Rattle.machine.specs.Data.{Id}
use Rattle.machine.specs.Texts.{same_text}
use Rattle.classes.specs.Classes.{Reference}
use Rattle.assemblies.specs.Rows.{AssemblyRow, TypeRefRow, TypeRow, Nowhere}
use Rattle.assemblies.specs.Binding.{numbered, first_number, same_assembly, same_row}
use Rattle.world_rows.specs.Tokens.{assemblies, nested_classes, type_defs, text_at}
use Rattle.world_rows.specs.Rows.{enclosing_of, type_row, version_at}
use Rattle.world_rows.specs.World.{rows_alone}
use Rattle.type_names.specs.declared.file.File.{File}
use Rattle.type_names.specs.declared.keys.NameKey.{NameKey}
use Rattle.type_names.specs.declared.keys.Version.{Version}
use Rattle.type_names.specs.declared.keys.AssemblyKey.{AssemblyKey}

-- ---- types

pub record TypeName : Type 0 where
  pub enclosing : Option ℕ
  pub namespace : List ℕ
  pub name : List ℕ

abbrev pub same_name : TypeName → TypeName → Bool
same_name a b = same_row a.enclosing b.enclosing && (same_text a.namespace b.namespace && same_text a.name b.name)

abbrev pub type_name : TypeRow → TypeName
type_name t = record { enclosing = t.enclosing; namespace = t.namespace; name = t.name }

-- of the row of a number
abbrev pub type_name_at : MetadataPart → ℕ → List ℕ → TypeName
type_name_at m n row = record { enclosing = enclosing_of m n; namespace = text_at m (slice_index row 2); name = text_at m (slice_index row 1) }

abbrev pub type_seen : NameKey → TypeName
type_seen k = record { enclosing = k.enclosing; namespace = k.namespace.now; name = k.name.now }

-- a reference to a type of the name
abbrev pub ref_of : NameKey → TypeRefRow
ref_of k = record { scope = Nowhere; namespace = k.namespace.now; name = k.name.now }

-- the order of keys
abbrev pub type_order : NameKey → NameKey → Ordering
type_order a b =
    ordering_then (option_cmp nat_cmp a.enclosing b.enclosing) (ordering_then (slice_cmp nat_cmp a.namespace.now b.namespace.now) (slice_cmp nat_cmp a.name.now b.name.now))

-- the first type of each name
abbrev pub FindsTypes : MetadataPart → BTreeMap NameKey ℕ → Type 0
FindsTypes m places =
    (wanted : NameKey) → get type_order places wanted ≡ position (λ t. same_name (type_seen wanted) (type_name t)) (numbered (type_row m (λ n. Reference)) 0 (rows_of m type_defs))

abbrev pub FindsTypesOf : File → BTreeMap NameKey ℕ → Type 0
FindsTypesOf f places = FindsTypes f.metadata places

-- a fact of what stands at the same places of two lists
abbrev pub Each : {A B : Type 0} → (A → B → Type 0) → List A → List B → Type 0
Each {A} {B} Holds xs ys = (k : ℕ) (x : A) (y : B) → slice_get xs k ≡ Some x → slice_get ys k ≡ Some y → Holds x y

-- the first column of NestedClass
abbrev pub nested_types : MetadataPart → List ℕ
nested_types m = map (λ row. slice_index row 0) (rows_of m nested_classes)

-- ---- assemblies

abbrev pub assembly_name : MetadataPart → AssemblyRow
assembly_name m = record { name = text_at m (slice_index (row_of m assemblies 1) 7); version = version_at 1 (row_of m assemblies 1) }

abbrev pub assembly_row : FilePart → AssemblyRow
assembly_row f = assembly_name f.metadata

abbrev pub assembly_seen : AssemblyKey → AssemblyRow
assembly_seen k = record { name = k.name.now; version = k.version.major ∷ k.version.minor ∷ k.version.build ∷ k.version.revision ∷ [] }

abbrev pub version_order : Version → Version → Ordering
version_order a b = ordering_then (nat_cmp a.major b.major) (ordering_then (nat_cmp a.minor b.minor) (ordering_then (nat_cmp a.build b.build) (nat_cmp a.revision b.revision)))

abbrev pub assembly_order : AssemblyKey → AssemblyKey → Ordering
assembly_order a b = ordering_then (slice_cmp nat_cmp a.name.now b.name.now) (version_order a.version b.version)

-- the first assembly of each name and version
abbrev pub FindsAssemblies : List FilePart → BTreeMap AssemblyKey ℕ → Type 0
FindsAssemblies files places = (wanted : AssemblyKey) → get assembly_order places wanted ≡ first_number (same_assembly (assembly_seen wanted)) (rows_alone files)
