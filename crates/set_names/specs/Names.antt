-- What a map of a set's names finds.
use Rattle.std.specs.Prelude.{◌≡◌, ℕ, List, Some, map, slice_get}
use Rattle.std.specs.Option.{option_cmp}
use Rattle.std.specs.List.{position}
use Rattle.std.specs.Ordering.{nat_cmp, ordering_then}
use Rattle.std.specs.declared.cmp.Ordering.{Ordering}
use Rattle.std.specs.Cmp.Lexicographic.{slice_cmp}
use Rattle.std.specs.BTreeMap.{BTreeMap, get}
use Rattle.image_bytes.specs.Layout.{Image}
use Rattle.assemblies.specs.Rows.{Assembly, TypeRefRow, Nowhere}
use Rattle.assemblies.specs.Binding.{first_number, same_assembly}
use Rattle.tiny_rows.specs.declared.assembly.Version.{Version}
use Rattle.tiny_rows.specs.declared.assembly.AssemblyName.{AssemblyName}
use Rattle.tiny_rows.specs.declared.types.TypeName.{TypeName}
use Rattle.tiny_rows.specs.Rows.{rows_seen, assembly_seen, type_name_seen, name_of, same_name}

-- the images of a set as assemblies
abbrev pub seen_all : List Image → List Assembly
seen_all images = map rows_seen images

-- a reference to a type of the name
abbrev pub ref_of : TypeName → TypeRefRow
ref_of k = record { scope = Nowhere; namespace = k.namespace.now; name = k.name.now }

-- the orders of names
abbrev pub type_order : TypeName → TypeName → Ordering
type_order a b =
    ordering_then (option_cmp nat_cmp a.enclosing b.enclosing) (ordering_then (slice_cmp nat_cmp a.namespace.now b.namespace.now) (slice_cmp nat_cmp a.name.now b.name.now))

abbrev pub version_order : Version → Version → Ordering
version_order a b = ordering_then (nat_cmp a.major b.major) (ordering_then (nat_cmp a.minor b.minor) (ordering_then (nat_cmp a.build b.build) (nat_cmp a.revision b.revision)))

abbrev pub assembly_order : AssemblyName → AssemblyName → Ordering
assembly_order a b = ordering_then (slice_cmp nat_cmp a.name.now b.name.now) (version_order a.version b.version)

-- the first type of each name
abbrev pub FindsTypes : Image → BTreeMap TypeName ℕ → Type 0
FindsTypes i places = (wanted : TypeName) → get type_order places wanted ≡ position (λ t. same_name (type_name_seen wanted) (name_of t)) (rows_seen i).types

-- the first assembly of each name and version
abbrev pub FindsAssemblies : List Image → BTreeMap AssemblyName ℕ → Type 0
FindsAssemblies images places = (wanted : AssemblyName) → get assembly_order places wanted ≡ first_number (same_assembly (assembly_seen wanted)) (seen_all images)

-- a fact of what stands at the same places of two lists
abbrev pub Each : {A B : Type 0} → (A → B → Type 0) → List A → List B → Type 0
Each {A} {B} Holds xs ys = (k : ℕ) (x : A) (y : B) → slice_get xs k ≡ Some x → slice_get ys k ≡ Some y → Holds x y
