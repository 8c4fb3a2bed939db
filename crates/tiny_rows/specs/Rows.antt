-- The rows of an image as the rows of an assembly.
use Rattle.std.specs.Prelude.{ℕ, Bool, ◌&&◌, nat_eq, if◌then◌else◌, List, [], ◌∷◌, Option, Some, None, unwrap_or}
use Rattle.machine.specs.Texts.{same_text}
use Rattle.machine.specs.Throw.{on_some}
use Rattle.image_bytes.specs.Layout.{Image}
use Rattle.image_form.specs.Form.{name_text}
use Rattle.image_form.specs.Whole.{image_rows}
use Rattle.assemblies.specs.Rows as rows
use Rattle.assemblies.specs.Rows.{Assembly, AssemblyRow, TypeRefRow, TypeRow, OfAssembly, Inside}
use Rattle.assemblies.specs.Binding.{same_row}
use Rattle.msspot_read.specs.Rows.{text_in}
use Rattle.tiny_rows.specs.declared.assembly.Version.{Version}
use Rattle.tiny_rows.specs.declared.assembly.AssemblyName.{AssemblyName}
use Rattle.tiny_rows.specs.declared.references.Scope.{Scope}
use Rattle.tiny_rows.specs.declared.references.Scope.TheVariants as scopes
use Rattle.tiny_rows.specs.declared.references.TypeRef.{TypeRef}
use Rattle.tiny_rows.specs.declared.types.TypeName.{TypeName}

abbrev pub NO_ASSEMBLY : Assembly
NO_ASSEMBLY =
    record {
      name = [];
      version = [];
      entry = None;
      assemblies = [];
      refs = [];
      field_refs = [];
      method_refs = [];
      types = [];
      fields = [];
      methods = [];
      specs = [];
    }

-- every image that stands has rows
abbrev pub rows_seen : Image → Assembly
rows_seen i = unwrap_or (image_rows i) NO_ASSEMBLY

-- the name that begins at an offset
abbrev pub name_in : Image → ℕ → Option (List ℕ)
name_in i at = on_some (text_in i 0 at) name_text

abbrev pub version_seen : Version → List ℕ
version_seen v = v.major ∷ v.minor ∷ v.build ∷ v.revision ∷ []

abbrev pub assembly_seen : AssemblyName → AssemblyRow
assembly_seen a = record { name = a.name.now; version = version_seen a.version }

-- an assembly's own name and version
abbrev pub own_name : Assembly → AssemblyRow
own_name p = record { name = p.name; version = p.version }

abbrev pub scope_seen : Scope → rows.Scope
scope_seen (scopes.Assembly n) = OfAssembly n
scope_seen (scopes.Outer n) = Inside n

abbrev pub type_ref_seen : TypeRef → TypeRefRow
type_ref_seen r = record { scope = scope_seen r.scope; namespace = r.namespace.now; name = r.name.now }

-- what a type is named by
pub record Named : Type 0 where
  pub enclosing : Option ℕ
  pub namespace : List ℕ
  pub name : List ℕ

abbrev pub type_name_seen : TypeName → Named
type_name_seen t = record { enclosing = t.enclosing; namespace = t.namespace.now; name = t.name.now }

-- the number of a row, or none
abbrev pub row_word : ℕ → Option ℕ
row_word w = if nat_eq w 65535 then None else Some w

abbrev pub name_of : TypeRow → Named
name_of t = record { enclosing = t.enclosing; namespace = t.namespace; name = t.name }

abbrev pub same_name : Named → Named → Bool
same_name a b = same_row a.enclosing b.enclosing && (same_text a.namespace b.namespace && same_text a.name b.name)
