-- How the reference of a row is resolved, in one step and by the one that it is nested in.
use Rattle.std.specs.Prelude.{ℕ, List, slice_get, Option, Some, None}
use Rattle.std.specs.Option.{option_map_or}
use Rattle.file_tables.specs.Metadata.{row_count}
use Rattle.file_tables.specs.File.{FilePart}
use Rattle.machine.specs.Data.{Id}
use Rattle.machine.specs.Throw.{on_some}
use Rattle.assemblies.specs.Rows as rows
use Rattle.assemblies.specs.Binding.{in_scope, type_in}
use Rattle.world_rows.specs.Tokens.{type_refs}
use Rattle.world_rows.specs.World.{rows_alone}
use Rattle.type_names.specs.declared.reference.Scope.{Scope}
use Rattle.type_names.specs.declared.reference.Scope.TheVariants.{Assembly, Outer, Nowhere}
use Rattle.type_names.specs.declared.reference.Reference.{Reference}

abbrev pub scope_seen : Scope → rows.Scope
scope_seen (Assembly n) = rows.OfAssembly n
scope_seen (Outer n) = rows.Inside n
scope_seen Nowhere = rows.Nowhere

abbrev pub reference_seen : Reference → rows.TypeRefRow
reference_seen r = record { scope = scope_seen r.scope; namespace = r.namespace.now; name = r.name.now }

-- the reference of a row of a file
abbrev pub reference_at : List FilePart → ℕ → ℕ → Option rows.TypeRefRow
reference_at files file n = on_some (slice_get (rows_alone files) file) (λ p. slice_get p.refs n)

-- the reference that it is nested in
abbrev pub outer_row : rows.Scope → Option ℕ
outer_row (rows.OfAssembly n) = None
outer_row (rows.Inside n) = Some n
outer_row rows.Nowhere = None

-- what it names where it isn't nested, and inside a type
abbrev pub named_alone : List FilePart → ℕ → rows.TypeRefRow → Option Id
named_alone files file r = in_scope (rows_alone files) file (λ m. None) r r.scope

abbrev pub named_inside : List FilePart → Id → rows.TypeRefRow → Option Id
named_inside files c r = type_in (rows_alone files) c.file (Some c.row) r

-- the same of a row
abbrev pub parent_of : List FilePart → ℕ → ℕ → Option ℕ
parent_of files file n = on_some (reference_at files file n) (λ r. outer_row r.scope)

abbrev pub root_of : List FilePart → ℕ → ℕ → Option Id
root_of files file n = on_some (reference_at files file n) (named_alone files file)

abbrev pub inner_of : List FilePart → ℕ → Id → ℕ → Option Id
inner_of files file c n = on_some (reference_at files file n) (named_inside files c)

abbrev pub references_in : List FilePart → ℕ → ℕ
references_in files file = option_map_or (λ (p : FilePart). row_count p.metadata type_refs) (slice_get files file) 0
