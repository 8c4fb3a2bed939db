-- How a reference to a type is resolved: by itself, or inside the type of the one that it is nested in.
use Rattle.std.specs.Prelude.{ℕ, List, length, slice_get, Option, Some, None}
use Rattle.std.specs.Option.{option_map_or}
use Rattle.machine.specs.Data.{Id}
use Rattle.machine.specs.Throw.{on_some}
use Rattle.assemblies.specs.Rows.{Assembly, TypeRefRow, Scope, OfAssembly, Inside, Nowhere}
use Rattle.assemblies.specs.Binding.{in_scope, type_in}

-- the reference of a row of an assembly
abbrev pub reference_at : List Assembly → ℕ → ℕ → Option TypeRefRow
reference_at ps file n = on_some (slice_get ps file) (λ p. slice_get p.refs n)

-- the reference that it is nested in
abbrev pub outer_row : Scope → Option ℕ
outer_row (OfAssembly n) = None
outer_row (Inside n) = Some n
outer_row Nowhere = None

-- what it names where it isn't nested, and inside a type
abbrev pub named_alone : List Assembly → ℕ → TypeRefRow → Option Id
named_alone ps file r = in_scope ps file (λ m. None) r r.scope

abbrev pub named_inside : List Assembly → Id → TypeRefRow → Option Id
named_inside ps c r = type_in ps c.file (Some c.row) r

-- the same of a row
abbrev pub parent_of : List Assembly → ℕ → ℕ → Option ℕ
parent_of ps file n = on_some (reference_at ps file n) (λ r. outer_row r.scope)

abbrev pub root_of : List Assembly → ℕ → ℕ → Option Id
root_of ps file n = on_some (reference_at ps file n) (named_alone ps file)

abbrev pub inner_of : List Assembly → ℕ → Id → ℕ → Option Id
inner_of ps file c n = on_some (reference_at ps file n) (named_inside ps c)

abbrev pub references_in : List Assembly → ℕ → ℕ
references_in ps file = option_map_or (λ (p : Assembly). length p.refs) (slice_get ps file) 0
