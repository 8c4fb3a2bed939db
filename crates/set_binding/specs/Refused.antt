-- Why a set isn't bound: its first reference that names nothing, or else its first circle.
use Rattle.std.specs.Prelude.{◌≡◌, ⊤, List, Some, None}
use Rattle.assemblies.specs.Rows.{Assembly}
use Rattle.board_model.specs.Bound.{first_lacking, first_circle}
use Rattle.set_binding.specs.declared.bindings.BindRefusal.{BindRefusal}
use Rattle.set_binding.specs.declared.bindings.BindRefusal.TheVariants.{Unresolved, Circle, NoMemory}
use Rattle.set_binding.specs.Lacking.{row_seen}

abbrev pub IsRefused : List Assembly → BindRefusal → Type 0
IsRefused ps (Unresolved row) = first_lacking ps ≡ Some (row_seen row)
IsRefused ps (Circle assembly) = (first_lacking ps ≡ None) × (first_circle ps ≡ Some assembly)
IsRefused ps NoMemory = ⊤
