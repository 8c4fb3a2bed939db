-- The full names of classes as UTF-16 units.
use Rattle.std.specs.Prelude.{ℕ, zero, suc, if◌then◌else◌, List, [], ◌∷◌, ◌++◌, unwrap_or}
use Rattle.std.specs.Option.{option_map}
use Rattle.machine.specs.Data.{Id}
use Rattle.machine.specs.Texts.{same_text, units_of_name}
use Rattle.classes.specs.Classes.{Class, Classes}
use Rattle.classes.specs.Queries.{enclosing_of}
use Rattle.class_table.specs.declared.rows.ClassRow.{ClassRow}

-- a namespace, a dot behind it where it isn't empty, and a name
abbrev pub joined : List ℕ → List ℕ → List ℕ
joined namespace name = if same_text namespace [] then units_of_name name else units_of_name namespace ++ (46 ∷ units_of_name name)

abbrev pub row_units : ClassRow → List ℕ
row_units row = joined row.namespace.now row.name.now

-- a class's own part; none where there is no such class
abbrev pub own_units : Classes → Id → List ℕ
own_units cs c = unwrap_or (option_map (λ (k : Class). joined k.namespace k.name) (cs.class c)) []

-- behind those of the types that it is nested in, each with a plus sign
abbrev pub units_within : ℕ → Classes → Id → List ℕ
units_within zero cs c = own_units cs c
units_within (suc n) cs c = unwrap_or (option_map (λ outer. units_within n cs outer ++ 43 ∷ []) (enclosing_of cs c)) [] ++ own_units cs c

abbrev pub full_units : Classes → Id → List ℕ
full_units cs c = units_within cs.size cs c
