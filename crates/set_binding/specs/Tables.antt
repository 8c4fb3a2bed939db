-- The tables of references by their numbers.
use Rattle.std.specs.Prelude.{ℕ}
use Rattle.set_binding.specs.declared.tables.ReferenceTable.{ReferenceTable}
use Rattle.set_binding.specs.declared.tables.ReferenceTable.TheVariants.{Assemblies, Types, Fields, Methods}

abbrev pub number_of : ReferenceTable → ℕ
number_of Assemblies = 0
number_of Types = 1
number_of Fields = 2
number_of Methods = 3
