-- What stands for the body of a method in the image.
use Rattle.std.specs.Prelude.{ℕ, Bool, List, [], ◌∷◌, length, Option, Some, None}
use Rattle.machine.specs.Program.{Body, native_number}
use Rattle.assemblies.specs.Chosen.{first_of}
use Rattle.assemblies.specs.Rows.{RawCode}
use Rattle.msspot_write.specs.declared.parts.Column.{Column}
use Rattle.msspot_write.specs.declared.parts.Column.TheVariants.{Code}
use Rattle.msspot_write.specs.Spelt.{numbers, locals_column}

-- the number of the native that runs, if one does
abbrev pub native_of : Body → Option ℕ
native_of (Body.Native name) = Some (native_number name)
native_of Body.Code = None
native_of Body.Missing = None

-- of code whose locals have a signature or not, with the first row of its clauses
abbrev pub code_columns : ℕ → Bool → RawCode → List Column
code_columns first has_locals c = Code ∷ Code ∷ locals_column has_locals c.locals ∷ numbers (c.max_stack ∷ first_of first (length c.clauses) ∷ length c.clauses ∷ [])
