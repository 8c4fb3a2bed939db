-- Rules over rows, and the same over the numbers of rows that are there.
use Rattle.std.specs.Prelude.{◌≡◌, ℕ, suc, List, [], ◌∷◌, ◌++◌, map, Option, Some, None}
use Rattle.std.specs.List.{filter_map}
use Rattle.std.specs.Option.{option_map}
use Rattle.machine.specs.Throw.{on_some}
use Rattle.assemblies.specs.Rows.{Assembly}
use Rattle.row_closure.specs.declared.rule.Rule.{Rule}
use Rattle.kept_rules.specs.Row.{Row, AssemblyRefAt, TypeRefAt, FieldRefAt, MethodRefAt, TypeAt, FieldAt, MethodAt, SpecAt}
use Rattle.kept_numbers.specs.Numbers.{file_of}
use Rattle.row_numbers.specs.declared.table.Table.{Table}
use Rattle.row_numbers.specs.declared.table.Table.TheVariants as table
use Rattle.row_numbers.specs.Tables.{row_in, AreCounts, found_number}
use Rattle.row_rules.specs.declared.rules.RowPlace.{RowPlace}
use Rattle.row_rules.specs.declared.rules.RowRules.{RowRules}

abbrev pub row_at : RowPlace → Row
row_at r = row_in r.table r.file r.row

abbrev pub row_if : Option RowPlace → List Row
row_if None = []
row_if (Some r) = row_at r ∷ []

-- ---- the number of a row that is there

abbrev pub table_of : Row → Table
table_of (AssemblyRefAt f n) = table.AssemblyRef
table_of (TypeRefAt f n) = table.TypeRef
table_of (FieldRefAt f n) = table.FieldRef
table_of (MethodRefAt f n) = table.MethodRef
table_of (TypeAt f n) = table.TypeDef
table_of (FieldAt f n) = table.Field
table_of (MethodAt f n) = table.MethodDef
table_of (SpecAt f n) = table.TypeSpec

abbrev pub place_of : Row → ℕ
place_of (AssemblyRefAt f n) = n
place_of (TypeRefAt f n) = n
place_of (FieldRefAt f n) = n
place_of (MethodRefAt f n) = n
place_of (TypeAt f n) = n
place_of (FieldAt f n) = n
place_of (MethodAt f n) = n
place_of (SpecAt f n) = n

abbrev pub number_there : List Assembly → Row → Option ℕ
number_there ps r = found_number ps (table_of r) (file_of r) (place_of r)

-- ---- rules

-- where two rows are kept, a third one is
pub record Link : Type 0 where
  pub first : Row
  pub second : Row
  pub then : Row

-- where one is kept, a second one is
abbrev pub keeps : Row → Row → Link
keeps a c = record { first = a; second = a; then = c }

abbrev pub keeps_each : Row → List Row → List Link
keeps_each a cs = map (keeps a) cs

-- the rule over numbers, where all three rows are there
abbrev pub rule_between : List Assembly → Link → Option Rule
rule_between ps l =
    on_some (number_there ps l.first) (λ a. on_some (number_there ps l.second) (λ b. option_map (λ c. record { first = a; second = b; then = c }) (number_there ps l.then)))

-- these rules were added behind those that were there, in the numbers of any assemblies with the counts
pub record Adds (links : List Link) (before after : RowRules) : Type 0 where
  pub numbers : after.numbers ≡ before.numbers
  pub rules : (ps : List Assembly) → AreCounts ps before.numbers → after.rules.items ≡ before.rules.items ++ filter_map (rule_between ps) links

-- the rules by which each row of a table keeps the rows that it names, from row n on
abbrev pub links_from : {A : Type 0} → (ℕ → Row) → (A → List Row) → ℕ → List A → List Link
links_from at names n [] = []
links_from at names n (x ∷ xs) = keeps_each (at n) (names x) ++ links_from at names (suc n) xs
