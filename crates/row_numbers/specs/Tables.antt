-- How many rows each table has, and where its rows begin among all.
use Rattle.std.specs.Prelude.{◌≡◌, ℕ, zero, suc, ◌+◌, ◌<◌, ◌^◌, nat_lt, if◌then◌else◌, List, [], ◌∷◌, Option, Some, None, length, slice_get}
use Rattle.std.specs.Option.{option_map}
use Rattle.machine.specs.Throw.{on_some}
use Rattle.assemblies.specs.Rows.{Assembly}
use Rattle.kept_rules.specs.Row.{Row, AssemblyRefAt, TypeRefAt, FieldRefAt, MethodRefAt, TypeAt, FieldAt, MethodAt, SpecAt}
use Rattle.kept_numbers.specs.Numbers.{number_of}
use Rattle.row_numbers.specs.declared.table.Table.{Table}
use Rattle.row_numbers.specs.declared.table.Table.TheVariants as table
use Rattle.row_numbers.specs.declared.table.PerTable.{PerTable}
use Rattle.row_numbers.specs.declared.numbers.Firsts.{Firsts}
use Rattle.row_numbers.specs.declared.table.TableRange.{TableRange}

abbrev pub of_table : PerTable → Table → ℕ
of_table c table.AssemblyRef = c.assembly_refs
of_table c table.TypeRef = c.type_refs
of_table c table.FieldRef = c.field_refs
of_table c table.MethodRef = c.method_refs
of_table c table.TypeDef = c.types
of_table c table.Field = c.fields
of_table c table.MethodDef = c.methods
of_table c table.TypeSpec = c.specs

abbrev pub row_in : Table → ℕ → ℕ → Row
row_in table.AssemblyRef f n = AssemblyRefAt f n
row_in table.TypeRef f n = TypeRefAt f n
row_in table.FieldRef f n = FieldRefAt f n
row_in table.MethodRef f n = MethodRefAt f n
row_in table.TypeDef f n = TypeAt f n
row_in table.Field f n = FieldAt f n
row_in table.MethodDef f n = MethodAt f n
row_in table.TypeSpec f n = SpecAt f n

abbrev pub table_length : Assembly → Table → ℕ
table_length p table.AssemblyRef = length p.assemblies
table_length p table.TypeRef = length p.refs
table_length p table.FieldRef = length p.field_refs
table_length p table.MethodRef = length p.method_refs
table_length p table.TypeDef = length p.types
table_length p table.Field = length p.fields
table_length p table.MethodDef = length p.methods
table_length p table.TypeSpec = length p.specs

-- so many rows has each table of each assembly
pub record AreCounts (ps : List Assembly) (counts : List PerTable) : Type 0 where
  pub files : length counts ≡ length ps
  pub each : (f : ℕ) (p : Assembly) (c : PerTable) (t : Table) → slice_get ps f ≡ Some p → slice_get counts f ≡ Some c → of_table c t ≡ table_length p t

-- the number of a row that is there
abbrev pub found_number : List Assembly → Table → ℕ → ℕ → Option ℕ
found_number ps t f n = on_some (slice_get ps f) (λ p. if nat_lt n (table_length p t) then Some (number_of ps (row_in t f n)) else None)

-- that of the first row of a table, or of what follows where it has none
abbrev pub first_number : List Assembly → Table → ℕ → Option ℕ
first_number ps t f = option_map (λ p. number_of ps (row_in t f 0)) (slice_get ps f)

-- ---- from the counts alone

-- the rows of an assembly's tables before one of them
abbrev pub before : PerTable → Table → ℕ
before c table.AssemblyRef = 0
before c table.TypeRef = c.assembly_refs
before c table.FieldRef = c.assembly_refs + c.type_refs
before c table.MethodRef = c.assembly_refs + c.type_refs + c.field_refs
before c table.TypeDef = c.assembly_refs + c.type_refs + c.field_refs + c.method_refs
before c table.Field = c.assembly_refs + c.type_refs + c.field_refs + c.method_refs + c.types
before c table.MethodDef = c.assembly_refs + c.type_refs + c.field_refs + c.method_refs + c.types + c.fields
before c table.TypeSpec = c.assembly_refs + c.type_refs + c.field_refs + c.method_refs + c.types + c.fields + c.methods

abbrev pub all_rows_of : PerTable → ℕ
all_rows_of c = before c table.TypeSpec + c.specs

-- before those of assembly f
abbrev pub start_by : List PerTable → ℕ → ℕ
start_by [] f = 0
start_by (c ∷ cs) zero = 0
start_by (c ∷ cs) (suc f) = all_rows_of c + start_by cs f

pub record AreFirst (start : ℕ) (counts : PerTable) (first : Firsts) : Type 0 where
  pub tables : (t : Table) → of_table first.tables t ≡ start + before counts t
  pub ends : first.end ≡ start + all_rows_of counts
  pub small : first.end < 2 ^ 32

-- the first numbers of the tables; the last number fits
pub record AreFirsts (counts firsts : List PerTable) : Type 0 where
  pub files : length firsts ≡ length counts
  pub tables : (f : ℕ) (s c : PerTable) (t : Table) → slice_get firsts f ≡ Some s → slice_get counts f ≡ Some c → of_table s t ≡ start_by counts f + before c t
  pub fits : (f : ℕ) (c : PerTable) → slice_get counts f ≡ Some c → start_by counts f + all_rows_of c < 2 ^ 32

-- the numbers of a table's rows; none, from 0, where there is no such assembly
abbrev pub range_in : List PerTable → Table → ℕ → Option PerTable → TableRange
range_in counts t f None = record { first = 0; count = 0 }
range_in counts t f (Some c) = record { first = start_by counts f + before c t; count = of_table c t }

abbrev pub range_by : List PerTable → Table → ℕ → TableRange
range_by counts t f = range_in counts t f (slice_get counts f)
