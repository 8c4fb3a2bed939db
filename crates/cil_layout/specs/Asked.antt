-- What is asked for.
use Rattle.std.specs.Prelude.{ℕ, ◌+◌, ◌*◌, ◌/◌, ◌^◌, List, [], ◌∷◌, ◌++◌, length, sum_by, Bool, if◌then◌else◌, ◌==◌}
use Rattle.cil_layout.specs.declared.rows.Row.{Row}
use Rattle.cil_layout.specs.declared.rows.Row.TheVariants.{TypeDef, Field, MethodDef, AssemblyRef, TypeRef, MemberRef, TypeSpec, Locals, InterfaceImpl, NestedClass, ClassLayout, Literal}
use Rattle.cil_layout.specs.declared.rows.TheConstants.{MODULE, TYPE_REF, TYPE_DEF, FIELD, METHOD_DEF, INTERFACE_IMPL, MEMBER_REF, CLASS_LAYOUT, STAND_ALONE_SIG, TYPE_SPEC, FIELD_RVA, ASSEMBLY, ASSEMBLY_REF, NESTED_CLASS, LITERAL, ROW_WEIGHT, HEADERS_WEIGHT}

-- An assembly's name and version, the rows in the order asked, and the token of its entry method or 0.
pub record Asked : Type 0 where
  pub name : List ℕ
  pub version : List ℕ
  pub rows : List Row
  pub entry : ℕ

-- an assembly of which nothing but its name was asked for
abbrev pub asked_first : List ℕ → List ℕ → Asked
asked_first name version = record { name = name; version = version; rows = []; entry = 0 }

abbrev pub with_row : Asked → Row → Asked
with_row r row = record r { rows = r.rows ++ row ∷ [] }

abbrev pub with_entry : Asked → ℕ → Asked
with_entry r token = record r { entry = token }

-- the table of a row
abbrev pub table_of : Row → ℕ
table_of (TypeDef t) = TYPE_DEF
table_of (Field f) = FIELD
table_of (MethodDef m) = METHOD_DEF
table_of (AssemblyRef a) = ASSEMBLY_REF
table_of (TypeRef t) = TYPE_REF
table_of (MemberRef m) = MEMBER_REF
table_of (TypeSpec signature) = TYPE_SPEC
table_of (Locals signature) = STAND_ALONE_SIG
table_of (InterfaceImpl i) = INTERFACE_IMPL
table_of (NestedClass n) = NESTED_CLASS
table_of (ClassLayout l) = CLASS_LAYOUT
table_of (Literal units) = LITERAL

-- a field with data has a row of FieldRVA too
abbrev pub if_filled : List ℕ → ℕ
if_filled [] = 0
if_filled (b ∷ bs) = 1

abbrev pub data_rows : Row → ℕ
data_rows (Field f) = if_filled f.bytes
data_rows _ = 0

abbrev pub one_if : Bool → ℕ
one_if b = if b then 1 else 0

-- what a row adds to a table's rows
abbrev pub count_in : ℕ → Row → ℕ
count_in table row = one_if (table_of row == table) + (if table == FIELD_RVA then data_rows row else 0)

-- Module and Assembly have one row, and TypeDef begins with <Module>
abbrev pub fixed_count : ℕ → ℕ
fixed_count table = one_if (table == MODULE) + one_if (table == TYPE_DEF) + one_if (table == ASSEMBLY)

unfoldable pub rows_of : Asked → ℕ → ℕ
rows_of r table = fixed_count table + sum_by (count_in table) r.rows

-- a token names a table in its highest byte and a row in the others (II.22)
abbrev pub token_of : ℕ → ℕ → ℕ
token_of table row = table * 2 ^ 24 + row

-- a multiple of 4 that is large enough
abbrev pub padded_length : ℕ → ℕ
padded_length n = (n + 3) / 4 * 4

-- a name's bytes and the zero behind it
abbrev pub name_weight : List ℕ → ℕ
name_weight name = length name + 1

-- a signature's bytes and their number
abbrev pub signature_weight : List ℕ → ℕ
signature_weight signature = length signature + 4

abbrev pub row_weight : Row → ℕ
row_weight (TypeDef t) = ROW_WEIGHT + name_weight t.namespace + name_weight t.name
row_weight (Field f) = ROW_WEIGHT + name_weight f.name + signature_weight f.signature + ROW_WEIGHT * if_filled f.bytes + padded_length (length f.bytes)
row_weight (MethodDef m) = ROW_WEIGHT + name_weight m.name + signature_weight m.signature + padded_length (length m.body)
row_weight (AssemblyRef a) = ROW_WEIGHT + name_weight a.name
row_weight (TypeRef t) = ROW_WEIGHT + name_weight t.namespace + name_weight t.name
row_weight (MemberRef m) = ROW_WEIGHT + name_weight m.name + signature_weight m.signature
row_weight (TypeSpec signature) = ROW_WEIGHT + signature_weight signature
row_weight (Locals signature) = ROW_WEIGHT + signature_weight signature
row_weight (InterfaceImpl i) = ROW_WEIGHT
row_weight (NestedClass n) = ROW_WEIGHT
row_weight (ClassLayout l) = ROW_WEIGHT
row_weight (Literal units) = 2 * length units + 5

-- The headers, the rows of Module, Assembly and <Module>, and what was asked for.
unfoldable pub weight_of : Asked → ℕ
weight_of r = HEADERS_WEIGHT + 3 * ROW_WEIGHT + name_weight r.name + sum_by row_weight r.rows
