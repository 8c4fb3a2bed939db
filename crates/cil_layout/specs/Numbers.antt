-- The rows of the tables as numbers (II.22).
use Rattle.std.specs.Prelude.{ℕ, ◌+◌, ◌*◌, ◌/◌, ◌%◌, ◌^◌, List, [], ◌∷◌, ◌++◌, length, slice_index, if◌then◌else◌, ◌==◌}
use Rattle.cil_layout.specs.declared.rows.Row.{Row}
use Rattle.cil_layout.specs.declared.rows.Row.TheVariants.{TypeDef, Field, MethodDef, AssemblyRef, TypeRef, MemberRef, TypeSpec, Locals, InterfaceImpl, NestedClass, ClassLayout, Literal}
use Rattle.cil_layout.specs.declared.rows.TheConstants.{MODULE, TYPE_DEF, ASSEMBLY, FIELD_RVA, TYPE_REF, TYPE_SPEC, METHOD_DEF, ASSEMBLY_REF}
use Rattle.cil_layout.specs.declared.places.Places.{Places}
use Rattle.cil_layout.specs.declared.fixed.TheConstants.{CONTENT_RVA, FIRST_NAME, HASH_ALGORITHM}
use Rattle.cil_layout.specs.Asked.{table_of}
use Rattle.cil_layout.specs.Heaps.{name_entry, name_place, strings_of, blobs_of, content_of}

-- before the first row
abbrev pub first_places : List ℕ → Places
first_places name = record { strings = FIRST_NAME + length (name_entry name); blobs = 1; content = 0; fields = 0; methods = 0 }

abbrev pub is_field : Row → ℕ
is_field (Field f) = 1
is_field _ = 0

abbrev pub is_method : Row → ℕ
is_method (MethodDef m) = 1
is_method _ = 0

-- behind a row
abbrev pub after : Places → Row → Places
after p row = record {
  strings = p.strings + length (strings_of row);
  blobs = p.blobs + length (blobs_of row);
  content = p.content + length (content_of row);
  fields = p.fields + is_field row;
  methods = p.methods + is_method row;
}

-- how far they have come together
abbrev pub reach : Places → ℕ
reach p = p.strings + p.blobs + p.content + p.fields + p.methods

-- the parts of a token, and the coded indexes that it stands for (II.24.2.6)
abbrev pub token_table : ℕ → ℕ
token_table token = token / 2 ^ 24

abbrev pub token_row : ℕ → ℕ
token_row token = token % 2 ^ 24

abbrev pub type_tag : ℕ → ℕ
type_tag table = if table == TYPE_REF then 1 else if table == TYPE_SPEC then 2 else 0

abbrev pub parent_tag : ℕ → ℕ
parent_tag table = if table == TYPE_REF then 1 else if table == METHOD_DEF then 3 else if table == TYPE_SPEC then 4 else 0

abbrev pub scope_tag : ℕ → ℕ
scope_tag table = if table == ASSEMBLY_REF then 2 else if table == TYPE_REF then 3 else 0

abbrev pub type_index : ℕ → ℕ
type_index token = token_row token * 4 + type_tag (token_table token)

abbrev pub parent_index : ℕ → ℕ
parent_index token = token_row token * 8 + parent_tag (token_table token)

abbrev pub scope_index : ℕ → ℕ
scope_index token = token_row token * 4 + scope_tag (token_table token)

-- a method without body has the RVA 0
abbrev pub body_rva : ℕ → List ℕ → ℕ
body_rva at [] = 0
body_rva at (b ∷ bs) = CONTENT_RVA + at

-- the row in the row's own table
abbrev pub numbers_of : Places → Row → List ℕ
numbers_of p (TypeDef t) = t.flags ∷ name_place (p.strings + length (name_entry t.namespace)) t.name ∷ name_place p.strings t.namespace ∷ type_index t.extends ∷ (p.fields + 1) ∷ (p.methods + 1) ∷ []
numbers_of p (Field f) = f.flags ∷ name_place p.strings f.name ∷ p.blobs ∷ []
numbers_of p (MethodDef m) = body_rva p.content m.body ∷ m.impl_flags ∷ m.flags ∷ name_place p.strings m.name ∷ p.blobs ∷ 1 ∷ []
numbers_of p (AssemblyRef a) = slice_index a.version 0 ∷ slice_index a.version 1 ∷ slice_index a.version 2 ∷ slice_index a.version 3 ∷ 0 ∷ 0 ∷ name_place p.strings a.name ∷ 0 ∷ 0 ∷ []
numbers_of p (TypeRef t) = scope_index t.scope ∷ name_place (p.strings + length (name_entry t.namespace)) t.name ∷ name_place p.strings t.namespace ∷ []
numbers_of p (MemberRef m) = parent_index m.parent ∷ name_place p.strings m.name ∷ p.blobs ∷ []
numbers_of p (TypeSpec signature) = p.blobs ∷ []
numbers_of p (Locals signature) = p.blobs ∷ []
numbers_of p (InterfaceImpl i) = token_row i.class ∷ type_index i.interface ∷ []
numbers_of p (NestedClass n) = token_row n.nested ∷ token_row n.enclosing ∷ []
numbers_of p (ClassLayout l) = 0 ∷ l.size ∷ token_row l.class ∷ []
numbers_of p (Literal units) = []

-- a field with data has a row of FieldRVA too
abbrev pub data_row : Places → List ℕ → List (List ℕ)
data_row p [] = []
data_row p (b ∷ bs) = ((CONTENT_RVA + p.content) ∷ (p.fields + 1) ∷ []) ∷ []

abbrev pub data_row_of : Places → Row → List (List ℕ)
data_row_of p (Field f) = data_row p f.bytes
data_row_of p _ = []

-- the rows of a table that one row makes
abbrev pub rows_in : ℕ → Places → Row → List (List ℕ)
rows_in table p row = (if table_of row == table then numbers_of p row ∷ [] else []) ++ (if table == FIELD_RVA then data_row_of p row else [])

unfoldable pub rows_from : ℕ → Places → List Row → List (List ℕ)
rows_from table p [] = []
rows_from table p (row ∷ rows) = rows_in table p row ++ rows_from table (after p row) rows

-- the rows of Module and Assembly, and <Module>
abbrev pub fixed_rows : List ℕ → List ℕ → ℕ → List (List ℕ)
fixed_rows name version table =
    if table == MODULE then (0 ∷ name_place FIRST_NAME name ∷ 1 ∷ 0 ∷ 0 ∷ []) ∷ []
    else if table == TYPE_DEF then (0 ∷ 1 ∷ 0 ∷ 0 ∷ 1 ∷ 1 ∷ []) ∷ []
    else if table == ASSEMBLY then (HASH_ALGORITHM ∷ slice_index version 0 ∷ slice_index version 1 ∷ slice_index version 2 ∷ slice_index version 3 ∷ 0 ∷ 0 ∷ name_place FIRST_NAME name ∷ 0 ∷ []) ∷ []
    else []

abbrev pub table_rows : List ℕ → List ℕ → List Row → ℕ → List (List ℕ)
table_rows name version rows table = fixed_rows name version table ++ rows_from table (first_places name) rows
