-- The tokens that keys stand for.
use Rattle.std.specs.Prelude.{ℕ, ◌+◌, ◌==◌, List, [], ◌∷◌, ◌++◌, length, sum_by, count_by, Bool, true, false, ◌&&◌, if◌then◌else◌}
use Rattle.std.specs.Str.{bytes_eq}
use Rattle.base_tables.specs.Shape.{Item}
use Rattle.base_tables.specs.declared.shape.Entry.{Entry}
use Rattle.base_tables.specs.declared.shape.Entry.TheVariants.{Literal, TypeDef, Field, Method, Implements, Assembly, TypeOf, MethodOf}
use Rattle.cil_layout.specs.declared.rows.TheConstants.{TYPE_REF, TYPE_DEF, FIELD, METHOD_DEF, INTERFACE_IMPL, MEMBER_REF, ASSEMBLY_REF, LITERAL}
use Rattle.cil_layout.specs.Asked.{token_of}
use Rattle.cil_layout.specs.Text.{text_size}

-- that a class implements an interface has no key
abbrev pub is_keyed : Entry → Bool
is_keyed Implements = false
is_keyed _ = true

abbrev pub has_key : List ℕ → Item → Bool
has_key key item = is_keyed item.entry && bytes_eq item.key key

abbrev pub table_of_entry : Entry → ℕ
table_of_entry Literal = LITERAL
table_of_entry TypeDef = TYPE_DEF
table_of_entry Field = FIELD
table_of_entry Method = METHOD_DEF
table_of_entry Implements = INTERFACE_IMPL
table_of_entry Assembly = ASSEMBLY_REF
table_of_entry TypeOf = TYPE_REF
table_of_entry MethodOf = MEMBER_REF

abbrev pub table_of : Item → ℕ
table_of item = table_of_entry item.entry

-- the bytes of a literal's entry
abbrev pub entry_len : Entry → ℕ → ℕ
entry_len Literal units = text_size units
entry_len _ units = 0

abbrev pub literal_len : Item → ℕ
literal_len item = entry_len item.entry (length item.key)

-- Rows count from 1, and types from 2, since <Module> is the first one; a literal stands behind the first byte and the entries before it.
abbrev pub row_behind : List Item → ℕ → ℕ
row_behind before table =
    if table == LITERAL then sum_by literal_len before + 1
    else if table == TYPE_DEF then count_by (λ x. table_of x == table) before + 2
    else count_by (λ x. table_of x == table) before + 1

abbrev pub token_before : List Item → Item → ℕ
token_before before item = token_of (table_of item) (row_behind before (table_of item))

-- the token of the first item that has the key, or 0
unfoldable pub token_from : List Item → List Item → List ℕ → ℕ
token_from before [] key = 0
token_from before (item ∷ items) key = if has_key key item then token_before before item else token_from (before ++ item ∷ []) items key

abbrev pub token_of_key : List Item → List ℕ → ℕ
token_of_key items key = token_from [] items key
