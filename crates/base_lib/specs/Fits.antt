-- Tests of items: names and numbers fit, lists are short, and what an item stands on is a row of a table that its column takes.
use Rattle.std.specs.Prelude.{ℕ, ◌+◌, ◌^◌, List, [], ◌∷◌, length, Bool, true, ◌==◌, ◌&&◌, ◌||◌, nat_le, nat_lt, count_by, sum_by}
use Rattle.std.specs.List.{list_all, list_any}
use Rattle.base_tables.specs.Shape.{Item}
use Rattle.base_tables.specs.declared.shape.Entry.{Entry}
use Rattle.base_tables.specs.declared.shape.Entry.TheVariants.{TypeDef, Implements, TypeOf, MethodOf}
use Rattle.cil_layout.specs.declared.rows.TheConstants.{MODULE, TYPE_REF, TYPE_DEF, METHOD_DEF, TYPE_SPEC, ASSEMBLY_REF}
use Rattle.cil_layout.specs.Asked.{fixed_count}
use Rattle.cil_layout.specs.Numbers.{token_table, token_row}
use Rattle.cil_layout.specs.Askable.{is_name, are_units}
use Rattle.base_lib.specs.Keys.{table_of, token_of_key, literal_len}

-- short texts and lists
abbrev pub is_short : Item → Bool
is_short i =
    nat_le (length i.key) 100 && nat_le (length i.name) 100 && nat_le (length i.namespace) 100
    && nat_le (length i.signature.params) 100 && nat_le (length i.body.locals) 100 && nat_le (length i.body.lines) 500

-- names without the zero character, and numbers that fit
abbrev pub is_plain : Item → Bool
is_plain i =
    is_name i.name && is_name i.namespace && are_units i.key && nat_lt i.flags (2 ^ 32)
    && list_all (λ line. nat_lt line.number 256) i.body.lines

-- the rows that these items make
abbrev pub count_of : List Item → ℕ → ℕ
count_of items table = fixed_count table + count_by (λ i. table_of i == table) items

-- the token of a row of one of these tables
abbrev pub names_row : (ℕ → ℕ) → List ℕ → ℕ → Bool
names_row count tables token =
    list_any (λ table. table == token_table token) tables && nat_le 1 (token_row token) && nat_le (token_row token) (count (token_table token))

-- the tables of the tokens that columns take (II.24.2.6)
abbrev pub type_tables : List ℕ
type_tables = TYPE_DEF ∷ TYPE_REF ∷ TYPE_SPEC ∷ []

abbrev pub class_tables : List ℕ
class_tables = TYPE_DEF ∷ []

abbrev pub scope_tables : List ℕ
scope_tables = MODULE ∷ ASSEMBLY_REF ∷ TYPE_REF ∷ []

abbrev pub parent_tables : List ℕ
parent_tables = TYPE_DEF ∷ TYPE_REF ∷ METHOD_DEF ∷ TYPE_SPEC ∷ []

-- what an entry stands on is there; a type may stand on nothing
abbrev pub stands : List Item → Entry → Item → Bool
stands items TypeDef i = (token_of_key items i.base == 0) || names_row (count_of items) type_tables (token_of_key items i.base)
stands items Implements i =
    names_row (count_of items) class_tables (token_of_key items i.name)
    && names_row (count_of items) type_tables (token_of_key items i.base)
stands items TypeOf i = names_row (count_of items) scope_tables (token_of_key items i.base)
stands items MethodOf i = names_row (count_of items) parent_tables (token_of_key items i.base)
stands items _ i = true

-- an item among all items
unfoldable pub is_fitting : List Item → Item → Bool
is_fitting items i = is_short i && is_plain i && stands items i.entry i

-- few items, with literals that are short together
unfoldable pub all_fit : List Item → Bool
all_fit items = nat_le (length items) 300 && nat_le (sum_by literal_len items) 1000000 && list_all (is_fitting items) items
