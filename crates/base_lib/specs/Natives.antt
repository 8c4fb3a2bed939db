-- The natives: which methods are internal calls (II.23.1.11), and by which numbers the product knows them.
use Rattle.std.specs.Prelude.{ℕ, ◌-◌, ◌==◌, Bool, true, false, ◌&&◌, List, [], ◌∷◌, ◌++◌, map, length, count_by, if◌then◌else◌, slice_index_or}
use Rattle.std.specs.List.{filter, flat_map, list_all, range_with_len}
use Rattle.std.specs.Str.{bytes_eq}
use Rattle.base_tables.specs.Shape.{Item}
use Rattle.base_tables.specs.declared.shape.Entry.{Entry}
use Rattle.base_tables.specs.declared.shape.Entry.TheVariants.{TypeDef, Method}
use Rattle.base_tables.specs.declared.shape.Work.{Work}
use Rattle.base_tables.specs.declared.shape.Work.TheVariants.{Native}
use Rattle.base_tables.specs.declared.library.TheConstants.{NATIVES}
use Rattle.cil_layout.specs.declared.rows.Row.{Row}
use Rattle.cil_layout.specs.declared.rows.Row.TheVariants.{MethodDef}
use Rattle.base_lib.specs.Signatures.{method_signature}

-- an internal call by its name and its signature
pub record Call : Type 0 where
  pub name : List ℕ
  pub signature : List ℕ

-- the internal calls among the rows of an assembly, in order
abbrev pub calls_of : Row → List Call
calls_of (MethodDef m) = if m.impl_flags == 0x1000 then record { name = m.name; signature = m.signature } ∷ [] else []
calls_of _ = []

abbrev pub calls_in : List Row → List Call
calls_in rows = flat_map calls_of rows

-- the natives among the items of the tables
abbrev pub is_native : Entry → Work → Bool
is_native Method Native = true
is_native _ _ = false

abbrev pub natives_in : List Item → List Item
natives_in items = filter (λ i. is_native i.entry i.body.work) items

abbrev pub call_of : List Item → Item → Call
call_of items i = record { name = i.name; signature = method_signature items i.signature }

abbrev pub native_calls : List Item → List Call
native_calls items = map (call_of items) (natives_in items)

-- each number from 1 to 17 is that of one native, and no native has another
abbrev pub has_each_number : List Item → Bool
has_each_number items =
    (length (natives_in items) == length NATIVES)
    && list_all (λ n. count_by (λ (i : Item). i.body.number == n) (natives_in items) == 1) (range_with_len 1 (length NATIVES))

-- the name of a number: its type's name, a full stop and its own
abbrev pub name_of : ℕ → List ℕ
name_of number = slice_index_or (map (λ n. n.now) NATIVES) (number - 1) []

abbrev pub type_behind : List ℕ → Entry → List ℕ → List ℕ
type_behind type TypeDef name = name
type_behind type _ name = type

abbrev pub is_named : List ℕ → Bool → Item → Bool
is_named type true i = bytes_eq (name_of i.body.number) (type ++ 46 ∷ i.name)
is_named type false i = true

-- behind an item of this type, each native is the method that its number names
unfoldable pub are_named : List ℕ → List Item → Bool
are_named type [] = true
are_named type (i ∷ items) = is_named (type_behind type i.entry i.name) (is_native i.entry i.body.work) i && are_named (type_behind type i.entry i.name) items
