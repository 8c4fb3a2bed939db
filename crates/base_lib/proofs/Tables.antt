-- The tables name only keys and labels that they have, their branches are short, and their natives have the numbers 1 to 17.
use Rattle.std.proofs.Common.{◌≡◌, ℕ, ◌+◌, List, [], ◌∷◌, ◌++◌, Bool, true, refl}
use Rattle.std.specs.Prelude.{◌&&◌, ◌||◌, nat_le, nat_lt, codes}
use Rattle.std.specs.List.{list_all, list_any}
use Rattle.std.specs.Str.{bytes_eq}
use Rattle.base_tables.specs.Shape.{Item, Line, Kind}
use Rattle.base_tables.specs.Tables.{mscorlib_items, native_items, object_items, helper_items, small_number_items, wide_number_items, string_items, text_items, builder_items, exception_items, fault_items, refusal_items, interface_items, list_items, enumerator_items}
use Rattle.base_tables.specs.declared.shape.Entry.{Entry}
use Rattle.base_tables.specs.declared.shape.Entry.TheVariants.{TypeDef, Implements, TypeOf, MethodOf}
use Rattle.base_tables.specs.declared.shape.Element.{Element}
use Rattle.base_tables.specs.declared.shape.Element.TheVariants.{Class, Value}
use Rattle.base_tables.specs.declared.shape.Form.{Form}
use Rattle.base_tables.specs.declared.shape.Form.TheVariants.{Jump, Name}
use Rattle.base_lib.specs.Keys.{has_key}
use Rattle.base_lib.specs.Code.{is_label, label_from, line_length}
use Rattle.base_lib.specs.Natives.{has_each_number, are_named}

-- whether an item has a key
is_there : List Item → List ℕ → Bool
is_there items key = list_any (has_key key) items

-- what an item stands on; an interface and Object have no superclass
base_there : List Item → Entry → Item → Bool
base_there items TypeDef item = is_there items item.base || bytes_eq item.base (codes "none")
base_there items Implements item = is_there items item.base && is_there items item.name
base_there items TypeOf item = is_there items item.base
base_there items MethodOf item = is_there items item.base
base_there items _ item = true

-- the class or value type of a signature
element_there : List Item → Element → List ℕ → Bool
element_there items Class key = is_there items key
element_there items Value key = is_there items key
element_there items _ key = true

kinds_there : List Item → List Kind → Bool
kinds_there items kinds = list_all (λ kind. element_there items kind.element kind.class) kinds

-- what a line names; a branch that ends at a place passes at most 127 bytes, or goes back by at most 128
line_there : List Item → List Line → ℕ → Form → Line → Bool
line_there items all end Name line = is_there items line.text
line_there items all end Jump line =
    list_any (is_label line.text) all && nat_le (label_from 0 all line.text) (end + 127) && nat_le end (label_from 0 all line.text + 128)
line_there items all end _ line = true

lines_there : List Item → List Line → ℕ → List Line → Bool
lines_there items all at [] = nat_lt at 256
lines_there items all at (line ∷ lines) = line_there items all (at + line_length line) line.form line && lines_there items all (at + line_length line) lines

item_there : List Item → Item → Bool
item_there items item =
    base_there items item.entry item && kinds_there items (item.signature.result ∷ item.signature.params)
    && kinds_there items item.body.locals && lines_there items item.body.lines 0 item.body.lines

all_there : List Item → Bool
all_there items = list_all (item_there items) items

-- everything that `mscorlib` names is there
mscorlib_there : all_there mscorlib_items ≡ true
unfolding all_there item_there is_there base_there element_there kinds_there line_there lines_there label_from mscorlib_items object_items helper_items small_number_items wide_number_items string_items text_items builder_items exception_items fault_items refusal_items interface_items list_items enumerator_items
mscorlib_there = refl

-- and everything that `Microsoft.SPOT.Native` names
native_there : all_there native_items ≡ true
unfolding all_there item_there is_there base_there element_there kinds_there line_there lines_there label_from native_items
native_there = refl

abbrev pub all_items : List Item
all_items = mscorlib_items ++ native_items

-- each of the numbers 1 to 17 is that of one native
pub natives_numbered : has_each_number all_items ≡ true
unfolding native_items mscorlib_items object_items helper_items small_number_items wide_number_items string_items text_items builder_items exception_items fault_items refusal_items interface_items list_items enumerator_items
natives_numbered = refl

-- and each is the method that its number names
pub natives_named : are_named [] all_items ≡ true
unfolding are_named native_items mscorlib_items object_items helper_items small_number_items wide_number_items string_items text_items builder_items exception_items fault_items refusal_items interface_items list_items enumerator_items
natives_named = refl
