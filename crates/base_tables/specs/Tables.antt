-- The tables, read from the constants.
use Rattle.std.specs.Prelude.{List, ◌++◌}
use Rattle.base_tables.specs.Shape.{Item, items_shown}
use Rattle.base_tables.specs.declared.objects.TheConstants.{OBJECTS, HELPERS}
use Rattle.base_tables.specs.declared.numbers.TheConstants.{SMALL_NUMBERS, WIDE_NUMBERS}
use Rattle.base_tables.specs.declared.strings.TheConstants.{STRINGS, TEXTS, BUILDERS}
use Rattle.base_tables.specs.declared.exceptions.TheConstants.{EXCEPTIONS, FAULTS, REFUSALS}
use Rattle.base_tables.specs.declared.collections.TheConstants.{INTERFACES, LISTS, ENUMERATORS}
use Rattle.base_tables.specs.declared.library.TheConstants.{NATIVE}

unfoldable pub object_items : List Item
object_items = items_shown OBJECTS

unfoldable pub helper_items : List Item
helper_items = items_shown HELPERS

unfoldable pub small_number_items : List Item
small_number_items = items_shown SMALL_NUMBERS

unfoldable pub wide_number_items : List Item
wide_number_items = items_shown WIDE_NUMBERS

unfoldable pub string_items : List Item
string_items = items_shown STRINGS

unfoldable pub text_items : List Item
text_items = items_shown TEXTS

unfoldable pub builder_items : List Item
builder_items = items_shown BUILDERS

unfoldable pub exception_items : List Item
exception_items = items_shown EXCEPTIONS

unfoldable pub fault_items : List Item
fault_items = items_shown FAULTS

unfoldable pub refusal_items : List Item
refusal_items = items_shown REFUSALS

unfoldable pub interface_items : List Item
interface_items = items_shown INTERFACES

unfoldable pub list_items : List Item
list_items = items_shown LISTS

unfoldable pub enumerator_items : List Item
enumerator_items = items_shown ENUMERATORS

-- the items of the two assemblies
unfoldable pub native_items : List Item
native_items = items_shown NATIVE

unfoldable pub mscorlib_items : List Item
mscorlib_items =
    object_items ++ helper_items ++ small_number_items ++ wide_number_items ++ string_items ++ text_items ++ builder_items
    ++ exception_items ++ fault_items ++ refusal_items ++ interface_items ++ list_items ++ enumerator_items
