-- The base library's items are fitting.
use Rattle.std.proofs.Common.{◌≡◌, true, refl}
use Rattle.std.specs.Str.{is_utf8, chars}
use lib.Utf8.{encode}
use Rattle.base_tables.specs.Tables.{mscorlib_items, native_items, object_items, helper_items, small_number_items, wide_number_items, string_items, text_items, builder_items, exception_items, fault_items, refusal_items, interface_items, list_items, enumerator_items}
use Rattle.base_lib.specs.Keys.{token_from}
use Rattle.base_lib.specs.Fits.{is_fitting, all_fit}

-- those of `mscorlib`
pub mscorlib_fits : all_fit mscorlib_items ≡ true
unfolding all_fit is_fitting token_from is_utf8 chars encode mscorlib_items object_items helper_items small_number_items wide_number_items string_items text_items builder_items exception_items fault_items refusal_items interface_items list_items enumerator_items
mscorlib_fits = refl

-- and those of `Microsoft.SPOT.Native`
pub native_fits : all_fit native_items ≡ true
unfolding all_fit is_fitting token_from is_utf8 chars encode native_items
native_fits = refl
