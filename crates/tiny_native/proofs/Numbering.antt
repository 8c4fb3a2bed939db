-- No two natives have one number.
use Rattle.std.proofs.Common.{◌≡◌, ℕ, [], ◌∷◌, Option, Some, None, refl, sym, ap, ◌∙◌}
use Rattle.std.specs.Prelude.{slice_get}
use Rattle.machine.specs.Program.{NativeName, ObjectToString, EnumEquals, EnumToString, ArrayLength, ArrayCopy, StringLength, StringChars, StringConcat, StringSubstring, StringEquals, StringCompare, StringFromChars, StringFromChar, NumberSigned, NumberUnsigned, InitializeArray, DebugPrint, native_number}

abbrev by_number : ℕ → Option NativeName
by_number n = slice_get (DebugPrint ∷ ObjectToString ∷ EnumEquals ∷ EnumToString ∷ ArrayLength ∷ ArrayCopy ∷ StringLength ∷ StringChars ∷ StringConcat ∷ StringSubstring ∷ StringEquals ∷ StringCompare ∷ StringFromChars ∷ StringFromChar ∷ NumberSigned ∷ NumberUnsigned ∷ InitializeArray ∷ DebugPrint ∷ []) n

name_back : (x : NativeName) → by_number (native_number x) ≡ Some x
name_back ObjectToString = refl
name_back EnumEquals = refl
name_back EnumToString = refl
name_back ArrayLength = refl
name_back ArrayCopy = refl
name_back StringLength = refl
name_back StringChars = refl
name_back StringConcat = refl
name_back StringSubstring = refl
name_back StringEquals = refl
name_back StringCompare = refl
name_back StringFromChars = refl
name_back StringFromChar = refl
name_back NumberSigned = refl
name_back NumberUnsigned = refl
name_back InitializeArray = refl
name_back DebugPrint = refl

abbrev name_of : Option NativeName → NativeName → NativeName
name_of None x = x
name_of (Some y) x = y

pub same_name : (x y : NativeName) → native_number x ≡ native_number y → x ≡ y
same_name x y e = ap (λ (o : Option NativeName). name_of o x) (sym (name_back x) ∙ ap by_number e ∙ name_back y)
