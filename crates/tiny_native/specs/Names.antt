-- The natives by the number of their arguments, as the machine names them.
use Rattle.machine.specs.Program.{NativeName, ObjectToString, EnumEquals, EnumToString, ArrayLength, ArrayCopy, StringLength, StringChars, StringConcat, StringSubstring, StringEquals, StringCompare, StringFromChars, StringFromChar, NumberSigned, NumberUnsigned, InitializeArray, DebugPrint}
use Rattle.tiny_native.specs.declared.native.OfOne.{OfOne}
use Rattle.tiny_native.specs.declared.native.OfOne.TheVariants as one
use Rattle.tiny_native.specs.declared.native.OfTwo.{OfTwo}
use Rattle.tiny_native.specs.declared.native.OfTwo.TheVariants as two
use Rattle.tiny_native.specs.declared.native.OfThree.{OfThree}
use Rattle.tiny_native.specs.declared.native.OfThree.TheVariants as three
use Rattle.tiny_native.specs.declared.native.Native.{Native}
use Rattle.tiny_native.specs.declared.native.Native.TheVariants.{One, Two, Three, Copy}

abbrev pub one_name : OfOne → NativeName
one_name one.ObjectToString = ObjectToString
one_name one.EnumToString = EnumToString
one_name one.ArrayLength = ArrayLength
one_name one.StringLength = StringLength
one_name one.StringFromChar = StringFromChar
one_name one.NumberSigned = NumberSigned
one_name one.NumberUnsigned = NumberUnsigned
one_name one.DebugPrint = DebugPrint

abbrev pub two_name : OfTwo → NativeName
two_name two.EnumEquals = EnumEquals
two_name two.StringChars = StringChars
two_name two.StringConcat = StringConcat
two_name two.StringEquals = StringEquals
two_name two.StringCompare = StringCompare
two_name two.InitializeArray = InitializeArray

abbrev pub three_name : OfThree → NativeName
three_name three.StringSubstring = StringSubstring
three_name three.StringFromChars = StringFromChars

abbrev pub native_name : Native → NativeName
native_name (One n) = one_name n
native_name (Two n) = two_name n
native_name (Three n) = three_name n
native_name Copy = ArrayCopy
