-- Each native, called once and again.
use lib.Utf8.{encode}
use Rattle.std.proofs.Common.{◌≡◌, ℕ, false, List, [], ◌∷◌, ◌++◌, Option, Some, None, refl}
use Rattle.std.specs.Prelude.{pos, negsuc}
use Rattle.std.specs.Option.{option_map}
use Rattle.std.specs.Char.Utf16.{utf16_chars}
use Rattle.std.specs.Fmt.{digits}
use Rattle.std.specs.Str.{chars}
use Rattle.plain_types.specs.declared.elem.Elem.TheVariants as elem
use Rattle.machine.specs.Data.{Id, Basic, EnumOf, Value, Int, Long, Null, Object, Handle, Thing, Instance, Text, Elements, Boxed, Frame, State, End, Going, Returned, Threw}
use Rattle.machine.specs.Program.{Program, NativeName, ObjectToString, EnumEquals, EnumToString, ArrayLength, ArrayCopy, StringLength, StringChars, StringConcat, StringSubstring, StringEquals, StringCompare, StringFromChars, StringFromChar, NumberSigned, NumberUnsigned, InitializeArray, DebugPrint}
use Rattle.machine.specs.Numbers.{zero_of}
use Rattle.machine.specs.Throw.{goes, throw, raise}
use Rattle.machine.specs.Natives.{new_text, copy_elements, object_to_string, enum_equals, enum_to_string, array_length, array_copy, string_length, string_chars, string_concat, string_substring, string_equals, string_compare, string_from_chars, string_from_char, number_signed, number_unsigned, initialize_array, debug_print, native}
use Rattle.machine.specs.Trace.{begun}
use Rattle.machine.proofs.Samples.{id, int, string, code, program}

-- a frame that calls the native, with these objects
abbrev caller : Frame
caller = record { method = id 0; initialiser = false; place = 0; arguments = []; locals = []; stack = []; slots = [] }

abbrev library : Program
library = record (program (code [] [] None 1 [] ∷ [])) { bytes = λ f. Some (1 ∷ 2 ∷ 255 ∷ 255 ∷ 5 ∷ []) }

abbrev called : List Thing → NativeName → List Value → Option State
called heap name arguments = native library (begun heap (caller ∷ []) []) caller [] 1 [] name arguments

record Seen : Type 0 where
  stack : List Value
  heap : List Thing
  printed : List ℕ
  threw : Option Id

abbrev top : List Frame → List Value
top [] = []
top (f ∷ fs) = f.stack

abbrev thrown : End → Option Id
thrown (Threw class) = Some class
thrown (Returned n) = None
thrown Going = None

-- what the call leaves
abbrev seen : Option State → Option Seen
seen o = option_map (λ (s : State). record { stack = top s.frames; heap = s.heap; printed = s.output; threw = thrown s.end }) o

abbrev pushes : List Thing → Value → Option Seen
pushes heap v = Some (record { stack = v ∷ []; heap = heap; printed = []; threw = None })

abbrev changes : List Thing → Option Seen
changes heap = Some (record { stack = []; heap = heap; printed = []; threw = None })

abbrev throws : List Thing → ℕ → Option Seen
throws heap class = Some (record { stack = []; heap = heap ++ Instance (id class) [] ∷ []; printed = []; threw = Some (id class) })

abbrev i : ℕ → Value
i n = Int (pos n)

abbrev minus : Value
minus = Int (negsuc 0)

-- "abc" is object 0 and has 2 cells, "b" is object 2
abbrev texts : List Thing
texts = Text (97 ∷ 98 ∷ 99 ∷ []) ∷ Text (98 ∷ []) ∷ []

strings :
    (seen (called texts StringLength (Object 0 ∷ [])) ≡ pushes texts (i 3))
    × (seen (called texts StringLength (Null ∷ [])) ≡ throws texts 2)
    × (seen (called texts StringChars (Object 0 ∷ i 1 ∷ [])) ≡ pushes texts (i 98))
    × (seen (called texts StringChars (Object 0 ∷ i 3 ∷ [])) ≡ throws texts 3)
    × (seen (called texts StringChars (Null ∷ i 3 ∷ [])) ≡ throws texts 2)
    × (seen (called texts StringConcat (Object 2 ∷ Object 0 ∷ [])) ≡ pushes (texts ++ Text (98 ∷ 97 ∷ 98 ∷ 99 ∷ []) ∷ []) (Object 4))
    × (seen (called texts StringConcat (Null ∷ Null ∷ [])) ≡ pushes (texts ++ Text [] ∷ []) (Object 4))
    × (seen (called texts StringSubstring (Object 0 ∷ i 1 ∷ i 2 ∷ [])) ≡ pushes (texts ++ Text (98 ∷ 99 ∷ []) ∷ []) (Object 4))
    × (seen (called texts StringSubstring (Object 0 ∷ i 3 ∷ i 0 ∷ [])) ≡ pushes (texts ++ Text [] ∷ []) (Object 4))
    × (seen (called texts StringSubstring (Object 0 ∷ i 2 ∷ i 2 ∷ [])) ≡ throws texts 11)
    × (seen (called texts StringSubstring (Object 0 ∷ minus ∷ i 2 ∷ [])) ≡ throws texts 11)
    × (seen (called texts StringEquals (Object 0 ∷ Object 2 ∷ [])) ≡ pushes texts (i 0))
    × (seen (called texts StringEquals (Null ∷ Null ∷ [])) ≡ pushes texts (i 1))
    × (seen (called texts StringEquals (Object 2 ∷ Null ∷ [])) ≡ pushes texts (i 0))
    × (seen (called texts StringCompare (Object 0 ∷ Object 2 ∷ [])) ≡ pushes texts minus)
    × (seen (called texts StringCompare (Object 2 ∷ Null ∷ [])) ≡ pushes texts (i 1))
    × (seen (called texts StringCompare (Object 0 ∷ Object 0 ∷ [])) ≡ pushes texts (i 0))
    × (seen (called texts StringFromChar (i 65 ∷ [])) ≡ pushes (texts ++ Text (65 ∷ []) ∷ []) (Object 4))
    × (seen (called [] NumberSigned (Long (negsuc 11) ∷ [])) ≡ pushes (Text (45 ∷ 49 ∷ 50 ∷ []) ∷ []) (Object 0))
    × (seen (called [] NumberUnsigned (Long (negsuc 0) ∷ [])) ≡ pushes (Text (49 ∷ 56 ∷ 52 ∷ 52 ∷ 54 ∷ 55 ∷ 52 ∷ 52 ∷ 48 ∷ 55 ∷ 51 ∷ 55 ∷ 48 ∷ 57 ∷ 53 ∷ 53 ∷ 49 ∷ 54 ∷ 49 ∷ 53 ∷ []) ∷ []) (Object 0))
    × (seen (called texts DebugPrint (Object 2 ∷ [])) ≡ Some (record { stack = []; heap = texts; printed = 98 ∷ 10 ∷ []; threw = None }))
unfolding goes throw raise zero_of new_text string_length string_chars string_concat string_substring string_equals string_compare string_from_char number_signed number_unsigned debug_print utf16_chars encode digits
strings =
    (refl, refl, refl, refl, refl, refl, refl, refl, refl, refl, refl, refl, refl, refl, refl, refl, refl, refl, refl, refl, refl)

-- arrays of int32, of chars and of strings: objects 0, 3 and 5
abbrev int_array : List Value → Thing
int_array vs = Elements int vs

abbrev char_array : Thing
char_array = Elements (Basic elem.Char) (i 97 ∷ i 98 ∷ [])

abbrev string_array : Thing
string_array = Elements string (Null ∷ [])

abbrev lists : List Value → List Thing
lists vs = int_array vs ∷ char_array ∷ string_array ∷ []

abbrev four : List Value
four = i 1 ∷ i 2 ∷ i 3 ∷ i 4 ∷ []

arrays :
    (seen (called (lists four) ArrayLength (Object 0 ∷ [])) ≡ pushes (lists four) (i 4))
    -- overlapping ranges as if read first
    × (seen (called (lists four) ArrayCopy (Object 0 ∷ i 0 ∷ Object 0 ∷ i 1 ∷ i 3 ∷ [])) ≡ changes (lists (i 1 ∷ i 1 ∷ i 2 ∷ i 3 ∷ [])))
    × (seen (called (lists four) ArrayCopy (Object 0 ∷ i 1 ∷ Object 0 ∷ i 0 ∷ i 3 ∷ [])) ≡ changes (lists (i 2 ∷ i 3 ∷ i 4 ∷ i 4 ∷ [])))
    × (seen (called (lists four) ArrayCopy (Object 0 ∷ i 4 ∷ Object 0 ∷ i 0 ∷ i 0 ∷ [])) ≡ changes (lists four))
    × (seen (called (lists four) ArrayCopy (Object 0 ∷ i 2 ∷ Object 0 ∷ i 0 ∷ i 3 ∷ [])) ≡ throws (lists four) 9)
    × (seen (called (lists four) ArrayCopy (Object 0 ∷ i 9 ∷ Object 0 ∷ minus ∷ i 3 ∷ [])) ≡ throws (lists four) 11)
    × (seen (called (lists four) ArrayCopy (Object 0 ∷ minus ∷ Object 3 ∷ i 0 ∷ i 3 ∷ [])) ≡ throws (lists four) 8)
    × (seen (called (lists four) ArrayCopy (Object 0 ∷ minus ∷ Null ∷ i 0 ∷ i 3 ∷ [])) ≡ throws (lists four) 10)
    × (seen (called (lists four) StringFromChars (Object 4 ∷ i 1 ∷ i 1 ∷ [])) ≡ None)
    × (seen (called (lists four) StringFromChars (Object 3 ∷ i 1 ∷ i 1 ∷ [])) ≡ pushes (lists four ++ Text (98 ∷ []) ∷ []) (Object 7))
    × (seen (called (lists four) StringFromChars (Object 3 ∷ i 1 ∷ i 2 ∷ [])) ≡ throws (lists four) 11)
    × (seen (called (lists four) StringFromChars (Null ∷ i 1 ∷ i 2 ∷ [])) ≡ throws (lists four) 10)
    -- five bytes of data: enough for one int32, and not for two; a char is two bytes
    × (seen (called (int_array (i 0 ∷ []) ∷ []) InitializeArray (Object 0 ∷ Handle (id 0) ∷ [])) ≡ changes (int_array (Int (negsuc 65022) ∷ []) ∷ []))
    × (seen (called (lists four) InitializeArray (Object 0 ∷ Handle (id 0) ∷ [])) ≡ throws (lists four) 9)
    × (seen (called (lists four) InitializeArray (Object 3 ∷ Handle (id 0) ∷ [])) ≡ changes (int_array four ∷ Elements (Basic elem.Char) (i 513 ∷ i 65535 ∷ []) ∷ string_array ∷ []))
    × (seen (called (lists four) InitializeArray (Object 5 ∷ Handle (id 0) ∷ [])) ≡ throws (lists four) 9)
    × (seen (called (lists four) InitializeArray (Null ∷ Handle (id 0) ∷ [])) ≡ throws (lists four) 2)
unfolding goes throw raise zero_of new_text array_length array_copy copy_elements string_from_chars initialize_array
arrays = (refl, refl, refl, refl, refl, refl, refl, refl, refl, refl, refl, refl, refl, refl, refl, refl, refl)

-- boxes of an enum over uint32, of another one, and of uint32: objects 0, 2 and 4
abbrev colours : List Thing
colours =
    Boxed (EnumOf elem.U4 (id 50)) minus ∷ Boxed (EnumOf elem.U4 (id 51)) minus ∷ Boxed (Basic elem.U4) minus ∷ Boxed (EnumOf elem.U4 (id 50)) minus ∷ []

objects :
    (seen (called colours EnumEquals (Object 0 ∷ Object 6 ∷ [])) ≡ pushes colours (i 1))
    × (seen (called colours EnumEquals (Object 0 ∷ Object 2 ∷ [])) ≡ pushes colours (i 0))
    × (seen (called colours EnumEquals (Object 0 ∷ Object 4 ∷ [])) ≡ pushes colours (i 0))
    × (seen (called colours EnumEquals (Object 0 ∷ Null ∷ [])) ≡ pushes colours (i 0))
    × (seen (called colours EnumEquals (Null ∷ Null ∷ [])) ≡ throws colours 2)
    × (seen (called colours EnumEquals (Object 4 ∷ Null ∷ [])) ≡ None)
    × (seen (called colours EnumToString (Object 0 ∷ [])) ≡ pushes (colours ++ Text (52 ∷ 50 ∷ 57 ∷ 52 ∷ 57 ∷ 54 ∷ 55 ∷ 50 ∷ 57 ∷ 53 ∷ []) ∷ []) (Object 8))
    × (seen (called (Instance (id 66) [] ∷ []) ObjectToString (Object 0 ∷ [])) ≡ pushes (Instance (id 66) [] ∷ Text (66 ∷ []) ∷ []) (Object 1))
    × (seen (called [] ObjectToString (Null ∷ [])) ≡ throws [] 2)
unfolding goes throw raise zero_of new_text object_to_string enum_equals enum_to_string digits chars
objects = (refl, refl, refl, refl, refl, refl, refl, refl, refl)
