-- Calls, strings, boxes and casts, run.
use lib.Utf8.{encode}
use Rattle.std.proofs.Common.{◌≡◌, ℕ, ◌==◌, ◌&&◌, List, [], ◌∷◌, Some, None, refl}
use Rattle.std.specs.Prelude.{if◌then◌else◌, pos}
use Rattle.std.specs.Char.Utf16.{utf16_chars}
use Rattle.std.specs.Fmt.{digits}
use Rattle.std.specs.Str.{chars}
use Rattle.cil_opcodes.specs.declared.shape.IntegerType.TheVariants.{I4}
use Rattle.cil_opcodes.specs.declared.shape.Operator.TheVariants.{Add}
use Rattle.cil_opcodes.specs.declared.shape.Comparison.TheVariants.{Equal, GreaterUnsigned}
use Rattle.plain_types.specs.declared.elem.Elem.TheVariants as elem
use Rattle.machine.specs.Data.{CliType, Int, Null, Plain, To, Basic, EnumOf, ArrayOf, ClassOf, Bits}
use Rattle.machine.specs.Program.{Program, Exact, Typed, Push, Pop, Binary, Compare, Call, CallVirtual, NewObject, Return, LoadArgument, LoadText, LoadLocal, StoreLocal, LoadIndirect, StoreIndirect, NewArray, CastClass, IsInstance, Box, Unbox, UnboxAny, ObjectToString, EnumToString}
use Rattle.machine.specs.Numbers.{binary, compare, kept, kept_in, zero_of, zero_place}
use Rattle.machine.specs.Throw.{goes, throw, raise}
use Rattle.machine.specs.Objects.{load_text, load_indirect, store_indirect, new_array, cast_class, is_instance, box_value, unbox, unbox_value}
use Rattle.machine.specs.Natives.{new_text, object_to_string, enum_to_string, debug_print}
use Rattle.machine.specs.Calls.{starts, invoke, call, call_virtual, new_object, return_value}
use Rattle.machine.specs.Step.{step}
use Rattle.machine.specs.Trace.{passes, WithNumber, WithClass, MemorySpent, NoCase, start, trace}
use Rattle.machine.proofs.Samples.{id, int, string, object, Part, code, native, print, below, fits, program, shows}

-- ---- calls: class 41 is below class 40, and overrides its virtual method 1 by 2; 3 is a constructor

abbrev constructor : Part
constructor = code (Plain (ClassOf (id 40)) ∷ []) [] None 0 (Return ∷ [])

abbrev gives : ℕ → Part
gives n = code (Plain (ClassOf (id 40)) ∷ []) [] (Some (Plain int)) 1 (Push (Int (pos n)) ∷ Return ∷ [])

abbrev overridden : ℕ → ℕ → ℕ
overridden class method = if (class == 41) && (method == 1) then 2 else method

abbrev classes : List Part → Program
classes parts =
    record (program parts) { is_sub = below ((41, 40) ∷ []); fits = fits ((41, 40) ∷ []); target = λ c m. Some (id (overridden c.row m.row)) }

-- the object's class tells the body
abbrev virtual : ℕ → Part
virtual class = code [] [] (Some (Plain int)) 1 (NewObject (id class) (id 3) ∷ CallVirtual (id 1) ∷ Return ∷ [])

-- a call names its body, and passes null on
abbrev base_call : Part
base_call = code [] [] (Some (Plain int)) 1 (Push Null ∷ Call (id 1) ∷ Return ∷ [])

abbrev null_virtual : Part
null_virtual = code [] [] (Some (Plain int)) 1 (Push Null ∷ CallVirtual (id 1) ∷ Return ∷ [])

-- a number is no reference
abbrev wrong_receiver : Part
wrong_receiver = code [] [] (Some (Plain int)) 1 (Push (Int (pos 1)) ∷ CallVirtual (id 1) ∷ Return ∷ [])

-- a small integer is returned as it is, and not cut
abbrev returns_byte : Part
returns_byte = code [] [] (Some (Plain (Basic elem.I1))) 1 (Push (Int (pos 300)) ∷ Return ∷ [])

abbrev calls_it : Part
calls_it = code [] [] (Some (Plain int)) 1 (Call (id 1) ∷ Return ∷ [])

calls :
    (trace (classes (virtual 40 ∷ gives 5 ∷ gives 6 ∷ constructor ∷ [])) 100 1000 ≡ shows [] (WithNumber (Some (pos 5))))
    × (trace (classes (virtual 41 ∷ gives 5 ∷ gives 6 ∷ constructor ∷ [])) 100 1000 ≡ shows [] (WithNumber (Some (pos 6))))
    × (trace (classes (base_call ∷ gives 5 ∷ gives 6 ∷ constructor ∷ [])) 100 1000 ≡ shows [] (WithNumber (Some (pos 5))))
    × (trace (classes (null_virtual ∷ gives 5 ∷ gives 6 ∷ constructor ∷ [])) 100 1000 ≡ shows [] (WithClass (2 ∷ [])))
    × (trace (classes (wrong_receiver ∷ gives 5 ∷ gives 6 ∷ constructor ∷ [])) 100 1000 ≡ shows [] (NoCase (Some (record { method = id 0; place = 1 }))))
    × (trace (program (calls_it ∷ returns_byte ∷ [])) 100 1000 ≡ shows [] (WithNumber (Some (pos 300))))
unfolding trace step goes start passes starts invoke call call_virtual new_object return_value throw raise kept kept_in zero_of zero_place
calls = (refl, refl, refl, refl, refl, refl)

-- ---- strings: equal literals are one object, and a surrogate without a partner is printed as U+FFFD

abbrev literals : Part
literals = code [] [] (Some (Plain int)) 3 (LoadText (97 ∷ []) ∷ LoadText (97 ∷ []) ∷ Compare Equal ∷ LoadText (98 ∷ []) ∷ LoadText (97 ∷ []) ∷ Compare Equal ∷ Binary Add ∷ Return ∷ [])

-- U+1F600 as a pair, a high surrogate alone, and a low one alone
abbrev surrogates : Part
surrogates = code [] [] None 1 (LoadText (0xD83D ∷ 0xDE00 ∷ 0xD83D ∷ 97 ∷ 0xDE00 ∷ []) ∷ Call (id 1) ∷ Push Null ∷ Call (id 1) ∷ Return ∷ [])

strings :
    (trace (program (literals ∷ [])) 100 1000 ≡ shows [] (WithNumber (Some (pos 1))))
    × (trace (program (surrogates ∷ print ∷ [])) 100 1000 ≡ shows (0xF0 ∷ 0x9F ∷ 0x98 ∷ 0x80 ∷ 0xEF ∷ 0xBF ∷ 0xBD ∷ 97 ∷ 0xEF ∷ 0xBF ∷ 0xBD ∷ 10 ∷ 10 ∷ []) (WithNumber None))
    -- a frame of 5 cells and two texts of 2
    × (trace (program (literals ∷ [])) 100 9 ≡ shows [] (WithNumber (Some (pos 1))))
    × (trace (program (literals ∷ [])) 100 8 ≡ shows [] MemorySpent)
    -- seven units are two cells behind the first, and six are one: the frame has 3
    × (trace (program (code [] [] None 1 (LoadText (1 ∷ 2 ∷ 3 ∷ 4 ∷ 5 ∷ 6 ∷ 7 ∷ []) ∷ Pop ∷ Return ∷ []) ∷ [])) 100 5 ≡ shows [] MemorySpent)
    × (trace (program (code [] [] None 1 (LoadText (1 ∷ 2 ∷ 3 ∷ 4 ∷ 5 ∷ 6 ∷ []) ∷ Pop ∷ Return ∷ []) ∷ [])) 100 5 ≡ shows [] (WithNumber None))
unfolding trace step goes start passes starts invoke call return_value binary compare kept kept_in zero_of zero_place load_text debug_print utf16_chars encode chars digits
strings = (refl, refl, refl, refl, refl, refl)

-- ---- boxes, enums and casts: class 50 is an enum over a signed byte

abbrev colour : CliType
colour = EnumOf elem.I1 (id 50)

-- a box cuts its value; an enum is unboxed as its number, and a pointer into the box is written through
abbrev boxes : Part
boxes =
    code [] (Plain object ∷ []) (Some (Plain int)) 3
    (Push (Int (pos 255)) ∷ Box colour ∷ StoreLocal 0 ∷ LoadLocal 0 ∷ UnboxAny (Basic elem.I1) ∷ LoadLocal 0 ∷ Unbox colour ∷ Push (Int (pos 9)) ∷ StoreIndirect (Typed colour)
    ∷ LoadLocal 0 ∷ UnboxAny colour ∷ Binary Add ∷ Return ∷ [])

-- another number is refused, and so is null
abbrev wrong_box : Part
wrong_box = code [] [] None 1 (Push (Int (pos 1)) ∷ Box int ∷ UnboxAny (Basic elem.U4) ∷ Pop ∷ Return ∷ [])

abbrev null_box : Part
null_box = code [] [] None 1 (Push Null ∷ Unbox int ∷ Pop ∷ Return ∷ [])

-- null passes a cast, a string is an object, and an object is no string
abbrev casts : Part
casts = code [] [] None 1 (Push Null ∷ CastClass string ∷ Pop ∷ LoadText (97 ∷ []) ∷ CastClass object ∷ UnboxAny string ∷ Pop ∷ Push (Int (pos 0)) ∷ NewArray int ∷ CastClass string ∷ Pop ∷ Return ∷ [])

-- `isinst` gives null, or the reference
abbrev tests : Part
tests = code [] [] (Some (Plain int)) 3 (LoadText (97 ∷ []) ∷ IsInstance (ArrayOf string) ∷ Push Null ∷ Compare Equal ∷ Push (Int (pos 0)) ∷ NewArray string ∷ IsInstance (ArrayOf object) ∷ Push Null ∷ Compare GreaterUnsigned ∷ Binary Add ∷ Return ∷ [])

-- a virtual method of a value type gets a pointer into the box
abbrev calls_on_box : Part
calls_on_box = code [] [] (Some (Plain int)) 1 (Push (Int (pos 7)) ∷ Box int ∷ CallVirtual (id 2) ∷ Return ∷ [])

abbrev of_value_type : Part
of_value_type = code (To int ∷ []) [] (Some (Plain int)) 1 (LoadArgument 0 ∷ LoadIndirect (Exact (Bits I4)) ∷ Return ∷ [])

abbrev of_object : Part
of_object = code (Plain object ∷ []) [] (Some (Plain int)) 1 (Push (Int (pos 1)) ∷ Return ∷ [])

-- ToString of Object gives the full name, with brackets for arrays; that of an enum its number
abbrev names : Part
names =
    code [] [] None 1
    (Push (Int (pos 1)) ∷ NewArray (ArrayOf (ClassOf (id 65))) ∷ Call (id 2) ∷ Call (id 1) ∷ Push (Int (pos 254)) ∷ Box colour ∷ Call (id 3) ∷ Call (id 1) ∷ Return ∷ [])

boxed :
    (trace (program (boxes ∷ [])) 100 1000 ≡ shows [] (WithNumber (Some (pos 8))))
    × (trace (program (wrong_box ∷ [])) 100 1000 ≡ shows [] (WithClass (7 ∷ [])))
    × (trace (program (null_box ∷ [])) 100 1000 ≡ shows [] (WithClass (2 ∷ [])))
    × (trace (program (casts ∷ [])) 100 1000 ≡ shows [] (WithClass (7 ∷ [])))
    × (trace (program (tests ∷ [])) 100 1000 ≡ shows [] (WithNumber (Some (pos 2))))
    × (trace (record (program (calls_on_box ∷ of_value_type ∷ of_object ∷ [])) { target = λ c m. Some (id 1) }) 100 1000 ≡ shows [] (WithNumber (Some (pos 7))))
    × (trace (program (names ∷ print ∷ native (Plain object ∷ []) (Some (Plain string)) ObjectToString ∷ native (Plain object ∷ []) (Some (Plain string)) EnumToString ∷ [])) 100 1000 ≡ shows (65 ∷ 91 ∷ 93 ∷ 91 ∷ 93 ∷ 10 ∷ 45 ∷ 50 ∷ 10 ∷ []) (WithNumber None))
unfolding trace step goes start passes starts invoke call call_virtual return_value throw raise binary compare kept kept_in zero_of zero_place load_text load_indirect store_indirect new_array cast_class is_instance box_value unbox unbox_value new_text object_to_string enum_to_string debug_print utf16_chars encode chars digits
boxed = (refl, refl, refl, refl, refl, refl, refl)
