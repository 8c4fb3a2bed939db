-- Places, pointers, arrays and cells, run.
use Rattle.std.proofs.Common.{◌≡◌, List, [], ◌∷◌, Some, None, refl}
use Rattle.std.specs.Prelude.{pos, negsuc}
use Rattle.cil_opcodes.specs.declared.shape.IntegerType.TheVariants.{I1, U1, I4, U4}
use Rattle.cil_opcodes.specs.declared.shape.Operator.TheVariants.{Add}
use Rattle.plain_types.specs.declared.elem.Elem.TheVariants as elem
use Rattle.machine.specs.Data.{CliType, Int, Null, Plain, To, Basic, ArrayOf, ClassOf, Bits, Refers}
use Rattle.machine.specs.Program.{Program, Exact, Typed, Push, Pop, Binary, Call, NewObject, Return, LoadArgument, StoreArgument, LoadLocal, StoreLocal, LoadLocalAddress, LoadArgumentAddress, LoadIndirect, StoreIndirect, LoadStatic, StoreStatic, LoadStaticAddress, LoadField, StoreField, LoadFieldAddress, NewArray, LoadLength, LoadElement, StoreElement, LoadElementAddress, Branch, Nop}
use Rattle.machine.specs.Numbers.{binary, kept, kept_in, zero_of, zero_place}
use Rattle.machine.specs.Throw.{goes, throw, raise}
use Rattle.machine.specs.Objects.{load_field, store_field, load_field_address, load_static, store_static, load_static_address, load_indirect, store_indirect, new_array, load_length, load_element, store_element, load_element_address}
use Rattle.machine.specs.Calls.{starts, invoke, call, new_object, return_value}
use Rattle.machine.specs.Step.{step}
use Rattle.machine.specs.Trace.{passes, WithNumber, WithClass, MemorySpent, StepsSpent, NoCase, NoStart, start, trace}
use Rattle.machine.proofs.Samples.{id, int, string, object, Part, code, program, shows}

abbrev sbyte : CliType
sbyte = Basic elem.I1

-- a local of one signed byte is cut when it is stored, and a pointer to it reads the same bits unsigned
abbrev small_local : Part
small_local = code [] (Plain (Basic elem.I1) ∷ []) (Some (Plain int)) 2 (Push (Int (pos 200)) ∷ StoreLocal 0 ∷ LoadLocal 0 ∷ LoadLocalAddress 0 ∷ LoadIndirect (Exact (Bits U1)) ∷ Binary Add ∷ Return ∷ [])

-- a callee writes a local of its caller through a pointer argument: bool keeps one byte without a sign
abbrev lends_a_local : Part
lends_a_local = code [] (Plain (Basic elem.Bool) ∷ []) (Some (Plain int)) 1 (LoadLocalAddress 0 ∷ Call (id 1) ∷ LoadLocal 0 ∷ Return ∷ [])

abbrev writes_through : Part
writes_through = code (To (Basic elem.Bool) ∷ []) [] None 2 (LoadArgument 0 ∷ Push (Int (negsuc 0)) ∷ StoreIndirect (Exact (Bits I1)) ∷ Return ∷ [])

-- a pointer of another width has no case, at the place of its instruction
abbrev wrong_width : Part
wrong_width = code [] (Plain (Basic elem.Bool) ∷ []) None 1 (Nop ∷ LoadLocalAddress 0 ∷ LoadIndirect (Exact (Bits I4)) ∷ Pop ∷ Return ∷ [])

-- an argument is stored and read again through its address
abbrev own_argument : Part
own_argument = code (Plain int ∷ []) [] (Some (Plain int)) 1 (Push (Int (pos 9)) ∷ StoreArgument 0 ∷ LoadArgumentAddress 0 ∷ LoadIndirect (Typed int) ∷ Return ∷ [])

abbrev calls_with_one : Part
calls_with_one = code [] [] (Some (Plain int)) 1 (Push (Int (pos 1)) ∷ Call (id 1) ∷ Return ∷ [])

-- a static field, and a pointer to it
abbrev statics : Part
statics = code [] [] (Some (Plain int)) 2 (Push (Int (pos 5)) ∷ StoreStatic (id 0) ∷ LoadStaticAddress (id 0) ∷ LoadIndirect (Exact (Bits U4)) ∷ LoadStatic (id 0) ∷ Binary Add ∷ Return ∷ [])

-- a field that a constructor sets through its address
abbrev makes_one : Part
makes_one = code [] [] (Some (Plain int)) 2 (Push (Int (pos 8)) ∷ NewObject (id 40) (id 1) ∷ LoadField (id 40) 0 ∷ Return ∷ [])

abbrev sets_its_field : Part
sets_its_field = code (Plain (ClassOf (id 40)) ∷ Plain int ∷ []) [] None 2 (LoadArgument 0 ∷ LoadFieldAddress (id 40) 0 ∷ LoadArgument 1 ∷ StoreIndirect (Typed int) ∷ Return ∷ [])

abbrev with_field : List Part → Program
with_field parts = record (program parts) { fields = λ c. Some (int ∷ []) }

memory :
    (trace (program (small_local ∷ [])) 100 1000 ≡ shows [] (WithNumber (Some (pos 144))))
    × (trace (program (lends_a_local ∷ writes_through ∷ [])) 100 1000 ≡ shows [] (WithNumber (Some (pos 255))))
    × (trace (program (wrong_width ∷ [])) 100 1000 ≡ shows [] (NoCase (Some (record { method = id 0; place = 2 }))))
    × (trace (program (calls_with_one ∷ own_argument ∷ [])) 100 1000 ≡ shows [] (WithNumber (Some (pos 9))))
    × (trace (program (statics ∷ [])) 100 1000 ≡ shows [] (WithNumber (Some (pos 10))))
    × (trace (with_field (makes_one ∷ sets_its_field ∷ [])) 100 1000 ≡ shows [] (WithNumber (Some (pos 8))))
    × (trace (program (code [] [] None 1 (Push Null ∷ LoadField (id 40) 0 ∷ Pop ∷ Return ∷ []) ∷ [])) 100 1000 ≡ shows [] (WithClass (2 ∷ [])))
    × (trace (with_field (code [] [] None 2 (Push Null ∷ Push Null ∷ StoreField (id 40) 0 ∷ Return ∷ []) ∷ [])) 100 1000 ≡ shows [] (NoCase (Some (record { method = id 0; place = 2 }))))
unfolding trace step goes start passes starts invoke call new_object return_value raise throw binary kept kept_in zero_of zero_place load_field store_field load_field_address load_static store_static load_static_address load_indirect store_indirect
memory = (refl, refl, refl, refl, refl, refl, refl, refl)

-- ---- arrays

-- an array of strings, seen as one of objects: another object is refused at the store, a null isn't
abbrev covariant : Part
covariant =
    code [] (Plain (ArrayOf object) ∷ []) None 3
    (Push (Int (pos 2)) ∷ NewArray string ∷ StoreLocal 0 ∷ LoadLocal 0 ∷ Push (Int (pos 0)) ∷ Push Null ∷ StoreElement (Exact Refers)
    ∷ LoadLocal 0 ∷ Push (Int (pos 1)) ∷ Push (Int (pos 0)) ∷ NewArray string ∷ StoreElement (Exact Refers) ∷ Return ∷ [])

-- its elements have no address as objects
abbrev no_address : Part
no_address = code [] [] None 2 (Push (Int (pos 2)) ∷ NewArray string ∷ Push (Int (pos 0)) ∷ LoadElementAddress object ∷ Pop ∷ Return ∷ [])

-- bytes are cut at a store and extended at a load by the instruction's sign
abbrev bytes : Part
bytes =
    code [] (Plain (ArrayOf sbyte) ∷ []) (Some (Plain int)) 4
    (Push (Int (pos 3)) ∷ NewArray sbyte ∷ StoreLocal 0 ∷ LoadLocal 0 ∷ Push (Int (pos 2)) ∷ Push (Int (pos 255)) ∷ StoreElement (Exact (Bits I1))
    ∷ LoadLocal 0 ∷ Push (Int (pos 2)) ∷ LoadElement (Exact (Bits U1)) ∷ LoadLocal 0 ∷ Push (Int (pos 2)) ∷ LoadElement (Exact (Bits I1)) ∷ Binary Add
    ∷ LoadLocal 0 ∷ LoadLength ∷ Binary Add ∷ Return ∷ [])

-- null is looked at before the index, and a negative index is out of range
abbrev null_first : Part
null_first = code [] [] None 2 (Push Null ∷ Push (Int (negsuc 0)) ∷ LoadElement (Exact (Bits I4)) ∷ Pop ∷ Return ∷ [])

abbrev out_of_range : Part
out_of_range = code [] [] None 2 (Push (Int (pos 1)) ∷ NewArray int ∷ Push (Int (negsuc 0)) ∷ LoadElement (Exact (Bits I4)) ∷ Pop ∷ Return ∷ [])

abbrev negative_length : Part
negative_length = code [] [] None 1 (Push (Int (negsuc 0)) ∷ NewArray int ∷ Pop ∷ Return ∷ [])

-- an element's address is written through
abbrev element_address : Part
element_address =
    code [] (Plain (ArrayOf int) ∷ []) (Some (Plain int)) 2
    (Push (Int (pos 2)) ∷ NewArray int ∷ StoreLocal 0 ∷ LoadLocal 0 ∷ Push (Int (pos 1)) ∷ LoadElementAddress int ∷ Push (Int (pos 6)) ∷ StoreIndirect (Exact (Bits I4))
    ∷ LoadLocal 0 ∷ Push (Int (pos 1)) ∷ LoadElement (Typed int) ∷ Return ∷ [])

arrays :
    (trace (program (covariant ∷ [])) 100 1000 ≡ shows [] (WithClass (8 ∷ [])))
    × (trace (program (no_address ∷ [])) 100 1000 ≡ shows [] (WithClass (8 ∷ [])))
    × (trace (program (bytes ∷ [])) 100 1000 ≡ shows [] (WithNumber (Some (pos 257))))
    × (trace (program (null_first ∷ [])) 100 1000 ≡ shows [] (WithClass (2 ∷ [])))
    × (trace (program (out_of_range ∷ [])) 100 1000 ≡ shows [] (WithClass (3 ∷ [])))
    × (trace (program (negative_length ∷ [])) 100 1000 ≡ shows [] (WithClass (4 ∷ [])))
    × (trace (program (element_address ∷ [])) 100 1000 ≡ shows [] (WithNumber (Some (pos 6))))
unfolding trace step goes start passes return_value raise throw binary kept kept_in zero_of zero_place store_indirect new_array load_length load_element store_element load_element_address
arrays = (refl, refl, refl, refl, refl, refl, refl)

-- ---- cells

-- The frame takes 2 + 1 local + 2 of the stack. The first array has 1 + ceil(7 * 4 / 12) = 4 cells, the second 1 + ceil(3 * 8 / 12) = 3.
abbrev arrays_made : Part
arrays_made =
    code [] (Plain object ∷ []) (Some (Plain int)) 2
    (Push (Int (pos 7)) ∷ NewArray int ∷ StoreLocal 0 ∷ Push (Int (pos 3)) ∷ NewArray (Basic elem.I8) ∷ StoreLocal 0 ∷ Push (Int (pos 1)) ∷ Return ∷ [])

-- A callee's frame counts while it lives: 2 + 0 + 1 for the caller, 2 + 1 + 1 for the callee.
abbrev caller : Part
caller = code [] [] (Some (Plain int)) 1 (Push (Int (pos 1)) ∷ Call (id 1) ∷ Return ∷ [])

abbrev callee : Part
callee = code (Plain int ∷ []) [] (Some (Plain int)) 1 (LoadArgument 0 ∷ Return ∷ [])

-- An array of strings for the entry method: one cell before the first step.
abbrev takes_strings : Part
takes_strings = code (Plain (ArrayOf string) ∷ []) [] (Some (Plain int)) 1 (LoadArgument 0 ∷ LoadLength ∷ Return ∷ [])

cells :
    (trace (program (arrays_made ∷ [])) 100 12 ≡ shows [] (WithNumber (Some (pos 1))))
    × (trace (program (arrays_made ∷ [])) 100 11 ≡ shows [] MemorySpent)
    × (trace (program (arrays_made ∷ [])) 4 11 ≡ shows [] StepsSpent)
    × (trace (program (arrays_made ∷ [])) 5 11 ≡ shows [] MemorySpent)
    × (trace (program (arrays_made ∷ [])) 0 4 ≡ shows [] MemorySpent)
    × (trace (program (caller ∷ callee ∷ [])) 100 7 ≡ shows [] (WithNumber (Some (pos 1))))
    × (trace (program (caller ∷ callee ∷ [])) 100 6 ≡ shows [] MemorySpent)
    × (trace (program (takes_strings ∷ [])) 100 5 ≡ shows [] (WithNumber (Some (pos 0))))
    × (trace (program (takes_strings ∷ [])) 100 4 ≡ shows [] MemorySpent)
    -- a static field takes a cell at its first access, and none at the next ones
    × (trace (program (statics ∷ [])) 100 5 ≡ shows [] (WithNumber (Some (pos 10))))
    × (trace (program (statics ∷ [])) 100 4 ≡ shows [] MemorySpent)
    -- an object with one field has two cells: 4 for the caller, 2 for the object, 6 for the constructor's frame
    × (trace (with_field (makes_one ∷ sets_its_field ∷ [])) 100 12 ≡ shows [] (WithNumber (Some (pos 8))))
    × (trace (with_field (makes_one ∷ sets_its_field ∷ [])) 100 11 ≡ shows [] MemorySpent)
    × (trace (program (code [] [] None 0 (Branch 7 ∷ []) ∷ [])) 100 1000 ≡ shows [] (NoCase (Some (record { method = id 0; place = 7 }))))
    × (trace (program (callee ∷ [])) 100 1000 ≡ shows [] NoStart)
unfolding trace step goes start passes starts invoke call new_object return_value raise throw binary kept kept_in zero_of zero_place load_field load_field_address load_static store_static load_static_address load_indirect store_indirect new_array load_length
cells = (refl, refl, refl, refl, refl, refl, refl, refl, refl, refl, refl, refl, refl, refl, refl)
