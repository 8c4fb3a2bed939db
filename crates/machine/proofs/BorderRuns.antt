-- Programs that no verifier accepts: where a state of theirs has a case, and where it has none.
use Rattle.std.proofs.Common.{◌≡◌, ℕ, true, false, List, [], ◌∷◌, ◌++◌, Option, Some, None, refl}
use lib.Utf8.{encode}
use Rattle.std.specs.Prelude.{pos, slice_get}
use Rattle.std.specs.Char.Utf16.{utf16_chars}
use Rattle.machine.specs.Data.{Int, Null, Plain, ClassOf, ValueOf, ArrayOf}
use Rattle.machine.specs.Program.{Program, Instruction, Push, Pop, Call, NewObject, Return, LoadLocal, StoreLocal, Branch, BranchIf, LoadStatic, StoreStatic, LoadText, NewArray, CastClass, IsInstance, Box, Throw, Leave, EndFinally, Initialiser, ArrayCopy}
use Rattle.machine.specs.Numbers.{kept, kept_in, zero_of, zero_place, truth}
use Rattle.machine.specs.Throw.{goes, enter_clause, throw, throw_thing, throw_exception, raise}
use Rattle.machine.specs.Objects.{load_static, store_static, load_text, new_array, cast_class, is_instance, box_value}
use Rattle.machine.specs.Natives.{debug_print, array_copy}
use Rattle.machine.specs.Calls.{starts, invoke, call, new_object, return_value, start_class}
use Rattle.machine.specs.Step.{step}
use Rattle.machine.specs.Trace.{CodePlace, passes, WithNumber, WithClass, NoCase, NoStart, start, trace}
use Rattle.machine.proofs.Samples.{id, int, string, object, Part, code, guarded, finally, native, print, program, line_at, shows}

abbrev say : ℕ → List Instruction
say unit = LoadText (unit ∷ []) ∷ Call (id 1) ∷ []

abbrev line : ℕ → List ℕ
line unit = unit ∷ 10 ∷ []

abbrev at : ℕ → ℕ → Option CodePlace
at m p = Some (record { method = id m; place = p })

abbrev constructor : Part
constructor = code (Plain object ∷ []) [] None 0 (Return ∷ [])

-- ---- exceptions and calls

-- an object that is no exception is thrown
abbrev throws_object : Part
throws_object = code [] [] None 1 (NewObject (id 40) (id 2) ∷ Throw ∷ [])

-- a caller has no room for the result of a method that would print first
abbrev no_room : Part
no_room = code [] [] None 0 (Call (id 2) ∷ Return ∷ [])

abbrev prints_and_gives : Part
prints_and_gives = code [] [] (Some (Plain int)) 1 (say 97 ++ (Push (Int (pos 1)) ∷ Return ∷ []))

-- nor for a new object
abbrev no_room_for_object : Part
no_room_for_object = code [] [] None 0 (NewObject (id 40) (id 2) ∷ Return ∷ [])

abbrev prints_in_constructor : Part
prints_in_constructor = code (Plain object ∷ []) [] None 1 (say 99 ++ (Return ∷ []))

-- a finally that is entered without a plan meets the plan of its last run
abbrev stale : Part
stale =
    guarded (finally 1 ∷ []) ((0, 1) ∷ [])
    (code [] (Plain int ∷ []) None 1 (Leave 5 ∷ say 102 ++ (EndFinally 0 ∷ Return ∷ LoadLocal 0 ∷ BranchIf true 4 ∷ Push (Int (pos 1)) ∷ StoreLocal 0 ∷ Branch 1 ∷ [])))

calls :
    (trace (program (throws_object ∷ print ∷ constructor ∷ [])) 100 1000 ≡ shows [] (NoCase (at 0 1)))
    × (trace (program (no_room ∷ print ∷ prints_and_gives ∷ [])) 100 1000 ≡ shows [] (NoCase (at 0 0)))
    × (trace (program (no_room_for_object ∷ print ∷ prints_in_constructor ∷ [])) 100 1000 ≡ shows [] (NoCase (at 0 0)))
    × (trace (program (stale ∷ print ∷ [])) 100 1000 ≡ shows (line 102 ++ line 102) (WithNumber None))
unfolding trace step goes start passes starts invoke call new_object return_value start_class raise throw throw_thing throw_exception enter_clause kept kept_in zero_of zero_place truth load_text debug_print utf16_chars encode
calls = (refl, refl, refl, refl)

-- ---- initialisers

abbrev needs : Instruction → Option Initialiser
needs (StoreStatic f) = Some (record { class = id 40; method = id 2 })
needs (LoadStatic f) = Some (record { class = id 40; method = id 2 })
needs i = None

abbrev with_initialiser : List Part → Program
with_initialiser parts = record (program parts) { fetch = λ m place. line_at needs (slice_get parts m.row) place }

-- it runs before the missing operand is met
abbrev stores_nothing : Part
stores_nothing = code [] [] None 1 (StoreStatic (id 0) ∷ Return ∷ [])

abbrev says_i : Part
says_i = code [] [] None 1 (say 105 ++ (Return ∷ []))

-- one with a parameter isn't entered
abbrev loads : Part
loads = code [] [] None 1 (LoadStatic (id 0) ∷ Pop ∷ Return ∷ [])

abbrev asks_one : Part
asks_one = code (Plain int ∷ []) [] None 1 (say 105 ++ (Return ∷ []))

abbrev does_nothing : Part
does_nothing = code [] [] None 0 (Return ∷ [])

abbrev begins_with : Part → Program
begins_with initialiser =
    record (program (does_nothing ∷ print ∷ initialiser ∷ [])) { first = Some (record { class = id 40; method = id 2 }) }

initialisers :
    (trace (with_initialiser (stores_nothing ∷ print ∷ says_i ∷ [])) 100 1000 ≡ shows (line 105) (NoCase (at 0 0)))
    × (trace (with_initialiser (loads ∷ print ∷ asks_one ∷ [])) 100 1000 ≡ shows [] (NoCase (at 0 0)))
    × (trace (begins_with says_i) 100 1000 ≡ shows (line 105) (WithNumber None))
    × (trace (begins_with asks_one) 100 1000 ≡ shows [] NoStart)
unfolding trace step goes start passes starts invoke call return_value start_class kept kept_in zero_of zero_place load_static store_static load_text debug_print utf16_chars encode
initialisers = (refl, refl, refl, refl)

-- ---- values and classes

-- a local of a value type that was never stored is a null reference
abbrev handle_local : Part
handle_local = code [] (Plain (ValueOf (id 60)) ∷ []) (Some (Plain int)) 1 (LoadLocal 0 ∷ BranchIf false 3 ∷ Return ∷ Push (Int (pos 5)) ∷ Return ∷ [])

-- the source is null, and the destination a string
abbrev copies : Part
copies = code [] [] None 5 (Push Null ∷ Push (Int (pos 0)) ∷ LoadText (97 ∷ []) ∷ Push (Int (pos 0)) ∷ Push (Int (pos 0)) ∷ Call (id 1) ∷ Return ∷ [])

-- both are null
abbrev copies_null : Part
copies_null = code [] [] None 5 (Push Null ∷ Push (Int (pos 0)) ∷ Push Null ∷ Push (Int (pos 0)) ∷ Push (Int (pos 0)) ∷ Call (id 1) ∷ Return ∷ [])

abbrev copy : Part
copy = native (Plain object ∷ Plain int ∷ Plain object ∷ Plain int ∷ Plain int ∷ []) None ArrayCopy

-- a box is cast
abbrev casts : Instruction → Part
casts i = code [] [] None 1 (Push (Int (pos 4)) ∷ Box int ∷ i ∷ Pop ∷ Return ∷ [])

abbrev casts_array : Instruction → Part
casts_array i = code [] [] None 1 (Push (Int (pos 0)) ∷ NewArray string ∷ i ∷ Pop ∷ Return ∷ [])

-- a base library without the classes of basic types, and of arrays
abbrev without_names : Part → Program
without_names part = record (program (part ∷ [])) { basic = λ e. None; array = None }

values :
    (trace (program (handle_local ∷ [])) 100 1000 ≡ shows [] (WithNumber (Some (pos 5))))
    × (trace (program (copies ∷ copy ∷ [])) 100 1000 ≡ shows [] (NoCase (at 0 5)))
    × (trace (program (copies_null ∷ copy ∷ [])) 100 1000 ≡ shows [] (WithClass (10 ∷ [])))
    × (trace (program (casts (CastClass (ClassOf (id 50))) ∷ [])) 100 1000 ≡ shows [] (WithClass (7 ∷ [])))
    × (trace (without_names (casts (CastClass (ClassOf (id 50))))) 100 1000 ≡ shows [] (NoCase (at 0 2)))
    × (trace (without_names (casts (IsInstance (ClassOf (id 50))))) 100 1000 ≡ shows [] (NoCase (at 0 2)))
    × (trace (without_names (casts (CastClass int))) 100 1000 ≡ shows [] (WithNumber None))
    × (trace (without_names (casts (CastClass object))) 100 1000 ≡ shows [] (WithNumber None))
    × (trace (without_names (casts (IsInstance (ArrayOf int)))) 100 1000 ≡ shows [] (WithNumber None))
    × (trace (without_names (casts_array (IsInstance (ClassOf (id 14))))) 100 1000 ≡ shows [] (NoCase (at 0 2)))
    × (trace (without_names (casts_array (IsInstance (ArrayOf (ClassOf (id 50)))))) 100 1000 ≡ shows [] (NoCase (at 0 2)))
    × (trace (without_names (casts_array (IsInstance (ArrayOf int)))) 100 1000 ≡ shows [] (WithNumber None))
    × (trace (without_names (casts_array (CastClass (ArrayOf object)))) 100 1000 ≡ shows [] (WithNumber None))
unfolding trace step goes start passes starts invoke call return_value raise throw kept kept_in zero_of zero_place truth load_text new_array cast_class is_instance box_value debug_print array_copy utf16_chars encode
values = (refl, refl, refl, refl, refl, refl, refl, refl, refl, refl, refl, refl, refl)
