-- Exceptions and initialisers, run.
use Rattle.std.proofs.Common.{◌≡◌, ℕ, List, [], ◌∷◌, ◌++◌, Option, Some, None, refl}
use lib.Utf8.{encode}
use Rattle.std.specs.Prelude.{pos, slice_get}
use Rattle.cil_opcodes.specs.declared.shape.Operator.TheVariants.{Add, Divide}
use Rattle.machine.specs.Data.{Int, Null, Plain}
use Rattle.machine.specs.Program.{Program, Instruction, Push, Pop, Binary, Call, NewObject, Return, LoadStatic, LoadText, Throw, Rethrow, Leave, EndFinally, Initialiser}
use Rattle.machine.specs.Numbers.{binary, kept, kept_in, zero_of, zero_place}
use Rattle.machine.specs.Throw.{goes, enter_clause, throw, throw_thing, throw_exception, raise}
use Rattle.machine.specs.Objects.{load_static, load_text}
use Rattle.machine.specs.Natives.{debug_print}
use Rattle.machine.specs.Calls.{starts, invoke, call, new_object, return_value, start_class}
use Rattle.machine.specs.Step.{step}
use Rattle.machine.specs.Trace.{passes, WithNumber, WithClass, MemorySpent, start, trace}
use Rattle.std.specs.Char.Utf16.{utf16_chars}
use Rattle.machine.proofs.Samples.{id, int, object, Part, code, guarded, caught, finally, print, program, line_at, shows}

-- prints one unit; the second method is the native that prints
abbrev say : ℕ → List Instruction
say unit = LoadText (unit ∷ []) ∷ Call (id 1) ∷ []

abbrev divide : List Instruction
divide = Push (Int (pos 1)) ∷ Push (Int (pos 0)) ∷ Binary Divide ∷ []

-- a line with one unit
abbrev line : ℕ → List ℕ
line unit = unit ∷ 10 ∷ []

-- A try with a finally inside one with a catch: the finally runs, then the catch, and the leave runs nothing again.
-- 0 divide, 3 pop, 4 leave 9; finally 5 say f, 7 endfinally; catch 8 pop, 9 ..
abbrev through : Part
through =
    guarded (finally 5 ∷ caught 6 8 ∷ []) ((0, 5) ∷ (0, 8) ∷ [])
    (code [] [] (Some (Plain int)) 2 (divide ++ (Pop ∷ Leave 12 ∷ say 102 ++ (EndFinally 0 ∷ Pop ∷ say 99 ++ (Leave 12 ∷ Push (Int (pos 7)) ∷ Return ∷ [])))))

-- No clause fits: no finally runs. 0 divide, 3 pop, 4 leave 8; finally 5 say f, 7 endfinally; 8 ret
abbrev unfit : Part
unfit = guarded (finally 5 ∷ caught 3 8 ∷ []) ((0, 5) ∷ (0, 5) ∷ []) (code [] [] None 2 (divide ++ (Pop ∷ Leave 8 ∷ say 102 ++ (EndFinally 0 ∷ Return ∷ []))))

-- A finally that would throw while no clause fits the first exception: the caller has a catch of NullReference round the call, and
-- the called method divides by zero inside a try whose finally throws null. No catch takes the first exception, so it ends the run,
-- and the finally never runs.
abbrev outer_null : Part
outer_null = guarded (caught 2 2 ∷ []) ((0, 2) ∷ []) (code [] [] None 1 (Call (id 2) ∷ Leave 4 ∷ Pop ∷ Leave 4 ∷ Return ∷ []))

abbrev throws_in_finally : Part
throws_in_finally = guarded (finally 5 ∷ []) ((0, 5) ∷ []) (code [] [] None 2 (divide ++ (Pop ∷ Leave 9 ∷ say 102 ++ (Push Null ∷ Throw ∷ EndFinally 0 ∷ Return ∷ []))))

-- The same with a catch of DivideByZero round the call: the finally runs, its exception replaces the plan, and that one finds no catch.
abbrev outer_zero : Part
outer_zero = guarded (caught 6 2 ∷ []) ((0, 2) ∷ []) (code [] [] None 1 (Call (id 2) ∷ Leave 4 ∷ Pop ∷ Leave 4 ∷ Return ∷ []))

-- The same with a catch of every exception: what is caught is the finally's NullReference, which is thrown again.
abbrev outer_any : Part
outer_any = guarded (caught 1 2 ∷ []) ((0, 2) ∷ []) (code [] [] None 1 (Call (id 2) ∷ Leave 5 ∷ Pop ∷ Rethrow 0 ∷ Leave 5 ∷ Return ∷ []))

-- Two tries that begin at one offset, with a leave out of both: the inner finally runs before the outer one.
-- 0 leave 7; inner 1 say a, 3 endfinally; outer 4 say b, 6 endfinally; 7 ret
abbrev two_tries : Part
two_tries =
    guarded (finally 1 ∷ finally 4 ∷ []) ((0, 1) ∷ (0, 4) ∷ [])
    (code [] [] None 1 (Leave 7 ∷ say 97 ++ (EndFinally 0 ∷ say 98 ++ (EndFinally 1 ∷ Return ∷ []))))

-- A frame ends on the way: the finally of the called method runs, then the catch of the caller.
abbrev catches_below : Part
catches_below =
    guarded (caught 6 3 ∷ []) ((0, 3) ∷ [])
    (code [] [] (Some (Plain int)) 1 (Call (id 2) ∷ Pop ∷ Leave 5 ∷ Pop ∷ Leave 5 ∷ say 99 ++ (Push (Int (pos 3)) ∷ Return ∷ [])))

abbrev called : Part
called =
    guarded (finally 4 ∷ []) ((0, 4) ∷ []) (code [] [] (Some (Plain int)) 2 (divide ++ (Leave 7 ∷ say 102 ++ (EndFinally 0 ∷ Push (Int (pos 1)) ∷ Return ∷ []))))

-- An object that is thrown: class 1 with the constructor 2, which does nothing
abbrev thrower : Part
thrower = guarded (caught 1 2 ∷ []) ((0, 2) ∷ []) (code [] [] None 1 (NewObject (id 1) (id 2) ∷ Throw ∷ Rethrow 0 ∷ []))

abbrev constructor : Part
constructor = code (Plain object ∷ []) [] None 0 (Return ∷ [])

throws :
    (trace (program (through ∷ print ∷ [])) 100 1000 ≡ shows (line 102 ++ line 99) (WithNumber (Some (pos 7))))
    × (trace (program (unfit ∷ print ∷ [])) 100 1000 ≡ shows [] (WithClass (6 ∷ [])))
    × (trace (program (outer_null ∷ print ∷ throws_in_finally ∷ [])) 100 1000 ≡ shows [] (WithClass (6 ∷ [])))
    × (trace (program (outer_zero ∷ print ∷ throws_in_finally ∷ [])) 100 1000 ≡ shows (line 102) (WithClass (2 ∷ [])))
    × (trace (program (outer_any ∷ print ∷ throws_in_finally ∷ [])) 100 1000 ≡ shows (line 102) (WithClass (2 ∷ [])))
    × (trace (program (two_tries ∷ print ∷ [])) 100 1000 ≡ shows (line 97 ++ line 98) (WithNumber None))
    × (trace (program (catches_below ∷ print ∷ called ∷ [])) 100 1000 ≡ shows (line 102 ++ line 99) (WithNumber (Some (pos 3))))
    × (trace (program (thrower ∷ print ∷ constructor ∷ [])) 100 1000 ≡ shows [] (WithClass (1 ∷ [])))
    × (trace (program (code [] [] None 1 (Push Null ∷ Throw ∷ []) ∷ [])) 100 1000 ≡ shows [] (WithClass (2 ∷ [])))
unfolding trace step goes start passes starts invoke call new_object return_value raise throw throw_thing throw_exception enter_clause binary kept kept_in zero_of zero_place load_text debug_print utf16_chars encode
throws = (refl, refl, refl, refl, refl, refl, refl, refl, refl)

-- ---- cells. A frame that a throw ends is gone before the exception is placed: 4 cells of the caller and 5 of the callee, then 4 and 1.

abbrev catches_directly : Part
catches_directly = guarded (caught 6 2 ∷ []) ((0, 2) ∷ []) (code [] [] None 1 (Call (id 1) ∷ Leave 4 ∷ Pop ∷ Leave 4 ∷ Return ∷ []))

abbrev divides : Part
divides = code [] (Plain int ∷ []) None 2 (divide ++ (Pop ∷ Return ∷ []))

-- An exception that nobody catches counts beside the frames that stay.
abbrev divides_alone : Part
divides_alone = code [] [] None 2 (divide ++ (Pop ∷ Return ∷ []))

cells_of_throws :
    (trace (program (catches_directly ∷ divides ∷ [])) 100 9 ≡ shows [] (WithNumber None))
    × (trace (program (catches_directly ∷ divides ∷ [])) 100 8 ≡ shows [] MemorySpent)
    × (trace (program (divides_alone ∷ [])) 100 5 ≡ shows [] (WithClass (6 ∷ [])))
    × (trace (program (divides_alone ∷ [])) 100 4 ≡ shows [] MemorySpent)
unfolding trace step goes start passes starts invoke call return_value raise throw enter_clause binary kept kept_in zero_of zero_place
cells_of_throws = (refl, refl, refl, refl)

-- ---- initialisers: class 40 has the initialiser 2, which has to run before the static field is accessed

abbrev needs : Instruction → Option Initialiser
needs (LoadStatic f) = Some (record { class = id 40; method = id 2 })
needs i = None

abbrev with_initialiser : List Part → Program
with_initialiser parts = record (program parts) { fetch = λ m place. line_at needs (slice_get parts m.row) place }

-- the field is read twice, and its class initialised once, before the first read
abbrev reads_twice : Part
reads_twice = code [] [] (Some (Plain int)) 2 (say 97 ++ (LoadStatic (id 0) ∷ LoadStatic (id 0) ∷ Binary Add ∷ Return ∷ []))

abbrev initialiser : Part
initialiser = code [] [] None 1 (say 105 ++ (Return ∷ []))

-- the initialiser throws inside a try of the reader that would catch it: the search doesn't go past its frame
abbrev reads_in_try : Part
reads_in_try = guarded (caught 1 3 ∷ []) ((0, 3) ∷ []) (code [] [] None 1 (LoadStatic (id 0) ∷ Pop ∷ Leave 5 ∷ Pop ∷ Leave 5 ∷ Return ∷ []))

abbrev throwing_initialiser : Part
throwing_initialiser = code [] [] None 2 (divide ++ (Pop ∷ Return ∷ []))

initialises :
    (trace (with_initialiser (reads_twice ∷ print ∷ initialiser ∷ [])) 100 1000 ≡ shows (line 97 ++ line 105) (WithNumber (Some (pos 0))))
    × (trace (with_initialiser (reads_in_try ∷ print ∷ throwing_initialiser ∷ [])) 100 1000 ≡ shows [] (WithClass (6 ∷ [])))
    × (trace (record (program (reads_twice ∷ print ∷ initialiser ∷ [])) { first = Some (record { class = id 40; method = id 2 }) }) 100 1000 ≡ shows (line 105 ++ line 97) (WithNumber (Some (pos 0))))
unfolding trace step goes start passes starts invoke call return_value start_class raise throw throw_thing throw_exception enter_clause binary kept kept_in zero_of zero_place load_static load_text debug_print utf16_chars encode
initialises = (refl, refl, refl)
