-- Programs that no verifier accepts: what a pointer into a frame leads to once a method has handed it back, and why the fields of a
-- class have to begin with those above it.
use Rattle.std.proofs.Common.{◌≡◌, ℕ, zero, suc, true, List, [], ◌∷◌, Option, Some, None, refl, sym, ap, ◌∙◌, subst}
use Rattle.std.specs.Prelude.{pos, slice_get, ◌-◌}
use Rattle.cil_opcodes.specs.declared.shape.IntegerType.TheVariants.{I4}
use Rattle.plain_types.specs.declared.elem.Elem.TheVariants as elem
use Rattle.machine.specs.Data.{Id, CliType, Basic, Plain, To, Bits, Value, Int}
use Rattle.machine_whole.specs.Whole.{is_constant, is_plain_result, Regular}
use Rattle.machine_whole.proofs.Heaps.{some_same}
use Rattle.machine.specs.Program.{Program, Method, Line, Instruction, Nop, Exact, Push, Call, NewObject, Return, LoadArgument, LoadLocalAddress, StoreLocal, LoadFieldAddress, LoadIndirect, StoreIndirect}
use Rattle.machine.specs.Numbers.{kept, kept_in, zero_of, zero_place}
use Rattle.machine.specs.Throw.{goes}
use Rattle.machine.specs.Objects.{load_indirect, store_indirect, load_field_address}
use Rattle.machine.specs.Calls.{starts, invoke, call, new_object, return_value}
use Rattle.machine.specs.Step.{step}
use Rattle.machine.specs.Trace.{CodePlace, WithNumber, NoCase, passes, start, trace}
use Rattle.machine.proofs.Samples.{id, int, object, Part, code, method_at, line_at, no_needs, program, shows}

abbrev at : ℕ → ℕ → Option CodePlace
at m p = Some (record { method = id m; place = p })

-- a pointer to a local of the method, whose frame has five cells
abbrev gives_pointer : Part
gives_pointer = code [] (Plain int ∷ Plain int ∷ []) (Some (To int)) 1 (LoadLocalAddress 0 ∷ Return ∷ [])

-- it is read where its frame has ended: it names no frame
abbrev reads : Part
reads = code [] [] (Some (Plain int)) 2 (Call (id 1) ∷ LoadIndirect (Exact (Bits I4)) ∷ Return ∷ [])

-- it is read in a frame of another method that lies where its own lay: it names a local of that one
abbrev passes_on : Part
passes_on = code [] [] (Some (Plain int)) 2 (Call (id 1) ∷ Call (id 2) ∷ Return ∷ [])

abbrev reads_own : Part
reads_own = code (To int ∷ []) (Plain int ∷ []) (Some (Plain int)) 1 (Push (Int (pos 7)) ∷ StoreLocal 0 ∷ LoadArgument 0 ∷ LoadIndirect (Exact (Bits I4)) ∷ Return ∷ [])

-- in a frame of another size it names none
abbrev reads_elsewhere : Part
reads_elsewhere = code (To int ∷ []) (Plain int ∷ Plain int ∷ []) (Some (Plain int)) 1 (LoadArgument 0 ∷ LoadIndirect (Exact (Bits I4)) ∷ Return ∷ [])

frames_that_ended :
    (trace (program (reads ∷ gives_pointer ∷ [])) 100 1000 ≡ shows [] (NoCase (at 0 1)))
    × (trace (program (passes_on ∷ gives_pointer ∷ reads_own ∷ [])) 100 1000 ≡ shows [] (WithNumber (Some (pos 7))))
    × (trace (program (passes_on ∷ gives_pointer ∷ reads_elsewhere ∷ [])) 100 1000 ≡ shows [] (NoCase (at 2 1)))
unfolding trace step goes start passes starts invoke call return_value kept kept_in zero_of zero_place load_indirect
frames_that_ended = (refl, refl, refl)

-- a class without fields below one that has a field: the pointer leads to no place, and a write by it leaves all as it was
abbrev constructor : Part
constructor = code (Plain object ∷ []) [] None 0 (Return ∷ [])

abbrev writes_field : Part
writes_field = code [] [] (Some (Plain int)) 3 (NewObject (id 40) (id 1) ∷ LoadFieldAddress (id 41) 0 ∷ Push (Int (pos 7)) ∷ StoreIndirect (Exact (Bits I4)) ∷ Push (Int (pos 1)) ∷ Return ∷ [])

abbrev reads_field : Part
reads_field = code [] [] (Some (Plain int)) 2 (NewObject (id 40) (id 1) ∷ LoadFieldAddress (id 41) 0 ∷ LoadIndirect (Exact (Bits I4)) ∷ Return ∷ [])

abbrev fields_of : Id → Option (List CliType)
fields_of c = slice_get (([]) ∷ (Basic elem.I4 ∷ []) ∷ []) (c.row - 40)

abbrev below_forty_one : List Part → Program
below_forty_one parts = record (program parts) { is_sub = λ a b. true; fields = fields_of }

fields_that_are_not_there :
    (trace (below_forty_one (writes_field ∷ constructor ∷ [])) 100 1000 ≡ shows [] (WithNumber (Some (pos 1))))
    × (trace (below_forty_one (reads_field ∷ constructor ∷ [])) 100 1000 ≡ shows [] (NoCase (at 0 2)))
unfolding trace step goes start passes starts invoke call new_object return_value kept kept_in zero_of zero_place load_indirect store_indirect load_field_address
fields_that_are_not_there = (refl, refl)

-- a program of which all is asked
abbrev instruction_of : Option Line → Instruction
instruction_of None = Nop
instruction_of (Some l) = l.instruction

abbrev returns : Part
returns = code [] [] None 0 (Return ∷ [])

no_push : (m place : ℕ) (l : Line) (v : Value) → line_at no_needs (slice_get (returns ∷ []) m) place ≡ Some l → l.instruction ≡ Push v → is_constant v ≡ true
no_push zero zero l v e h = let same : Return ≡ Push v = ap (λ o. instruction_of o) e ∙ h in absurd (cc same)
no_push zero (suc place) l v e h = absurd (cc e)
no_push (suc m) place l v e h = absurd (cc e)

no_pointer : (row : ℕ) (m : Method) → method_at (slice_get (returns ∷ []) row) ≡ Some m → is_plain_result m.returns ≡ true
no_pointer zero m e = subst (λ (m : Method). is_plain_result m.returns ≡ true) (some_same returns.method m e) refl
no_pointer (suc row) m e = absurd (cc e)

pub is_regular : Regular true true (program (returns ∷ []))
is_regular =
    record {
      constants = λ i place l v e h. no_push i.row place l v e h;
      inherits = λ k class owner own types n type sub o e g. absurd (let no : slice_get [] n ≡ Some type = subst (λ ts. slice_get ts n ≡ Some type) (sym (some_same [] types e)) g in cc no);
      results = λ k i m e. no_pointer i.row m e;
    }
