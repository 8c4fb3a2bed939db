-- Methods that break one rule each, judged, and clauses that lie well or don't.
use Rattle.std.proofs.Common.{◌≡◌, true, false, List, [], ◌∷◌, Some, None, refl}
use Rattle.std.specs.Prelude.{ℕ, pos, negsuc, Ok, Err}
use Rattle.std.specs.List.{list_all}
use Rattle.cil_opcodes.specs.declared.shape.Shape.TheVariants as shape
use Rattle.plain_types.specs.declared.elem.Elem.TheVariants as elem
use Rattle.machine.specs.Data.{Id, CliType, Basic, ClassOf, Plain}
use Rattle.machine.specs.Program.{Method, Code}
use Rattle.machine_typed.specs.Typing.{I, L}
use Rattle.classes.specs.Code.{NoOperand, Number, Targets, CodeLine, CatchOf, Finally, CodeClause, MethodCode, Sources}
use Rattle.classes.specs.Listed.{program_of}
use Rattle.classes.specs.Clauses.{lie_well, may_go, may_leave}
use Rattle.class_rules.specs.Merge.{merge}
use Rattle.code_rules.specs.Pass.{Entry}
use Rattle.code_rules.specs.Judgement.{lattice_of, is_targeted, on_starts, steps_of}
use Rattle.code_rules.specs.Verdict.{passed}

id : ℕ → Id
id n = record { file = 0; row = n }

-- no class is there
empty : Sources
empty = record {
  classes = record { size = 0; class = λ c. None; method_owner = λ m. None; field_owner = λ f. None; library = [] };
  code = λ m. None;
  entry = None;
}

gives_int : Method
gives_int = record { arguments = []; locals = []; returns = Some (Plain (Basic elem.I4)); max_stack = 2; clauses = []; body = Code }

of_lines : List CodeLine → List CodeClause → MethodCode
of_lines lines clauses = record { locals = []; max_stack = 2; clauses = clauses; lines = lines }

-- ldc.i4.1; ldc.i4.0; brtrue.s to `ret`; ldc.i4.2; ret: 17 16 2D 01 18 2A
joined : List CodeLine
joined =
    record { at = 0; shape = shape.LoadInt32 (Some (pos 1)); operand = NoOperand; next = 1 }
    ∷ record { at = 1; shape = shape.LoadInt32 (Some (pos 0)); operand = NoOperand; next = 2 }
    ∷ record { at = 2; shape = shape.BranchIf true; operand = Targets (pos 5 ∷ []); next = 4 }
    ∷ record { at = 4; shape = shape.LoadInt32 (Some (pos 2)); operand = NoOperand; next = 5 }
    ∷ record { at = 5; shape = shape.Return; operand = NoOperand; next = 6 }
    ∷ []

other_depths_at_ret : passed empty (lattice_of empty) (ClassOf (id 0)) gives_int (of_lines joined []) ≡ Err (5, 52 ∷ [])
unfolding id empty gives_int of_lines joined
other_depths_at_ret = refl

-- ldarg.0 of a method without arguments; ret
no_argument : List CodeLine
no_argument = record { at = 0; shape = shape.LoadArgument (Some 0); operand = NoOperand; next = 1 } ∷ record { at = 1; shape = shape.Return; operand = NoOperand; next = 2 } ∷ []

number_past_the_arguments : passed empty (lattice_of empty) (ClassOf (id 0)) gives_int (of_lines no_argument []) ≡ Err (0, 47 ∷ (47 ∷ []))
unfolding id empty gives_int of_lines no_argument
number_past_the_arguments = refl

-- nop; br.s to three bytes before the code; ret
before_the_code : List CodeLine
before_the_code =
    record { at = 0; shape = shape.Nop; operand = NoOperand; next = 1 }
    ∷ record { at = 1; shape = shape.Branch; operand = Targets (negsuc 2 ∷ []); next = 3 }
    ∷ record { at = 3; shape = shape.Return; operand = NoOperand; next = 4 }
    ∷ []

no_target_before_the_code : list_all (is_targeted empty.classes (of_lines before_the_code []) (steps_of empty (ClassOf (id 0)) gives_int (of_lines before_the_code []))) before_the_code ≡ false
unfolding id empty gives_int of_lines before_the_code
no_target_before_the_code = refl

-- ---- clauses

catch_from : ℕ → ℕ → ℕ → ℕ → CodeClause
catch_from a b c d = record { kind = CatchOf (Some (id 0)); try_start = a; try_end = b; start = c; end = d }

finally_from : ℕ → ℕ → ℕ → ℕ → CodeClause
finally_from a b c d = record { kind = Finally; try_start = a; try_end = b; start = c; end = d }

-- a catch inside a finally, whose tries begin at one place
two_tries_at_one_place : lie_well (catch_from 1 3 3 6 ∷ (finally_from 1 6 6 17 ∷ [])) ≡ true
unfolding id catch_from finally_from
two_tries_at_one_place = refl

-- the same, the outer clause first
outer_before_inner : lie_well (finally_from 1 6 6 17 ∷ (catch_from 1 3 3 6 ∷ [])) ≡ false
unfolding id catch_from finally_from
outer_before_inner = refl

-- an inner finally whose handler begins where the outer one's does: starting the outer one would enter it
two_handlers_at_one_place : lie_well (finally_from 3 5 2 3 ∷ (finally_from 0 2 2 6 ∷ [])) ≡ false
unfolding finally_from
two_handlers_at_one_place = refl

-- two catches of one try
two_catches : lie_well (catch_from 0 4 4 6 ∷ (catch_from 0 4 6 8 ∷ [])) ≡ true
unfolding id catch_from
two_catches = refl

-- a branch enters a try at its beginning alone, and leaves none; a leave leaves a try, and no finally
enters_at_the_beginning : may_go (catch_from 2 6 6 8 ∷ []) 0 2 ≡ true
unfolding id catch_from
enters_at_the_beginning = refl

enters_in_the_middle : may_go (catch_from 2 6 6 8 ∷ []) 0 4 ≡ false
unfolding id catch_from
enters_in_the_middle = refl

leaves_a_try : may_leave (catch_from 2 6 6 8 ∷ []) 4 9 ≡ true
unfolding id catch_from
leaves_a_try = refl

leaves_a_finally : may_leave (finally_from 2 6 6 8 ∷ []) 7 9 ≡ false
unfolding finally_from
leaves_a_finally = refl

-- ---- merges

numbers_of_two_widths : merge (program_of empty) empty.classes I L ≡ None
unfolding empty
numbers_of_two_widths = refl
