-- The verdict of all code of a program, and the typing of its machine that it gives.
use Rattle.std.specs.Prelude.{◌≡◌, ℕ, Bool, true, false, ◌&&◌, ◌||◌, not, nat_eq, nat_lt, if◌then◌else◌, List, [], ◌∷◌, Option, Some, None, unwrap_or, slice_get, Result, Ok, Err}
use Rattle.std.specs.List.{list_any, list_all}
use Rattle.std.specs.Option.{option_map}
use Rattle.plain_types.specs.declared.elem.Elem.TheVariants as elem
use Rattle.machine.specs.Data.{Id, CliType, ClassOf}
use Rattle.machine.specs.Program.{Method, Code}
use Rattle.machine.specs.Throw.{on_some}
use Rattle.machine_typed.specs.Typing.{StackType, assignable}
use Rattle.machine_typed.specs.Accepted.{Typing}
use Rattle.classes.specs.Classes.{Classes}
use Rattle.classes.specs.Code.{CodeLine, CodeClause, CodeClauseKind, CatchOf, Finally, OtherKind, MethodCode, Sources}
use Rattle.classes.specs.Listed.{in_handler, instruction_of, method, program_of}
use Rattle.classes.specs.Queries.{is_sub, basic, some_eq}
use Rattle.class_rules.specs.Merge.{merge}
use Rattle.class_rules.specs.Made.{made}
use Rattle.class_rules.specs.Rules.{sig_fits}
use Rattle.classes.specs.Clauses.{lie_well}
use Rattle.code_rules.specs.Pass.{Lattice, Step, Entry, standing}
use Rattle.code_rules.specs.Flow.{targets}
use Rattle.code_rules.specs.Verdict.{steps_from, passed}

-- assignable stack types, and their merge
abbrev pub lattice_of : Sources → Lattice
lattice_of x = record { assignable = assignable (program_of x); merge = merge (program_of x) x.classes }

-- 41, 42: the instructions stand behind one another, and there is one
abbrev pub lines_rise : ℕ → List CodeLine → Bool
lines_rise from [] = true
lines_rise from (l ∷ ls) = nat_eq l.at from && (nat_lt l.at l.next && lines_rise l.next ls)

abbrev pub is_some_line : List CodeLine → Bool
is_some_line [] = false
is_some_line (l ∷ ls) = true

-- 42: control doesn't fall out of the code
abbrev pub is_closed : List Step → Bool
is_closed [] = true
is_closed (s ∷ []) = not s.falls
is_closed (s ∷ (t ∷ ss)) = is_closed (t ∷ ss)

-- an instruction begins at the place
abbrev pub is_start : List Step → ℕ → Bool
is_start steps place = list_any (λ s. nat_eq s.at place) steps

-- 43
abbrev pub is_targeted : Classes → MethodCode → List Step → CodeLine → Bool
is_targeted cs code steps l = list_all (is_start steps) (unwrap_or (option_map targets (instruction_of cs code l.at l.shape l.operand)) [])

-- 44, besides how clauses lie: regions on instruction starts, which may end where the code does
abbrev pub end_of : List Step → ℕ
end_of [] = 0
end_of (s ∷ []) = s.next
end_of (s ∷ (t ∷ ss)) = end_of (t ∷ ss)

abbrev pub is_bound : List Step → ℕ → Bool
is_bound steps place = is_start steps place || nat_eq place (end_of steps)

abbrev pub on_starts : List Step → CodeClause → Bool
on_starts steps c = is_start steps c.start && (is_start steps c.try_start && (is_bound steps c.try_end && is_bound steps c.end))

-- a kind that is known, and of a catch a class that is Object, or Exception or below it
abbrev pub catches_well : Classes → Id → CodeClauseKind → Bool
catches_well cs exception (CatchOf (Some class)) = some_eq (Some class) (basic cs elem.Object) || is_sub cs class exception
catches_well cs exception (CatchOf None) = false
catches_well cs exception Finally = true
catches_well cs exception OtherKind = false

abbrev pub is_ok : {A B : Type 0} → Result A B → Bool
is_ok (Ok a) = true
is_ok (Err b) = false

abbrev pub steps_of : Sources → CliType → Method → MethodCode → List Step
steps_of x exception m code = steps_from x exception m code None code.lines

-- 27 of its locals, and 41 to 54
abbrev pub code_fits : Sources → Id → Method → MethodCode → Bool
code_fits x exception m code =
    list_all (sig_fits x.classes) code.locals
    && (lines_rise 0 code.lines
    && (is_some_line code.lines
    && (is_closed (steps_of x (ClassOf exception) m code)
    && (list_all (is_targeted x.classes code (steps_of x (ClassOf exception) m code)) code.lines
    && (lie_well code.clauses
    && (list_all (on_starts (steps_of x (ClassOf exception) m code)) code.clauses
    && (list_all (λ c. catches_well x.classes exception c.kind) code.clauses
    && is_ok (passed x (lattice_of x) (ClassOf exception) m code))))))))

-- each method of CIL
abbrev pub CodesFit : Sources → Id → Type 0
CodesFit x exception = (id : Id) (m : Method) → method x id ≡ Some m → m.body ≡ Code → (code : MethodCode) × (x.code id ≡ Some code) × (code_fits x exception m code ≡ true)

-- ---- the typing

-- what stands where an instruction begins
abbrev pub types_in : List Step → Result (List Entry) (ℕ × List ℕ) → ℕ → Option (List StackType)
types_in steps (Ok table) place = if is_start steps place then standing table place else None
types_in steps (Err broken) place = None

abbrev pub types_of : Sources → Id → Id → ℕ → Option (List StackType)
types_of x exception id place =
    on_some (x.code id) (λ code. on_some (method x id) (λ m. types_in (steps_of x (ClassOf exception) m code) (passed x (lattice_of x) (ClassOf exception) m code) place))

abbrev pub handled_of : Sources → Id → ℕ → ℕ → Bool
handled_of x id k place =
    unwrap_or (option_map (λ code. unwrap_or (option_map (λ c. in_handler c place) (slice_get code.clauses k)) false) (x.code id)) false

abbrev pub typing_of : Sources → Id → Typing
typing_of x exception = record { types = types_of x exception; handled = handled_of x; made = made x.classes; exception = ClassOf exception }
