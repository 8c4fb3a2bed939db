-- What the job `run1 FILE STEPS` comes to.
use Rattle.std.specs.Prelude.{ℕ, ℤ, nat_le, if◌then◌else◌, List, Option, Some, None, Result, Ok, Err}
use Rattle.std.specs.Option.{ok_or}
use Rattle.plain_types.specs.declared.fault.Fault.{Fault}
use Rattle.file_tables.specs.File.{FilePart, file_of}
use Rattle.tiny_interp.specs.Postfix.{first_value, first_count}
use Rattle.mf_front.specs.declared.outcome.End.{End}
use Rattle.mf_front.specs.declared.outcome.End.TheVariants.{Returned, StepsSpent}
use Rattle.mf_front.specs.declared.outcome.Outcome.{Outcome}
use Rattle.mf_front.specs.declared.outcome.Outcome.TheVariants.{Refused, Ran}
use Rattle.mf_front.specs.Texts.{end_text}
use Rattle.mfdeploy_top.specs.FirstForm.{first_code}

-- the refusal of a file that breaks none of rules 1 to 13 and hasn't the first form
abbrev pub not_built : Fault
not_built = record { rule = 99; place = record { file = 0; table = 255; row = 0; offset = 0 } }

-- the expression of a file's bytes, or the first rule that they break
abbrev pub code_in : Result FilePart Fault → Result (List ℕ) Fault
code_in (Ok file) = ok_or (first_code file.pe) not_built
code_in (Err fault) = Err fault

unfoldable pub code_of : List ℕ → Result (List ℕ) Fault
code_of bytes = code_in (file_of bytes)

-- the end of a run of an expression
abbrev pub end_of : Option ℤ → End
end_of (Some value) = Returned value
end_of None = StepsSpent

abbrev pub end_in : List ℕ → ℕ → End
end_in code steps = end_of (if nat_le (first_count code) steps then first_value code else None)

-- what a file's bytes come to
abbrev pub run_with : Result (List ℕ) Fault → List ℕ → ℕ → Outcome
run_with (Ok code) file steps = Ran 0 (end_text (end_in code steps))
run_with (Err fault) file steps = Refused fault file

abbrev pub run_of : List ℕ → List ℕ → ℕ → Outcome
run_of bytes = run_with (code_of bytes)
