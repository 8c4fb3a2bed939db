-- What the job `check FILES` comes to.
use Rattle.std.specs.Prelude.{ℕ, List, length, Result, Ok, Err}
use Rattle.plain_types.specs.declared.fault.Fault.{Fault}
use Rattle.file_tables.specs.File.{FilePart}
use Rattle.world_rows.specs.Tokens.{type_defs, methods}
use Rattle.cil_verify.specs.Counts.{rows_behind}
use Rattle.mf_front.specs.declared.outcome.Outcome.{Outcome}
use Rattle.mf_front.specs.declared.outcome.Outcome.TheVariants.{Accepted}
use Rattle.mfdeploy_top.specs.Accepted.{accepted_of, refused_of}

-- accepted files of the job are counted, with their types and methods
abbrev pub checked_of : List (List ℕ) → Result (List FilePart) Fault → Outcome
checked_of files (Ok all) = Accepted (length files) (rows_behind all type_defs) (rows_behind all methods)
checked_of files (Err fault) = refused_of files fault

-- what the bytes of files come to behind the base library
abbrev pub check_of : List (List ℕ) → List (List ℕ) → Outcome
check_of files bytes = checked_of files (accepted_of bytes)
