-- The verdict of the definitions that a verdict is, and what the phases tell.
use Rattle.std.specs.Prelude.{◌≡◌, List, Option}
use Rattle.plain_types.specs.declared.fault.Fault.{Fault}
use Rattle.file_tables.specs.File.{FilePart}
use Rattle.verdict_rules.specs.World.{world_of}
use Rattle.verdict_rules.specs.Verdict.{all_phases, phases_fault}
use Rattle.verdict_rules.specs.Verdict as rules
use Rattle.cil_verify.specs.declared.outcome.Verdict.{Verdict}
use Rattle.cil_verify.specs.declared.outcome.Verdict.TheVariants.{Accepted, Refused}

abbrev pub seen : Verdict → rules.Verdict
seen Accepted = rules.Accepted
seen (Refused fault) = rules.Refused fault

-- the first fault of all phases
abbrev pub PhasesTold : List FilePart → Option Fault → Type 0
PhasesTold files fault = fault ≡ phases_fault (world_of files) (all_phases (world_of files))
