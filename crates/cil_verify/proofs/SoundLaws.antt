-- Accepted files behind the base library give a program that never gets stuck.
use Rattle.std.proofs.Common.{◌≡◌, ℕ, suc, false, List, sym, subst, ap, ◌∙◌}
use Rattle.file_tables.specs.File.{FilePart}
use Rattle.machine.specs.Trace.{is_stuck, trace}
use Rattle.world_rows.specs.Read.{TypesStand}
use Rattle.world_rows.specs.World.{ecma_program}
use Rattle.base_rows.specs.Facts.{base}
use Rattle.verdict_rules.specs.Verdict.{Accepted, verdict}
use Rattle.verdict_laws.proofs.VerdictLaws.{never_sticks}

module _ (files xs : List FilePart) (is : files ≡ base xs) (stand : TypesStand files) (says : Accepted ≡ verdict files) where
  of_base : Accepted ≡ verdict (base xs)
  of_base = says ∙ ap verdict is

  behind : TypesStand xs
  behind f x there row low = subst TypesStand is stand (suc (suc f)) x there row low

  pub never_stuck : (steps most : ℕ) → is_stuck (trace (ecma_program (base xs)) steps most).finish ≡ false
  never_stuck steps most = never_sticks xs (sym of_base) behind steps most
