-- Files that break none of the rules 20 to 31, the types of which keep rule 12.
use Rattle.std.specs.Prelude.{◌≡◌, List, None}
use Rattle.file_tables.specs.File.{FilePart}
use Rattle.world_rows.specs.Read.{TypesStand}
use Rattle.verdict_rules.specs.Order.{phase_fault}
use Rattle.verdict_rules.specs.World.{world_of}
use Rattle.verdict_rules.specs.Code.{slot_rules}
use Rattle.verdict_rules.specs.Verdict.{profile}

pub record IsJudged (files : List FilePart) : Type 0 where
  pub types : TypesStand files
  pub profile : profile files ≡ None
  pub slots : phase_fault (slot_rules (world_of files)) files ≡ None
