-- What the classes of judged files have.
use Rattle.std.proofs.Common.{◌≡◌, true, None, refl, List}
use Rattle.file_tables.specs.File.{FilePart}
use Rattle.classes.specs.Classes.{Classes}
use Rattle.classes.specs.Reading.{IsRead}
use Rattle.class_rules.specs.Rules.{Keeps}
use Rattle.world_rows.specs.World.{type_count, rows_alone, ecma_sources}
use Rattle.world_rows.proofs.Read.{world_is_read}
use Rattle.verdict_rules.specs.Order.{phase_fault}
use Rattle.verdict_rules.specs.World.{world_of}
use Rattle.verdict_rules.specs.Types.{type_rules}
use Rattle.verdict_rules.specs.Verdict.{member_rules, phases_fault, profile_phases, profile}
use Rattle.verdict_laws.proofs.Kept.{each_kept}
use Rattle.verdict_laws.proofs.Keeps.{keeps}
use Rattle.cil_types.specs.Spelt.{AreSpelt}
use Rattle.cil_types.proofs.SpellLaws.{kinds_spelt}
use Rattle.ecma_effects.specs.Told.{Tabled}
use Rattle.judged_classes.specs.Judged.{IsJudged}
use Rattle.judged_classes.proofs.Fields.{fields_found}
use Rattle.judged_classes.proofs.Natives.{constructors}

-- ---- the phases of the profile find nothing

module _ (files : List FilePart) (none : profile files ≡ None) where
  phases_none : phases_fault (world_of files) (profile_phases (world_of files)) ≡ None
  unfolding profile
  phases_none = none

  pub in_types : phase_fault (type_rules (world_of files)) files ≡ None
  in_types = each_kept (λ _ rules. phase_fault rules files) (profile_phases (world_of files)) 0 (type_rules (world_of files)) phases_none refl

  pub in_members : phase_fault (member_rules (world_of files)) files ≡ None
  in_members = each_kept (λ _ rules. phase_fault rules files) (profile_phases (world_of files)) 1 (member_rules (world_of files)) phases_none refl

-- ---- the laws

pub read : (files : List FilePart) → IsJudged files → IsRead (type_count (rows_alone files)) (ecma_sources files).classes
read files j = world_is_read files j.types

pub kept : (files : List FilePart) → IsJudged files → Keeps (type_count (rows_alone files)) (ecma_sources files).classes
kept files j = keeps files (in_types files j.profile) (in_members files j.profile) j.slots (read files j)

pub spelt : (files : List FilePart) → IsJudged files → AreSpelt (ecma_sources files).classes
spelt files j = kinds_spelt (type_count (rows_alone files)) (ecma_sources files).classes (read files j) (kept files j)

module _ (files : List FilePart) (j : IsJudged files) where
  abbrev cs : Classes
  cs = (ecma_sources files).classes

  pub tabled : Tabled cs
  tabled = record { entry = fields_found files j.types; constructors = λ c i m low e h. constructors files c i m e h }
