-- The phases one after another.
use Rattle.std.proofs.Common.{◌≡◌, List, Option, Some, None, Result, refl, sym, ap, ◌∙◌}
use Rattle.std.specs.Prelude.{IfOk}
use Rattle.std.proofs.lemmas.Result.{IfOk-weaker}
use Rattle.plain_types.specs.declared.fault.Fault.{Fault}
use Rattle.plain_types.specs.declared.fault.NoMemory.{NoMemory}
use Rattle.file_tables.specs.File.{FilePart}
use Rattle.world_rows.specs.Read.{TypesStand}
use Rattle.verdict_rules.specs.Order.{phase_fault}
use Rattle.verdict_rules.specs.World.{World, world_of}
use Rattle.verdict_rules.specs.Types.{type_rules}
use Rattle.verdict_rules.specs.Code.{slot_rules, code_rules}
use Rattle.verdict_rules.specs.Verdict.{member_rules, phases_fault, all_phases, profile, verdict_by, verdict}
use Rattle.profile_order.proofs.OrderLaws.{after}
use Rattle.judged_classes.specs.Judged.{IsJudged}
use Rattle.cil_verify.specs.Seen.{PhasesTold}

begun : (types members rest : Option Fault) (fault : Fault) → after types (after members None) ≡ Some fault → after types (after members rest) ≡ Some fault
begun (Some found) members rest fault e = e
begun None (Some found) rest fault e = e
begun None None rest fault e = absurd (cc e)

passed : (types members rest : Option Fault) → after types (after members None) ≡ None → after types (after members rest) ≡ rest
passed (Some found) members rest e = absurd (cc e)
passed None (Some found) rest e = absurd (cc e)
passed None None rest e = refl

types_passed : (types rest : Option Fault) → after types (after rest None) ≡ None → types ≡ None
types_passed None rest e = refl
types_passed (Some found) rest e = absurd (cc e)

members_passed : (types members : Option Fault) → after types (after members None) ≡ None → members ≡ None
members_passed None None e = refl
members_passed None (Some found) e = absurd (cc e)
members_passed (Some found) members e = absurd (cc e)

last : (o : Option Fault) → after o None ≡ o
last None = refl
last (Some fault) = refl

module _ (files : List FilePart) where
  abbrev w : World
  w = world_of files

  abbrev types : Option Fault
  types = phase_fault (type_rules w) files

  abbrev members : Option Fault
  members = phase_fault (member_rules w) files

  abbrev slots : Option Fault
  slots = phase_fault (slot_rules w) files

  abbrev code : Option Fault
  code = phase_fault (code_rules w) files

  pub types_kept : profile files ≡ None → types ≡ None
  unfolding profile
  types_kept e = types_passed types members e

  pub members_kept : profile files ≡ None → members ≡ None
  unfolding profile
  members_kept e = members_passed types members e

  pub profile_first : (fault : Fault) → profile files ≡ Some fault → Some fault ≡ phases_fault w (all_phases w)
  unfolding profile
  profile_first fault e = sym (begun types members (after slots (after code None)) fault e)

  behind : profile files ≡ None → phases_fault w (all_phases w) ≡ after slots (after code None)
  unfolding profile
  behind e = passed types members (after slots (after code None)) e

  pub slots_first : (fault : Fault) → profile files ≡ None → slots ≡ Some fault → Some fault ≡ phases_fault w (all_phases w)
  slots_first fault e found = sym (behind e ∙ ap (λ o. after o (after code None)) found)

  pub code_last : profile files ≡ None → slots ≡ None → code ≡ phases_fault w (all_phases w)
  code_last e kept = sym (behind e ∙ ap (λ o. after o (after code None)) kept ∙ last code)

  pub code_told : (result : Result (Option Fault) NoMemory) → TypesStand files → profile files ≡ None → slots ≡ None → IfOk result (λ fault. IsJudged files → fault ≡ code) → IfOk result (PhasesTold files)
  code_told result stand e kept told =
      IfOk-weaker result (λ fault. IsJudged files → fault ≡ code) (PhasesTold files)
      (λ fault says. says (record { types = stand; profile = e; slots = kept }) ∙ code_last e kept)
      told

  pub verdict_is : (o : Option Fault) → o ≡ phases_fault w (all_phases w) → verdict_by o ≡ verdict files
  unfolding verdict
  verdict_is o e = ap verdict_by e
