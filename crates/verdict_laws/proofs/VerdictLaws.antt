-- What an accepted verdict gives.
use Rattle.std.proofs.Common.{◌≡◌, ℕ, suc, true, false, List, length, Option, Some, None, refl, sym, ap, subst}
use Rattle.std.specs.Prelude.{unwrap_or}
use Rattle.plain_types.specs.declared.fault.Fault.{Fault}
use Rattle.file_tables.specs.File.{FilePart}
use Rattle.machine.specs.Trace.{is_stuck, trace}
use Rattle.machine_typed.specs.Accepted.{Accepted as Typed}
use Rattle.machine_typed.proofs.Runs.{never_stuck}
use Rattle.class_rules.specs.Rules.{Keeps, entry_fits}
use Rattle.class_rules.specs.Base.{IsBase}
use Rattle.code_rules.specs.Judgement.{CodesFit, typing_of}
use Rattle.code_rules.proofs.AcceptedLaws.{accepted_is_typed}
use Rattle.assemblies.specs.Binding.{id_at}
use Rattle.world_rows.specs.World.{type_count, rows_alone, ecma_sources, ecma_program}
use Rattle.world_rows.specs.Read.{TypesStand}
use Rattle.base_rows.specs.Facts.{base}
use Rattle.base_rows.proofs.BaseLaws.{base_facts, base_is_read}
use Rattle.verdict_rules.specs.Order.{phase_fault}
use Rattle.verdict_rules.specs.World.{World, world_of, exception_of}
use Rattle.verdict_rules.specs.Types.{type_rules}
use Rattle.verdict_rules.specs.Code.{slot_rules, code_rules}
use Rattle.verdict_rules.specs.Verdict.{member_rules, phases_fault, all_phases, Accepted, verdict_by, verdict}
use Rattle.verdict_laws.proofs.Kept.{each_kept}
use Rattle.verdict_laws.proofs.Keeps.{entry, keeps}
use Rattle.verdict_laws.proofs.Codes.{codes_fit}

no_fault : (o : Option Fault) → verdict_by o ≡ Accepted → o ≡ None
no_fault None e = refl
no_fault (Some fault) e = absurd (cc e)

-- ---- each phase finds nothing

module _ (files : List FilePart) (accepted : verdict files ≡ Accepted) where
  abbrev w : World
  w = world_of files

  none : phases_fault w (all_phases w) ≡ None
  unfolding verdict
  none = no_fault (phases_fault (world_of files) (all_phases (world_of files))) accepted

  in_types : phase_fault (type_rules w) files ≡ None
  in_types = each_kept (λ _ rules. phase_fault rules files) (all_phases w) 0 (type_rules w) none refl

  in_members : phase_fault (member_rules w) files ≡ None
  in_members = each_kept (λ _ rules. phase_fault rules files) (all_phases w) 1 (member_rules w) none refl

  in_slots : phase_fault (slot_rules w) files ≡ None
  in_slots = each_kept (λ _ rules. phase_fault rules files) (all_phases w) 2 (slot_rules w) none refl

  in_code : phase_fault (code_rules w) files ≡ None
  in_code = each_kept (λ _ rules. phase_fault rules files) (all_phases w) 3 (code_rules w) none refl

-- ---- over the base library

module _ (xs : List FilePart) (accepted : verdict (base xs) ≡ Accepted) where
  pub rules : TypesStand xs → Keeps (type_count (rows_alone (base xs))) (ecma_sources (base xs)).classes
  rules stand = keeps (base xs) (in_types (base xs) accepted) (in_members (base xs) accepted) (in_slots (base xs) accepted) (base_is_read xs stand)

  pub begins : entry_fits (ecma_sources (base xs)) ≡ true
  begins = entry (base xs) (in_types (base xs) accepted) (suc (length xs)) refl

  based : IsBase (ecma_sources (base xs)).classes
  based = base_facts xs

  exception_is : exception_of (world_of (base xs)) ≡ based.exception
  exception_is = ap (λ o. unwrap_or o (id_at 0 0)) based.exception_is

  fit : CodesFit (ecma_sources (base xs)) based.exception
  fit = codes_fit (base xs) (in_members (base xs) accepted) (in_code (base xs) accepted) based

  pub code : CodesFit (ecma_sources (base xs)) (exception_of (world_of (base xs)))
  code = subst (CodesFit (ecma_sources (base xs))) (sym exception_is) fit

  pub typed : TypesStand xs → Typed (ecma_program (base xs)) (typing_of (ecma_sources (base xs)) (exception_of (world_of (base xs))))
  typed stand =
      subst (λ z. Typed (ecma_program (base xs)) (typing_of (ecma_sources (base xs)) z)) (sym exception_is)
      (accepted_is_typed (type_count (rows_alone (base xs))) (ecma_sources (base xs)) (base_is_read xs stand) based (rules stand) begins fit)

  pub never_sticks : TypesStand xs → (steps most : ℕ) → is_stuck (trace (ecma_program (base xs)) steps most).finish ≡ false
  never_sticks stand steps most = never_stuck (ecma_program (base xs)) (typing_of (ecma_sources (base xs)) (exception_of (world_of (base xs)))) (typed stand) steps most
