-- The profile is the verdict's beginning.
use Rattle.std.proofs.Common.{◌≡◌, List, Option, Some, None, refl, ap}
use Rattle.plain_types.specs.declared.fault.Fault.{Fault}
use Rattle.file_tables.specs.File.{FilePart}
use Rattle.verdict_rules.specs.Order.{phase_fault}
use Rattle.verdict_rules.specs.World.{world_of}
use Rattle.verdict_rules.specs.Types.{type_rules}
use Rattle.verdict_rules.specs.Code.{slot_rules, code_rules}
use Rattle.verdict_rules.specs.Verdict.{member_rules, phases_fault, all_phases, Accepted, Refused, verdict_by, profile, verdict}

no_fault : (o : Option Fault) → verdict_by o ≡ Accepted → o ≡ None
no_fault None e = refl
no_fault (Some fault) e = absurd (cc e)

abbrev after : Option Fault → Option Fault → Option Fault
after first rest = elim first as (λ _. Option Fault) [ None ↦ rest | Some found ↦ Some found ]

told : (a b c d : Option Fault) (fault : Fault) → after a (after b None) ≡ Some fault → after a (after b (after c (after d None))) ≡ Some fault
told (Some found) b c d fault e = e
told None (Some found) c d fault e = e
told None None c d fault e = absurd (cc e)

untold : (a b c d : Option Fault) → after a (after b (after c (after d None))) ≡ None → after a (after b None) ≡ None
untold (Some found) b c d e = absurd (cc e)
untold None (Some found) c d e = absurd (cc e)
untold None None c d e = refl

pub profile_refuses : (files : List FilePart) (fault : Fault) → profile files ≡ Some fault → verdict files ≡ Refused fault
unfolding profile verdict
profile_refuses files fault e =
    let w = world_of files in
    ap verdict_by (told (phase_fault (type_rules w) files) (phase_fault (member_rules w) files) (phase_fault (slot_rules w) files) (phase_fault (code_rules w) files) fault e)

pub profile_accepts : (files : List FilePart) → verdict files ≡ Accepted → profile files ≡ None
unfolding profile verdict
profile_accepts files e =
    let w = world_of files in
    untold (phase_fault (type_rules w) files) (phase_fault (member_rules w) files) (phase_fault (slot_rules w) files) (phase_fault (code_rules w) files) (no_fault (phases_fault w (all_phases w)) e)
