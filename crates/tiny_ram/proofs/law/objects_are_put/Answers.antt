use Rattle.std.proofs.Common.{◌≡◌, ◌-◌, arith}
use Rattle.tiny_ram.proofs.Kept.{entry_put, entry_other}
use Rattle.tiny_ram.proofs.law.objects_are_put.Goals as goal

pub returns-clause-here : goal.returns-clause-here
returns-clause-here c m e g thing i z = record { some = i.some; there = entry_put m.heap (thing - 1) e g i.there z }

pub returns-clause-others : goal.returns-clause-others
returns-clause-others c m e g x thing other i z d o =
    record { some = o.some; there = entry_other m.heap (thing - 1) (other - 1) e g x i.there z (λ (q : other - 1 ≡ thing - 1). d (omega (arith, q, i.some, o.some))) o.there }
