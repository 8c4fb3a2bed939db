use Rattle.std.proofs.Common.{◌≡◌, ◌+◌, ◌-◌, ◌++◌, ◌∷◌, [], ap, ◌∙◌, arith}
use Rattle.tiny_ram.specs.Memory.{heap_cells, entry_at}
use Rattle.tiny_ram.proofs.Kept.{entry_new, entry_stays}
use Rattle.tiny_ram.proofs.law.objects_are_made.Goals as goal

pub returns-clause-new : goal.returns-clause-new
returns-clause-new c m e =
    let back : 1 + heap_cells m.heap - 1 ≡ heap_cells m.heap = omega arith in
    record { some = omega arith; there = ap (entry_at (m.heap ++ e ∷ [])) back ∙ entry_new m.heap e }

pub returns-clause-others : goal.returns-clause-others
returns-clause-others c m e x thing i = record { some = i.some; there = entry_stays m.heap e x (thing - 1) i.there }
