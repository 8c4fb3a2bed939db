use Rattle.std.proofs.Common.{[], map, take}
use Rattle.msspot_write.specs.declared.parts.PartLiteral.{PartLiteral}
use Rattle.msspot_write.specs.Parts.{literal_of}
use Rattle.msspot_write.specs.Gathers.{Grows}
use Rattle.msspot_write.proofs.gather.Gathered.add_literals.Given as goal

abbrev pub invariant-loop-literal : goal.invariant-loop-literal
invariant-loop-literal l = Grows l.fn.self l.self (map (λ (x : PartLiteral). literal_of x.text) (take l.literal-index l.literals)) [] []
