use Rattle.std.proofs.Common.{length, sym, ap, ◌∙◌, arith}
use Rattle.std.specs.List.{flat_map}
use Rattle.std.proofs.lemmas.List.{take_all}
use Rattle.msspot_write.proofs.CountLaws.{codes_flat}
use Rattle.msspot_write.proofs.counts.code_bytes.Goals as goal

pub returns : goal.returns
returns c =
    c.loop-code.invariant
    ∙ ap (λ cs. length (flat_map (λ c. c.items) cs)) (take_all c.loop-code.code-index c.args.codes.now (omega arith))
    ∙ ap length (sym (codes_flat c.args.codes.now))
