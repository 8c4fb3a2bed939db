use Rattle.std.proofs.Common.{◌++◌, sym, ap, ◌∙◌, arith}
use Rattle.std.specs.List.{flat_map}
use Rattle.std.proofs.lemmas.List.{take_all}
use Rattle.msspot_write.proofs.CountLaws.{codes_flat}
use Rattle.msspot_write.proofs.writer.push_codes.Goals as goal

pub returns : goal.returns
returns c =
    c.loop-code.invariant
    ∙ ap (λ cs. c.args.out.now.items ++ flat_map (λ c. c.items) cs) (take_all c.loop-code.code-index c.args.codes.now (omega arith))
    ∙ ap (λ bs. c.args.out.now.items ++ bs) (sym (codes_flat c.args.codes.now))
