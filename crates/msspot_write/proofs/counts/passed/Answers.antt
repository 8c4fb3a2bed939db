use Rattle.std.proofs.Common.{sym, ◌∙◌, arith}
use Rattle.msspot_write.proofs.CountLaws.{over_first, over_second}
use Rattle.msspot_write.proofs.counts.passed.Goals as goal

pub returns-in-Some : goal.returns-in-Some
returns-in-Some c = sym (over_first 0 c.args.counts.now.rows c.args.counts.now.bytes c.in-Some.limit (sym c.first_passed.ensures ∙ c.in-Some.is))

pub returns-in-None : goal.returns-in-None
returns-in-None c =
    c.first_passed-in-None.ensures
    ∙ sym (over_second 0 11 c.args.counts.now.rows c.args.counts.now.bytes (omega (arith, c.requires)) (sym c.first_passed.ensures ∙ c.in-None.is))
