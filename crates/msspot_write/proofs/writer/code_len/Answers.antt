use Rattle.std.proofs.Common.{◌≡◌, length, rules, sym, ◌∙◌}
use Rattle.msspot_write.proofs.StepLaws.{code_at}
use Rattle.msspot_write.proofs.writer.code_len.Goals as goal

pub returns-in-Some : goal.returns-in-Some
returns-in-Some c =
    let there = c.in-Some.ensures.lookup in
    let long : c.len.result ≡ length c.in-Some.code.now.items = search rules in
    long ∙ sym (code_at c.args.codes.now c.args.row c.in-Some.code.now there.3.0 there.1)
