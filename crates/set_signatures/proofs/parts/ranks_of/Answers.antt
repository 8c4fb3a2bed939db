use Rattle.std.proofs.Common.{◌≡◌, ◌∙◌, ap, take, arith}
use Rattle.std.specs.Prelude.{nat_eq}
use Rattle.std.specs.List.{prefix_len}
use Rattle.set_signatures.specs.Meant.{brackets}
use Rattle.set_signatures.proofs.PartLaws.{brackets_few, few_brackets}
use Rattle.set_signatures.proofs.parts.ranks_of.Goals as goal

pub returns-clause-few : goal.returns-clause-few
returns-clause-few c =
    let bytes = c.args.bytes.now in
    let is : c.bracket_count.result ≡ brackets bytes = c.bracket_count.ensures ∙ ap (λ n. prefix_len (λ code. nat_eq code 29) (take n bytes)) c.min-few.ensures ∙ few_brackets bytes in
    omega (arith, is, brackets_few bytes)
