use Rattle.std.proofs.Common.{◌≡◌, ℕ, ◌*◌, ◌≤◌, List, Some, length, take, drop, ap, ◌∙◌, arith}
use Rattle.std.proofs.lemmas.List.{take_rest}
use Rattle.image_form.specs.Codes.{Distances}
use Rattle.tiny_code.specs.Numbers.{words_in}
use Rattle.tiny_code.proofs.NumberLaws.{switch_read}
use Rattle.tiny_code.proofs.operand.read_distances.Goals as goal

pub returns : goal.returns
returns c =
    let code = c.args.code.now in
    let n = c.from-size.result in
    let same : n ≡ c.args.count = c.from-size.ensures in
    let whole : 2 * n ≤ length code = omega (arith, c.if-code-size.false) in
    ap (λ (rest : List ℕ). Some (Distances (words_in (take (2 * n) code)), rest)) (take_rest code (2 * n))
    ∙ ap (λ (k : ℕ). Some (Distances (words_in (take (2 * k) code)), drop (2 * k) code)) same
    ∙ switch_read c.args.count code (omega (arith, whole, same))
