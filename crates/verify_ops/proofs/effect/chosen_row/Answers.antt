use Rattle.std.proofs.Common.{ℤ, sym, ◌∙◌, rules, subst, w64, SFits}
use Rattle.std.proofs.lemmas.Int.{to_z-of_z}
use Rattle.verify_ops.specs.Effects.{shape_of}
use Rattle.verify_ops.specs.Acts.{Chosen}
use Rattle.verify_ops.proofs.Choices.{at_shape, shape_found}
use Rattle.verify_ops.proofs.effect.chosen_row.Goals as goal

pub returns : goal.returns
returns c =
    let f : SFits w64 c.args.op.operand = search rules in
    let h : Chosen c.args.facts.now c.in-Some.line.shape c.args.op.operand c.row_for.result =
    subst (λ (z : ℤ). Chosen c.args.facts.now c.in-Some.line.shape z c.row_for.result) (to_z-of_z w64 c.args.op.operand f) c.row_for.ensures in
    at_shape c.args.facts.now c.in-Some.line.shape (shape_of c.args.op.op) c.args.op.operand c.row_for.result (shape_found c.args.op.op c.in-Some.line (sym c.row.ensures ∙ c.in-Some.is)) h
