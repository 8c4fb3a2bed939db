use Rattle.std.proofs.Common.{◌≡◌, ◌∙◌, sym, arith}
use Rattle.cil_types.proofs.RowLaws.{ranks_apart, ranks_alike}
use Rattle.cil_types.proofs.rows.is_one.Goals as goal

pub returns-else-a-b : goal.returns-else-a-b
returns-else-a-b c =
    let apart : c.args.a.now.ranks ≡ c.args.b.now.ranks → ⊥ = omega arith in
    sym (ranks_apart c.args.a.now c.args.b.now c.base_of-a_base.result c.base_of-b_base.result c.base_of-a_base.ensures c.base_of-b_base.ensures apart)

pub returns-then-a-b : goal.returns-then-a-b
returns-then-a-b c =
    let same : c.args.a.now.ranks ≡ c.args.b.now.ranks = omega arith in
    c.is_same.ensures ∙ sym (ranks_alike c.args.a.now c.args.b.now c.base_of-a_base.result c.base_of-b_base.result c.base_of-a_base.ensures c.base_of-b_base.ensures same)
