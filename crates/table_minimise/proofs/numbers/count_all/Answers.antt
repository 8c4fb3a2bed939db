use Rattle.std.proofs.Common.{◌≡◌, ◌-◌, ◌+◌, suc, length, ap, ◌∙◌, arith}
use Rattle.row_numbers.specs.declared.table.TableRange.{TableRange}
use Rattle.table_minimise.proofs.NumberLaws.{range_ends}
use Rattle.table_minimise.proofs.numbers.count_all.Goals as goal

pub returns : goal.returns
returns c =
    λ ps are size.
    let last : length ps ≡ suc (c.args.files - 1) = omega (arith, size) in
    ap (λ (r : TableRange). r.first + r.count) c.range-last.ensures.range ∙ range_ends ps c.args.numbers.now are (c.args.files - 1) last
