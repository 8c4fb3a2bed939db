use Rattle.std.proofs.Common.{◌≡◌, ◌+◌, ◌*◌, ◌≤◌, drop, get_or, sym, ap, ◌∙◌, arith}
use Rattle.image_bytes.specs.Layout.{widths, total}
use Rattle.msspot_write.proofs.CountLaws.{total_step, total_small, below_total, on_total, half_below}
use Rattle.msspot_write.proofs.counts.tables_size.Goals as goal

pub overflow_mul-size : goal.overflow_mul-size
overflow_mul-size c =
    let i = c.loop-table.table in
    let rows = c.args.rows.now in
    let s = c.loop-table.size in
    let m = get_or widths i 0 * get_or rows i 0 in
    let rest = total (drop (i + 1) widths) (drop (i + 1) rows) in
    let step : s + (2 * m + rest) ≡ total widths rows = ap (λ n. s + n) (sym (total_step widths rows i (omega arith))) ∙ c.loop-table.invariant in
    let most : s + 2 * m ≤ 10000000 = below_total s (2 * m) rest (total widths rows) 10000000 step (total_small rows c.requires) in
    let small : m ≤ 10000000 = half_below m 10000000 (omega (arith, most)) in
    omega (arith, small)

pub overflow_add-size : goal.overflow_add-size
overflow_add-size c =
    let i = c.loop-table.table in
    let rows = c.args.rows.now in
    let s = c.loop-table.size in
    let m = get_or widths i 0 * get_or rows i 0 in
    let rest = total (drop (i + 1) widths) (drop (i + 1) rows) in
    let step : s + (2 * m + rest) ≡ total widths rows = ap (λ n. s + n) (sym (total_step widths rows i (omega arith))) ∙ c.loop-table.invariant in
    let most : s + 2 * m ≤ 10000000 = below_total s (2 * m) rest (total widths rows) 10000000 step (total_small rows c.requires) in
    omega (arith, most)

pub loop-table-preserved : goal.loop-table-preserved
loop-table-preserved c =
    let i = c.loop-table.table in
    let rows = c.args.rows.now in
    let s = c.loop-table.size in
    let m = get_or widths i 0 * get_or rows i 0 in
    let rest = total (drop (i + 1) widths) (drop (i + 1) rows) in
    on_total s (2 * m) rest (total widths rows) (ap (λ n. s + n) (sym (total_step widths rows i (omega arith))) ∙ c.loop-table.invariant)

pub overflow_cast-result : goal.overflow_cast-result
overflow_cast-result c =
    let rows = c.args.rows.now in
    let inv : c.loop-table.size + total (drop c.loop-table.table widths) (drop c.loop-table.table rows) ≡ total widths rows = c.loop-table.invariant in
    let most : c.loop-table.size ≤ 10000000 = omega (arith, inv, total_small rows c.requires) in
    omega (arith, most)

pub returns-clause-small : goal.returns-clause-small
returns-clause-small c =
    let rows = c.args.rows.now in
    let inv : c.loop-table.size + total (drop c.loop-table.table widths) (drop c.loop-table.table rows) ≡ total widths rows = c.loop-table.invariant in
    omega (arith, inv, total_small rows c.requires)
