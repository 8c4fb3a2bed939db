use Rattle.std.proofs.Common.{◌≡◌, ◌+◌, ◌*◌, ◌<◌, ◌≤◌, ◌∙◌, sym, ap, length-set, refl, get_or, take, arith}
use Rattle.std.proofs.lemmas.List.{take_all}
use Rattle.image_bytes.specs.Layout.{widths, total}
use Rattle.msspot_read.specs.Places.{counts_at, table_start}
use Rattle.msspot_read.proofs.PartLaws.{word_is, total_more, filled_more, all_small, product_small}
use Rattle.msspot_read.proofs.parts.table_starts.Goals as goal

pub overflow_add-at : goal.overflow_add-at
overflow_add-at c =
    let bound : c.from-width.result * c.from-rows.result ≤ 11 * 65535 = product_small c.from-width.result c.from-rows.result 11 65535 (omega (arith, c.from-width.ensures, all_small widths 11 refl c.loop-t.t)) (omega arith) in
    omega (arith, bound, c.loop-t.invariant.small)

pub loop-t-preserved : goal.loop-t-preserved
loop-t-preserved c =
    let bytes = c.args.bytes.now in
    let t = c.loop-t.t in
    let h : t < 11 = c.loop-t-test.true in
    let inv = c.loop-t.invariant in
    let width : c.from-width.result ≡ get_or widths t 0 = c.from-width.ensures in
    let count : c.from-rows.result ≡ get_or (counts_at bytes) t 0 = c.from-rows.ensures ∙ c.u16_at-count.ensures ∙ sym (word_is 11 24 t (24 + 2 * t) bytes h refl) in
    let more = total_more widths (counts_at bytes) t h h in
    let product : 2 * c.from-width.result * c.from-rows.result ≡ 2 * (get_or widths t 0 * get_or (counts_at bytes) t 0) = rw (width, count) (omega arith) in
    let bound : c.from-width.result * c.from-rows.result ≤ 11 * 65535 = product_small c.from-width.result c.from-rows.result 11 65535 (omega (arith, width, all_small widths 11 refl t)) (omega arith) in
    record {
      len = length-set c.loop-t.starts t c.loop-t.at ∙ inv.len;
      at = omega (arith, more, product, inv.at);
      small = omega (arith, bound, inv.small);
      starts = filled_more (table_start bytes) c.loop-t.starts t c.loop-t.at 0 (omega (arith, inv.len)) inv.at inv.starts;
    }

pub returns-clause-starts : goal.returns-clause-starts
returns-clause-starts c = λ t h. c.loop-t.invariant.starts t (omega arith)

pub returns-clause-end : goal.returns-clause-end
returns-clause-end c =
    let counts = counts_at c.args.bytes.now in
    c.loop-t.invariant.at
    ∙ ap (λ ws. total ws (take c.loop-t.t counts) + 56) (take_all c.loop-t.t widths (omega arith))
    ∙ ap (λ cs. total widths cs + 56) (take_all c.loop-t.t counts (omega arith))

pub returns-clause-small : goal.returns-clause-small
returns-clause-small c = omega (arith, c.loop-t.invariant.small)
