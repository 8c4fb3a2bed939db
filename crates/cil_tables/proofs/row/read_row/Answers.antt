use Rattle.std.proofs.Common.{◌≡◌, ◌<◌, ◌≤◌, ◌≢◌, length, length-set, get_or, get_or-set_other, take, sym, ◌∙◌, ⊎_elim, arith}
use Rattle.std.proofs.lemmas.Bool.{cases_lt}
use Rattle.std.proofs.lemmas.List.{get_or_default, length-take}
use Rattle.file_tables.specs.Tables as tables
use Rattle.cil_tables.proofs.Ranges.{filled_more}
use Rattle.cil_tables.proofs.RowLaws.{rest_more, here, behind}
use Rattle.cil_tables.proofs.row.read_row.Goals as goal

pub loop-k-preserved : goal.loop-k-preserved
loop-k-preserved c =
    let widths = take c.args.widths.now.count c.args.widths.now.columns in
    let below : c.loop-k.k < length widths = c.loop-k-test.true in
    let few : c.loop-k.k < 9 = omega (arith, below, c.requires.few, length-take c.args.widths.now.count c.args.widths.now.columns) in
    let width : c.from-width.result ≡ get_or widths c.loop-k.k 0 = c.from-width.ensures ∙ sym (get_or_default widths c.loop-k.k 0 _ below) in
    let number : c.number.result ≡ get_or (tables.numbers_at c.args.region.now c.args.start widths) c.loop-k.k 0 =
    c.number.ensures ∙ rw width (sym (here c.args.region.now widths c.args.start c.loop-k.k c.loop-k.at c.loop-k.invariant.rest below)) in
    record {
      len = length-set c.loop-k.numbers c.loop-k.k c.number.result ∙ c.loop-k.invariant.len;
      small = omega arith;
      read = filled_more (λ j. get_or (tables.numbers_at c.args.region.now c.args.start widths) j 0) c.loop-k.numbers c.loop-k.k c.number.result 0 (omega (arith, c.loop-k.invariant.len)) number c.loop-k.invariant.read;
      zeros = λ j le. let other : j ≢ c.loop-k.k = omega arith in rw get_or-set_other (c.loop-k.invariant.zeros j (omega arith));
      rest = rest_more c.args.region.now widths c.args.start c.loop-k.k c.loop-k.at c.from-width.result c.loop-k.invariant.rest below width;
    }

pub returns : goal.returns
returns c j =
    let widths = take c.args.widths.now.count c.args.widths.now.columns in
    ⊎_elim
    (λ (read : j < c.loop-k.k). c.loop-k.invariant.read j read)
    (λ (past : c.loop-k.k ≤ j).
    c.loop-k.invariant.zeros j past
    ∙ sym (behind c.args.region.now widths c.args.start c.loop-k.k c.loop-k.at j c.loop-k.invariant.rest c.loop-k-test.false past))
    (cases_lt j c.loop-k.k)
