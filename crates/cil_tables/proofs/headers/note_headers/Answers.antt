use Rattle.std.proofs.Common.{◌<◌, ◌≡◌, length, true, sym, ◌∙◌, arith}
use Rattle.cil_tables.specs.Headers.{fits}
use Rattle.cil_tables.proofs.StreamLaws.{end_is}
use Rattle.cil_tables.proofs.NotedLaws.{noted_none, noted_more, next_is, first_header, all_noted}
use Rattle.cil_tables.proofs.headers.note_headers.Goals as goal

pub loop-k-init : goal.loop-k-init
loop-k-init c =
    record {
      noted = noted_none c.args.region.now c.args.headers.now.first c.args.starts.now;
      next = first_header c.args.region.now c.args.headers.now.first;
      place = c.requires.root.fits;
    }

pub loop-k-preserved : goal.loop-k-preserved
loop-k-preserved c =
    let region = c.args.region.now in
    let first = c.args.headers.now.first in
    let room : c.loop-k.k < length c.loop-k.starts = omega arith in
    let fit : fits region c.loop-k.at ≡ true = sym c.is_inside.ensures.answer ∙ c.if-not-is_inside.false in
    record {
      noted = noted_more region first c.loop-k.k c.loop-k.at c.loop-k.starts c.loop-k.invariant.noted c.loop-k.invariant.next fit room;
      next = next_is region first c.loop-k.k c.loop-k.at c.next_header-at.result c.loop-k.invariant.next
          (end_is region c.loop-k.at c.next_header-at.result c.name_at-name.result.now c.name_at-name.ensures.name c.next_header-at.ensures.next);
      place = rw c.next_header-at.ensures.next (c.is_inside.ensures.within c.if-not-is_inside.false);
    }

pub returns : goal.returns
returns c = all_noted c.args.region.now c.args.headers.now c.loop-k.starts c.loop-k.k c.loop-k.at c.loop-k.invariant.noted c.loop-k.invariant.next c.loop-k.invariant.place c.loop-k.auto.k-end c.loop-k-test.false
