use Rattle.std.proofs.Common.{◌≡◌, ap, sym, true, false, arith}
use Rattle.std.specs.Option.{option_map}
use Rattle.file_tables.specs.Streams as streams
use Rattle.cil_tables.specs.Place.{place_of}
use Rattle.cil_tables.proofs.StreamLaws.{end_is, searched_none, searched_more, searched_all, searched_found}
use Rattle.cil_tables.proofs.root.find_stream.Goals as goal

pub loop-init : goal.loop-init
loop-init c = record { searched = searched_none c.args.region.now c.args.name.now c.args.first; bound = omega arith }

pub returns-then-eq : goal.returns-then-eq
unfolding streams.stream_at
returns-then-eq c =
    let here : streams.has_name c.args.name.now (streams.stream_at c.args.region.now c.loop.at) ≡ true = rw (← c.name_at-here.ensures.name) (sym c.if-eq.ensures) in
    rw (c.four.ensures, c.four-then-eq.ensures)
    (sym (ap (option_map place_of) (searched_found c.args.region.now c.args.name.now c.args.first c.loop.counter c.args.count c.loop.at c.loop.invariant.searched c.loop-test.true here)))

pub loop-preserved : goal.loop-preserved
loop-preserved c =
    let other : streams.has_name c.args.name.now (streams.stream_at c.args.region.now c.loop.at) ≡ false = rw (← c.name_at-here.ensures.name) (sym c.if-eq.ensures) in
    record {
      searched = searched_more c.args.region.now c.args.name.now c.args.first c.loop.counter c.loop.at c.next_header-at.result c.loop.invariant.searched other
          (end_is c.args.region.now c.loop.at c.next_header-at.result c.name_at-here.result.now c.name_at-here.ensures.name c.next_header-at.ensures.next);
      bound = omega arith;
    }

pub returns : goal.returns
returns c = sym (ap (option_map place_of) (searched_all c.args.region.now c.args.name.now c.args.first c.loop.counter c.args.count c.loop.at c.loop.invariant.searched (omega arith)))
