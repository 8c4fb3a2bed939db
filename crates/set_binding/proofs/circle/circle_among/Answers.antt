use Rattle.std.proofs.Common.{◌<◌, length, sym, ◌∙◌, arith}
use Rattle.board_model.specs.Bound.{circle_in}
use Rattle.set_names.specs.Names.{seen_all}
use Rattle.set_binding.proofs.FirstLaws.{none_at_start, none_more, first_at, first_none}
use Rattle.set_binding.proofs.LackingLaws.{circle_found, circle_missing}
use Rattle.set_binding.proofs.circle.circle_among.Goals as goal

pub loop-file-init : goal.loop-file-init
loop-file-init c = none_at_start (circle_in (seen_all c.args.names.now))

pub has_circle-requires : goal.has_circle-requires
has_circle-requires c = record { table = c.requires.table; ways = c.requires.ways }

pub returns-then-has_circle : goal.returns-then-has_circle
returns-then-has_circle c =
    let ps = seen_all c.args.names.now in
    let file = c.loop-file.file in
    let within : file < length ps = omega (arith, c.loop-file-test.true, c.assembly_count-file-end.ensures) in
    sym (first_at (circle_in ps) file (length ps) file within c.loop-file.invariant (circle_found ps file (sym c.if-has_circle.true ∙ c.has_circle.ensures)))

pub loop-file-preserved : goal.loop-file-preserved
loop-file-preserved c =
    let ps = seen_all c.args.names.now in
    none_more (circle_in ps) c.loop-file.file c.loop-file.invariant (circle_missing ps c.loop-file.file (sym c.if-has_circle.false ∙ c.has_circle.ensures))

pub returns : goal.returns
returns c =
    let ps = seen_all c.args.names.now in
    sym (first_none (circle_in ps) (length ps) (λ k h. c.loop-file.invariant k (omega (arith, h, c.loop-file-test.false, c.assembly_count-file-end.ensures))))
