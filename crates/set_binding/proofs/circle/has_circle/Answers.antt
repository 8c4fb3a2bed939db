use Rattle.std.proofs.Common.{◌≡◌, ◌<◌, true, false, sym, ap, ◌∙◌, arith}
use Rattle.std.specs.Prelude.{is_some}
use Rattle.assemblies.specs.Binding.{id_at}
use Rattle.board_model.specs.Bound.{bound_classes, goes_in_circle, types_at}
use Rattle.set_names.specs.Names.{seen_all}
use Rattle.set_binding.proofs.FirstLaws.{none_at_start, none_more, first_at, first_none}
use Rattle.set_binding.proofs.LackingLaws.{circle_at, circle_here, no_circle_here}
use Rattle.set_binding.proofs.circle.has_circle.Goals as goal

pub loop-row-init : goal.loop-row-init
loop-row-init c = none_at_start (circle_at (seen_all c.args.names.now) c.args.file)

pub returns-then-goes_in_circle : goal.returns-then-goes_in_circle
returns-then-goes_in_circle c =
    let ps = seen_all c.args.names.now in
    let row = c.loop-row.row in
    let within : row < types_at ps c.args.file = omega (arith, c.loop-row-test.true, c.count-row-end.ensures) in
    let goes : true ≡ goes_in_circle (bound_classes ps) (id_at c.args.file row) = sym c.if-goes_in_circle.true ∙ c.goes_in_circle.ensures ∙ ap (λ cs. goes_in_circle cs (id_at c.args.file row)) c.requires.table in
    sym (ap is_some (first_at (circle_at ps c.args.file) c.args.file (types_at ps c.args.file) row within c.loop-row.invariant (circle_here ps c.args.file row goes)))

pub loop-row-preserved : goal.loop-row-preserved
loop-row-preserved c =
    let ps = seen_all c.args.names.now in
    let row = c.loop-row.row in
    let ends : false ≡ goes_in_circle (bound_classes ps) (id_at c.args.file row) = sym c.if-goes_in_circle.false ∙ c.goes_in_circle.ensures ∙ ap (λ cs. goes_in_circle cs (id_at c.args.file row)) c.requires.table in
    none_more (circle_at ps c.args.file) row c.loop-row.invariant (no_circle_here ps c.args.file row ends)

pub returns : goal.returns
returns c =
    let ps = seen_all c.args.names.now in
    sym (ap is_some (first_none (circle_at ps c.args.file) (types_at ps c.args.file) (λ k h. c.loop-row.invariant k (omega (arith, h, c.loop-row-test.false, c.count-row-end.ensures)))))
