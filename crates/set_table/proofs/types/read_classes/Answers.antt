use Rattle.std.proofs.Common.{◌+◌, map, length, ap, ◌∙◌, arith}
use Rattle.std.specs.Prelude.{slice_get}
use Rattle.std.specs.Option.{option_map}
use Rattle.scope_walk.proofs.Lists.{longer}
use Rattle.class_table.specs.Outlines.{outline_seen}
use Rattle.tiny_rows.specs.Rows.{rows_seen}
use Rattle.set_names.proofs.IndexLaws.{seen_more, take_whole}
use Rattle.set_table.specs.Subject.{outline_in}
use Rattle.set_table.proofs.types.read_classes.Goals as goal

pub loop-n-preserved : goal.loop-n-preserved
loop-n-preserved c =
    let s = c.args.subject.now in
    let types = (rows_seen s.image.now).types in
    let pushed = c.in_ok-push.ensures.items in
    let row = c.in_ok-read_class.field-0 in
    record {
      rows = ap (map outline_seen) pushed ∙ seen_more outline_seen (outline_in s) c.loop-n.rows.items types c.loop-n.n row c.loop-n.invariant.rows (c.in_ok-read_class.ensures ∙ ap (λ k. option_map (outline_in s) (slice_get types k)) c.from.ensures);
      count = ap length pushed ∙ longer c.loop-n.rows.items row ∙ ap (λ k. k + 1) c.loop-n.invariant.count;
    }

pub returns-clause-rows : goal.returns-clause-rows
returns-clause-rows c =
    let s = c.args.subject.now in
    c.loop-n.invariant.rows ∙ ap (map (outline_in s)) (take_whole (rows_seen s.image.now).types c.loop-n.n (omega (arith, c.loop-n-test.false, c.type_count-n-end.ensures)))
