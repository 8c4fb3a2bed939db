use Rattle.std.proofs.Common.{◌+◌, map, length, ap, ◌∙◌, arith}
use Rattle.std.specs.Prelude.{slice_get}
use Rattle.std.specs.Option.{option_map}
use Rattle.scope_walk.proofs.Lists.{longer}
use Rattle.tiny_rows.specs.Rows.{rows_seen, type_name_seen, name_of}
use Rattle.set_names.proofs.IndexLaws.{seen_more, take_whole, take_end}
use Rattle.set_names.proofs.listed.type_names.Goals.{else-loop-n-test, then-loop-n-test+in-None}
use Rattle.set_names.proofs.listed.type_names.Goals as goal

pub loop-n-preserved : goal.loop-n-preserved
loop-n-preserved c =
    let pushed = c.in_ok-push-in-Some.ensures.items in
    record {
      names = ap (map type_name_seen) pushed ∙ seen_more type_name_seen name_of c.loop-n.names.items (rows_seen c.args.image.now).types c.loop-n.n c.in-Some.name c.loop-n.invariant.names (c.in-Some.ensures ∙ ap (λ k. option_map name_of (slice_get (rows_seen c.args.image.now).types k)) c.from.ensures);
      count = ap length pushed ∙ longer c.loop-n.names.items c.in-Some.name ∙ ap (λ k. k + 1) c.loop-n.invariant.count;
    }

pub returns-clause-names : goal.returns-clause-names
returns-clause-names c =
    c.loop-n.invariant.names
    ∙ ap (map name_of)
    (elim c.loop-n-test.branch [
      | else-loop-n-test w ↦ take_whole (rows_seen c.args.image.now).types c.loop-n.n (omega (arith, w.loop-n-test.false, c.type_count-n-end.ensures))
      | then-loop-n-test+in-None w ↦ take_end name_of (rows_seen c.args.image.now).types c.loop-n.n (w.in-None.ensures ∙ ap (λ k. option_map name_of (slice_get (rows_seen c.args.image.now).types k)) w.from.ensures)
    ])
