use Rattle.std.proofs.Common.{sym, ap, ◌∙◌}
use Rattle.std.proofs.lemmas.Result.{on_ok_weaker}
use Rattle.class_table.specs.Seen.{classes_seen}
use Rattle.root_marks.specs.Roots.{marked, entry_rows, root_names, rows_named, root_rows}
use Rattle.root_marks.proofs.MarkLaws.{marked_more}
use Rattle.root_marks.proofs.marks.mark_roots.Goals as goal

pub returns : goal.returns
returns c =
    let files = c.args.world.now in
    let cs = classes_seen c.args.table.now in
    let before = c.args.marks.now in
    on_ok_weaker c.mark_classes.result
    (λ classes ps are.
    classes ps are
    ∙ ap (marked ps (rows_named cs root_names)) (c.mark_entries.ensures ps are)
    ∙ sym (marked_more ps (entry_rows files) (rows_named cs root_names) before)
    ∙ ap (λ ds. marked ps (root_rows files ds) before) c.requires.table)
    c.mark_classes.ensures
