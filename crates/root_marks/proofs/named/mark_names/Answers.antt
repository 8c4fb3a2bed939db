use Rattle.std.proofs.Common.{◌≤◌, length, ◌∙◌, arith}
use Rattle.classes.specs.Queries.{library_class}
use Rattle.class_table.specs.Seen.{classes_seen}
use Rattle.kept_rules.specs.Row.{in_option}
use Rattle.member_rules.specs.Members.{class_row}
use Rattle.root_marks.proofs.MarkLaws.{texts_on, texts_end}
use Rattle.root_marks.proofs.named.mark_names.Goals as goal

pub loop-name-preserved : goal.loop-name-preserved
loop-name-preserved c =
    λ ps are.
    texts_on ps (λ name. in_option class_row (library_class (classes_seen c.args.table.now) name)) c.args.names.now (λ name. name.now) c.loop-name.name-index _ c.loop-name.marks c.mark_class.new.marks c.loop-name-test.true (c.in_ok-mark_class.ensures ps are)
    ∙ c.loop-name.invariant ps are

pub returns : goal.returns
returns c =
    λ ps are.
    let past : length c.args.names.now ≤ c.loop-name.name-index = omega (arith, c.loop-name-test.false) in
    texts_end ps (λ name. in_option class_row (library_class (classes_seen c.args.table.now) name)) c.args.names.now (λ name. name.now) c.loop-name.name-index c.loop-name.marks past
    ∙ c.loop-name.invariant ps are
