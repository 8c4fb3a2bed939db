use Rattle.std.proofs.Common.{◌≡◌, ◌∙◌, sym, ap, false}
use Rattle.std.specs.Prelude.{Some}
use Rattle.std.specs.Option.{option_map}
use Rattle.machine.specs.Data.{id_eq}
use Rattle.classes.specs.Queries.{superclass_of}
use Rattle.member_keys.specs.Seen.{class_seen}
use Rattle.class_table.specs.Seen.{classes_seen}
use Rattle.class_queries.proofs.SubLaws.{ends_up, sub_up}
use Rattle.class_queries.proofs.below.mark_way.Goals as goal

pub loop-step-preserved : goal.loop-step-preserved
loop-step-preserved c =
    let cs = classes_seen c.args.table.now in
    let up : superclass_of cs (class_seen c.loop-step.class) ≡ Some (class_seen c.in-Some.next) = sym c.superclass.ensures ∙ ap (option_map class_seen) c.in-Some.is in
    let apart : id_eq (class_seen c.loop-step.class) (class_seen c.args.other) ≡ false = sym c.is_same.ensures ∙ c.if-is_same.false in
    record {
      below = c.note.ensures (class_seen c.args.other) c.loop-step.invariant.below c.loop-step.invariant.same;
      ends = ends_up cs (class_seen c.loop-step.class) (class_seen c.in-Some.next) c.loop-step.invariant.ends up;
      same = sym (sub_up cs (class_seen c.loop-step.class) (class_seen c.in-Some.next) (class_seen c.args.other) c.loop-step.invariant.ends apart up) ∙ c.loop-step.invariant.same;
    }
