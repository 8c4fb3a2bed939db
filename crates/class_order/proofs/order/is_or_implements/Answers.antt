use Rattle.std.proofs.Common.{◌∙◌, sym, ap}
use Rattle.std.specs.List.{list_any}
use Rattle.machine.specs.Data.{id_eq}
use Rattle.member_keys.specs.declared.keys.ClassId.{ClassId}
use Rattle.member_keys.specs.Seen.{class_seen}
use Rattle.class_table.specs.Seen.{classes_seen}
use Rattle.class_order.proofs.ReachLaws.{any_seen, class_reached}
use Rattle.class_order.proofs.order.is_or_implements.Goals as goal

pub returns-in_ok-classes : goal.returns-in_ok-classes
returns-in_ok-classes c =
    c.is_among.ensures
    ∙ ap (list_any (λ (x : ClassId). id_eq (class_seen c.args.other) (class_seen x))) c.deref.ensures.value
    ∙ sym (any_seen (class_seen c.args.other) c.in_ok-classes.classes.items)
    ∙ c.in_ok-classes.ensures.reaches (class_seen c.args.other)

pub returns-else-is_interface : goal.returns-else-is_interface
returns-else-is_interface c =
    c.is_sub.ensures ∙ class_reached (classes_seen c.args.table.now) c.requires (class_seen c.args.other) (sym c.is_interface.ensures ∙ c.if-is_interface.false) (class_seen c.args.class)
