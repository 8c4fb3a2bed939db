use Rattle.std.proofs.Common.{◌≡◌, ◌+◌, length, Some, sym, ◌∙◌, subst}
use Rattle.std.specs.Prelude.{slice_get}
use Rattle.member_keys.specs.Seen.{class_seen}
use Rattle.class_table.specs.declared.rows.ClassTable.{ClassTable}
use Rattle.class_table.specs.Seen.{classes_seen}
use Rattle.class_names.specs.Units.{full_units}
use Rattle.bound_answers.proofs.BracketLaws.{in_name, behind_name}
use Rattle.bound_answers.proofs.names.class_unit.Goals as goal

pub returns-in-Ok : goal.returns-in-Ok
returns-in-Ok c =
    let class = class_seen c.args.class in
    in_name (classes_seen c.args.types.now) c.args.of class c.args.k c.in-Ok.unit (sym c.requires)
    (subst (λ (t : ClassTable). slice_get (full_units (classes_seen t) class) c.args.k ≡ Some c.in-Ok.unit) c.table.ensures.table c.in-Ok.ensures.unit)

pub returns-in-Err : goal.returns-in-Err
returns-in-Err c =
    let class = class_seen c.args.class in
    c.bracket.ensures
    ∙ behind_name (classes_seen c.args.types.now) c.args.of class c.args.k c.in-Err.left (sym c.requires)
    (subst (λ (t : ClassTable). c.args.k ≡ length (full_units (classes_seen t) class) + c.in-Err.left) c.table.ensures.table c.in-Err.ensures.past)
