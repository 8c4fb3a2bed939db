use Rattle.std.proofs.Common.{◌∙◌, ap, arith}
use Rattle.member_keys.specs.Seen.{class_seen}
use Rattle.class_table.specs.Seen.{classes_seen}
use Rattle.set_names.specs.Names.{seen_all}
use Rattle.bound_answers.proofs.SetLaws.{class_small}
use Rattle.bound_answers.proofs.clauses.type_at.Goals as goal

pub overflow_cast-result : goal.overflow_cast-result
overflow_cast-result c =
    let small = (class_small (seen_all c.args.set.now) c.table-table.result.now c.table-table.ensures.small (ap classes_seen c.table-table.ensures.table ∙ c.types.ensures) (class_seen c.in-Some.class) (c.requires c.in-Some.class c.in-Some.is)).0 in
    omega (arith, small)

pub overflow_cast-result-in-Some : goal.overflow_cast-result-in-Some
overflow_cast-result-in-Some c =
    let small = (class_small (seen_all c.args.set.now) c.table-table.result.now c.table-table.ensures.small (ap classes_seen c.table-table.ensures.table ∙ c.types.ensures) (class_seen c.in-Some.class) (c.requires c.in-Some.class c.in-Some.is)).1 in
    omega (arith, small)
