use Rattle.std.proofs.Common.{◌∙◌, ap, arith}
use Rattle.class_table.specs.Seen.{classes_seen}
use Rattle.set_names.specs.Names.{seen_all}
use Rattle.bound_lines.proofs.TokenLaws.{own_field, referenced_field}
use Rattle.bound_lines.proofs.members.field_named.Goals as goal

pub returns-then-word-lt-REFERENCE : goal.returns-then-word-lt-REFERENCE
returns-then-word-lt-REFERENCE c =
    let low = c.if-word-lt-REFERENCE.true in
    c.own_field.ensures ∙ own_field (seen_all c.args.set.now) c.args.file c.table.result.now c.args.word (ap classes_seen c.table.ensures.table ∙ c.types.ensures) (omega (arith, low))

pub returns-else-word-lt-REFERENCE : goal.returns-else-word-lt-REFERENCE
returns-else-word-lt-REFERENCE c =
    let high = c.if-word-lt-REFERENCE.false in
    c.resolved.ensures ∙ referenced_field (seen_all c.args.set.now) c.args.file _ c.from.result c.from-row.result c.args.word c.bindings.ensures c.from.ensures c.from-row.ensures (omega (arith, high))
