use Rattle.std.proofs.Common.{sym, ap, ◌∙◌}
use Rattle.world_rows.specs.Kinds.{integer_of}
use Rattle.world_rows.specs.Signatures.{field_signature}
use Rattle.class_reading.proofs.NumberLaws.{integer_spelt, no_integer, array_no_integer, integer_read, integer_faulty}
use Rattle.class_reading.proofs.fields.read_integer.Goals as goal
use Rattle.class_reading.proofs.fields.read_integer.Goals.{else-of-eq0-via-then-of-eq0+else-is_integer, else-of-eq0-via-else-of-eq0}

pub returns-in_default : goal.returns-in_default
returns-in_default c =
    integer_faulty c.args.tables.now c.bytes.result.now c.in_default.field-0 c.in_default.ensures.exact
    ∙ ap (λ b. integer_of (field_signature c.args.tables.now b)) c.bytes.ensures

pub returns-then-is_integer : goal.returns-then-is_integer
returns-then-is_integer c =
    integer_spelt c.args.tables.now c.in-Ok.of c.if-of-eq0.true (sym c.is_integer.ensures ∙ c.if-is_integer.true)
    ∙ integer_read c.args.tables.now c.bytes.result.now c.in-Ok.of c.in-Ok.ensures.exact
    ∙ ap (λ b. integer_of (field_signature c.args.tables.now b)) c.bytes.ensures

pub returns-else-of-eq0 : goal.returns-else-of-eq0
returns-else-of-eq0 c =
    elim c.else-of-eq0.branch [
      | else-of-eq0-via-then-of-eq0+else-is_integer w ↦ no_integer c.args.tables.now c.in-Ok.of w.if-of-eq0.true (sym w.is_integer.ensures ∙ w.if-is_integer.false)
      | else-of-eq0-via-else-of-eq0 w ↦ array_no_integer c.args.tables.now c.in-Ok.of w.if-of-eq0.false
    ]
    ∙ integer_read c.args.tables.now c.bytes.result.now c.in-Ok.of c.in-Ok.ensures.exact
    ∙ ap (λ b. integer_of (field_signature c.args.tables.now b)) c.bytes.ensures
