use Rattle.std.proofs.Common.{arith}
use Rattle.cil_layout.specs.Layout.{field_bytes}
use Rattle.cil_layout.specs.declared.headers.TheConstants.{HEADER_FIELDS}
use Rattle.cil_bytes.proofs.Pieces.{grown_at}
use Rattle.cil_bytes.proofs.layout.push_fields.Goals as goal

pub loop-field-preserved : goal.loop-field-preserved
loop-field-preserved c = grown_at (field_bytes c.args.size c.args.entry) c.args.out.now.items HEADER_FIELDS c.loop-field.field-index _ c.push_field.new.out.items c.loop-field.out.items (omega arith) c.loop-field.invariant c.in_ok-push_field.ensures
