use Rattle.std.proofs.Common.{◌≡◌, ◌++◌, take}
use Rattle.std.specs.List.{flat_map}
use Rattle.cil_layout.specs.Layout.{field_bytes}
use Rattle.cil_layout.specs.declared.headers.TheConstants.{HEADER_FIELDS}
use Rattle.cil_bytes.proofs.layout.push_fields.Given as goal

abbrev pub invariant-loop-field : goal.invariant-loop-field
invariant-loop-field l = l.out.items ≡ l.fn.out.items ++ flat_map (field_bytes l.size l.entry) (take l.field-index HEADER_FIELDS)
