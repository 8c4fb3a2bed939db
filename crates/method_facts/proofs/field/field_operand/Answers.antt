use Rattle.std.proofs.Common.{ap}
use Rattle.std.specs.Option.{option_map}
use Rattle.member_keys.specs.Seen.{class_seen, type_seen}
use Rattle.class_table.specs.Seen.{field_seen}
use Rattle.method_facts.proofs.field.field_operand.Goals as goal

pub returns : goal.returns
returns c = record {
  owner = class_seen c.in-Some.owned.owner;
  own = field_seen c.args.field.file c.args.field.row c.in-Some.owned.row;
  signature = type_seen c.in-Some-signature.key;
  owner_is = c.in-Some.ensures.0;
  own_is = c.in-Some.ensures.1;
  signed = ap (option_map type_seen) c.in-Some-signature.is;
  class = c.in_ok-class.ensures;
  type = c.in_ok-of.ensures;
  kind = c.field_flags-flags.ensures c.in_ok-class.class c.in_ok-of.of;
}
