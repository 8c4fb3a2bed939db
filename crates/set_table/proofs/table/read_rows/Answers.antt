use Rattle.std.proofs.Common.{length, map, ap, ◌∙◌, arith}
use Rattle.class_table.specs.Outlines.{outline_seen}
use Rattle.set_table.proofs.table.read_rows.Goals as goal

pub read_fields-requires : goal.read_fields-requires
read_fields-requires c = record {
  subject = c.requires;
  classes = ap (map outline_seen) c.deref.ensures.value ∙ c.in_ok-classes.ensures.rows;
  few = omega (arith, ap length c.deref.ensures.value, c.in_ok-classes.ensures.few);
}

pub read_methods-requires : goal.read_methods-requires
read_methods-requires c = record {
  subject = c.requires;
  classes = ap (map outline_seen) c.deref-2.ensures.value ∙ c.in_ok-classes.ensures.rows;
  few = omega (arith, ap length c.deref-2.ensures.value, c.in_ok-classes.ensures.few);
}

pub returns : goal.returns
returns c = record {
  classes = c.in_ok-classes.ensures.rows;
  fields = c.in_ok-fields.ensures.rows;
  field_owners = c.in_ok-fields.ensures.owners;
  methods = c.in_ok-methods.ensures.rows;
  method_owners = c.in_ok-methods.ensures.owners;
}
