-- A row of an instance field as the field that it tells of.
use Rattle.classes.specs.Classes.{OwnField}
use Rattle.class_table.specs.Seen.{field_seen}
use Rattle.class_fields.specs.declared.fields.InstanceField.{InstanceField}

abbrev pub instance_seen : InstanceField → OwnField
instance_seen f = field_seen f.id.file f.id.row f.row
