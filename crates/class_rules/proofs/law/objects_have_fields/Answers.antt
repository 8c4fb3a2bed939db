use Rattle.class_rules.proofs.ObjectLaws.{inherits, texts, arrays, has_instances}
use Rattle.class_rules.proofs.law.objects_have_fields.Goals as goal

pub returns : goal.returns
returns c = record { inherits = inherits; texts = texts; arrays = arrays; instances = has_instances }
