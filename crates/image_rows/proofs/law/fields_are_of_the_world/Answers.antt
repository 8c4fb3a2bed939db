use Rattle.image_rows.proofs.KeptLaws.{fields_are, datas_are}
use Rattle.image_rows.proofs.law.fields_are_of_the_world.Goals as goal

pub returns : goal.returns
returns c = record { fields = fields_are; bytes = datas_are }
