use Rattle.image_rows.proofs.KeptLaws.{types_are, interfaces_are}
use Rattle.image_rows.proofs.law.types_are_of_the_world.Goals as goal

pub returns : goal.returns
returns c = record { types = types_are; interfaces = interfaces_are }
