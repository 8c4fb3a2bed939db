use Rattle.image_methods.proofs.WorldLaws.{methods_are_made}
use Rattle.image_methods.proofs.law.methods_are_of_the_world.Goals as goal

pub returns : goal.returns
returns c = methods_are_made
