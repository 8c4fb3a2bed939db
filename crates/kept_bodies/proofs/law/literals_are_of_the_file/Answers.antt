use Rattle.kept_bodies.proofs.TableLaws.{literals_are}
use Rattle.kept_bodies.proofs.law.literals_are_of_the_file.Goals as goal

pub returns : goal.returns
returns c = literals_are
