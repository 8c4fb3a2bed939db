use Rattle.image_methods.proofs.TableLaws.{clauses_are}
use Rattle.image_methods.proofs.law.clauses_are_of_the_file.Goals as goal

pub returns : goal.returns
returns c = clauses_are
