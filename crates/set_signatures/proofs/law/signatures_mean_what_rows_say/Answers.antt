use Rattle.set_signatures.proofs.ExpandLaws.{field_means, method_means}
use Rattle.set_signatures.proofs.law.signatures_mean_what_rows_say.Goals as goal

pub returns-clause-field : goal.returns-clause-field
returns-clause-field c = λ i k ps t are bytes. field_means i k ps t are bytes

pub returns-clause-method : goal.returns-clause-method
returns-clause-method c = λ i k ps t are bytes. method_means i k ps t are bytes
