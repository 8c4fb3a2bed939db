use Rattle.converted.specs.Choosing.{choice_of}
use Rattle.image_codes.proofs.AcceptedLaws.{all_name_kept}
use Rattle.image_codes.proofs.law.accepted_codes_name_kept_rows.Goals as goal

pub returns : goal.returns
returns c files marks f x accepted at has named = all_name_kept files accepted f x at has (choice_of files marks) named
