use Rattle.image_rows.proofs.KeptLaws.{version_is, name_is, entry_is}
use Rattle.image_rows.proofs.law.header_is_of_the_file.Goals as goal

pub returns : goal.returns
returns c = record { version = version_is; name = name_is; entry = entry_is }
