use Rattle.boot_scan.proofs.SeenLaws.{is_format, entry_alone}
use Rattle.boot_scan.proofs.law.images_are_a_format.Goals as goal

pub returns-clause-format : goal.returns-clause-format
returns-clause-format c = is_format

pub returns-clause-entry : goal.returns-clause-entry
returns-clause-entry c = entry_alone
