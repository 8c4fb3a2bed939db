use Rattle.image_codes.proofs.ByteLaws.{has_bytes}
use Rattle.image_codes.proofs.law.opened_files_have_bytes.Goals as goal

pub returns : goal.returns
returns c = has_bytes
