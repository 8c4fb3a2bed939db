use Rattle.world_rows.proofs.Library.{library_found}
use Rattle.world_rows.proofs.law.library_types_are_found.Goals as goal

pub returns : goal.returns
returns c = library_found
