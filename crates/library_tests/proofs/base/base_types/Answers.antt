use Rattle.std.proofs.Common.{refl}
use Rattle.library_tests.proofs.base.base_types.Goals as goal

pub returns : goal.returns
returns c = refl
