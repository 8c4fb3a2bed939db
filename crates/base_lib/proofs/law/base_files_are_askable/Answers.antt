use Rattle.base_lib.proofs.Askable.{mscorlib_askable, native_askable}
use Rattle.base_lib.proofs.law.base_files_are_askable.Goals as goal

pub returns-clause-mscorlib : goal.returns-clause-mscorlib
returns-clause-mscorlib c = mscorlib_askable

pub returns-clause-native : goal.returns-clause-native
returns-clause-native c = native_askable
