use Rattle.base_lib.proofs.Askable.{mscorlib_askable, native_askable}
use Rattle.layout_laws.proofs.Reading.{built_is_read}
use Rattle.base_lib.proofs.law.base_files_are_read.Goals as goal

pub returns-clause-mscorlib : goal.returns-clause-mscorlib
returns-clause-mscorlib c = (built_is_read _ mscorlib_askable).0

pub returns-clause-mscorlib_says : goal.returns-clause-mscorlib_says
returns-clause-mscorlib_says c = (built_is_read _ mscorlib_askable).1

pub returns-clause-native : goal.returns-clause-native
returns-clause-native c = (built_is_read _ native_askable).0

pub returns-clause-native_says : goal.returns-clause-native_says
returns-clause-native_says c = (built_is_read _ native_askable).1
