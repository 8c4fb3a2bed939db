use Rattle.base_lib.proofs.Calls.{calls_are}
use Rattle.base_lib.proofs.Tables.{natives_numbered, natives_named}
use Rattle.base_lib.proofs.law.natives_are_internal_calls.Goals as goal

pub returns-clause-mscorlib : goal.returns-clause-mscorlib
returns-clause-mscorlib c = calls_are _ _

pub returns-clause-native : goal.returns-clause-native
returns-clause-native c = calls_are _ _

pub returns-clause-numbered : goal.returns-clause-numbered
returns-clause-numbered c = natives_numbered

pub returns-clause-named : goal.returns-clause-named
returns-clause-named c = natives_named
