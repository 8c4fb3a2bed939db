-- The constant's name, seen behind its reference.
use Rattle.std.proofs.Common.{rules}
use Rattle.base_lib.proofs.Names.{name_at}
use Rattle.base_lib.proofs.library.native.Goals as goal

pub returns-clause-name : goal.returns-clause-name
returns-clause-name c = search (rules, name_at)
