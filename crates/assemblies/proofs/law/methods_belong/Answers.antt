use Rattle.assemblies.proofs.Belong.{owner, entry}
use Rattle.assemblies.proofs.law.methods_belong.Goals as goal

pub returns : goal.returns
returns c = record { owner = owner; entry = entry }
