use Rattle.tiny_except.proofs.Throws.{object_throws}
use Rattle.tiny_except.proofs.Made.{made_throws}
use Rattle.tiny_except.proofs.law.throws_are_the_machines.Goals as goal

pub returns : goal.returns
returns c = record { object = object_throws; made = made_throws }
