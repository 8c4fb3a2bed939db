use Rattle.kept_parts.proofs.CountLaws.{are_as_many}
use Rattle.kept_parts.proofs.law.rows_are_as_many.Goals as goal

pub returns : goal.returns
returns c files f x t rows at is there = are_as_many files f x at t rows is there
