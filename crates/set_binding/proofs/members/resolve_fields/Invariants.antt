use Rattle.std.proofs.Common.{◌≡◌, length}
use Rattle.set_names.specs.Names.{seen_all}
use Rattle.board_model.specs.Bound.{named}
use Rattle.set_binding.proofs.ColumnLaws.{StandNamed}
use Rattle.set_binding.proofs.members.resolve_fields.Given as goal

abbrev pub invariant-loop-n : goal.invariant-loop-n
invariant-loop-n l = record {
  size : length l.found.items ≡ l.n;
  so : StandNamed (named (seen_all l.subject.names.now) l.subject.tokens.file 2) l.found.items l.n;
}
