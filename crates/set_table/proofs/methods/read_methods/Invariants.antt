use Rattle.std.proofs.Common.{◌≡◌, map, take, length}
use Rattle.assemblies.specs.Binding.{numbered}
use Rattle.class_table.specs.Seen.{method_seen}
use Rattle.tiny_rows.specs.Rows.{rows_seen}
use Rattle.set_table.specs.Subject.{method_in}
use Rattle.set_table.proofs.methods.read_methods.Given as goal

abbrev pub invariant-loop-n : goal.invariant-loop-n
invariant-loop-n l = record {
  count : length l.rows.items ≡ l.n;
  rows : numbered (method_seen l.subject.tokens.file) 0 l.rows.items ≡ numbered (method_in l.subject) 0 (take l.n (rows_seen l.subject.image.now).methods);
  owners : map (λ row. row.owner) l.rows.items ≡ take l.n l.owners.items;
}
