use Rattle.std.proofs.Common.{◌≡◌, map, take, length}
use Rattle.assemblies.specs.Binding.{numbered}
use Rattle.class_table.specs.Seen.{field_seen}
use Rattle.tiny_rows.specs.Rows.{rows_seen}
use Rattle.set_table.specs.Subject.{field_in}
use Rattle.set_table.proofs.fields.read_fields.Given as goal

abbrev pub invariant-loop-n : goal.invariant-loop-n
invariant-loop-n l = record {
  count : length l.rows.items ≡ l.n;
  rows : numbered (field_seen l.subject.tokens.file) 0 l.rows.items ≡ numbered (field_in l.subject) 0 (take l.n (rows_seen l.subject.image.now).fields);
  owners : map (λ row. row.owner) l.rows.items ≡ take l.n l.owners.items;
}
