use Rattle.std.proofs.Common.{◌≡◌, map, take, length}
use Rattle.class_table.specs.Outlines.{outline_seen}
use Rattle.tiny_rows.specs.Rows.{rows_seen}
use Rattle.set_table.specs.Subject.{outline_in}
use Rattle.set_table.proofs.types.read_classes.Given as goal

abbrev pub invariant-loop-n : goal.invariant-loop-n
invariant-loop-n l = record {
  rows : map outline_seen l.rows.items ≡ map (outline_in l.subject) (take l.n (rows_seen l.subject.image.now).types);
  count : length l.rows.items ≡ l.n;
}
