use Rattle.std.proofs.Common.{◌≡◌, map, take, length}
use Rattle.tiny_rows.specs.Rows.{rows_seen, type_name_seen, name_of}
use Rattle.set_names.proofs.listed.type_names.Given as goal

abbrev pub invariant-loop-n : goal.invariant-loop-n
invariant-loop-n l = record {
  names : map type_name_seen l.names.items ≡ map name_of (take l.n (rows_seen l.image).types);
  count : length l.names.items ≡ l.n;
}
