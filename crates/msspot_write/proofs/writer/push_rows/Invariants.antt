use Rattle.std.proofs.Common.{◌≡◌, ◌≤◌, ◌+◌, ◌++◌, [], length, drop}
use Rattle.std.specs.List.{flat_map}
use Rattle.image_bytes.specs.Layout.{table_onto}
use Rattle.msspot_write.specs.Parts.{in_row, data_bytes, table_words}
use Rattle.msspot_write.specs.Written.{codes_of}
use Rattle.msspot_write.proofs.writer.push_rows.Given as goal

abbrev pub invariant-loop-index : goal.invariant-loop-index
invariant-loop-index l = record {
  done : l.out.items ++ table_onto (table_words l.pools (drop l.index (codes_of l.codes)) l.start l.next (drop l.index l.rows)) [] ≡ l.fn.out.items ++ table_onto (table_words l.pools (codes_of l.codes) 0 l.at l.rows) [];
  room : l.next + length (flat_map (in_row data_bytes) (drop l.index l.rows)) ≡ l.at + length (flat_map (in_row data_bytes) l.rows);
  code : l.start + length (flat_map (λ c. c) (drop l.index (codes_of l.codes))) ≤ 65535;
}
