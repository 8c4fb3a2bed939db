use Rattle.std.proofs.Common.{◌≡◌, ◌+◌, ◌++◌, [], length, drop}
use Rattle.std.specs.List.{flat_map}
use Rattle.image_bytes.specs.Layout.{words_onto}
use Rattle.msspot_write.specs.Parts.{data_bytes, row_words}
use Rattle.msspot_write.proofs.writer.push_row.Given as goal

abbrev pub invariant-loop-number : goal.invariant-loop-number
invariant-loop-number l = record {
  done : l.out.items ++ words_onto (row_words l.pools l.code.start l.code.count l.number l.next (drop l.number l.row.columns)) [] ≡ l.fn.out.items ++ words_onto (row_words l.pools l.code.start l.code.count 0 l.at l.row.columns) [];
  room : l.next + length (flat_map data_bytes (drop l.number l.row.columns)) ≡ l.at + length (flat_map data_bytes l.row.columns);
}
