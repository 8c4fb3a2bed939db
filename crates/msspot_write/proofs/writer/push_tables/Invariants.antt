use Rattle.std.proofs.Common.{◌≡◌, ◌+◌, ◌++◌, [], length, drop}
use Rattle.image_bytes.specs.Layout.{table_onto, all_onto}
use Rattle.msspot_write.specs.Parts.{in_tables, data_bytes, tables, tables_words}
use Rattle.msspot_write.specs.Written.{codes_of}
use Rattle.msspot_write.proofs.writer.push_tables.Given as goal

abbrev pub invariant-loop-table : goal.invariant-loop-table
invariant-loop-table l = record {
  done : l.out.items ++ all_onto table_onto (tables_words l.pools l.parts (codes_of l.codes) l.at (drop l.table-index tables)) [] ≡ l.fn.out.items ++ all_onto table_onto (tables_words l.pools l.parts (codes_of l.codes) 0 tables) [];
  room : l.at + length (in_tables data_bytes l.parts (drop l.table-index tables)) ≡ length (in_tables data_bytes l.parts tables);
}
