use Rattle.std.proofs.Common.{sym, ◌∙◌}
use Rattle.std.proofs.lemmas.List.{length-map}
use Rattle.tiny_rows.specs.Rows.{rows_seen}
use Rattle.set_table.proofs.table.read_table.Goals as goal

pub returns-clause-table : goal.returns-clause-table
returns-clause-table c = record { count = c.in_ok-files.ensures.count ∙ sym (length-map c.args.names.now rows_seen); files = c.in_ok-files.ensures.files; library = c.find_library.ensures; size = c.count_types.ensures }
