use Rattle.std.proofs.Common.{length, subst}
use Rattle.std.specs.Prelude.{List}
use Rattle.file_tables.specs.File.{FilePart}
use Rattle.class_table.specs.Whole.{IsTable}
use Rattle.table_minimise.specs.FileLinks.{AddsFiles}
use Rattle.table_minimise.proofs.files.find_rules.Goals as goal

pub returns : goal.returns
returns c =
    let sources = c.in_ok-sources.sources in
    record {
      none = c.new-rules.result;
      counted = c.new-rules.ensures.numbers;
      empty = c.new-rules.ensures.none;
      table = sources.methods.table;
      is_table = subst (λ (xs : List FilePart). IsTable xs sources.methods.table) c.in_ok-sources.ensures.world c.in_ok-sources.ensures.sources.table;
      adds =
          subst (λ (xs : List FilePart). AddsFiles xs sources.methods.table (length xs) c.new-rules.result c.add_files.new.rules) c.in_ok-sources.ensures.world c.in_ok-add_files.ensures;
    }
