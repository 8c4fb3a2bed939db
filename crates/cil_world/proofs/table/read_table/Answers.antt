use Rattle.std.proofs.Common.{length, map, sym, ap, ◌∙◌}
use Rattle.std.proofs.lemmas.List.{length-map}
use Rattle.class_table.specs.declared.rows.FileRows.{FileRows}
use Rattle.cil_world.proofs.FileLaws.{files_are}
use Rattle.cil_world.proofs.table.read_table.Goals as goal

pub returns : goal.returns
returns c = record {
  count =
      sym (length-map c.in_ok-files.files.items (λ (f : FileRows). f.classes.items))
      ∙ ap length c.in_ok-files.ensures.classes
      ∙ length-map c.in_ok-classes.classes.items (λ rows. rows.items)
      ∙ c.in_ok-classes.ensures.count;
  rows =
      files_are c.args.names.now (map (λ rows. rows.items) c.in_ok-classes.classes.items) c.in_ok-members.members.items c.in_ok-files.files.items
      c.in_ok-files.ensures.classes c.in_ok-files.ensures.fields c.in_ok-files.ensures.methods c.in_ok-classes.ensures.read c.in_ok-members.ensures.members;
  library = c.find_library.ensures;
  size = c.count_types.ensures;
}
