use Rattle.std.proofs.Common.{◌≡◌, Some, subst}
use Rattle.std.specs.Prelude.{slice_get}
use Rattle.class_table.specs.declared.rows.ClassTable.{ClassTable}
use Rattle.class_table.specs.Seen.{classes_seen}
use Rattle.table_minimise.proofs.AddLaws.{file_added}
use Rattle.table_minimise.proofs.file.add_file.Goals as goal

pub returns : goal.returns
returns c =
    let files = c.args.sources.now.world.now in
    let t = c.args.sources.now.methods.table in
    let f = c.args.file in
    let rows = c.file_rows-rows.result.now in
    let rows_at : slice_get t.files.items f ≡ Some rows = subst (λ (x : ClassTable). slice_get x.files.items f ≡ Some rows) c.table.ensures c.file_rows-rows.ensures in
    file_added files t f c.tables-tables.result.now c.pe-pe.result.now rows c.tables-tables.ensures c.pe-pe.ensures rows_at c.args.rules.now c.add_references.new.rules c.add_signatures.new.rules c.add_methods.new.rules c.add_types.new.rules c.add_definitions.new.rules c.add_members.new.rules c.add_slots.new.rules c.in_ok-add_references.ensures c.in_ok-add_signatures.ensures c.in_ok-add_methods.ensures c.in_ok-add_types.ensures c.in_ok-add_definitions.ensures
    (c.in_ok-add_members.ensures (classes_seen t) c.requires.sources.thrown)
    c.in_ok-add_slots.ensures
