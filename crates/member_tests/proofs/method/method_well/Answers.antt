use Rattle.std.proofs.Common.{ap, sym, ◌∙◌}
use Rattle.file_tables.specs.Metadata.{row_count}
use Rattle.assemblies.specs.Binding.{id_at}
use Rattle.member_tests.proofs.MethodLaws.{row_there, some_row}
use Rattle.member_tests.proofs.method.method_well.Goals as goal

pub returns-in-Some : goal.returns-in-Some
returns-in-Some c =
    λ x row here at.
    let known = row_there c.args.subject.now.world.now c.args.file c.args.n x c.tables-tables.result.now row here c.tables-tables.ensures at in
    c.row_well.ensures x row
    (c.class_in-none.ensures ∙ ap (id_at c.args.file) (c.rows.ensures ∙ ap (λ m. row_count m 2) (sym known.0)))
    (some_row c.in-Some.row _ (sym c.in-Some.is ∙ c.find_row.ensures row known.1))

pub returns-in-None : goal.returns-in-None
returns-in-None c =
    λ x row here at.
    let known = row_there c.args.subject.now.world.now c.args.file c.args.n x c.tables-tables.result.now row here c.tables-tables.ensures at in
    let both = sym c.in-None.is ∙ c.find_row.ensures row known.1 in
    absurd (cc both)
