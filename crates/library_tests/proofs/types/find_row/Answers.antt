use Rattle.std.proofs.Common.{None, Some, ap, sym, ◌∙◌}
use Rattle.assemblies.specs.Rows.{Nowhere}
use Rattle.assemblies.specs.Binding.{type_in}
use Rattle.std.specs.Option.{option_copied}
use Rattle.class_rules.specs.Rules.{holds_some}
use Rattle.member_keys.specs.Seen.{class_seen}
use Rattle.verdict_rules.specs.World.{world_of}
use Rattle.world_rows.specs.World.{rows_alone}
use Rattle.library_tests.specs.Base.{base_seen}
use Rattle.library_tests.specs.Types.{such_row, files_of}
use Rattle.library_tests.proofs.TypeLaws.{by_row}
use Rattle.library_tests.proofs.types.find_row.Goals as goal

pub returns-in_err-class : goal.returns-in_err-class
returns-in_err-class c =
    let files = files_of c.args.library.now in
    let b = base_seen c.args.base.now in
    by_row files c.args.library.now.table.now c.requires.library.table b None
    (c.in_err-class.ensures ∙ ap (λ f. type_in (rows_alone files) f None (record { scope = Nowhere; namespace = b.namespace; name = b.name })) (sym c.requires.file))
    ∙ ap (λ o. holds_some (option_copied o) (such_row (world_of files) b)) (sym c.from_residual.ensures)

pub returns : goal.returns
returns c =
    let files = files_of c.args.library.now in
    let b = base_seen c.args.base.now in
    by_row files c.args.library.now.table.now c.requires.library.table b (Some (class_seen c.in_ok-class.class))
    (c.in_ok-class.ensures ∙ ap (λ f. type_in (rows_alone files) f None (record { scope = Nowhere; namespace = b.namespace; name = b.name })) (sym c.requires.file))
    ∙ ap (λ o. holds_some o (such_row (world_of files) b)) (sym c.find_class.ensures)
