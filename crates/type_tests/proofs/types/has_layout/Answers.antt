use Rattle.std.proofs.Common.{◌∙◌}
use Rattle.std.specs.Prelude.{slice_index}
use Rattle.cil_tables.specs.declared.row.Row.{Row}
use Rattle.type_tests.proofs.TypeLaws.{layout_is}
use Rattle.type_tests.proofs.types.has_layout.Goals as goal

pub returns : goal.returns
returns c = c.is_some.ensures ∙ layout_is (λ (r : Row). slice_index r.columns 0) c.first_row.result c.args.tables.now c.args.n (c.first_row.ensures 0)
