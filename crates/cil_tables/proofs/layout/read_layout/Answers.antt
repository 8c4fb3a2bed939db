use Rattle.std.proofs.Common.{Some, ap, sym, ◌∙◌}
use Rattle.cil_tables.proofs.LayoutLaws.{tables_at, no_tables}
use Rattle.cil_tables.proofs.layout.read_layout.Goals as goal

pub layout_of-requires-clause-tables : goal.layout_of-requires-clause-tables
layout_of-requires-clause-tables c = tables_at c.args.region.now c.in-Some.stream c.requires.streams c.in-Some.ensures

pub returns-in-None-clause-broken : goal.returns-in-None-clause-broken
returns-in-None-clause-broken c = no_tables c.args.region.now c.in-None.ensures ∙ ap Some (sym c.broken.ensures)
