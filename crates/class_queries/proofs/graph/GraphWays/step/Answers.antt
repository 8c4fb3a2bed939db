use Rattle.std.proofs.Common.{◌∙◌, sym, ap, Some, arith}
use Rattle.std.specs.Prelude.{slice_get}
use Rattle.std.specs.Option.{option_map}
use Rattle.member_keys.specs.Seen.{class_seen}
use Rattle.class_queries.specs.Numbers.{number_of}
use Rattle.class_table.specs.declared.rows.ClassTable.{ClassTable}
use Rattle.class_queries.specs.declared.chains.Way.{Way}
use Rattle.class_queries.specs.Edges.{graph_size, graph_next}
use Rattle.class_queries.proofs.NumberLaws.{number_inside}
use Rattle.class_queries.proofs.GraphLaws.{next_none, step_at, no_place}
use Rattle.class_queries.proofs.graph.GraphWays.step.Goals as goal

pub returns-in-Some-next-clause-inside : goal.returns-in-Some-next-clause-inside
returns-in-Some-next-clause-inside c = let inside = number_inside c.self.inside.table.now (class_seen c.in-Some-next.class) in let same = ap (λ (v : ClassTable × Way). graph_size v.0) c.self.view_is in omega (arith, inside, c.number.ensures, same)

pub returns-in-Some-next-clause-leads : goal.returns-in-Some-next-clause-leads
returns-in-Some-next-clause-leads c =
    ap (λ (v : ClassTable × Way). slice_get (graph_next v.0 v.1 c.args.node) c.args.edge) (sym c.self.view_is)
    ∙ step_at c.self.inside.table.now c.self.inside.way c.self.inside.classes.now c.self.invariant.classes c.args.node c.args.edge c.in-Some.class c.next.result (sym c.numbered.ensures ∙ c.in-Some.is) c.next.ensures
    ∙ ap (option_map (λ d. number_of c.self.inside.table.now (class_seen d))) c.in-Some-next.is
    ∙ ap Some (sym c.number.ensures)

pub returns-in-None-next-clause-leads : goal.returns-in-None-next-clause-leads
returns-in-None-next-clause-leads c =
    absurd (no_place (graph_next c.args.self.now.0 c.args.self.now.1 c.args.node) c.args.edge c.requires.edge
    (ap (λ (v : ClassTable × Way). slice_get (graph_next v.0 v.1 c.args.node) c.args.edge) (sym c.self.view_is)
    ∙ step_at c.self.inside.table.now c.self.inside.way c.self.inside.classes.now c.self.invariant.classes c.args.node c.args.edge c.in-Some.class c.next.result (sym c.numbered.ensures ∙ c.in-Some.is) c.next.ensures
    ∙ ap (option_map (λ d. number_of c.self.inside.table.now (class_seen d))) c.in-None-next.is))

pub returns-in-None-clause-leads : goal.returns-in-None-clause-leads
returns-in-None-clause-leads c =
    let empty = next_none c.self.inside.table.now c.self.inside.way c.self.inside.classes.now c.self.invariant.classes c.args.node (sym c.numbered.ensures ∙ c.in-None.is) in
    absurd (no_place (graph_next c.args.self.now.0 c.args.self.now.1 c.args.node) c.args.edge c.requires.edge
    (ap (λ (v : ClassTable × Way). slice_get (graph_next v.0 v.1 c.args.node) c.args.edge) (sym c.self.view_is) ∙ ap (λ xs. slice_get xs c.args.edge) empty))
