use Rattle.std.proofs.Common.{◌≡◌, ◌+◌, map, sym, ◌∙◌, Some, None, subst}
use Rattle.std.specs.Prelude.{slice_set}
use Rattle.member_keys.specs.Seen.{class_seen}
use Rattle.scope_walk.specs.Scopes.{parent_of, root_of}
use Rattle.scope_walk.specs.Walk.{IsStarted, AreNested}
use Rattle.scope_walk.proofs.Walks.{nested_in, not_nested, settled}
use Rattle.scope_walk.proofs.Steps.{on_ok}
use Rattle.scope_walk.proofs.walk.begin.Goals as goal

pub returns-in-Some-clause-inside : goal.returns-in-Some-clause-inside
returns-in-Some-clause-inside g c =
    let ps = g.R.References.rows c.args.references.now in
    let inside : parent_of ps c.args.file c.args.n ≡ Some c.in-Some.outer = sym c.in-Some.ensures in
    on_ok c.nest.result
    (λ same. subst (λ xs. AreNested ps c.args.file xs (c.args.n + 1)) (sym same) (nested_in ps c.args.file (map (λ rows. rows.items) c.args.nested.now.items) c.args.n c.in-Some.outer inside c.requires.inside))
    c.nest.ensures

pub returns-in-Some-find_alone-clause-started : goal.returns-in-Some-find_alone-clause-started
returns-in-Some-find_alone-clause-started g c =
    let ps = g.R.References.rows c.args.references.now in
    let top : parent_of ps c.args.file c.args.n ≡ None = sym c.outer.ensures ∙ c.in_default.is in
    let names : root_of ps c.args.file c.args.n ≡ Some (class_seen c.in-Some-find_alone.class) = sym c.in-Some-find_alone.ensures in
    on_ok c.settle.result
    (λ s. subst (λ xs. IsStarted ps c.args.file xs c.settle.new.walk.found.items (c.args.n + 1)) (sym s.resolved) (subst (λ fs. IsStarted ps c.args.file (slice_set c.args.walk.now.resolved.items c.args.n (Some c.in-Some-find_alone.class)) fs (c.args.n + 1)) (sym s.found) (settled ps c.args.file c.args.walk.now.resolved.items c.args.walk.now.found.items c.args.n c.in-Some-find_alone.class c.requires.row top names c.requires.started)))
    c.settle.ensures

pub returns-in-Some-find_alone-clause-inside : goal.returns-in-Some-find_alone-clause-inside
returns-in-Some-find_alone-clause-inside g c =
    let ps = g.R.References.rows c.args.references.now in
    let top : parent_of ps c.args.file c.args.n ≡ None = sym c.outer.ensures ∙ c.in_default.is in
    on_ok c.settle.result (λ s. not_nested ps c.args.file (map (λ rows. rows.items) c.args.nested.now.items) c.args.n top c.requires.inside) c.settle.ensures
