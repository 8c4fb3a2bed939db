use Rattle.std.proofs.Common.{◌≡◌, ◌+◌, map, sym, ap, ◌∙◌, Some, None, subst, length, refl}
use Rattle.std.specs.Prelude.{slice_set}
use Rattle.std.proofs.lemmas.List.{length-set}
use Rattle.type_names.specs.References.{scope_seen, reference_seen, outer_row, parent_of, root_of}
use Rattle.type_names.specs.Walk.{IsStarted, AreNested}
use Rattle.member_keys.specs.Seen.{class_seen}
use Rattle.type_names.proofs.Walks.{nested_in, not_nested, settled}
use Rattle.type_names.proofs.Steps.{on_ok, parent_is, root_is, not_inside}
use Rattle.type_names.proofs.walk.begin.Goals as goal

pub returns-in-Outer-clause-inside : goal.returns-in-Outer-clause-inside
returns-in-Outer-clause-inside c =
    let inside : parent_of c.args.names.now c.args.file c.args.n ≡ Some c.in-Outer.outer = parent_is c.args.names.now c.args.file c.args.n (reference_seen c.in-Some.reference) (sym c.in-Some.ensures) ∙ ap (λ s. outer_row (scope_seen s)) c.in-Outer.is in
    on_ok c.nest.result
    (λ same. subst (λ xs. AreNested c.args.names.now c.args.file xs (c.args.n + 1)) (sym same) (nested_in c.args.names.now c.args.file (map (λ rows. rows.items) c.args.nested.now.items) c.args.n c.in-Outer.outer inside c.requires.inside))
    c.nest.ensures

pub returns-in-Some-find_alone : goal.returns-in-Some-find_alone
returns-in-Some-find_alone c =
    let top : parent_of c.args.names.now c.args.file c.args.n ≡ None = parent_is c.args.names.now c.args.file c.args.n (reference_seen c.in-Some.reference) (sym c.in-Some.ensures) ∙ not_inside c.in-Some.reference.scope c.in_default-scope.not-Outer in
    let names : root_of c.args.names.now c.args.file c.args.n ≡ Some (class_seen c.in-Some-find_alone.class) = root_is c.args.names.now c.args.file c.args.n (reference_seen c.in-Some.reference) (sym c.in-Some.ensures) ∙ sym c.in-Some-find_alone.ensures in
    record {
      size = on_ok c.settle.result (λ s. ap length s.resolved ∙ length-set c.args.walk.now.resolved.items c.args.n (Some c.in-Some-find_alone.class)) c.settle.ensures;
      sizes = on_ok c.settle.result (λ s. refl) c.settle.ensures;
      started = on_ok c.settle.result (λ s. subst (λ xs. IsStarted c.args.names.now c.args.file xs c.settle.new.walk.found.items (c.args.n + 1)) (sym s.resolved) (subst (λ fs. IsStarted c.args.names.now c.args.file (slice_set c.args.walk.now.resolved.items c.args.n (Some c.in-Some-find_alone.class)) fs (c.args.n + 1)) (sym s.found) (settled c.args.names.now c.args.file c.args.walk.now.resolved.items c.args.walk.now.found.items c.args.n c.in-Some-find_alone.class c.requires.row top names c.requires.started))) c.settle.ensures;
      inside = on_ok c.settle.result (λ s. not_nested c.args.names.now c.args.file (map (λ rows. rows.items) c.args.nested.now.items) c.args.n top c.requires.inside) c.settle.ensures;
    }
