use Rattle.std.proofs.Common.{◌≡◌, sym, ap, ◌∙◌, Some}
use Rattle.std.specs.Prelude.{slice_get}
use Rattle.std.specs.Option.{option_map}
use Rattle.std.specs.BTreeMap.{get}
use Rattle.machine.specs.Throw.{on_some}
use Rattle.assemblies.specs.Binding.{id_at, type_in}
use Rattle.member_keys.specs.Seen.{class_seen}
use Rattle.scope_walk.proofs.Lists.{stands_at}
use Rattle.set_names.specs.Names.{seen_all, ref_of, type_order}
use Rattle.set_names.proofs.IndexLaws.{type_at}
use Rattle.set_names.proofs.names.Names.find_type.Goals as goal

pub returns-in_err-row : goal.returns-in_err-row
returns-in_err-row c =
    let look = c.in_ok-places.ensures.lookup in
    let there : slice_get c.self.inside.types.items c.args.file ≡ Some c.in_ok-places.places.now = stands_at c.deref.result.now c.self.inside.types.items c.args.file c.in_ok-places.places.now c.deref.ensures.value look.3.0 look.1 in
    ap (option_map class_seen) c.from_residual-in_err-row.ensures
    ∙ sym
    (ap (λ v. type_in (seen_all v) c.args.file c.args.key.enclosing (ref_of c.args.key)) (sym c.self.view_is)
    ∙ type_at c.self.inside c.self.invariant c.args.file c.args.key
    ∙ ap (λ o. on_some o (λ places. option_map (id_at c.args.file) (get type_order places c.args.key))) there
    ∙ ap (option_map (id_at c.args.file)) (sym c.in_err-row.ensures.value))

pub returns : goal.returns
returns c =
    let look = c.in_ok-places.ensures.lookup in
    let there : slice_get c.self.inside.types.items c.args.file ≡ Some c.in_ok-places.places.now = stands_at c.deref.result.now c.self.inside.types.items c.args.file c.in_ok-places.places.now c.deref.ensures.value look.3.0 look.1 in
    sym
    (ap (λ v. type_in (seen_all v) c.args.file c.args.key.enclosing (ref_of c.args.key)) (sym c.self.view_is)
    ∙ type_at c.self.inside c.self.invariant c.args.file c.args.key
    ∙ ap (λ o. on_some o (λ places. option_map (id_at c.args.file) (get type_order places c.args.key))) there
    ∙ ap (option_map (id_at c.args.file)) (sym c.in_ok-row.ensures.value))
