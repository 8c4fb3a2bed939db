use Rattle.std.proofs.Common.{◌<◌, length, refl, sym, ap, ◌∙◌, arith}
use Rattle.std.specs.Option.{option_map}
use Rattle.std.proofs.lemmas.List.{length-map}
use Rattle.std.proofs.lemmas.Option.{slice_get_past}
use Rattle.machine.specs.Throw.{on_some}
use Rattle.assemblies.specs.Binding.{resolve_ref}
use Rattle.world_rows.specs.World.{rows_alone, size_of}
use Rattle.type_names.specs.Files.{part_of}
use Rattle.member_keys.specs.Seen.{class_seen}
use Rattle.type_names.proofs.IndexLaws.{stands_at}
use Rattle.type_names.proofs.Steps.{lists_at}
use Rattle.type_names.proofs.world.TypeNames.find_referenced.Goals as goal

pub returns-in-Some : goal.returns-in-Some
returns-in-Some c =
    let within : c.args.file < length c.self.inside.references.items = omega (arith, c.requires, ap length c.self.view_is, length-map c.self.inside.files.items part_of, c.self.invariant.size) in
    let types = lists_at (λ types. types.items) c.self.inside.references.items c.args.file c.index.result.now c.deref.result.now within c.index.ensures c.deref.ensures.value in
    let look = c.in-Some.ensures.lookup in
    sym (ap (λ o. on_some o (option_map class_seen)) (stands_at c.deref.result.now c.deref.result.now c.args.n c.in-Some.class.now refl look.3.0 look.1))
    ∙ c.self.invariant.resolved c.args.file c.deref.result.now types c.args.n
    ∙ ap (λ ps. resolve_ref (size_of (rows_alone ps)) (rows_alone ps) c.args.file c.args.n) c.self.view_is

pub returns-in-None : goal.returns-in-None
returns-in-None c =
    let within : c.args.file < length c.self.inside.references.items = omega (arith, c.requires, ap length c.self.view_is, length-map c.self.inside.files.items part_of, c.self.invariant.size) in
    let types = lists_at (λ types. types.items) c.self.inside.references.items c.args.file c.index.result.now c.deref.result.now within c.index.ensures c.deref.ensures.value in
    sym (ap (λ o. on_some o (option_map class_seen)) (slice_get_past c.deref.result.now c.args.n c.in-None.ensures.lookup.3))
    ∙ c.self.invariant.resolved c.args.file c.deref.result.now types c.args.n
    ∙ ap (λ ps. resolve_ref (size_of (rows_alone ps)) (rows_alone ps) c.args.file c.args.n) c.self.view_is
