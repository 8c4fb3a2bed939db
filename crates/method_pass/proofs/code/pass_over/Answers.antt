use Rattle.cil_code.specs.Bodies.{BodyPart}
use Rattle.classes.specs.Queries.{type_of}
use Rattle.world_rows.specs.Lines.{is_locals_token}
use Rattle.method_facts.specs.Places.{type_to}
use Rattle.local_places.specs.Locals.{locals_meant}
use Rattle.std.proofs.Common.{◌≡◌, true, map, ap, ◌∙◌, subst, Some}
use Rattle.machine.specs.Data.{ClassOf}
use Rattle.place_types.specs.Types.{place_of, type_up}
use Rattle.world_rows.specs.World.{ecma_sources}
use Rattle.verdict_rules.specs.World.{world_of}
use Rattle.method_facts.specs.Members.{PlacesTold}
use Rattle.assemblies.specs.Binding.{id_at}
use Rattle.forward_pass.proofs.EdgeLaws.{if_ok}
use Rattle.method_pass.proofs.code.pass_over.Goals as goal

pub returns : goal.returns
returns c =
    if_ok c.pass_with.result c.pass_with.ensures
    (λ broken says. λ x m known.
    let files = c.args.world.now in
    let w = world_of files in
    let file = c.args.file in
    let b = c.args.listing.now in
    let table = c.classes-table.result.now in
    let places = c.in-Some.places in
    let told : PlacesTold table (id_at file c.args.row) (Some places) = subst (λ f. PlacesTold table (id_at f c.args.row) (Some places)) c.from.ensures (subst (PlacesTold table (id_at c.from.result c.args.row)) c.in-Some.is c.in_ok-places.ensures) in
    let arguments = ap (map place_of) c.deref.ensures.value ∙ known.places.arguments table places c.classes-table.ensures.rows told in
    let result = known.places.result table places c.classes-table.ensures.rows told in
    let loaded = known.places.loaded table places c.classes-table.ensures.rows told in
    let token = c.locals_token.ensures ∙ ap (λ (p : BodyPart). p.locals_token) c.body.ensures in
    let read = subst (λ n. is_locals_token x.metadata n ≡ true → c.in_ok-locals.locals.items ≡ map (λ s. type_to (type_of (ecma_sources files).classes s)) (locals_meant files file x n)) token (c.in_ok-locals.ensures x known.part) known.locals.token in
    let locals = ap (map place_of) c.deref-2.ensures.value ∙ ap (map place_of) read ∙ known.locals.locals in
    let exception = c.in_ok-exception.ensures ∙ ap (λ k. type_up (ClassOf k)) c.requires.exception in
    says c.args.row x m known loaded arguments locals result exception)
