use Rattle.std.proofs.Common.{[], ◌∷◌, Some, ap, ◌∙◌}
use Rattle.ecma_types.specs.declared.stack.PlaceType.{PlaceType}
use Rattle.ecma_types.specs.declared.stack.StackType.TheVariants as world
use Rattle.world_rows.specs.World.{ecma_sources}
use Rattle.classes.specs.Classes.{Classes}
use Rattle.classes.specs.Queries.{type_of_class}
use Rattle.member_keys.specs.Seen.{class_seen}
use Rattle.method_facts.specs.Places.{type_to}
use Rattle.pass_steps.specs.Seen.{stack_seen}
use Rattle.method_pass.proofs.BeginLaws.{class_begins}
use Rattle.method_pass.proofs.begins.catch_begins.Goals as goal

pub returns : goal.returns
returns c =
    λ spelt.
    ap (λ (p : PlaceType). Some (stack_seen (world.O p) ∷ [])) (c.in_ok-of.ensures ∙ ap (λ (cs : Classes). type_to (type_of_class cs (class_seen c.args.class))) c.classes.ensures.classes)
    ∙ class_begins (ecma_sources c.args.world.now).classes spelt (class_seen c.args.class)
