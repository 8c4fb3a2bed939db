use Rattle.std.proofs.Common.{ℕ, ◌+◌, ◌∷◌, refl, ap, ◌∙◌, subst}
use Rattle.std.specs.Prelude.{Result}
use Rattle.machine.specs.Data.{end_of, Object}
use Rattle.machine.specs.Throw.{goes}
use Rattle.tiny_ram.specs.Memory.{with_frames, with_entry}
use Rattle.tiny_ram.specs.Region.{Made}
use Rattle.tiny_ram.specs.declared.memory.Spent.{Spent}
use Rattle.memory_states.proofs.Heaps.{sizes_are}
use Rattle.step_operands.specs.Below.{stacked}
use Rattle.step_operands.specs.Changed.{with_thing}
use Rattle.step_operands.proofs.Changing.{made_below}
use Rattle.step_operands.proofs.Ending.{moved_ends}
use Rattle.step_operands.proofs.Growing.{lacks}
use Rattle.step_operands.proofs.making.go_with_new.Goals as goal

pub returns-in-Err : goal.returns-in-Err
returns-in-Err c =
    λ r p outer m s fs gs h g rest x e b room is made.
    let over = subst (λ (o : Result ℕ Spent). Made r c.args.ram.now (with_frames m (h ∷ fs)) e o) c.in-Err.is made in
    lacks p outer r m s fs gs h g rest x e b room is over.0 c.args.next (Object (end_of s.heap))

pub returns-in-Ok : goal.returns-in-Ok
returns-in-Ok c =
    λ r p outer m s fs gs h g rest x e b room is made.
    let new = subst (λ (o : Result ℕ Spent). Made r c.args.ram.now (with_frames m (h ∷ fs)) e o) c.in-Ok.is made in
    let object = Object (end_of s.heap) in
    moved_ends p outer m s (with_thing s x) c.go_with.new.ram m.room (goes p (with_thing s x) g gs c.args.next (object ∷ rest)) (goes p (with_thing s x) g gs c.args.next (object ∷ rest)) c.go_with.result refl refl refl
    (c.go_with.ensures p outer (with_entry m e) (with_thing s x) fs gs h g rest object (made_below p outer m s fs gs h (stacked g rest) r c.args.ram.now b x e is new.2) (new.1 ∙ ap (λ n. 1 + n) (sizes_are p m.room m.heap s.heap b.things)))
