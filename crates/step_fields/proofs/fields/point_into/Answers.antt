use Rattle.std.proofs.Common.{◌∷◌, refl, sym}
use Rattle.machine.specs.Data.{Pointer, InObject}
use Rattle.machine.specs.Throw.{goes}
use Rattle.tiny_ram.specs.Memory.{with_frames}
use Rattle.memory_states.specs.Values.{id_of}
use Rattle.step_operands.proofs.Changing.{find, there_over}
use Rattle.step_operands.proofs.Ending.{moves_so}
use Rattle.step_fields.proofs.Acts.{points}
use Rattle.step_fields.proofs.Finding.{object_is, on_object, no_object}
use Rattle.step_fields.proofs.fields.point_into.Goals as goal

pub returns-then-not-is_object : goal.returns-then-not-is_object
returns-then-not-is_object g c =
    λ p outer m s fs gs h fr rest n x cell q held b t at.
    let field = c.args.field in
    let found = find p outer m s b.things n c.args.thing x t at in
    let no = c.if-not-is_object.ensures (with_frames m (h ∷ fs)) found.entry b.keeps (there_over m (h ∷ fs) c.args.thing found.entry found.there) in
    no_object p m.room _ field q found.entry x found.is no (λ class fields. goes p s fr gs c.args.next (Pointer cell (InObject n field.number) ∷ rest))

pub returns : goal.returns
returns g c =
    λ p outer m s fs gs h fr rest n x cell q held b t at.
    let field = c.args.field in
    let found = find p outer m s b.things n c.args.thing x t at in
    let yes = c.if-not-is_object.ensures (with_frames m (h ∷ fs)) found.entry b.keeps (there_over m (h ∷ fs) c.args.thing found.entry found.there) in
    let o = object_is p m.room _ field q found.entry x found.is yes in
    let pointer = Pointer cell (InObject n field.number) in
    moves_so p outer s c.go_with.new.ram m.room (goes p s fr gs c.args.next (pointer ∷ rest)) (points p s fr gs c.args.next field cell rest n x) c.go_with.result
    (sym (on_object p m.room _ field q found.entry x o (λ class fields. goes p s fr gs c.args.next (pointer ∷ rest))))
    (c.go_with.ensures p outer m s fs gs h fr rest pointer b (held, (t, refl)))
