use Rattle.std.proofs.Common.{◌∷◌, ℕ, List, Option, refl, sym}
use Rattle.std.specs.Prelude.{slice_set}
use Rattle.plain_types.specs.declared.elem.Elem.TheVariants as elem
use Rattle.machine.specs.Data.{Id, Value, Instance, State}
use Rattle.machine.specs.Throw.{goes}
use Rattle.tiny_ram.specs.Things.{with_place}
use Rattle.tiny_ram.specs.Memory.{with_frames, put_in}
use Rattle.step_operands.specs.Below.{stacked}
use Rattle.step_operands.specs.Changed.{put_heap}
use Rattle.step_operands.proofs.Changing.{find, there_over, put_below}
use Rattle.step_operands.proofs.Ending.{moves_so, moves_from}
use Rattle.step_fields.proofs.Acts.{stores}
use Rattle.step_fields.proofs.Finding.{object_is, on_object, no_object, its_field, written, takes, written_is, written_size, written_class}
use Rattle.step_fields.proofs.fields.store_into.Goals as goal

pub returns-then-not-is_object : goal.returns-then-not-is_object
returns-then-not-is_object g c =
    λ p outer m s fs gs h fr rest n x w q b t at is.
    let field = c.args.field in
    let found = find p outer m s b.things n c.args.thing x t at in
    let no = c.if-not-is_object.ensures (with_frames m (h ∷ fs)) found.entry b.keeps (there_over m (h ∷ fs) c.args.thing found.entry found.there) in
    no_object p m.room _ field q found.entry x found.is no (λ class fields. goes p (put_heap s n (Instance class (slice_set fields field.number w))) fr gs c.args.next rest)

pub returns : goal.returns
returns g c =
    λ p outer m s fs gs h fr rest n x w q b t at is.
    let field = c.args.field in
    let thing = c.args.thing in
    let r = c.args.value in
    let less = with_frames m (h ∷ fs) in
    let found = find p outer m s b.things n thing x t at in
    let e = found.entry in
    let there = there_over m (h ∷ fs) thing e found.there in
    let o = object_is p m.room _ field q e x found.is (c.if-not-is_object.ensures less e b.keeps there) in
    let y = written p m.room _ field q e x o w in
    let after = with_place e field.number elem.Object r in
    let kept = c.put.ensures.thing less e b.keeps there (its_field p m.room _ field q e x o).within (takes p m.room _ field q e x o r) in
    let below = put_below p outer m s fs gs h (stacked fr rest) c.args.ram.now c.put.new.self b n thing x y after t at (written_size p m.room _ field q e x o w) (written_class p m.room _ field q e x o w) (written_is p m.room _ field q e x o r w is) kept in
    let go : Id → List Value → Option State = λ class fields. goes p (put_heap s n (Instance class (slice_set fields field.number w))) fr gs c.args.next rest in
    moves_so p outer s c.go_on.new.ram m.room (goes p (put_heap s n y) fr gs c.args.next rest) (stores p s fr gs c.args.next field rest w n x) c.go_on.result
    (sym (on_object p m.room _ field q e x o go))
    (moves_from p outer s (put_heap s n y) c.go_on.new.ram m.room (goes p (put_heap s n y) fr gs c.args.next rest) c.go_on.result refl
    (c.go_on.ensures p outer (put_in m thing after) (put_heap s n y) fs gs h fr rest below))
