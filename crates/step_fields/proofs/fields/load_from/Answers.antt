use Rattle.std.proofs.Common.{◌≡◌, ◌∷◌, ℕ, List, Option, sym, ap, ◌∙◌, subst}
use Rattle.std.specs.Prelude.{slice_get}
use Rattle.board_types.specs.declared.value.Value.{Value as RamValue}
use Rattle.machine.specs.Data.{Id, Value, State}
use Rattle.machine.specs.Throw.{on_some, goes}
use Rattle.machine.specs.Rows.{on_instance}
use Rattle.tiny_ram.specs.Memory.{with_frames, entry_value}
use Rattle.memory_states.specs.Values.{id_of, IsValue}
use Rattle.step_operands.proofs.Places.{cells_alike, shown_is}
use Rattle.step_operands.proofs.Changing.{find, there_over}
use Rattle.step_operands.proofs.Ending.{moves_so}
use Rattle.step_fields.proofs.Finding.{object_is, on_object, no_object, its_field}
use Rattle.step_fields.proofs.fields.load_from.Goals as goal

pub returns-then-not-is_object : goal.returns-then-not-is_object
returns-then-not-is_object g c =
    λ p outer m s fs gs h fr rest n x q b t at.
    let field = c.args.field in
    let found = find p outer m s b.things n c.args.thing x t at in
    let no = c.if-not-is_object.ensures (with_frames m (h ∷ fs)) found.entry b.keeps (there_over m (h ∷ fs) c.args.thing found.entry found.there) in
    no_object p m.room _ field q found.entry x found.is no (λ class fields. on_some (slice_get fields field.number) (λ v. goes p s fr gs c.args.next (v ∷ rest)))

pub returns : goal.returns
returns g c =
    λ p outer m s fs gs h fr rest n x q b t at.
    let field = c.args.field in
    let less = with_frames m (h ∷ fs) in
    let found = find p outer m s b.things n c.args.thing x t at in
    let e = found.entry in
    let there = there_over m (h ∷ fs) c.args.thing e found.there in
    let o = object_is p m.room _ field q e x found.is (c.if-not-is_object.ensures less e b.keeps there) in
    let v = its_field p m.room _ field q e x o in
    let go : Id → List Value → Option State = λ class fields. on_some (slice_get fields field.number) (λ v. goes p s fr gs c.args.next (v ∷ rest)) in
    let shown = shown_is m.room (h ∷ fs) field.elem q.type (cells_alike field.elem q.type q.held) (entry_value e field.number) v.value v.held in
    let is = subst (λ (r : RamValue). IsValue m.room (h ∷ fs) r v.value) (sym (c.get-value.ensures.thing less e b.keeps there v.within)) shown in
    moves_so p outer s c.go_with.new.ram m.room (goes p s fr gs c.args.next (v.value ∷ rest)) (on_instance p (id_of field.owner) x go) c.go_with.result
    (sym (on_object p m.room _ field q e x o go ∙ ap (λ (w : Option Value). on_some w (λ v. goes p s fr gs c.args.next (v ∷ rest))) v.is))
    (c.go_with.ensures p outer m s fs gs h fr rest v.value b is)
