use Rattle.std.proofs.Common.{◌≡◌, ◌∷◌, Option, Some, None, refl, sym, ap, ◌∙◌}
use Rattle.std.specs.Option.{option_map}
use Rattle.board_types.specs.declared.board.Known.TheVariants.{NullReference}
use Rattle.machine.specs.Data.{Cell, Value, Object, thing_at}
use Rattle.machine.specs.Objects.{load_field_address}
use Rattle.machine.specs.Rows.{on_thing}
use Rattle.ram_words.specs.Elements.{elem_held, cell_in}
use Rattle.tiny_ram.specs.Memory.{popped}
use Rattle.memory_states.specs.Values.{id_of}
use Rattle.step_operands.proofs.Places.{cells_alike}
use Rattle.step_operands.proofs.Taking.{below_of}
use Rattle.step_operands.proofs.Ending.{moved_ends, on_found, some_of}
use Rattle.step_fields.proofs.Acts.{points, point_go, point_is, point_kept}
use Rattle.step_fields.proofs.fields.load_field_address.Goals as goal

pub returns-in_default : goal.returns-in_default
returns-in_default g c =
    λ p outer m s f fs fr gs q b r.
    point_is p s fr gs c.args.next c.args.field ∙ c.in_default.ensures p outer m s fs gs f fr (below_of p outer c.args.ram.now m s f fs fr gs b) (point_go p s fr gs c.args.next c.args.field)

pub returns-in_default-kind_of_elem : goal.returns-in_default-kind_of_elem
returns-in_default-kind_of_elem g c =
    λ p outer m s f fs fr gs q b r.
    let field = c.args.field in
    let t = c.in-Some.ensures p outer m s fs gs f fr (below_of p outer c.args.ram.now m s f fs fr gs b) in
    let none : (let o : Option Cell = None in o) ≡ elem_held field.elem = c.in_default-kind_of_elem.ensures in
    point_kept p s fr gs c.args.next field _ q t.value t.rest None (t.on (point_go p s fr gs c.args.next field)) (cells_alike field.elem q.type q.held ∙ sym none)

pub returns-in-Null : goal.returns-in-Null
returns-in-Null g c =
    λ p outer m s f fs fr gs q b r.
    let field = c.args.field in
    let cell = cell_in c.in-Some-kind_of_elem.field-0 in
    let t = c.in-Some.ensures p outer m s fs gs f fr (below_of p outer c.args.ram.now m s f fs fr gs b) in
    let held : Some cell ≡ elem_held field.elem = c.in-Some-kind_of_elem.ensures in
    let null = c.in-Null.ensures m.room (popped f ∷ fs) t.value t.is in
    c.raise_one.ensures p outer m s f fs (load_field_address p s fr gs c.args.next (id_of field.owner) field.number) b.ram_frames t.top t.below.keeps
    (point_kept p s fr gs c.args.next field _ q t.value t.rest (Some cell) (t.on (point_go p s fr gs c.args.next field)) (cells_alike field.elem q.type q.held ∙ sym held) ∙ ap (λ (v : Value). on_thing p s v (points p s fr gs c.args.next field cell t.rest)) null)

pub returns-in-Thing : goal.returns-in-Thing
returns-in-Thing g c =
    λ p outer m s f fs fr gs q b r.
    let field = c.args.field in
    let cell = cell_in c.in-Some-kind_of_elem.field-0 in
    let t = c.in-Some.ensures p outer m s fs gs f fr (below_of p outer c.args.ram.now m s f fs fr gs b) in
    let held : Some cell ≡ elem_held field.elem = c.in-Some-kind_of_elem.ensures in
    let to = c.in-Thing.ensures m.room (popped f ∷ fs) t.value t.is in
    let there = some_of (thing_at s.heap to.0) (r.there 0 to.0 (t.at ∙ ap Some to.1)) in
    let go = points p s fr gs c.args.next field cell t.rest in
    moved_ends p outer m s s c.point_into.new.ram m.room (go to.0 there.0) (load_field_address p s fr gs c.args.next (id_of field.owner) field.number) c.point_into.result refl refl
    (sym (point_kept p s fr gs c.args.next field _ q t.value t.rest (Some cell) (t.on (point_go p s fr gs c.args.next field)) (cells_alike field.elem q.type q.held ∙ sym held) ∙ on_found p s NullReference t.value to.0 there.0 go to.1 there.1))
    (c.point_into.ensures p outer m s fs gs (popped f) fr t.rest to.0 there.0 cell q (sym held) t.below to.2 there.1)

pub returns-in-Nothing : goal.returns-in-Nothing
returns-in-Nothing g c =
    λ p outer m s f fs fr gs q b r.
    let field = c.args.field in
    let cell = cell_in c.in-Some-kind_of_elem.field-0 in
    let t = c.in-Some.ensures p outer m s fs gs f fr (below_of p outer c.args.ram.now m s f fs fr gs b) in
    let held : Some cell ≡ elem_held field.elem = c.in-Some-kind_of_elem.ensures in
    point_kept p s fr gs c.args.next field _ q t.value t.rest (Some cell) (t.on (point_go p s fr gs c.args.next field)) (cells_alike field.elem q.type q.held ∙ sym held) ∙ c.in-Nothing.ensures m.room (popped f ∷ fs) t.value t.is p s NullReference (points p s fr gs c.args.next field cell t.rest)
