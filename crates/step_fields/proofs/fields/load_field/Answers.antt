use Rattle.std.proofs.Common.{◌∷◌, Some, refl, sym, ap, ◌∙◌}
use Rattle.board_types.specs.declared.board.Known.TheVariants.{NullReference}
use Rattle.machine.specs.Data.{Value, Object, thing_at}
use Rattle.machine.specs.Objects.{load_field}
use Rattle.machine.specs.Rows.{on_thing}
use Rattle.tiny_ram.specs.Memory.{popped}
use Rattle.memory_states.specs.Values.{id_of}
use Rattle.step_operands.proofs.Taking.{below_of}
use Rattle.step_operands.proofs.Ending.{moved_ends, on_found, some_of}
use Rattle.step_fields.proofs.Acts.{loads, load_go, load_is}
use Rattle.step_fields.proofs.fields.load_field.Goals as goal

pub returns-in_default : goal.returns-in_default
returns-in_default g c =
    λ p outer m s f fs fr gs q b r.
    load_is p s fr gs c.args.next c.args.field ∙ c.in_default.ensures p outer m s fs gs f fr (below_of p outer c.args.ram.now m s f fs fr gs b) (load_go p s fr gs c.args.next c.args.field)

pub returns-in-Null : goal.returns-in-Null
returns-in-Null g c =
    λ p outer m s f fs fr gs q b r.
    let field = c.args.field in
    let t = c.in-Some.ensures p outer m s fs gs f fr (below_of p outer c.args.ram.now m s f fs fr gs b) in
    let null = c.in-Null.ensures m.room (popped f ∷ fs) t.value t.is in
    c.raise_one.ensures p outer m s f fs (load_field p s fr gs c.args.next (id_of field.owner) field.number) b.ram_frames t.top t.below.keeps
    (load_is p s fr gs c.args.next field ∙ t.on (load_go p s fr gs c.args.next field) ∙ ap (λ (v : Value). on_thing p s v (loads p s fr gs c.args.next field t.rest)) null)

pub returns-in-Thing : goal.returns-in-Thing
returns-in-Thing g c =
    λ p outer m s f fs fr gs q b r.
    let field = c.args.field in
    let t = c.in-Some.ensures p outer m s fs gs f fr (below_of p outer c.args.ram.now m s f fs fr gs b) in
    let to = c.in-Thing.ensures m.room (popped f ∷ fs) t.value t.is in
    let there = some_of (thing_at s.heap to.0) (r.there 0 to.0 (t.at ∙ ap Some to.1)) in
    let go = loads p s fr gs c.args.next field t.rest in
    moved_ends p outer m s s c.load_from.new.ram m.room (go to.0 there.0) (load_field p s fr gs c.args.next (id_of field.owner) field.number) c.load_from.result refl refl
    (sym (load_is p s fr gs c.args.next field ∙ t.on (load_go p s fr gs c.args.next field) ∙ on_found p s NullReference t.value to.0 there.0 go to.1 there.1))
    (c.load_from.ensures p outer m s fs gs (popped f) fr t.rest to.0 there.0 q t.below to.2 there.1)

pub returns-in-Nothing : goal.returns-in-Nothing
returns-in-Nothing g c =
    λ p outer m s f fs fr gs q b r.
    let field = c.args.field in
    let t = c.in-Some.ensures p outer m s fs gs f fr (below_of p outer c.args.ram.now m s f fs fr gs b) in
    load_is p s fr gs c.args.next field ∙ t.on (load_go p s fr gs c.args.next field) ∙ c.in-Nothing.ensures m.room (popped f ∷ fs) t.value t.is p s NullReference (loads p s fr gs c.args.next field t.rest)
