use Rattle.std.proofs.Common.{[], ◌∷◌, Some, None, refl, sym, ap, ◌∙◌}
use Rattle.board_types.specs.declared.board.Known.TheVariants.{NullReference}
use Rattle.machine.specs.Data.{Plain, Value, Object, thing_at}
use Rattle.machine.specs.Numbers.{kept}
use Rattle.machine.specs.Objects.{store_field}
use Rattle.machine.specs.Rows.{on_thing}
use Rattle.tiny_ram.specs.Memory.{popped}
use Rattle.memory_states.specs.Values.{id_of}
use Rattle.step_operands.proofs.Places.{kept_some, kept_none}
use Rattle.step_operands.proofs.Taking.{below_of}
use Rattle.step_operands.proofs.Ending.{moved_ends, on_found, some_of}
use Rattle.step_fields.proofs.Acts.{stores, store_go, store_is, store_kept}
use Rattle.step_fields.proofs.fields.store_field.Goals as goal

pub returns-in_default : goal.returns-in_default
returns-in_default g c =
    λ p outer m s f fs fr gs q b r.
    store_is p s fr gs c.args.next c.args.field ∙ c.in_default.ensures p outer m s fs gs f fr (below_of p outer c.args.ram.now m s f fs fr gs b) (store_go p s fr gs c.args.next c.args.field)

pub returns-in_default-keep_elem : goal.returns-in_default-keep_elem
returns-in_default-keep_elem g c =
    λ p outer m s f fs fr gs q b r.
    let field = c.args.field in
    let t = c.in-Some.ensures p outer m s fs gs f fr (below_of p outer c.args.ram.now m s f fs fr gs b) in
    let none = kept_none m.room [] (kept (Plain q.type) t.second) (c.in_default-keep_elem.ensures m.room (popped (popped f) ∷ fs) q.type t.second q.held t.is_second) in
    store_kept p s fr gs c.args.next field _ q t.first t.second t.rest None (t.on (store_go p s fr gs c.args.next field)) none

pub returns-in-Null : goal.returns-in-Null
returns-in-Null g c =
    λ p outer m s f fs fr gs q b r.
    let field = c.args.field in
    let t = c.in-Some.ensures p outer m s fs gs f fr (below_of p outer c.args.ram.now m s f fs fr gs b) in
    let w = kept_some m.room [] c.in-Some-keep_elem.value (kept (Plain q.type) t.second) (c.in-Some-keep_elem.ensures m.room (popped (popped f) ∷ fs) q.type t.second q.held t.is_second) in
    let null = c.in-Null.ensures m.room (popped (popped f) ∷ fs) t.first t.is_first in
    c.raise_two.ensures p outer m s f fs (store_field p s fr gs c.args.next (id_of field.owner) field.number) b.ram_frames t.top_second t.top_first t.below.keeps
    (store_kept p s fr gs c.args.next field _ q t.first t.second t.rest (Some w.0) (t.on (store_go p s fr gs c.args.next field)) w.1 ∙ ap (λ (v : Value). on_thing p s v (stores p s fr gs c.args.next field t.rest w.0)) null)

pub returns-in-Thing : goal.returns-in-Thing
returns-in-Thing g c =
    λ p outer m s f fs fr gs q b r.
    let field = c.args.field in
    let t = c.in-Some.ensures p outer m s fs gs f fr (below_of p outer c.args.ram.now m s f fs fr gs b) in
    let w = kept_some m.room [] c.in-Some-keep_elem.value (kept (Plain q.type) t.second) (c.in-Some-keep_elem.ensures m.room (popped (popped f) ∷ fs) q.type t.second q.held t.is_second) in
    let to = c.in-Thing.ensures m.room (popped (popped f) ∷ fs) t.first t.is_first in
    let there = some_of (thing_at s.heap to.0) (r.there 1 to.0 (t.first_at ∙ ap Some to.1)) in
    let go = stores p s fr gs c.args.next field t.rest w.0 in
    moved_ends p outer m s s c.store_into.new.ram m.room (go to.0 there.0) (store_field p s fr gs c.args.next (id_of field.owner) field.number) c.store_into.result refl refl
    (sym (store_kept p s fr gs c.args.next field _ q t.first t.second t.rest (Some w.0) (t.on (store_go p s fr gs c.args.next field)) w.1 ∙ on_found p s NullReference t.first to.0 there.0 go to.1 there.1))
    (c.store_into.ensures p outer m s fs gs (popped (popped f)) fr t.rest to.0 there.0 w.0 q t.below to.2 there.1 w.2)

pub returns-in-Nothing : goal.returns-in-Nothing
returns-in-Nothing g c =
    λ p outer m s f fs fr gs q b r.
    let field = c.args.field in
    let t = c.in-Some.ensures p outer m s fs gs f fr (below_of p outer c.args.ram.now m s f fs fr gs b) in
    let w = kept_some m.room [] c.in-Some-keep_elem.value (kept (Plain q.type) t.second) (c.in-Some-keep_elem.ensures m.room (popped (popped f) ∷ fs) q.type t.second q.held t.is_second) in
    store_kept p s fr gs c.args.next field _ q t.first t.second t.rest (Some w.0) (t.on (store_go p s fr gs c.args.next field)) w.1 ∙ c.in-Nothing.ensures m.room (popped (popped f) ∷ fs) t.first t.is_first p s NullReference (stores p s fr gs c.args.next field t.rest w.0)
