use Rattle.std.proofs.Common.{◌∷◌, ℕ, List, Option, Some, length, refl, sym, ap, ◌∙◌}
use Rattle.board_types.specs.declared.board.Known.TheVariants.{NullReference}
use Rattle.machine.specs.Data.{Value, Object, Thing, thing_at, State}
use Rattle.machine.specs.Objects.{load_length}
use Rattle.machine.specs.Throw.{goes}
use Rattle.machine.specs.Rows.{on_thing, on_elements, length_value}
use Rattle.tiny_ram.specs.Memory.{popped}
use Rattle.step_operands.proofs.Taking.{below_of}
use Rattle.step_operands.proofs.Ending.{moved_ends, on_found, some_of}
use Rattle.step_arrays.proofs.Acts.{lengths, length_go, length_is}
use Rattle.step_arrays.proofs.arrays.load_length.Goals as goal

pub returns-in_default : goal.returns-in_default
returns-in_default c =
    λ p outer m s f fs fr gs q b r.
    length_is p s fr gs c.args.next ∙ c.in_default.ensures p outer m s fs gs f fr (below_of p outer c.args.ram.now m s f fs fr gs b) (length_go p s fr gs c.args.next)

pub returns-in-Null : goal.returns-in-Null
returns-in-Null c =
    λ p outer m s f fs fr gs q b r.
    let t = c.in-Some.ensures p outer m s fs gs f fr (below_of p outer c.args.ram.now m s f fs fr gs b) in
    let null = c.in-Null.ensures m.room (popped f ∷ fs) t.value t.is in
    c.raise_one.ensures p outer m s f fs (load_length p s fr gs c.args.next) b.ram_frames t.top t.below.keeps
    (length_is p s fr gs c.args.next ∙ t.on (length_go p s fr gs c.args.next) ∙ ap (λ (v : Value). on_thing p s v (lengths p s fr gs c.args.next t.rest)) null)

pub returns-in-Thing : goal.returns-in-Thing
returns-in-Thing c =
    λ p outer m s f fs fr gs q b r.
    let t = c.in-Some.ensures p outer m s fs gs f fr (below_of p outer c.args.ram.now m s f fs fr gs b) in
    let to = c.in-Thing.ensures m.room (popped f ∷ fs) t.value t.is in
    let there = some_of (thing_at s.heap to.0) (r.there 0 to.0 (t.at ∙ ap Some to.1)) in
    let go = lengths p s fr gs c.args.next t.rest in
    moved_ends p outer m s s c.length_of.new.ram m.room (go to.0 there.0) (load_length p s fr gs c.args.next) c.length_of.result refl refl
    (sym (length_is p s fr gs c.args.next ∙ t.on (length_go p s fr gs c.args.next) ∙ on_found p s NullReference t.value to.0 there.0 go to.1 there.1))
    (c.length_of.ensures p outer m s fs gs (popped f) fr t.rest to.0 there.0 t.below to.2 there.1)

pub returns-in-Nothing : goal.returns-in-Nothing
returns-in-Nothing c =
    λ p outer m s f fs fr gs q b r.
    let t = c.in-Some.ensures p outer m s fs gs f fr (below_of p outer c.args.ram.now m s f fs fr gs b) in
    length_is p s fr gs c.args.next ∙ t.on (length_go p s fr gs c.args.next) ∙ c.in-Nothing.ensures m.room (popped f ∷ fs) t.value t.is p s NullReference (lengths p s fr gs c.args.next t.rest)
