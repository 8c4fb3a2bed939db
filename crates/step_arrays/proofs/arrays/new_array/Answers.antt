use Rattle.std.proofs.Common.{◌≡◌, ◌-◌, ◌<◌, ◌∷◌, ℕ, ℤ, Bool, true, false, List, Option, Some, None, replicate, refl, sym, ap, ◌∙◌, subst, arith}
use Rattle.std.specs.Prelude.{unsigned_abs, if◌then◌else◌, slice_index}
use Rattle.board_types.specs.declared.board.Known.TheVariants.{Overflow}
use Rattle.machine.specs.Data.{Cell, cell_of, end_of, Value, Object, Elements, Thing}
use Rattle.machine.specs.Numbers.{is_negative, as_int, zero_of}
use Rattle.machine.specs.Objects.{new_array}
use Rattle.machine.specs.Throw.{on_some, goes, raise}
use Rattle.ram_words.specs.Elements.{type_held, cell_in}
use Rattle.tiny_ram.specs.Things.{fresh, array_shape}
use Rattle.tiny_ram.specs.Memory.{popped, with_frames}
use Rattle.memory_states.specs.Values.{cli_type, IsThing}
use Rattle.memory_states.proofs.Heaps.{type_is_held}
use Rattle.step_operands.specs.Changed.{with_thing}
use Rattle.step_operands.proofs.Taking.{below_of}
use Rattle.step_operands.proofs.Ending.{ends_so}
use Rattle.step_arrays.proofs.Acts.{made, counted, array_go, array_is}
use Rattle.step_arrays.proofs.Made.{made_is}
use Rattle.step_arrays.proofs.arrays.new_array.Goals as goal

pub returns-in_default : goal.returns-in_default
returns-in_default c =
    λ p outer m s f fs g gs b.
    let none : (let o : Option Cell = None in o) ≡ type_held c.args.of = c.in_default.ensures in
    array_is p s g gs c.args.next (cli_type c.args.of) None (sym (type_is_held c.args.of) ∙ sym none)

pub returns-in_default-take : goal.returns-in_default-take
returns-in_default-take c =
    λ p outer m s f fs g gs b.
    let cell = cell_in c.in-Some.field-0 in
    let held : Some cell ≡ type_held c.args.of = c.in-Some.ensures in
    array_is p s g gs c.args.next (cli_type c.args.of) (Some cell) (sym (type_is_held c.args.of) ∙ sym held)
    ∙ c.in_default-take.ensures p outer m s fs gs f g (below_of p outer c.args.ram.now m s f fs g gs b) (array_go p s g gs c.args.next (cli_type c.args.of))

pub returns-in_default-int_of : goal.returns-in_default-int_of
returns-in_default-int_of c =
    λ p outer m s f fs g gs b.
    let cell = cell_in c.in-Some.field-0 in
    let held : Some cell ≡ type_held c.args.of = c.in-Some.ensures in
    let t = c.in-Some-take.ensures p outer m s fs gs f g (below_of p outer c.args.ram.now m s f fs g gs b) in
    let none = c.in_default-int_of.ensures.value m.room (popped f ∷ fs) t.value t.is in
    array_is p s g gs c.args.next (cli_type c.args.of) (Some cell) (sym (type_is_held c.args.of) ∙ sym held)
    ∙ t.on (array_go p s g gs c.args.next (cli_type c.args.of))
    ∙ ap (λ (o : Option ℤ). on_some o (counted p s g gs c.args.next (cli_type c.args.of) t.rest)) none

pub returns-then-n-lt0 : goal.returns-then-n-lt0
returns-then-n-lt0 c =
    λ p outer m s f fs g gs b.
    let element = cli_type c.args.of in
    let cell = cell_in c.in-Some.field-0 in
    let held : Some cell ≡ type_held c.args.of = c.in-Some.ensures in
    let t = c.in-Some-take.ensures p outer m s fs gs f g (below_of p outer c.args.ram.now m s f fs g gs b) in
    let n = c.in-Some-int_of.n in
    let int = c.in-Some-int_of.ensures.value m.room (popped f ∷ fs) t.value t.is in
    let below : is_negative n ≡ true = ap is_negative (sym c.in-Some-int_of.ensures.small) ∙ c.if-n-lt0.true in
    c.raise_one.ensures p outer m s f fs (new_array p s g gs c.args.next element) b.ram_frames t.top t.below.keeps
    (array_is p s g gs c.args.next element (Some cell) (sym (type_is_held c.args.of) ∙ sym held)
    ∙ t.on (array_go p s g gs c.args.next element)
    ∙ ap (λ (o : Option ℤ). on_some o (counted p s g gs c.args.next element t.rest)) int
    ∙ ap (λ (b : Bool). if b then raise p s Overflow else goes p (with_thing s (made p s g gs c.args.next element n)) g gs c.args.next (Object (end_of s.heap) ∷ t.rest)) below)

pub returns : goal.returns
returns c =
    λ p outer m s f fs g gs b.
    let element = cli_type c.args.of in
    let cell = cell_in c.in-Some.field-0 in
    let held : Some cell ≡ type_held c.args.of = c.in-Some.ensures in
    let t = c.in-Some-take.ensures p outer m s fs gs f g (below_of p outer c.args.ram.now m s f fs g gs b) in
    let n = c.in-Some-int_of.n in
    let int = c.in-Some-int_of.ensures.value m.room (popped f ∷ fs) t.value t.is in
    let above : is_negative n ≡ false = ap is_negative (sym c.in-Some-int_of.ensures.small) ∙ c.if-n-lt0.false in
    let count = c.unsigned_abs.result in
    let x = made p s g gs c.args.next element n in
    let is = subst (λ (k : ℕ). IsThing p m.room (fresh (array_shape c.args.of count)) (Elements element (replicate k (zero_of element)))) (c.unsigned_abs.ensures.value ∙ ap unsigned_abs c.in-Some-int_of.ensures.small) (made_is p m.room c.args.of cell count (sym held)) in
    let some = t.top.some in
    let fits = t.top.fits in
    let room : f.depth - 1 < slice_index f.sizes 2 = omega (arith, some, fits) in
    let next = goes p (with_thing s x) g gs c.args.next (Object (end_of s.heap) ∷ t.rest) in
    ends_so p outer m s c.go_with_new.new.ram next (new_array p s g gs c.args.next element) c.go_with_new.result
    (sym (array_is p s g gs c.args.next element (Some cell) (sym (type_is_held c.args.of) ∙ sym held)
    ∙ t.on (array_go p s g gs c.args.next element)
    ∙ ap (λ (o : Option ℤ). on_some o (counted p s g gs c.args.next element t.rest)) int
    ∙ ap (λ (b : Bool). if b then raise p s Overflow else next) above))
    (c.go_with_new.ensures c.take.new.ram p outer m s fs gs (popped f) g t.rest x (fresh (array_shape c.args.of count)) t.below room is (c.array-made.ensures (with_frames m (popped f ∷ fs)) t.below.keeps))
