use Rattle.std.proofs.Common.{◌≡◌, ◌∷◌, ℕ, List, Option, Some, None, refl, sym, ap, ◌∙◌}
use Rattle.std.specs.Option.{option_map}
use Rattle.board_types.specs.declared.board.Known.TheVariants.{NullReference, IndexOutOfRange}
use Rattle.ram_words.specs.declared.elements.ElementKind.{ElementKind}
use Rattle.machine.specs.Data.{Value, Object, thing_at, State}
use Rattle.machine.specs.Objects.{load_element}
use Rattle.machine.specs.Throw.{goes}
use Rattle.machine.specs.Rows.{on_thing}
use Rattle.ram_words.specs.Elements.{cell_in}
use Rattle.tiny_ram.specs.Memory.{popped, with_frames}
use Rattle.step_operands.proofs.Places.{value_inside}
use Rattle.step_operands.proofs.Taking.{below_of}
use Rattle.step_operands.proofs.Changing.{find, there_over}
use Rattle.step_operands.proofs.Ending.{moved_ends, on_found, some_of}
use Rattle.step_arrays.proofs.Acts.{element_at, element_go, element_is, element_steps}
use Rattle.step_arrays.proofs.elements.load_element.Goals as goal

pub returns-in_default : goal.returns-in_default
returns-in_default c =
    λ access a p outer m s f fs g gs q b r.
    element_is p s g gs c.args.next access None (a ∙ ap (λ (o : Option ElementKind). option_map cell_in o) c.in_default.is)

pub returns-in_default-take_two : goal.returns-in_default-take_two
returns-in_default-take_two c =
    λ access a p outer m s f fs g gs q b r.
    let wide = cell_in c.in-Some.wide in
    element_is p s g gs c.args.next access (Some wide) (a ∙ ap (λ (o : Option ElementKind). option_map cell_in o) c.in-Some.is)
    ∙ c.in_default-take_two.ensures p outer m s fs gs f g (below_of p outer c.args.ram.now m s f fs g gs b) (element_go p s g gs c.args.next wide)

pub returns-in_default-index_of : goal.returns-in_default-index_of
returns-in_default-index_of c =
    λ access a p outer m s f fs g gs q b r.
    let wide = cell_in c.in-Some.wide in
    let by = a ∙ ap (λ (o : Option ElementKind). option_map cell_in o) c.in-Some.is in
    let t = c.in-Some-take_two.ensures p outer m s fs gs f g (below_of p outer c.args.ram.now m s f fs g gs b) in
    let index = c.in_default-index_of.ensures m.room (popped (popped f) ∷ fs) t.second t.is_second in
    element_steps p s g gs c.args.next access wide by t.first t.second t.rest None (t.on (element_go p s g gs c.args.next wide)) index

pub returns-in-Null : goal.returns-in-Null
returns-in-Null c =
    λ access a p outer m s f fs g gs q b r.
    let wide = cell_in c.in-Some.wide in
    let i = c.in-Some-index_of.index in
    let by = a ∙ ap (λ (o : Option ElementKind). option_map cell_in o) c.in-Some.is in
    let t = c.in-Some-take_two.ensures p outer m s fs gs f g (below_of p outer c.args.ram.now m s f fs g gs b) in
    let index = c.in-Some-index_of.ensures m.room (popped (popped f) ∷ fs) t.second t.is_second in
    let null = c.in-Null.ensures m.room (popped (popped f) ∷ fs) t.first t.is_first in
    c.raise_two.ensures p outer m s f fs (load_element p s g gs c.args.next access) b.ram_frames t.top_second t.top_first t.below.keeps
    (element_steps p s g gs c.args.next access wide by t.first t.second t.rest (Some i) (t.on (element_go p s g gs c.args.next wide)) index ∙ ap (λ (v : Value). on_thing p s v (element_at p s g gs c.args.next wide t.rest i)) null)

pub returns-in-Nothing : goal.returns-in-Nothing
returns-in-Nothing c =
    λ access a p outer m s f fs g gs q b r.
    let wide = cell_in c.in-Some.wide in
    let i = c.in-Some-index_of.index in
    let by = a ∙ ap (λ (o : Option ElementKind). option_map cell_in o) c.in-Some.is in
    let t = c.in-Some-take_two.ensures p outer m s fs gs f g (below_of p outer c.args.ram.now m s f fs g gs b) in
    let index = c.in-Some-index_of.ensures m.room (popped (popped f) ∷ fs) t.second t.is_second in
    let steps = element_steps p s g gs c.args.next access wide by t.first t.second t.rest (Some i) (t.on (element_go p s g gs c.args.next wide)) index in
    steps ∙ c.in-Nothing.ensures m.room (popped (popped f) ∷ fs) t.first t.is_first p s NullReference (element_at p s g gs c.args.next wide t.rest i)

pub returns-in-Element : goal.returns-in-Element
returns-in-Element c =
    λ access a p outer m s f fs g gs q b r.
    let wide = cell_in c.in-Some.wide in
    let i = c.in-Some-index_of.index in
    let by = a ∙ ap (λ (o : Option ElementKind). option_map cell_in o) c.in-Some.is in
    let t = c.in-Some-take_two.ensures p outer m s fs gs f g (below_of p outer c.args.ram.now m s f fs g gs b) in
    let index = c.in-Some-index_of.ensures m.room (popped (popped f) ∷ fs) t.second t.is_second in
    let steps = element_steps p s g gs c.args.next access wide by t.first t.second t.rest (Some i) (t.on (element_go p s g gs c.args.next wide)) index in
    let thing = c.in-Thing.thing in
    let to = c.in-Thing.ensures m.room (popped (popped f) ∷ fs) t.first t.is_first in
    let there = some_of (thing_at s.heap to.0) (r.there 1 to.0 (t.first_at ∙ ap Some to.1)) in
    let go = element_at p s g gs c.args.next wide t.rest i in
    let found = find p outer m s t.below.things to.0 thing there.0 to.2 there.1 in
    let less = with_frames m (popped (popped f) ∷ fs) in
    let at = there_over m (popped (popped f) ∷ fs) thing found.entry found.there in
    let on = steps ∙ on_found p s NullReference t.first to.0 there.0 go to.1 there.1 in
    let push : Value → Option State = λ w. goes p s g gs c.args.next (w ∷ t.rest) in
    let read = c.in-Element.ensures p less found.entry there.0 t.below.keeps at found.is in
    moved_ends p outer m s s c.go_with.new.ram m.room (push read.0) (load_element p s g gs c.args.next access) c.go_with.result refl refl
    (sym (on ∙ read.1 s push))
    (c.go_with.ensures p outer m s fs gs (popped (popped f)) g t.rest read.0 t.below (value_inside m.room (popped (popped f) ∷ fs) c.in-Element.value read.0 read.2))

pub returns-in-Past : goal.returns-in-Past
returns-in-Past c =
    λ access a p outer m s f fs g gs q b r.
    let wide = cell_in c.in-Some.wide in
    let i = c.in-Some-index_of.index in
    let by = a ∙ ap (λ (o : Option ElementKind). option_map cell_in o) c.in-Some.is in
    let t = c.in-Some-take_two.ensures p outer m s fs gs f g (below_of p outer c.args.ram.now m s f fs g gs b) in
    let index = c.in-Some-index_of.ensures m.room (popped (popped f) ∷ fs) t.second t.is_second in
    let steps = element_steps p s g gs c.args.next access wide by t.first t.second t.rest (Some i) (t.on (element_go p s g gs c.args.next wide)) index in
    let thing = c.in-Thing.thing in
    let to = c.in-Thing.ensures m.room (popped (popped f) ∷ fs) t.first t.is_first in
    let there = some_of (thing_at s.heap to.0) (r.there 1 to.0 (t.first_at ∙ ap Some to.1)) in
    let go = element_at p s g gs c.args.next wide t.rest i in
    let found = find p outer m s t.below.things to.0 thing there.0 to.2 there.1 in
    let less = with_frames m (popped (popped f) ∷ fs) in
    let at = there_over m (popped (popped f) ∷ fs) thing found.entry found.there in
    let on = steps ∙ on_found p s NullReference t.first to.0 there.0 go to.1 there.1 in
    let push : Value → Option State = λ w. goes p s g gs c.args.next (w ∷ t.rest) in
    let past = c.in-Past.ensures p less found.entry there.0 t.below.keeps at found.is in
    c.raise_two-in-Past.ensures p outer m s f fs (load_element p s g gs c.args.next access) b.ram_frames t.top_second t.top_first t.below.keeps (on ∙ past s push)

pub returns-in-Nothing-element : goal.returns-in-Nothing-element
returns-in-Nothing-element c =
    λ access a p outer m s f fs g gs q b r.
    let wide = cell_in c.in-Some.wide in
    let i = c.in-Some-index_of.index in
    let by = a ∙ ap (λ (o : Option ElementKind). option_map cell_in o) c.in-Some.is in
    let t = c.in-Some-take_two.ensures p outer m s fs gs f g (below_of p outer c.args.ram.now m s f fs g gs b) in
    let index = c.in-Some-index_of.ensures m.room (popped (popped f) ∷ fs) t.second t.is_second in
    let steps = element_steps p s g gs c.args.next access wide by t.first t.second t.rest (Some i) (t.on (element_go p s g gs c.args.next wide)) index in
    let thing = c.in-Thing.thing in
    let to = c.in-Thing.ensures m.room (popped (popped f) ∷ fs) t.first t.is_first in
    let there = some_of (thing_at s.heap to.0) (r.there 1 to.0 (t.first_at ∙ ap Some to.1)) in
    let go = element_at p s g gs c.args.next wide t.rest i in
    let found = find p outer m s t.below.things to.0 thing there.0 to.2 there.1 in
    let less = with_frames m (popped (popped f) ∷ fs) in
    let at = there_over m (popped (popped f) ∷ fs) thing found.entry found.there in
    let on = steps ∙ on_found p s NullReference t.first to.0 there.0 go to.1 there.1 in
    let push : Value → Option State = λ w. goes p s g gs c.args.next (w ∷ t.rest) in
    let none = c.in-Nothing-element.ensures p less found.entry there.0 t.below.keeps at found.is in
    on ∙ none s push
