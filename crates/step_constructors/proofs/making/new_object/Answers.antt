use Rattle.std.proofs.Common.{◌≡◌, ◌+◌, ◌-◌, ◌%◌, ◌<◌, true, false, sym, ap, ◌∙◌, subst, arith}
use Rattle.std.specs.Prelude.{slice_index}
use Rattle.std.proofs.lemmas.Bool.{leb-false}
use Rattle.tiny_ram.specs.Things.{Entry, fresh, object_shape}
use Rattle.tiny_ram.specs.Memory.{with_entry}
use Rattle.tiny_ram.specs.Region.{Keeps}
use Rattle.tiny_ram.specs.declared.memory.Ram.{Ram}
use Rattle.tiny_except.proofs.Tops.{top_is}
use Rattle.step_ends.proofs.Going.{top_of}
use Rattle.step_calls.specs.Arguments.{IsGiven}
use Rattle.step_calls.specs.Starts.{lacks_room_in}
use Rattle.step_calls.proofs.Handing.{deep}
use Rattle.step_constructors.proofs.Placing.{have}
use Rattle.step_constructors.proofs.Constructing.{no_body, no_arguments, few, no_place, crowded, ends, without}
use Rattle.step_constructors.proofs.making.new_object.Goals as goal

pub returns-then-not-constructor : goal.returns-then-not-constructor
returns-then-not-constructor g c = λ p outer m s f fs h hs next class id b mk callee places.
    let top = top_of p outer m s f fs h hs b.ram_frames b.frames b.alike in
    no_body p outer m s f fs h hs b.alike b.ram_frames b.frames top.frame top.callers class id c.args.made mk c.args.constructor callee c.if-not-constructor.true

pub returns-then-n-eq0 : goal.returns-then-n-eq0
returns-then-n-eq0 g c = λ p outer m s f fs h hs next class id b mk callee places.
    let top = top_of p outer m s f fs h hs b.ram_frames b.frames b.alike in
    no_arguments p outer m s f fs h hs b.alike b.ram_frames b.frames top.frame top.callers class id c.args.made mk c.args.constructor callee c.if-n-eq0.true

pub returns-in_default : goal.returns-in_default
returns-in_default g c = λ p outer m s f fs h hs next class id b mk callee places.
    let top = top_of p outer m s f fs h hs b.ram_frames b.frames b.alike in
    few p outer m s f fs h hs b.alike b.ram_frames b.frames top.frame top.callers class id c.args.made mk c.args.constructor callee (c.in_default.ensures m f fs b.keeps b.ram_frames)

pub returns-then-lacks_room : goal.returns-then-lacks_room
returns-then-lacks_room g c = λ p outer m s f fs h hs next class id b mk callee places.
    let top = top_of p outer m s f fs h hs b.ram_frames b.frames b.alike in
    let none = c.if-n-eq0.false in
    let some : 0 < slice_index c.args.constructor.sizes 0 = omega (arith, none) in
    no_place p outer m s f fs h hs b.alike b.ram_frames b.frames top.frame top.callers class id c.args.made mk c.args.constructor callee c.if-not-constructor.false some (g.P.Places.place c.args.places.now) places c.in-Some.from (c.in-Some.ensures m f fs b.keeps b.ram_frames)
    (sym (c.lacks_room.ensures m f fs b.keeps b.ram_frames) ∙ c.if-lacks_room.true)

pub returns-then-lacks_room-2 : goal.returns-then-lacks_room-2
returns-then-lacks_room-2 g c = λ p outer m s f fs h hs next class id b mk callee places.
    let top = top_of p outer m s f fs h hs b.ram_frames b.frames b.alike in
    let none = c.if-n-eq0.false in
    let some : 0 < slice_index c.args.constructor.sizes 0 = omega (arith, none) in
    let from = c.in-Some.from in
    let one : lacks_room_in f true from.below ≡ false = sym (c.lacks_room.ensures m f fs b.keeps b.ram_frames) ∙ c.if-lacks_room.false in
    let low = leb-false (slice_index f.sizes 2) from.below one in
    let d = deep c.args.ram.now m f fs b.keeps b.ram_frames in
    let few = d.few in
    let inside = d.inside in
    let at : (from.below + 1) % 4294967296 ≡ from.below + 1 = omega (arith, low, few, inside) in
    crowded p outer m s f fs h hs b.alike b.ram_frames b.frames top.frame top.callers class id c.args.made mk c.args.constructor callee c.if-not-constructor.false some (g.P.Places.place c.args.places.now) places from (c.in-Some.ensures m f fs b.keeps b.ram_frames)
    (sym (ap (lacks_room_in f c.args.constructor.gives) at) ∙ sym (c.lacks_room-2.ensures m f fs b.keeps b.ram_frames) ∙ c.if-lacks_room-2.true)

pub returns-in-Err : goal.returns-in-Err
returns-in-Err g c = λ p outer m s f fs h hs next class id b mk callee places.
    let top = top_of p outer m s f fs h hs b.ram_frames b.frames b.alike in
    let none = c.if-n-eq0.false in
    let some : 0 < slice_index c.args.constructor.sizes 0 = omega (arith, none) in
    let from = c.in-Some.from in
    let given = c.in-Some.ensures m f fs b.keeps b.ram_frames in
    let one : lacks_room_in f true from.below ≡ false = sym (c.lacks_room.ensures m f fs b.keeps b.ram_frames) ∙ c.if-lacks_room.false in
    let low = leb-false (slice_index f.sizes 2) from.below one in
    let d = deep c.args.ram.now m f fs b.keeps b.ram_frames in
    let few = d.few in
    let inside = d.inside in
    let at : (from.below + 1) % 4294967296 ≡ from.below + 1 = omega (arith, low, few, inside) in
    let two : lacks_room_in f c.args.constructor.gives (from.below + 1) ≡ false = sym (ap (lacks_room_in f c.args.constructor.gives) at) ∙ sym (c.lacks_room-2.ensures m f fs b.keeps b.ram_frames) ∙ c.if-lacks_room-2.false in
    let spent = c.in-Err.ensures m b.keeps in
    let same : Keeps c.object.new.self m = subst (λ (r : Ram). Keeps r m) (sym spent.1) b.keeps in
    let is = top_is m from.frame f fs b.ram_frames given.frame in
    let lies = have c.args.ram.now m f fs c.args.constructor from b.keeps b.ram_frames given 1 in
    without p outer m s f fs h hs b.alike b.ram_frames b.frames top.frame top.callers class id c.args.made mk c.args.constructor callee c.if-not-constructor.false some (g.P.Places.place c.args.places.now) places from given one two c.object.new.self c.without_cells.result
    (c.without_cells.ensures m f same is lies.inside) spent.0

pub returns-in-Ok : goal.returns-in-Ok
returns-in-Ok g c = λ p outer m s f fs h hs next class id b mk callee places.
    let top = top_of p outer m s f fs h hs b.ram_frames b.frames b.alike in
    let none = c.if-n-eq0.false in
    let some : 0 < slice_index c.args.constructor.sizes 0 = omega (arith, none) in
    let from = c.in-Some.from in
    let given = c.in-Some.ensures m f fs b.keeps b.ram_frames in
    let one : lacks_room_in f true from.below ≡ false = sym (c.lacks_room.ensures m f fs b.keeps b.ram_frames) ∙ c.if-lacks_room.false in
    let low : from.below < slice_index f.sizes 2 = leb-false (slice_index f.sizes 2) from.below one in
    let d = deep c.args.ram.now m f fs b.keeps b.ram_frames in
    let few = d.few in
    let inside = d.inside in
    let at : (from.below + 1) % 4294967296 ≡ from.below + 1 = omega (arith, low, few, inside) in
    let two : lacks_room_in f c.args.constructor.gives (from.below + 1) ≡ false = sym (ap (lacks_room_in f c.args.constructor.gives) at) ∙ sym (c.lacks_room-2.ensures m f fs b.keeps b.ram_frames) ∙ c.if-lacks_room-2.false in
    let made = c.in-Ok.ensures m b.keeps in
    let entry : Entry = fresh (object_shape c.args.made.class c.args.made.fields) in
    let again : IsGiven (with_entry m entry) f (slice_index c.args.constructor.sizes 0 - 1) from = record { frame = given.frame; first = given.first; below = given.below; enough = given.enough; whole = given.whole } in
    ends p outer m s f fs h hs b.alike b.ram_frames b.frames top.frame top.callers class id c.args.made mk c.args.constructor callee c.if-not-constructor.false some (g.P.Places.place c.args.places.now) places from given one two c.construct.new.ram c.in-Ok.object made.1 c.construct.result
    (c.construct.ensures (with_entry m entry) f fs made.2 b.ram_frames again some low)
