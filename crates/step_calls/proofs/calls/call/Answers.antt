use Rattle.std.proofs.Common.{sym, ap, ◌∙◌, arith, List, ℕ}
use Rattle.std.specs.Prelude.{slice_index}
use Rattle.step_ends.proofs.Going.{top_of}
use Rattle.step_calls.specs.Callees.{body_of}
use Rattle.step_calls.proofs.Begun.{have}
use Rattle.step_calls.proofs.Calling.{no_body, few, crowded, ends}
use Rattle.step_calls.proofs.calls.call.Goals as goal

pub returns-then-not-callee : goal.returns-then-not-callee
returns-then-not-callee g c = λ p outer m s f fs h hs next id b callee places.
    no_body p s h hs next id callee.of callee.is (callee.body ∙ ap body_of c.if-not-callee.true)

pub returns-in_default : goal.returns-in_default
returns-in_default g c = λ p outer m s f fs h hs next id b callee places.
    let top = top_of p outer m s f fs h hs b.ram_frames b.frames b.alike in
    let depth = top.frame.depth in
    let less = c.in_default.ensures m f fs b.keeps b.ram_frames in
    let size = ap (λ (z : List ℕ). slice_index z 0) callee.sizes in
    few p s h hs next id callee.of callee.is (omega (arith, depth, less, size))

pub returns-then-lacks_room : goal.returns-then-lacks_room
returns-then-lacks_room g c = λ p outer m s f fs h hs next id b callee places.
    let top = top_of p outer m s f fs h hs b.ram_frames b.frames b.alike in
    let kinds = g.P.Places.place c.args.places.now in
    crowded p outer m s f fs h hs b.alike b.ram_frames b.frames top.frame top.callers next id c.args.callee callee c.if-not-callee.false kinds places c.in-Some.from (c.in-Some.ensures m f fs b.keeps b.ram_frames)
    (sym (c.lacks_room.ensures m f fs b.keeps b.ram_frames) ∙ c.if-lacks_room.true)

pub returns : goal.returns
returns g c = λ p outer m s f fs h hs next id b callee places.
    let top = top_of p outer m s f fs h hs b.ram_frames b.frames b.alike in
    let kinds = g.P.Places.place c.args.places.now in
    let given = c.in-Some.ensures m f fs b.keeps b.ram_frames in
    ends p outer m s f fs h hs b.alike b.ram_frames b.frames top.frame top.callers next id c.args.callee callee c.if-not-callee.false kinds places c.in-Some.from given
    (sym (c.lacks_room.ensures m f fs b.keeps b.ram_frames) ∙ c.if-lacks_room.false)
    c.start.new.ram c.start.result (c.start.ensures m f fs b.keeps b.ram_frames (have c.args.ram.now m f fs c.args.callee c.in-Some.from b.keeps b.ram_frames given))
