use Rattle.std.proofs.Common.{◌≡◌, sym, ◌+◌, [], ◌∷◌, length-append, arith, subst, refl}
use Rattle.std.proofs.lemmas.Option.{slice_get_within}
use Rattle.std.specs.Prelude.{MatchOption}
use Rattle.std.specs.Vec.{vec_len}
use Rattle.ways.specs.declared.walk.Mark.TheVariants as mark
use Rattle.ways.specs.Walk.{AreMet, AreEnded}
use Rattle.ways.proofs.MoveLaws.{last_fits, met_path, room, went_down, went_up, gave_up, popped, none_left}
use Rattle.ways.proofs.walk.go_on.Goals as goal

pub look-requires-clause-inside : goal.look-requires-clause-inside
look-requires-clause-inside g c = (last_fits (g.W.Ways.next c.args.ways.now) c.args.walk.now.marks.items c.args.walk.now.known c.args.walk.now.path.items c.args.place c.requires.walks).met.0

pub look-requires-clause-taken : goal.look-requires-clause-taken
look-requires-clause-taken g c = (last_fits (g.W.Ways.next c.args.ways.now) c.args.walk.now.marks.items c.args.walk.now.known c.args.walk.now.path.items c.args.place c.requires.walks).edges

pub index_mut-requires : goal.index_mut-requires
index_mut-requires g c = let inside = slice_get_within c.args.walk.now.marks.items c.in-Fresh.node mark.Unknown c.in-Fresh.ensures.1 in omega (arith, inside, c.args.walk.now.marks.ok)

pub leave-requires : goal.leave-requires
leave-requires g c = subst (λ path. AreMet c.args.walk.now.marks.items path) (sym c.in_ok-push-in-Circle.ensures.items) (met_path (g.W.Ways.next c.args.ways.now) c.args.walk.now.marks.items c.args.walk.now.known c.args.walk.now.path.items c.args.place c.requires.walks)

pub overflow_add-height : goal.overflow_add-height
overflow_add-height g c =
    let walk = c.requires.walks in
    let fits = last_fits (g.W.Ways.next c.args.ways.now) c.args.walk.now.marks.items c.args.walk.now.known c.args.walk.now.path.items c.args.place walk in
    let seen = c.in-Done.ensures c.args.walk.now.known walk.marked fits.taken fits.small in
    let small = room (g.W.Ways.next c.args.ways.now) c.args.walk.now.marks.items c.args.walk.now.known c.args.walk.now.path.items c.args.place walk c.in-Done.height seen.0 seen.1 in
    omega (arith, small, c.requires.few)

pub index_mut-requires-in-Done : goal.index_mut-requires-in-Done
index_mut-requires-in-Done g c = let fits = last_fits (g.W.Ways.next c.args.ways.now) c.args.walk.now.marks.items c.args.walk.now.known c.args.walk.now.path.items c.args.place c.requires.walks in omega (arith, fits.met.0, c.args.walk.now.marks.ok)

pub overflow_add-walk : goal.overflow_add-walk
overflow_add-walk g c = omega (arith, c.requires.walks.counted, c.requires.few, length-append c.args.walk.now.path.items (c.args.place ∷ []))

pub returns-in_ok-push-in-Fresh : goal.returns-in_ok-push-in-Fresh
returns-in_ok-push-in-Fresh g c =
    let walk = c.requires.walks in
    let fits = last_fits (g.W.Ways.next c.args.ways.now) c.args.walk.now.marks.items c.args.walk.now.known c.args.walk.now.path.items c.args.place walk in
    let seen = c.in-Fresh.ensures in
    let taken = seen.2 c.args.walk.now.known walk.marked fits.taken fits.small in
    went_down (g.W.Ways.next c.args.ways.now) c.args.walk.now _ c.args.place walk c.in-Fresh.edge c.in-Fresh.node c.in-Fresh.height taken.0 taken.1 seen.0 seen.1 refl c.in_ok-push-in-Fresh.ensures.items refl

pub returns-in_ok-push-in-Circle : goal.returns-in_ok-push-in-Circle
returns-in_ok-push-in-Circle g c =
    gave_up (g.W.Ways.next c.args.ways.now) c.args.walk.now c.leave.new.walk c.args.place c.requires.walks c.in-Circle.ensures c.leave.ensures.size
    (subst (λ path. AreEnded path c.args.walk.now.marks.items c.leave.new.walk.marks.items) c.in_ok-push-in-Circle.ensures.items c.leave.ensures.marks)
    c.leave.ensures.count c.leave.ensures.path c.leave.ensures.known

pub returns-in-Done : goal.returns-in-Done
returns-in-Done g c =
    let walk = c.requires.walks in
    let fits = last_fits (g.W.Ways.next c.args.ways.now) c.args.walk.now.marks.items c.args.walk.now.known c.args.walk.now.path.items c.args.place walk in
    let seen = c.in-Done.ensures c.args.walk.now.known walk.marked fits.taken fits.small in
    went_up (g.W.Ways.next c.args.ways.now) c.args.walk.now _ c.args.place walk c.pop.result c.in-Done.height seen.0 seen.1 refl (popped c.args.walk.now.path.items c.pop.new.self.items c.pop.result c.pop.ensures.items) (λ e. none_left c.pop.new.self.items (let both = subst (λ o. MatchOption o ((vec_len c.args.walk.now.path ≡ 0) × (vec_len c.pop.new.self ≡ 0)) (λ _. vec_len c.pop.new.self + 1 ≡ vec_len c.args.walk.now.path)) e c.pop.ensures.cases in omega (arith, both.1, c.pop.new.self.ok))) refl
