use Rattle.std.proofs.Common.{◌≡◌, ◌<◌, sym, ap, ◌∙◌, subst, arith}
use Rattle.std.specs.Prelude.{sum}
use Rattle.kept_values.specs.Keeping.{kept_as}
use Rattle.kept_values.specs.declared.keeping.PlaceKind.{PlaceKind}
use Rattle.tiny_except.proofs.Tops.{top_is}
use Rattle.step_ends.proofs.Going.{top_of}
use Rattle.step_calls.specs.Arguments.{held_at}
use Rattle.step_calls.proofs.Handing.{deep}
use Rattle.step_virtual.specs.declared.receiving.Receiver.{Receiver}
use Rattle.step_virtual.specs.Receivers.{Receives}
use Rattle.step_virtual.proofs.Looking.{few, no_this, lacks, received}
use Rattle.step_virtual.proofs.receiving.find_receiver.Goals as goal

pub returns-then-n-eq0 : goal.returns-then-n-eq0
returns-then-n-eq0 g c = λ p outer m s f fs h hs next id of b own places.
    let top = top_of p outer m s f fs h hs b.ram_frames b.frames b.alike in
    no_this p outer m s f fs h hs top.frame next id of c.args.n own c.if-n-eq0.true

pub returns-in_default : goal.returns-in_default
returns-in_default g c = λ p outer m s f fs h hs next id of b own places.
    let top = top_of p outer m s f fs h hs b.ram_frames b.frames b.alike in
    few p outer m s f fs h hs top.frame next id of c.args.n own (c.in_default.ensures m f fs b.keeps b.ram_frames)

pub returns-then-not-are_kept : goal.returns-then-not-are_kept
returns-then-not-are_kept g c = λ p outer m s f fs h hs next id of b own places.
    let top = top_of p outer m s f fs h hs b.ram_frames b.frames b.alike in
    let given = c.in-Some.ensures m f fs b.keeps b.ram_frames in
    lacks p outer m s f fs h hs top.frame next id of c.args.n own (g.P.Places.place c.args.places.now) places c.in-Some.from given (c.if-not-are_kept.ensures m f fs b.keeps b.ram_frames given)

pub returns : goal.returns
returns g c = λ p outer m s f fs h hs next id of b own places.
    let top = top_of p outer m s f fs h hs b.ram_frames b.frames b.alike in
    let from = c.in-Some.from in
    let given = c.in-Some.ensures m f fs b.keeps b.ram_frames in
    let none = c.if-n-eq0.false in
    let some : 0 < c.args.n = omega (arith, none) in
    let d = deep c.args.ram.now m f fs b.keeps b.ram_frames in
    let most = d.most in
    let inside = d.inside in
    let first = given.first in
    let enough = given.enough in
    let within : from.first < sum f.sizes = omega (arith, most, inside, first, enough, some) in
    let is = top_is m from.frame f fs b.ram_frames given.frame in
    let kinds = g.P.Places.place c.args.places.now in
    let held = c.place-2.ensures m f b.keeps is within in
    let kept : c.keep.result ≡ kept_as (kinds 0) (held_at f from.first) =
    c.keep.ensures.value ∙ ap (λ (z : PlaceKind). kept_as z c.place-2.result) c.place.ensures ∙ ap (kept_as (kinds 0)) held in
    subst (λ (z : Receiver). Receives p m s f h hs next id of c.args.n z) (sym c.this_of.ensures)
    (received p outer m s f fs h hs top.frame next id of c.args.n own kinds places from given some (c.if-not-are_kept.ensures m f fs b.keeps b.ram_frames given) c.keep.result kept)
