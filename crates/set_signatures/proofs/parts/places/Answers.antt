use Rattle.std.proofs.Common.{◌+◌, ◌∷◌, [], ◌∙◌, ap, map}
use Rattle.std.proofs.lemmas.List.{map-append}
use Rattle.member_keys.specs.Seen.{place_seen}
use Rattle.set_signatures.specs.Meant.{places_told}
use Rattle.set_signatures.proofs.PartLaws.{behind, left, places_stop, places_go_on}
use Rattle.set_signatures.proofs.parts.places.Goals as goal

pub returns-in-None : goal.returns-in-None
returns-in-None c =
    places_stop c.args.tokens.now c.args.count c.loop.counter (map place_seen c.loop.places.items) c.loop.rest.now (places_told c.args.tokens.now c.args.count c.args.bytes.now) c.loop-test.true c.in-None.ensures c.loop.invariant

pub loop-preserved : goal.loop-preserved
loop-preserved c =
    let t = c.args.tokens.now in
    let next = left t c.args.count (c.loop.counter + 1) c.in-Some.read.rest.now in
    ap (λ ps. behind t (map place_seen ps) next) c.in_ok-push-in-Some.ensures.items
    ∙ ap (λ ps. behind t ps next) (map-append place_seen c.loop.places.items (c.in-Some.read.place ∷ []))
    ∙ places_go_on t c.args.count c.loop.counter (map place_seen c.loop.places.items) c.loop.rest.now (place_seen c.in-Some.read.place) c.in-Some.read.rest.now (places_told t c.args.count c.args.bytes.now) c.loop-test.true c.in-Some.ensures c.loop.invariant
