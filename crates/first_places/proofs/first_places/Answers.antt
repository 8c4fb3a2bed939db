use Rattle.std.proofs.Common.{◌≡◌, ap, arith, rules, length, length-append, ◌∷◌, []}
use Rattle.std.proofs.lemmas.List.{nil_from_length}
use Rattle.first_places.proofs.PlaceLaws.{behind_all, behind_more, behind_none}
use Rattle.first_places.proofs.first_places.Goals as goal

pub loop-key-init : goal.loop-key-init
loop-key-init g c = record { fewer = omega arith; finds = behind_all g.K.Ord.cmp c.args.keys.items c.new-places.result c.new-places.ensures.empty }

pub loop-key-preserved : goal.loop-key-preserved
loop-key-preserved g c =
    let front = c.pop.new.self.items in
    let key = c.in-Some.key in
    let counted : c.len.result ≡ length front = omega (arith, c.len.ensures, c.pop.new.self.ok) in
    record {
      fewer = omega (arith, ap length c.in-Some.ensures.items, length-append front (key ∷ []), c.loop-key.invariant.fewer);
      finds = behind_more g.K.Ord.cmp g.met.K.Ord.total c.loop-key.places c.insert.new.self c.args.keys.items c.loop-key.before.items front key c.len.result c.in-Some.ensures.items counted c.in_ok-insert.ensures.updates c.loop-key.invariant.finds;
    }

pub returns : goal.returns
returns g c = behind_none g.K.Ord.cmp c.loop-key.places c.args.keys.items c.loop-key.before.items (nil_from_length _ (search rules)) c.loop-key.invariant.finds
