use Rattle.std.proofs.Common.{◌≡◌, ◌∙◌, sym, ap, arith, rules, length, false, replicate}
use Rattle.std.proofs.lemmas.List.{nil_from_length}
use Rattle.repeated_keys.proofs.RepeatLaws.{told_none, told_more, told_all, inside}
use Rattle.repeated_keys.proofs.repeated.Goals as goal

pub loop-key-init : goal.loop-key-init
loop-key-init g c =
    let counted : c.len-count.result ≡ length c.args.keys.items = omega (arith, c.len-count.ensures, c.args.keys.ok) in
    told_none g.K.Ord.cmp c.args.keys.items c.new-nearest.result c.in_ok-repeats.repeats.items c.new-nearest.ensures.empty (c.in_ok-repeats.ensures ∙ ap (λ n. replicate n false) counted)

pub mark-requires : goal.mark-requires
mark-requires g c = λ at is. inside g.K.Ord.cmp c.args.keys.items c.loop-key.before.items c.loop-key.nearest c.loop-key.repeats.items c.in-Some.key at (sym c.in_ok-later.ensures.old ∙ is) c.loop-key.invariant

pub loop-key-preserved : goal.loop-key-preserved
loop-key-preserved g c =
    let front = c.pop.new.self.items in
    let counted : c.len-place.result ≡ length front = omega (arith, c.len-place.ensures, c.pop.new.self.ok) in
    told_more g.K.Ord.cmp g.met.K.Ord.total c.args.keys.items c.loop-key.before.items front c.in-Some.key c.loop-key.nearest _ c.loop-key.repeats.items _ c.len-place.result _ c.in-Some.ensures.items counted c.in_ok-later.ensures.old c.in_ok-later.ensures.updates c.mark.ensures.bits c.mark.ensures.size c.loop-key.invariant

pub returns : goal.returns
returns g c = told_all g.K.Ord.cmp c.args.keys.items c.loop-key.before.items c.loop-key.nearest c.loop-key.repeats.items (nil_from_length _ (search rules)) c.loop-key.invariant
