use Rattle.std.proofs.Common.{◌≡◌, ℕ, take, ap, ◌∙◌, arith}
use Rattle.bound_set.proofs.StandLaws.{sized_of, places_are}
use Rattle.bound_set.proofs.binding.places_of.Goals as goal

pub returns : goal.returns
returns c =
    let bytes = c.args.flash.now in
    let set = c.args.set.now in
    let end : c.loop-k.k ≡ set.count = omega (arith, c.loop-k-test.false, c.loop-k.auto.k-end) in
    c.loop-k.invariant ∙ ap (λ (n : ℕ). take n set.at) end ∙ places_are bytes set (sized_of bytes set c.requires c.is_sized.ensures.places c.is_sized.ensures.sizes)
