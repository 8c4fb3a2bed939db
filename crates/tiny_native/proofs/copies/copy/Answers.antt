use Rattle.std.proofs.Common.{◌≡◌, inl, inr, ℕ, ◌+◌, ◌-◌, ◌<◌, ◌≤◌, Bool, true, false, sym, ap, ◌∙◌, subst, arith}
use Rattle.std.specs.Prelude.{nat_lt}
use Rattle.std.proofs.lemmas.Bool.{lt-ltb, le-ltb}
use Rattle.tiny_native.specs.Copies.{Copied}
use Rattle.tiny_native.proofs.Copying.{low_of, high_of, copied_none, copied_more, bounds_start, bounds_ordered, bounds_end}
use Rattle.tiny_native.proofs.copies.copy.Goals as goal
use Rattle.tiny_native.proofs.copies.copy.Goals.{then-backwards, else-backwards}

pub loop-k-init : goal.loop-k-init
loop-k-init c m d e cell keeps ha hb p la lb kinds =
    let back : Bool = nat_lt c.args.from.index c.args.to.index in
    copied_none c.args.ram.now m c.args.to.thing e cell d.places c.args.from.index c.args.to.index (low_of back c.args.count 0) (high_of back c.args.count 0) keeps hb (bounds_start back c.args.count)

pub loop-k-preserved : goal.loop-k-preserved
loop-k-preserved c m d e cell keeps ha hb p la lb kinds =
    let back : Bool = nat_lt c.args.from.index c.args.to.index in
    let n : ℕ = c.args.count in
    let k : ℕ = c.loop-k.k in
    let inner : k < n = c.loop-k-test.true in
    let before = c.loop-k.invariant m d e cell keeps ha hb p la lb kinds in
    let order : low_of back n k ≤ high_of back n k = bounds_ordered back n k (omega (arith, inner)) in
    elim c.if-backwards.branch [
      | then-backwards w ↦
          let below : c.args.from.index < c.args.to.index = w.if-backwards.true in
          let is : back ≡ true = lt-ltb c.args.from.index c.args.to.index below in
          let lows : (x : ℕ) → low_of back n x ≡ n - x = λ x. ap (λ b. low_of b n x) is in
          let highs : (x : ℕ) → high_of back n x ≡ n = λ x. ap (λ b. high_of b n x) is in
          let off : c.if-backwards.offset ≡ n - 1 - k = w.offset-is in
          copied_more c.loop-k.ram c.copy_place.new.ram m c.args.from.thing c.args.to.thing c.args.from.index c.args.to.index c.if-backwards.offset n d e cell
          (low_of back n k) (high_of back n k) (low_of back n (k + 1)) (high_of back n (k + 1)) ha hb p la lb (omega (arith, off, inner)) kinds order
          (inr (omega (arith, off, inner, lows k), omega (arith, off, inner, lows (k + 1)), highs (k + 1) ∙ sym (highs k)))
          (inl (omega (arith, off, inner, lows k, below)))
          before (λ m' d' e'. c.copy_place.ensures m' d' e' cell)
      | else-backwards w ↦
          let above : c.args.to.index ≤ c.args.from.index = w.if-backwards.false in
          let is : back ≡ false = le-ltb c.args.from.index c.args.to.index above in
          let lows : (x : ℕ) → low_of back n x ≡ 0 = λ x. ap (λ b. low_of b n x) is in
          let highs : (x : ℕ) → high_of back n x ≡ x = λ x. ap (λ b. high_of b n x) is in
          let off : c.if-backwards.offset ≡ k = w.offset-is in
          copied_more c.loop-k.ram c.copy_place.new.ram m c.args.from.thing c.args.to.thing c.args.from.index c.args.to.index c.if-backwards.offset n d e cell
          (low_of back n k) (high_of back n k) (low_of back n (k + 1)) (high_of back n (k + 1)) ha hb p la lb (omega (arith, off, inner)) kinds order
          (inl (off ∙ sym (highs k), lows (k + 1) ∙ sym (lows k), highs (k + 1) ∙ ap (λ x. x + 1) (sym (highs k))))
          (inr (omega (arith, off, highs k, above)))
          before (λ m' d' e'. c.copy_place.ensures m' d' e' cell)
    ]

pub returns : goal.returns
returns c m d e cell keeps ha hb p la lb kinds =
    let back : Bool = nat_lt c.args.from.index c.args.to.index in
    let end : c.loop-k.k ≡ c.args.count = omega (arith, c.loop-k-test.false, c.loop-k.auto.k-end) in
    let b : (low_of back c.args.count c.loop-k.k ≡ 0) × (high_of back c.args.count c.loop-k.k ≡ c.args.count) = bounds_end back c.args.count c.loop-k.k end in
    subst (λ high. Copied c.loop-k.ram m c.args.to.thing e cell d.places c.args.from.index c.args.to.index 0 high) b.1
    (subst (λ low. Copied c.loop-k.ram m c.args.to.thing e cell d.places c.args.from.index c.args.to.index low (high_of back c.args.count c.loop-k.k)) b.0
    (c.loop-k.invariant m d e cell keeps ha hb p la lb kinds))
