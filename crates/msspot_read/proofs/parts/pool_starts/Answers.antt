use Rattle.std.proofs.Common.{◌≡◌, ◌+◌, ◌*◌, ◌<◌, ◌∙◌, refl, sym, ap, length-set, get_or, arith}
use Rattle.msspot_read.specs.Places.{lengths_at, pool_start}
use Rattle.msspot_read.proofs.PartLaws.{word_is, sum_more, filled_more}
use Rattle.msspot_read.proofs.parts.pool_starts.Goals as goal

pub loop-k-init : goal.loop-k-init
loop-k-init c = record {
  len = refl;
  at = omega (arith, c.requires.first);
  small = omega arith;
  starts = λ j h. let z : j ≡ 0 = omega arith in rw z (omega (arith, c.requires.first));
}

pub overflow_add-at : goal.overflow_add-at
overflow_add-at c = omega (arith, c.loop-k.invariant.small, c.requires.small)

pub loop-k-preserved : goal.loop-k-preserved
loop-k-preserved c =
    let bytes = c.args.bytes.now in
    let k = c.loop-k.k in
    let h : k < 4 = c.loop-k-test.true in
    let inv = c.loop-k.invariant in
    let size : c.from-at.result ≡ get_or (lengths_at bytes) k 0 = c.from-at.ensures ∙ c.u16_at-size.ensures ∙ sym (word_is 4 46 k (46 + 2 * k) bytes h refl) in
    let more = sum_more (lengths_at bytes) k h in
    let next : c.loop-k.at + c.from-at.result ≡ pool_start bytes (k + 1) = omega (arith, more, size, inv.at) in
    record {
      len = length-set c.loop-k.starts (k + 1) (c.loop-k.at + c.from-at.result) ∙ inv.len;
      at = next;
      small = omega (arith, inv.small);
      starts = filled_more (pool_start bytes) c.loop-k.starts (k + 1) (c.loop-k.at + c.from-at.result) 0 (omega (arith, inv.len)) next inv.starts;
    }

pub returns-clause-starts : goal.returns-clause-starts
returns-clause-starts c = λ k h. c.loop-k.invariant.starts k (omega arith)

pub returns-clause-small : goal.returns-clause-small
returns-clause-small c =
    let four : c.loop-k.k ≡ 4 = omega arith in
    let end : c.loop-k.at ≡ pool_start c.args.bytes.now 4 = c.loop-k.invariant.at ∙ ap (pool_start c.args.bytes.now) four in
    omega (arith, end, c.loop-k.invariant.small, c.requires.small)
