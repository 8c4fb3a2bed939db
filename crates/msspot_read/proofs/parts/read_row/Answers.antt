use Rattle.std.proofs.Common.{◌+◌, ◌*◌, ◌<◌, ◌≤◌, ◌≢◌, ◌∙◌, ⊎_elim, refl, sym, length-set, get_or, get_or-set_other, arith}
use Rattle.std.proofs.lemmas.Bool.{cases_lt}
use Rattle.std.proofs.lemmas.List.{get_or_past}
use Rattle.little_endian.specs.Numbers.{number}
use Rattle.msspot_read.specs.Places.{words}
use Rattle.msspot_read.proofs.PartLaws.{word_is, length_listed, filled_more, all_zeros}
use Rattle.msspot_read.proofs.parts.read_row.Goals as goal

pub loop-k-init : goal.loop-k-init
loop-k-init c = record {
  len = refl;
  read = λ j h. absurd (omega arith);
  zeros = λ j h. all_zeros 11 j;
}

pub loop-k-preserved : goal.loop-k-preserved
loop-k-preserved c =
    let k = c.loop-k.k in
    let inv = c.loop-k.invariant in
    record {
      len = length-set c.loop-k.columns k c.u16_at-number.result ∙ inv.len;
      read = filled_more (λ j. get_or (words c.args.width c.args.at c.args.bytes.now) j 0) c.loop-k.columns k c.u16_at-number.result 0 (omega (arith, inv.len, c.requires.few, c.loop-k-test.true)) (c.u16_at-number.ensures ∙ sym (word_is c.args.width c.args.at k (c.args.at + 2 * k) c.args.bytes.now c.loop-k-test.true refl)) inv.read;
      zeros = λ j le. let other : j ≢ k = omega arith in get_or-set_other c.loop-k.columns k j c.u16_at-number.result 0 other ∙ inv.zeros j (omega arith);
    }

pub returns : goal.returns
returns c j =
    ⊎_elim
    (λ (read : j < c.loop-k.k). c.loop-k.invariant.read j read)
    (λ (past : c.loop-k.k ≤ j).
    c.loop-k.invariant.zeros j past
    ∙ sym (get_or_past (words c.args.width c.args.at c.args.bytes.now) j 0 (omega (arith, length_listed 2 (number 2) c.args.width c.args.at c.args.bytes.now, c.loop-k-test.false))))
    (cases_lt j c.loop-k.k)
