use Rattle.std.proofs.Common.{◌≡◌, ◌+◌, ◌-◌, subst, arith}
use Rattle.cil_tables.specs.Texts.{EndsChar}
use Rattle.cil_tables.proofs.CharLaws.{over_char, no_char}
use Rattle.cil_tables.proofs.text_index.next_char.Goals as goal

pub returns-then-is_char : goal.returns-then-is_char
returns-then-is_char c = record {
  later = omega arith;
  near = omega arith;
  same = over_char c.args.heap.now c.args.at (c.args.at + c.loop-n.n + 1) (omega arith) c.if-is_char.ensures;
}

pub returns : goal.returns
returns c =
    no_char c.args.heap.now c.args.at c.requires.start
    (λ n least most char.
    let same : c.args.at + n ≡ c.args.at + (n - 1) + 1 = omega arith in
    c.loop-n.invariant (n - 1) (omega arith) (subst (λ k. EndsChar c.args.heap.now c.args.at k) same char))
