use Rattle.std.proofs.Common.{◌≡◌, ℕ, ◌+◌, ◌*◌, ◌<◌, ◌≤◌, ◌∙◌, Some, length, true, false, ap, sym, subst, arith, below_more}
use Rattle.file_tables.specs.Pe.{Section, section_at, section_of, holds}
use Rattle.pe_reader.specs.Seen.{seen}
use Rattle.pe_reader.proofs.Finds.{find_none_from_0, find_at_from_0}
use Rattle.pe_reader.proofs.SpanLaws.{holds_inside, holds_before, holds_behind}
use Rattle.pe_reader.proofs.span.span_around.Goals as goal
use Rattle.pe_reader.proofs.span.span_around.Goals.{then-asked-first, else-asked-first+then-behind-asked}

pub returns-else-behind-asked-clause-span : goal.returns-else-behind-asked-clause-span
unfolding section_of
returns-else-behind-asked-clause-span c =
    let len = length c.args.file.now in
    let at : ℕ → Section = λ k. section_at c.args.file.now (c.args.headers + 40 * k) in
    let here : seen c.read-section.result ≡ at c.loop-k.k = rw c.from.ensures at c.read-section.ensures in
    let passes : (rva : ℕ) → c.max.result ≤ rva → rva < c.min.result → holds len rva 1 (at c.loop-k.k) ≡ true = λ rva from below.
    ap (holds len rva 1) (sym here) ∙ holds_inside len rva (seen c.read-section.result) (omega (arith, c.max.ensures, c.from-first.ensures)) (omega (arith, c.min.ensures, c.end_of-behind.ensures)) in
    record {
      first = λ rva from below.
          find_at_from_0 (holds len rva 1) at c.args.count c.loop-k.k c.loop-k-test.true
          (λ k lower. c.loop-k.invariant.none k lower rva (omega (arith, c.max.ensures)) (omega (arith, c.min.ensures)))
          (passes rva from below)
          ∙ ap Some (sym here);
      inside = (omega (arith, c.max.ensures, c.from-first.ensures), omega (arith, c.min.ensures, c.end_of-behind.ensures), omega (arith, c.min.ensures, c.end_of-behind.ensures, c.if-behind-asked.false, c.from-asked.ensures));
    }

pub loop-k-preserved : goal.loop-k-preserved
loop-k-preserved c =
    let len = length c.args.file.now in
    let here : seen c.read-section.result ≡ section_at c.args.file.now (c.args.headers + 40 * c.loop-k.k) = rw c.from.ensures at c.read-section.ensures in
    let P : ℕ → Type 0 = λ k. (r : ℕ) → c.if-asked-first.from ≤ r → r < c.if-asked-first.end → holds len r 1 (section_at c.args.file.now (c.args.headers + 40 * k)) ≡ false in
    elim c.if-asked-first.branch [
      | then-asked-first w ↦ record {
        from = omega (arith, w.from-is, c.loop-k.invariant.from);
        end = omega (arith, w.end-is, w.min-end.ensures, w.if-asked-first.true, c.from-asked.ensures, c.loop-k.invariant.end);
        none = below_more P c.loop-k.k
            (λ k lower r from below. c.loop-k.invariant.none k lower r (omega (arith, w.from-is)) (omega (arith, w.end-is, w.min-end.ensures)))
            (λ r from below.
            ap (holds len r 1) (sym here)
            ∙ holds_before len r (seen c.read-section.result) (omega (arith, w.end-is, w.min-end.ensures, c.from-first.ensures)));
      }
      | else-asked-first+then-behind-asked w ↦ record {
        from = omega (arith, w.from-is, w.max-from.ensures, w.if-behind-asked.true, c.from-asked.ensures, c.loop-k.invariant.from);
        end = omega (arith, w.end-is, c.loop-k.invariant.end);
        none = below_more P c.loop-k.k
            (λ k lower r from below. c.loop-k.invariant.none k lower r (omega (arith, w.from-is, w.max-from.ensures)) (omega (arith, w.end-is)))
            (λ r from below.
            let past : c.end_of-behind.result ≤ r = omega (arith, w.from-is, w.max-from.ensures) in
            ap (holds len r 1) (sym here)
            ∙ holds_behind len r (seen c.read-section.result) (omega (arith, c.end_of-behind.ensures)) (omega (arith, c.end_of-behind.ensures)));
      }
    ]

pub returns-clause-span : goal.returns-clause-span
unfolding section_of
returns-clause-span c = record {
  first = λ rva from below.
      find_none_from_0 (holds (length c.args.file.now) rva 1) (λ k. section_at c.args.file.now (c.args.headers + 40 * k)) c.args.count
      (λ k lower. c.loop-k.invariant.none k (omega (arith, c.loop-k-test.false)) rva from below);
  inside = tt;
}
