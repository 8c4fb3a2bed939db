use Rattle.std.proofs.Common.{◌≡◌, ◌+◌, ◌*◌, ◌∙◌, Some, length, true, ap, sym, arith}
use Rattle.pe_reader.proofs.Finds.{find_none_from_0, find_at_from_0}
use Rattle.file_tables.specs.Pe.{section_at, section_of, holds}
use Rattle.pe_reader.proofs.section.section_holding.Goals as goal

pub returns-then-covers-clause-first : goal.returns-then-covers-clause-first
unfolding section_of
returns-then-covers-clause-first c =
    let passes : holds (length c.args.file.now) c.args.rva c.args.len (section_at c.args.file.now (c.args.headers + 40 * c.loop-k.k)) ≡ true =
    ap (holds (length c.args.file.now) c.args.rva c.args.len) (sym c.read-section.ensures) ∙ sym c.covers.ensures.answer ∙ c.if-covers.true in
    ap Some c.read-section.ensures
    ∙ sym (find_at_from_0 (holds (length c.args.file.now) c.args.rva c.args.len) (λ k. section_at c.args.file.now (c.args.headers + 40 * k)) c.args.count c.loop-k.k c.loop-k-test.true c.loop-k.invariant passes)

pub returns-clause-first : goal.returns-clause-first
unfolding section_of
returns-clause-first c =
    sym (find_none_from_0 (holds (length c.args.file.now) c.args.rva c.args.len) (λ k. section_at c.args.file.now (c.args.headers + 40 * k)) c.args.count (λ k below. c.loop-k.invariant k (omega arith)))
