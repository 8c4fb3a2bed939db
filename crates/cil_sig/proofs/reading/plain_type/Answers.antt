use Rattle.std.proofs.Common.{◌≡◌, ltb, true, sym, refl, ◌∙◌, arith, length, drop, length-drop}
use Rattle.std.proofs.lemmas.Bool.{lt-ltb}
use Rattle.std.proofs.lemmas.List.{length-take}
use Rattle.cil_sig.specs.declared.elements.TheConstants.{MAX_RANKS}
use Rattle.cil_sig.specs.Reading.{brackets, type_at}
use Rattle.cil_sig.proofs.reading.plain_type.Goals as goal

pub returns-then-ranks-gt-MAX_RANKS : goal.returns-then-ranks-gt-MAX_RANKS
unfolding type_at
returns-then-ranks-gt-MAX_RANKS c =
    let many : ltb MAX_RANKS (brackets c.args.bytes.now) ≡ true = lt-ltb _ _ (rw (← c.bracket_count-ranks.ensures) c.if-ranks-gt-MAX_RANKS.true) in
    let left : length (drop MAX_RANKS c.args.bytes.now) ≡ c.no_case.result.left = sym (c.no_case.ensures ∙ simp (length-take, length-drop) (omega arith)) in
    rw (many, left) refl
