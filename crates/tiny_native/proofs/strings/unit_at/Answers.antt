use Rattle.std.proofs.Common.{◌≡◌, ◌<◌, ◌∷◌, ℕ, false, length, sym, ap, ◌∙◌, subst, arith, rules, w32}
use Rattle.std.specs.Prelude.{unsigned_abs}
use Rattle.std.specs.Int.{cast_signed, cast_unsigned}
use Rattle.std.proofs.lemmas.List.{length-map}
use Rattle.machine.specs.Numbers.{is_negative}
use Rattle.machine.specs.Throw.{goes}
use Rattle.tiny_ops.specs.Operators.{stack_value}
use Rattle.tiny_native.specs.Seen.{text_entry, unit_place}
use Rattle.tiny_native.specs.Ends.{Same}
use Rattle.tiny_native.proofs.Writes.{unit_shown}
use Rattle.tiny_native.proofs.PieceLemmas.{unit_there, unit_past}
use Rattle.tiny_native.proofs.strings.unit_at.Goals as goal

pub returns-then-index-count : goal.returns-then-index-count
returns-then-index-count c s units keeps is count =
    let k : ℕ = c.unsigned_abs-index.result in
    let back : cast_signed w32 (cast_unsigned w32 c.args.index) ≡ c.args.index = search rules in
    let neg : is_negative c.args.index ≡ false = subst (λ z. is_negative z ≡ false) back c.if-index-lt0.false in
    let abs : k ≡ unsigned_abs c.args.index = c.unsigned_abs-index.ensures.value ∙ ap unsigned_abs back in
    let inner : k < length units = omega (arith, c.if-index-count.true, count) in
    let read = c.read.ensures s.memory (text_entry units) keeps is (omega (arith, c.if-index-count.true, count, length-map units unit_place)) ∙ unit_shown units k inner in
    record {
      change = Same;
      keeps = keeps;
      outcome = unit_there s c.args.index units k neg abs inner ∙ ap (λ v. goes s.program s.state s.frame s.callers s.next (stack_value s.leads v ∷ s.rest)) (sym read);
    }

pub returns-else-index-count : goal.returns-else-index-count
returns-else-index-count c s units keeps is count =
    let k : ℕ = c.unsigned_abs-index.result in
    let back : cast_signed w32 (cast_unsigned w32 c.args.index) ≡ c.args.index = search rules in
    let neg : is_negative c.args.index ≡ false = subst (λ z. is_negative z ≡ false) back c.if-index-lt0.false in
    let abs : k ≡ unsigned_abs c.args.index = c.unsigned_abs-index.ensures.value ∙ ap unsigned_abs back in
    (keeps, unit_past s c.args.index units k neg abs (omega (arith, c.if-index-count.false, count)))
