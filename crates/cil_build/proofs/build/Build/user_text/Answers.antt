use Rattle.std.proofs.Common.{◌≡◌, ◌+◌, min, ℕ, length, arith, subst, ap, refl, ◌∙◌, List}
use Rattle.cil_build.specs.Build.{asked_of}
use Rattle.cil_layout.specs.Asked.{Asked, with_row, weight_of}
use Rattle.cil_layout.specs.Counted.{IsCounted}
use Rattle.cil_layout.specs.declared.rows.Row.TheVariants.{Literal}
use Rattle.cil_layout.proofs.Counts.{literal_weight}
use Rattle.cil_build.proofs.build.Build.user_text.Goals as goal

weight_at : (r value : Asked) (units counts : List ℕ) (weight first second third place : ℕ) → r ≡ value → IsCounted r counts weight place
    → first ≡ min (weight + length units) 4194305 → second ≡ min (first + length units) 4194305 → third ≡ min (second + 5) 4194305
    → third ≡ min (weight_of (with_row value (Literal units))) 4194305
weight_at r value units counts weight first second third place is old e f g =
    subst (λ (v : Asked). third ≡ min (weight_of (with_row v (Literal units))) 4194305) is
    (literal_weight r units counts weight third place old (g ∙ ap (λ n. min (n + 5) 4194305) (f ∙ ap (λ n. min (n + length units) 4194305) e)))

pub returns-then-weight-gt-MOST_WEIGHT-clause-full : goal.returns-then-weight-gt-MOST_WEIGHT-clause-full
returns-then-weight-gt-MOST_WEIGHT-clause-full c =
    let w = weight_at (asked_of c.self.inside) c.args.self.now c.args.units.now c.self.inside.counts c.self.inside.weight _ _ _ c.self.inside.text_place c.self.view_is c.self.invariant c.heavier.ensures c.heavier-2.ensures c.heavier-weight.ensures in
    (λ _. omega (arith, w), λ _. refl)

pub push_literal-requires-clause-heavier : goal.push_literal-requires-clause-heavier
push_literal-requires-clause-heavier c =
    weight_at (asked_of c.self.inside) c.args.self.now c.args.units.now c.self.inside.counts c.self.inside.weight _ _ _ c.self.inside.text_place c.self.view_is c.self.invariant c.heavier.ensures c.heavier-2.ensures c.heavier-weight.ensures

pub returns-in-Ok-clause-full : goal.returns-in-Ok-clause-full
returns-in-Ok-clause-full c =
    let w = weight_at (asked_of c.self.inside) c.args.self.now c.args.units.now c.self.inside.counts c.self.inside.weight _ _ _ c.self.inside.text_place c.self.view_is c.self.invariant c.heavier.ensures c.heavier-2.ensures c.heavier-weight.ensures in
    (λ e. cc, λ heavy. absurd (omega (arith, w)))

pub returns-in-Err-clause-full : goal.returns-in-Err-clause-full
returns-in-Err-clause-full c =
    let w = weight_at (asked_of c.self.inside) c.args.self.now c.args.units.now c.self.inside.counts c.self.inside.weight _ _ _ c.self.inside.text_place c.self.view_is c.self.invariant c.heavier.ensures c.heavier-2.ensures c.heavier-weight.ensures in
    (λ e. cc, λ heavy. absurd (omega (arith, w)))
