-- A method's instructions by its listing.
use Rattle.std.proofs.Common.{◌≡◌, ℕ, Bool, true, false, List, Some, Ok, refl, sym, ap, subst, ◌∙◌}
use Rattle.cil_opcodes.specs.declared.shape.Row.{Row}
use Rattle.cil_opcodes.specs.Rows.{row_of}
use Rattle.cil_code.specs.declared.instructions.Instr.{Instr}
use Rattle.cil_code.specs.Bodies.{BodyPart}
use Rattle.cil_code.specs.Instructions.{instruction_at}
use Rattle.cil_code.specs.Walk.{starts_of}
use Rattle.cil_code.proofs.Parts.{parts}
use Rattle.code_rules.specs.Pass.{Step}
use Rattle.verdict_rules.specs.World.{World, world_of}
use Rattle.code_places.specs.Among.{is_among}
use Rattle.code_places.specs.Places.{all_targets}
use Rattle.code_places.proofs.WalkLaws.{start_stands}
use Rattle.forward_pass.specs.Seen.{is_target, step_at}
use Rattle.pass_steps.specs.Listed.{IsTold, steps_here}
use Rattle.pass_steps.proofs.StepLaws.{all_lead, nothing, told}
use Rattle.method_pass.specs.declared.method.MethodSteps.{MethodSteps}
use Rattle.method_pass.specs.Steps.{AreSteps}

-- the row of an instruction that stands
pub row_there : (code : List ℕ) (at : ℕ) (instr : Instr) → instruction_at code at ≡ Ok instr → (row : Row) × (row_of instr.op ≡ Some row)
row_there code at instr e = let p = parts code at instr e in (p.row, ap (λ (i : Instr). row_of i.op) p.made ∙ p.listed)

module _ (s : MethodSteps) (listed : List Step) (a : AreSteps s listed) where
  abbrev w : World
  w = world_of s.world.now

  abbrev b : BodyPart
  b = s.listing.now

  pub targeted_here : (at : ℕ) → is_target listed at ≡ is_among (all_targets b.code) at
  targeted_here at = ap (λ ls. is_target ls at) a.listed_is ∙ all_lead w s.file a.part a.method b at

  module _ (at : ℕ) (t : Step) (found : step_at listed at ≡ Some t) where
    found_here : step_at (steps_here w s.file a.part a.method b) at ≡ Some t
    found_here = subst (λ ls. step_at ls at ≡ Some t) a.listed_is found

    pub starts_here : is_among (starts_of b.code) at ≡ true
    starts_here = by (is_among (starts_of b.code) at) refl
      where
        by : (r : Bool) → is_among (starts_of b.code) at ≡ r → is_among (starts_of b.code) at ≡ true
        by true e = e
        by false e = absurd (cc (sym found_here ∙ nothing w s.file a.part a.method b at e))

    pub told_here : (instr : Instr) (row : Row) → instruction_at b.code at ≡ Ok instr → row_of instr.op ≡ Some row → IsTold w s.file a.part a.method b (record { at = at; instr = instr }) row t
    told_here instr row stands is = told w s.file a.part a.method b at instr row t found_here stands is

    pub some_told : (instr : Instr) × (row : Row) × (instruction_at b.code at ≡ Ok instr) × (row_of instr.op ≡ Some row) × IsTold w s.file a.part a.method b (record { at = at; instr = instr }) row t
    some_told =
        let st = start_stands b.code at starts_here in
        let r = row_there b.code at st.instr st.stands in
        (st.instr, r.0, st.stands, r.1, told_here st.instr r.0 st.stands r.1)
