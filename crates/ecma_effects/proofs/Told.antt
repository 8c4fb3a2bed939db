-- What the effect of an instruction tells of the step.
use Rattle.std.proofs.Common.{◌≡◌, ℕ, Bool, true, false, ◌||◌, List, [], ◌∷◌, ◌++◌, map, reverse, refl, sym, ap, ◌∙◌}
use Rattle.std.specs.Prelude.{Result, Ok, Err}
use Rattle.std.proofs.lemmas.List.{reverse-append}
use Rattle.std.proofs.lemmas.List.Folds.{list_any-append}
use Rattle.ecma_types.specs.declared.stack.StackType.{StackType as WorldType}
use Rattle.ecma_types.specs.declared.stack.StackType.TheVariants as world
use Rattle.cil_code.specs.declared.instructions.Instr.{Instr}
use Rattle.machine.specs.Data.{CliType}
use Rattle.machine.specs.Program.{Method}
use Rattle.machine_typed.specs.Typing.{StackType}
use Rattle.classes.specs.Code.{MethodCode, CodeLine, Sources}
use Rattle.classes.specs.Listed.{instruction_of, program_of}
use Rattle.code_rules.specs.Verdict.{numbered, stands, unless, act_of}
use Rattle.code_rules.specs.Verdict.{operand_fits as operand_fits_in}
use Rattle.place_types.specs.Types.{stack_of, stack_up, stack_down, from_top, in_world}
use Rattle.place_types.proofs.RowLaws.{stacks_come}
use Rattle.verify_ops.specs.declared.facts.Facts.{Facts}
use Rattle.verify_ops.specs.Facts.{instruction_by}
use Rattle.verify_ops.specs.Effects.{lowest, effect_by, effect_of, shape_of, is_never}
use Rattle.ecma_effects.specs.Known.{IsKnown, IsWhole}
use Rattle.ecma_effects.specs.Steps.{FitsUp, with_rules, step_effect, effect_up, rules_of, step_rules, StepLeaves, HasRows}
use Rattle.ecma_effects.proofs.Rows.{has_never, all_never_up}
use Rattle.ecma_effects.proofs.Whole.{effect_same}

-- ---- the step's types and rules

left_by : (a b : Bool) (act : Result (List StackType) (List ℕ)) (us : List StackType) → with_rules (unless a 46 ++ unless b 47) act ≡ Ok us → (a ≡ true) × (b ≡ true) × (act ≡ Ok us)
left_by true true (Ok vs) us e =
    let same : vs ≡ us = cc e in
    (refl, refl, ap Ok same)
left_by true true (Err rules) us e = absurd (cc e)
left_by true false (Ok vs) us e = absurd (cc e)
left_by true false (Err rules) us e = absurd (cc e)
left_by false b (Ok vs) us e = absurd (cc e)
left_by false b (Err rules) us e = absurd (cc e)

broken_by : (a b : Bool) (act : Result (List StackType) (List ℕ)) (rule : ℕ) → with_rules (unless a 46 ++ unless b 47) act ≡ Err rule → lowest (unless a 46 ++ (unless b 47 ++ rules_of act)) ≡ rule
broken_by true true (Ok vs) rule e = absurd (cc e)
broken_by true true (Err rules) rule e = cc e
broken_by true false (Ok vs) rule e = cc e
broken_by true false (Err rules) rule e = cc e
broken_by false true (Ok vs) rule e = cc e
broken_by false true (Err rules) rule e = cc e
broken_by false false (Ok vs) rule e = cc e
broken_by false false (Err rules) rule e = cc e

-- ---- with rows from 1

up_left : (r : Result (List StackType) ℕ) (vs : List StackType) → effect_up r ≡ Ok vs → (us : List StackType) × (r ≡ Ok us) × (map stack_up us ≡ vs)
up_left (Ok us) vs e = (us, refl, cc e)
up_left (Err rule) vs e = absurd (cc e)

up_broken : (r : Result (List StackType) ℕ) (rule : ℕ) → effect_up r ≡ Err rule → r ≡ Err rule
up_broken (Ok us) rule e = absurd (cc e)
up_broken (Err n) rule e =
    let same : n ≡ rule = cc e in
    ap Err same

-- ---- a world's stack

one_has : (t : WorldType) → is_never (stack_of t) ≡ false
one_has world.I = refl
one_has world.L = refl
one_has world.Null = refl
one_has (world.O t) = refl
one_has (world.Pointer t) = refl
one_has world.H = refl

all_have : (ts : List WorldType) → has_never (map stack_of ts) ≡ false
all_have [] = refl
all_have (t ∷ ts) = ap (λ b. b || has_never (map stack_of ts)) (one_has t) ∙ all_have ts

or_false : (a b : Bool) → a ≡ false → b ≡ false → (a || b) ≡ false
or_false a b h k = ap (λ c. c || b) h ∙ k

or_left : (a b : Bool) → (a || b) ≡ false → a ≡ false
or_left false b h = refl
or_left true b h = h

or_right : (a b : Bool) → (a || b) ≡ false → b ≡ false
or_right false b h = h
or_right true b h = absurd (cc h)

turned : (ts : List StackType) → has_never ts ≡ false → has_never (reverse ts) ≡ false
turned [] h = refl
turned (t ∷ ts) h =
    ap has_never (reverse-append (t ∷ []) ts)
    ∙ (list_any-append is_never (reverse ts) (t ∷ [])
    ∙ or_false (has_never (reverse ts)) (is_never t || false) (turned ts (or_right (is_never t) (has_never ts) h)) (or_false (is_never t) false (or_left (is_never t) (has_never ts) h) refl))

world_has : (ts : List WorldType) → HasRows ts → has_never (in_world ts) ≡ false
world_has ts rows = sym (all_never_up (in_world ts)) ∙ (ap has_never rows ∙ turned (map stack_of ts) (all_have ts))

-- ---- the laws

module _ (x : Sources) (exception : CliType) (m : Method) (code : MethodCode) (l : CodeLine) (f : Facts) (op : Instr) (fits : CliType → CliType → Bool) (order : FitsUp x fits) (known : IsKnown x exception m l.operand f) (shaped : shape_of op.op ≡ l.shape) (whole : IsWhole l.shape l.operand op.operand) (well : stands code.clauses l.at l.shape (instruction_of x.classes code l.at l.shape l.operand) ≡ true) where
  abbrev stepped : List StackType → Result (List StackType) ℕ
  stepped ts = step_effect x exception m l.shape l.operand (instruction_of x.classes code l.at l.shape l.operand) ts

  abbrev acted : List StackType → Result (List StackType) (List ℕ)
  acted ts = act_of (program_of x) exception m (instruction_of x.classes code l.at l.shape l.operand) ts

  whole_effect : (before : List WorldType) → HasRows before → effect_of fits op f before ≡ effect_up (stepped (in_world before))
  whole_effect before rows =
      ap (λ s. effect_by fits f s (instruction_by s op.operand f.operand) (from_top before)) shaped
      ∙ (ap (effect_by fits f l.shape (instruction_by l.shape op.operand f.operand)) (sym rows)
      ∙ effect_same x exception m code l.at l.operand f op.operand fits order known l.shape whole well (in_world before) (world_has before rows))

  pub left : (before after : List WorldType) → HasRows before → effect_of fits op f before ≡ Ok (from_top after) → HasRows after × StepLeaves x exception m l.shape l.operand (instruction_of x.classes code l.at l.shape l.operand) (in_world before) (in_world after)
  left before after rows e =
      let u = up_left (stepped (in_world before)) (from_top after) (sym (whole_effect before rows) ∙ e) in
      let w : in_world after ≡ u.0 = ap (map stack_down) (sym u.2) ∙ stacks_come u.0 in
      let s = left_by (operand_fits_in x.classes l.shape l.operand) (numbered m (instruction_of x.classes code l.at l.shape l.operand)) (acted (in_world before)) u.0 u.1 in
      (ap (map stack_up) w ∙ u.2, record { operand = s.0; number = s.1; acts = s.2 ∙ ap Ok (sym w) })

  pub broken : (before : List WorldType) → HasRows before → (rule : ℕ) → effect_of fits op f before ≡ Err rule → lowest (step_rules x exception m l.shape l.operand (instruction_of x.classes code l.at l.shape l.operand) (in_world before)) ≡ rule
  broken before rows rule e =
      broken_by (operand_fits_in x.classes l.shape l.operand) (numbered m (instruction_of x.classes code l.at l.shape l.operand)) (acted (in_world before)) rule
      (up_broken (stepped (in_world before)) rule (sym (whole_effect before rows) ∙ e))
