-- What is in front of an instruction.
use Rattle.std.proofs.Common.{◌≡◌, ℕ, zero, suc, ◌-◌, ◌<◌, ◌≤◌, Bool, true, false, List, map, Some, None, Result, Ok, Err, refl, sym, ap, ◌∙◌, arith}
use Rattle.std.specs.Prelude.{not, is_some, nat_eq, nat_lt}
use Rattle.std.specs.List.{list_all, position}
use Rattle.std.proofs.lemmas.Bool.{ltb-true, ltb-false}
use Rattle.cil_code.specs.declared.clause.Clause.{Clause}
use Rattle.cil_code.specs.declared.fault.CodeFault.{CodeFault}
use Rattle.cil_code.specs.declared.instructions.Instr.{Instr}
use Rattle.cil_code.specs.Instructions.{instruction_at}
use Rattle.cil_code.specs.Walk.{Placed, instructions_of, starts_of}
use Rattle.classes.specs.Clauses.{is_proper, may_go}
use Rattle.code_rules.specs.Verdict.{falls_in_well}
use Rattle.code_places.specs.Among.{is_among}
use Rattle.code_places.specs.Clauses.{clause_seen}
use Rattle.code_places.proofs.WalkLaws.{at_fault, rest_goes, start_inside}
use Rattle.pass_steps.specs.Listed.{in_front}
use Rattle.pass_steps.proofs.PlaceLaws.{first_handled, front_first, front_nearest}
use Rattle.step_facts.specs.Parts.{IsFront}

abbrev offsets : List Placed → List ℕ
offsets ps = map (λ (p : Placed). p.at) ps

-- where any instruction starts one starts at 0
first_starts : (code : List ℕ) (at : ℕ) → is_among (starts_of code) at ≡ true → is_among (starts_of code) 0 ≡ true
first_starts code at e = by (instruction_at code 0) refl
  where
    by : (r : Result Instr CodeFault) → instruction_at code 0 ≡ r → is_among (starts_of code) 0 ≡ true
    by (Ok instr) i = ap (λ ps. is_among (offsets ps) 0) (rest_goes code 0 instr i)
    by (Err fault) i =
        let inside = start_inside code at e in
        let ends = at_fault code 0 fault (omega (arith, inside)) i in
        absurd (cc (sym (ap (λ ps. is_among (offsets ps) at) ends.none) ∙ e))

-- none starts from one offset below on, where none does from the next
pub none_from : (code : List ℕ) (at k : ℕ) → 0 < k → ((j : ℕ) → k ≤ j → j < at → is_among (starts_of code) j ≡ false) → is_among (starts_of code) (k - 1) ≡ false → (j : ℕ) → k - 1 ≤ j → j < at → is_among (starts_of code) j ≡ false
none_from code at k some later here j over under = by (nat_lt j k) refl
  where
    by : (b : Bool) → nat_lt j k ≡ b → is_among (starts_of code) j ≡ false
    by true low =
        let lt = ltb-true j k low in
        let is : k - 1 ≡ j = omega (arith, lt, over, some) in
        ap (λ n. is_among (starts_of code) n) (sym is) ∙ here
    by false high = let le = ltb-false j k high in later j le under

module _ (code : List ℕ) (cs : List Clause) (at : ℕ) (starts : is_among (starts_of code) at ≡ true) where
  pub falls_behind : (before : ℕ) → IsFront code at (Some before) → may_go (map clause_seen cs) before at ≡ falls_in_well (map clause_seen cs) (in_front None (instructions_of code) at) at
  falls_behind before h = ap (λ o. falls_in_well (map clause_seen cs) o at) (sym (front_nearest code before at h.0 starts h.1 h.2))

  none_before : IsFront code at None → at ≡ 0
  none_before h = by at refl
    where
      by : (n : ℕ) → n ≡ at → at ≡ 0
      by zero e = sym e
      by (suc n) e = absurd (cc (sym (h 0 (omega (arith, e))) ∙ first_starts code at starts))

  pub falls_first : IsFront code at None → list_all is_proper (map clause_seen cs) ≡ true → not (is_some (position (λ (c : Clause). nat_eq c.start 0) cs)) ≡ falls_in_well (map clause_seen cs) (in_front None (instructions_of code) at) at
  falls_first h proper =
      let zero_is = none_before h in
      sym (ap (λ n. falls_in_well (map clause_seen cs) (in_front None (instructions_of code) n) n) zero_is
      ∙ ap (λ o. falls_in_well (map clause_seen cs) o 0) (front_first code)
      ∙ ap not (first_handled cs proper))
