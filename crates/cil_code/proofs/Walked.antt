-- The walk over instructions, whatever their number.
use Rattle.std.proofs.Common.{◌≡◌, ℕ, zero, suc, ◌+◌, ◌-◌, ◌<◌, ◌≤◌, true, false, cond, leb, List, [], length, Some, None, Result, Ok, Err, refl, sym, ap, ◌∙◌, arith}
use Rattle.std.proofs.lemmas.Bool.{le-leb, lt-leb}
use Rattle.cil_code.specs.declared.fault.CodeFault.{CodeFault}
use Rattle.cil_code.specs.declared.instructions.Instr.{Instr}
use Rattle.cil_code.specs.Instructions.{instruction_at}
use Rattle.cil_code.specs.Walk.{Walk, meets, met_at, walk_within, walk_from}
use Rattle.cil_code.proofs.Parts.{instruction_fits}

-- a walk that is at the end
within_end : (most : ℕ) (code : List ℕ) (at : ℕ) → length code ≤ at → walk_within most code at ≡ record { met = []; fault = None }
unfolding walk_within
within_end zero code at le = refl
within_end (suc most) code at le = let end : leb (length code) at ≡ true = le-leb _ _ le in rw end refl

pub walk_ends : (code : List ℕ) (at : ℕ) → length code ≤ at → walk_from code at ≡ record { met = []; fault = None }
unfolding walk_from
walk_ends code at le = within_end (length code - at) code at le

-- Once there may be as many instructions as bytes are left, more don't matter.
-- one instruction, and what the walk behind it meets
behind : (code : List ℕ) (at : ℕ) (f g : ℕ → Walk) → ((next : ℕ) → at < next → f next ≡ g next)
    → met_at at (instruction_at code at) (λ instr. f (at + instr.length)) ≡ met_at at (instruction_at code at) (λ instr. g (at + instr.length))
behind code at f g same = by (instruction_at code at) refl where
  by : (result : Result Instr CodeFault) → instruction_at code at ≡ result → met_at at result (λ instr. f (at + instr.length)) ≡ met_at at result (λ instr. g (at + instr.length))
  by (Ok instr) e = let fits = instruction_fits code at instr e in ap (meets at instr) (same (at + instr.length) (omega arith))
  by (Err fault) e = refl

enough : (m n : ℕ) (code : List ℕ) (at : ℕ) → length code ≤ at + m → length code ≤ at + n → walk_within m code at ≡ walk_within n code at
unfolding walk_within
enough zero n code at p q = sym (within_end n code at (omega arith))
enough (suc m) zero code at p q = within_end (suc m) code at (omega arith)
enough (suc m) (suc n) code at p q =
    ap (λ (walk : Walk). cond (leb (length code) at) (record { met = []; fault = None }) walk) (behind code at (walk_within m code) (walk_within n code) (λ next after. enough m n code next (omega arith) (omega arith)))

walk_step : (most : ℕ) (code : List ℕ) (at : ℕ) → at < length code → length code ≡ at + suc most → walk_within (suc most) code at ≡ met_at at (instruction_at code at) (λ instr. walk_from code (at + instr.length))
unfolding walk_within walk_from
walk_step most code at lt long =
    let inside : leb (length code) at ≡ false = lt-leb _ _ lt in
    rw inside (behind code at (walk_within most code) (λ next. walk_within (length code - next) code next) (λ next after. enough most (length code - next) code next (omega arith) (omega arith)))

-- the walk is at an instruction
walk_here : (code : List ℕ) (at : ℕ) → at < length code → walk_from code at ≡ met_at at (instruction_at code at) (λ instr. walk_from code (at + instr.length))
unfolding walk_from
walk_here code at lt =
    let more : length code - at ≡ suc (length code - at - 1) = omega arith in
    let first : walk_from code at ≡ walk_within (suc (length code - at - 1)) code at = ap (λ (most : ℕ). walk_within most code at) more in
    first ∙ walk_step (length code - at - 1) code at lt (omega arith)

pub walk_fails : (code : List ℕ) (at : ℕ) (fault : CodeFault) → at < length code → instruction_at code at ≡ Err fault → walk_from code at ≡ record { met = []; fault = Some fault }
walk_fails code at fault lt e = walk_here code at lt ∙ ap (λ (result : Result Instr CodeFault). met_at at result (λ instr. walk_from code (at + instr.length))) e

pub walk_goes : (code : List ℕ) (at : ℕ) (instr : Instr) → instruction_at code at ≡ Ok instr → walk_from code at ≡ meets at instr (walk_from code (at + instr.length))
walk_goes code at instr e =
    let fits = instruction_fits code at instr e in
    walk_here code at (omega arith) ∙ ap (λ (result : Result Instr CodeFault). met_at at result (λ next. walk_from code (at + next.length))) e
