-- The walk over code meets the instructions that the decoder reads.
use Rattle.std.proofs.Common.{◌≡◌, ⊎_elim, ℕ, zero, suc, ◌+◌, ◌-◌, ◌<◌, ◌≤◌, List, [], ◌∷◌, length, drop, Option, Some, None, Result, Ok, Err, refl, sym, ap, ◌∙◌, arith, length-drop}
use Rattle.std.specs.Option.{option_or}
use Rattle.std.proofs.Math.ListN.{drop_of_length-le}
use Rattle.std.proofs.lemmas.Bool.{cases_lt}
use Rattle.cil_opcodes.specs.declared.shape.Row.{Row}
use Rattle.cil_opcodes.specs.Rows.{row_of}
use Rattle.cil_code.specs.declared.fault.CodeFault.{CodeFault}
use Rattle.cil_code.specs.declared.instructions.Instr.{Instr}
use Rattle.cil_code.specs.Instructions.{instruction_at}
use Rattle.cil_code.specs.Walk.{Walk, walk_from, code_fault}
use Rattle.cil_code.proofs.Parts.{parts, instruction_fits}
use Rattle.cil_code.proofs.Walked.{walk_fails, walk_goes}
use Rattle.image_form.specs.Codes as codes
use Rattle.image_form.specs.Codes.{read_instr, read_instrs, met, long}
use Rattle.code_shrink.specs.Shrunk.{instrs_in}
use Rattle.code_shrink.specs.Steps.{IsStep, instr_of}
use Rattle.code_shrink.specs.declared.step.Step.{Step}
use Rattle.code_shrink.proofs.Reading.{read}
use Rattle.code_shrink.proofs.Unread.{unread}

-- a walk that comes to the end
abbrev pub IsWhole : List ℕ → ℕ → Type 0
IsWhole code at = (walk_from code at).fault ≡ None

-- an instruction, and a whole walk behind it
pub record Goes (code : List ℕ) (at : ℕ) : Type 0 where
  pub step : Step
  pub stands : IsStep code at step
  pub some : 0 < step.instr.length
  pub inside : at + step.instr.length ≤ length code
  pub whole : IsWhole code (at + step.instr.length)

-- an instruction has a row of the table
pub step_there : (code : List ℕ) (at : ℕ) (i : Instr) → instruction_at code at ≡ Ok i → (row : Row) × IsStep code at (record { row = row; instr = i })
step_there code at i e =
    let p = parts code at i e in
    (p.row, record { stands = e; listed = ap row_of (ap (λ (j : Instr). j.op) p.made) ∙ p.listed })

pub whole_behind : (code : List ℕ) (at : ℕ) (i : Instr) → instruction_at code at ≡ Ok i → IsWhole code at → IsWhole code (at + i.length)
whole_behind code at i e h = sym (ap (λ (w : Walk). w.fault) (walk_goes code at i e)) ∙ h

pub goes : (code : List ℕ) (at : ℕ) → at < length code → IsWhole code at → Goes code at
goes code at lt h = by (instruction_at code at) refl where
  by : (r : Result Instr CodeFault) → instruction_at code at ≡ r → Goes code at
  by (Err fault) e = absurd (let f : Some fault ≡ None = sym (ap (λ (w : Walk). w.fault) (walk_fails code at fault lt e)) ∙ h in cc)
  by (Ok i) e =
      let there = step_there code at i e in
      let fits = instruction_fits code at i e in
      record {
        step = record { row = there.0; instr = i };
        stands = there.1;
        some = fits.0;
        inside = fits.1;
        whole = whole_behind code at i e h;
      }

-- the instruction there is the one that the walk goes on from
pub goes_on : (code : List ℕ) (at : ℕ) (s : Step) → IsStep code at s → IsWhole code at → (0 < s.instr.length) × (at + s.instr.length ≤ length code) × IsWhole code (at + s.instr.length)
goes_on code at s stands h =
    let fits = instruction_fits code at s.instr stands.stands in
    (fits.0, fits.1, whole_behind code at s.instr stands.stands h)

-- ---- reading with enough steps

here : (n : ℕ) (code : List ℕ) (at : ℕ) (s : Step) → IsStep code at s → read_instrs row_of long (suc n) (drop at code) ≡ instr_of code at s ∷ read_instrs row_of long n (drop (at + s.instr.length) code)
here n code at s h = ap (λ o. met row_of long o (read_instrs row_of long n)) (read code at s h)

none_left : (n : ℕ) (code : List ℕ) (at : ℕ) → length code ≤ at → read_instrs row_of long n (drop at code) ≡ []
none_left n code at le = ap (read_instrs row_of long n) (drop_of_length-le code le) ∙ empty n where
  empty : (n : ℕ) → read_instrs row_of long n [] ≡ []
  empty zero = refl
  empty (suc n) = refl

nothing_read : (n : ℕ) (code : List ℕ) (at : ℕ) (fault : CodeFault) → instruction_at code at ≡ Err fault → read_instrs row_of long n (drop at code) ≡ []
nothing_read zero code at fault e = refl
nothing_read (suc n) code at fault e = ap (λ o. met row_of long o (read_instrs row_of long n)) (unread code at fault e)

enough : (m n : ℕ) (code : List ℕ) (at : ℕ) → length code ≤ at + m → length code ≤ at + n → read_instrs row_of long m (drop at code) ≡ read_instrs row_of long n (drop at code)
enough zero n code at p q = none_left zero code at (omega arith) ∙ sym (none_left n code at (omega arith))
enough (suc m) zero code at p q = none_left (suc m) code at (omega arith)
enough (suc m) (suc n) code at p q = by (instruction_at code at) refl (λ next after. enough m n code next (omega (arith, after)) (omega (arith, after))) where
  by : (r : Result Instr CodeFault) → instruction_at code at ≡ r → ((next : ℕ) → at < next → read_instrs row_of long m (drop next code) ≡ read_instrs row_of long n (drop next code)) → read_instrs row_of long (suc m) (drop at code) ≡ read_instrs row_of long (suc n) (drop at code)
  by (Err fault) e behind = nothing_read (suc m) code at fault e ∙ sym (nothing_read (suc n) code at fault e)
  by (Ok i) e behind =
      let there = step_there code at i e in
      let s : Step = record { row = there.0; instr = i } in
      let fits = instruction_fits code at i e in
      here m code at s there.1
      ∙ ap (λ (is : List codes.Instr). instr_of code at s ∷ is) (behind (at + i.length) (omega (arith, fits.0)))
      ∙ sym (here n code at s there.1)

-- the instructions from a place on
abbrev pub rest : List ℕ → ℕ → List codes.Instr
rest code at = instrs_in (drop at code)

pub rest_goes : (code : List ℕ) (at : ℕ) (s : Step) → IsStep code at s → rest code at ≡ instr_of code at s ∷ rest code (at + s.instr.length)
rest_goes code at s stands =
    let fits = instruction_fits code at s.instr stands.stands in
    let long_enough = length-drop at code in
    let more : length (drop at code) ≡ suc (length code - at - 1) = omega (arith, long_enough, fits.0, fits.1) in
    ap (λ (n : ℕ). read_instrs row_of long n (drop at code)) more
    ∙ here (length code - at - 1) code at s stands
    ∙ ap (λ (is : List codes.Instr). instr_of code at s ∷ is) (enough (length code - at - 1) (length (drop (at + s.instr.length) code)) code (at + s.instr.length) (omega (arith, fits.0, fits.1)) (omega (arith, length-drop (at + s.instr.length) code)))

pub rest_stops : (code : List ℕ) (at : ℕ) (fault : CodeFault) → instruction_at code at ≡ Err fault → rest code at ≡ []
rest_stops code at fault e = nothing_read (length (drop at code)) code at fault e

pub rest_ends : (code : List ℕ) (at : ℕ) → length code ≤ at → rest code at ≡ []
rest_ends code at le = none_left (length (drop at code)) code at le

pub rest_whole : (code : List ℕ) → rest code 0 ≡ instrs_in code
rest_whole code = refl

-- ---- the rules of opcodes and ends

pub whole_of : (code : List ℕ) → code_fault code ≡ None → IsWhole code 0
unfolding code_fault
whole_of code e = by (walk_from code 0).fault _ e where
  by : (f x : Option CodeFault) → option_or f x ≡ None → f ≡ None
  by None x e = refl
  by (Some f) x e = absurd cc

-- ---- a step is there

pub rest_some : (code : List ℕ) (at : ℕ) → at < length code → IsWhole code at → rest code at ≡ [] → ⊥
rest_some code at lt h none =
    let g = goes code at lt h in
    let some : Path (List codes.Instr) [] (instr_of code at g.step ∷ rest code (at + g.step.instr.length)) = sym none ∙ rest_goes code at g.step g.stands in
    cc

pub row_there : (code : List ℕ) (at : ℕ) (i : Instr) → instruction_at code at ≡ Ok i → row_of i.op ≡ None → ⊥
row_there code at i e none =
    let p = parts code at i e in
    let some : Path (Option Row) (Some p.row) None = sym p.listed ∙ ap row_of (sym (ap (λ (j : Instr). j.op) p.made)) ∙ none in
    cc
