-- What one more instruction makes of what was counted, found or written.
use Rattle.std.proofs.Common.{◌≡◌, ℕ, ◌+◌, ◌-◌, ◌<◌, ◌≤◌, List, [], ◌∷◌, ◌++◌, length, Option, Some, None, sym, ap, ◌∙◌, subst, arith, append_assoc, ◌^◌}
use Rattle.std.specs.Prelude.{ℤ, unsigned_abs}
use Rattle.assemblies.specs.Closed.{Each}
use Rattle.std.specs.Option.{option_or}
use Rattle.cil_opcodes.specs.Rows.{row_of}
use Rattle.cil_code.proofs.Parts.{instruction_fits}
use Rattle.image_form.specs.Codes.{Instr, size, instr_onto, instrs_onto, long, short}
use Rattle.short_code.specs.Short.{short_end}
use Rattle.short_code.specs.Pieces.{pieces}
use Rattle.code_shrink.specs.declared.starts.Start.{Start}
use Rattle.code_shrink.specs.Starts.{starts_from}
use Rattle.code_shrink.specs.Shrunk.{targets_of, instr_to, instrs_from}
use Rattle.code_shrink.specs.Limits.{first_far, wide_distances, far_from, first_wide, AllNear, AllCanWrite, CanWrite}
use Rattle.code_shrink.specs.Lines.{AreBytes}
use Rattle.code_shrink.specs.Steps.{IsStep, instr_of, saved, past_255}
use Rattle.code_shrink.specs.declared.step.Step.{Step}
use Rattle.code_shrink.proofs.Walking.{IsWhole, goes_on, rest, rest_goes}
use Rattle.code_shrink.proofs.Sizes.{sizes}
use Rattle.code_shrink.proofs.Onto.{one_more}
use Rattle.code_shrink.proofs.Targets.{many_are}

-- an instruction of any code
pub record AStep (code : List ℕ) (at : ℕ) (s : Step) : Type 0 where
  pub some : 0 < s.instr.length
  pub inside : at + s.instr.length ≤ length code
  pub long_is : size long (instr_of code at s) ≡ s.instr.length
  pub short_is : size short (instr_of code at s) ≡ s.instr.length - saved s.row.operand s.instr.operand
  pub saves : saved s.row.operand s.instr.operand ≤ s.instr.length
  pub rest_is : rest code at ≡ instr_of code at s ∷ rest code (at + s.instr.length)

pub a_step : (code : List ℕ) (at : ℕ) (s : Step) → AreBytes code → IsStep code at s → AStep code at s
a_step code at s bytes stands =
    let fits = instruction_fits code at s.instr stands.stands in
    let z = sizes code at s stands bytes in
    record {
      some = fits.0;
      inside = fits.1;
      long_is = z.long_is;
      short_is = omega (arith, z.short_is);
      saves = omega (arith, z.short_is);
      rest_is = rest_goes code at s stands;
    }

-- starts that were listed
pub listed : (code : List ℕ) (at : ℕ) (s : Step) (o : AStep code at s) (starts whole : List Start) (place : ℕ) → starts ++ starts_from at place (pieces (rest code at)) ≡ whole
    → (starts ++ record { long = at; short = place } ∷ []) ++ starts_from (at + s.instr.length) (place + (s.instr.length - saved s.row.operand s.instr.operand)) (pieces (rest code (at + s.instr.length))) ≡ whole
listed code at s o starts whole place h =
    let is = rest code (at + s.instr.length) in
    append_assoc starts (record { long = at; short = place } ∷ []) (starts_from (at + s.instr.length) (place + (s.instr.length - saved s.row.operand s.instr.operand)) (pieces is))
    ∙ ap (λ (n : ℕ). starts ++ record { long = at; short = place } ∷ starts_from (at + n) (place + (s.instr.length - saved s.row.operand s.instr.operand)) (pieces is)) (sym o.long_is)
    ∙ ap (λ (n : ℕ). starts ++ record { long = at; short = place } ∷ starts_from (at + size long (instr_of code at s)) (place + n) (pieces is)) (sym o.short_is)
    ∙ ap (λ (js : List Instr). starts ++ starts_from at place (pieces js)) (sym o.rest_is)
    ∙ h

-- the last place, behind which nothing is read
pub listed_all : (code : List ℕ) (at place : ℕ) (starts whole : List Start) → rest code at ≡ [] → starts ++ starts_from at place (pieces (rest code at)) ≡ whole → starts ++ record { long = at; short = place } ∷ [] ≡ whole
listed_all code at place starts whole none h = ap (λ (js : List Instr). starts ++ starts_from at place (pieces js)) (sym none) ∙ h

-- and one of code without faults
pub record OnStep (code : List ℕ) (at : ℕ) (s : Step) : Type 0 where
  pub some : 0 < s.instr.length
  pub inside : at + s.instr.length ≤ length code
  pub whole : IsWhole code (at + s.instr.length)
  pub long_is : size long (instr_of code at s) ≡ s.instr.length
  pub short_is : size short (instr_of code at s) ≡ s.instr.length - saved s.row.operand s.instr.operand
  pub saves : saved s.row.operand s.instr.operand ≤ s.instr.length
  pub rest_is : rest code at ≡ instr_of code at s ∷ rest code (at + s.instr.length)

pub on_step : (code : List ℕ) (at : ℕ) (s : Step) → AreBytes code → IsWhole code at → IsStep code at s → OnStep code at s
on_step code at s bytes h stands =
    let g = goes_on code at s stands h in
    let a = a_step code at s bytes stands in
    record {
      some = g.0;
      inside = g.1;
      whole = g.2;
      long_is = a.long_is;
      short_is = a.short_is;
      saves = a.saves;
      rest_is = a.rest_is;
    }

module _ (code : List ℕ) (at : ℕ) (s : Step) (o : OnStep code at s) where
  -- sizes that were summed up
  pub summed : (sum whole : ℕ) → sum + short_end (pieces (rest code at)) ≡ whole → sum + (s.instr.length - saved s.row.operand s.instr.operand) + short_end (pieces (rest code (at + s.instr.length))) ≡ whole
  summed sum whole h =
      let e = ap (λ (is : List Instr). sum + short_end (pieces is)) o.rest_is in
      omega (arith, e, h, o.short_is)

  -- each part of what is said of the instructions from here on

  pub near_parts : AllNear at (rest code at) → Each (λ z. unsigned_abs z < 2 ^ 32) (targets_of s.row.operand (at + s.instr.length) (instr_of code at s).operand) × AllNear (at + s.instr.length) (rest code (at + s.instr.length))
  near_parts h =
      let P : ℕ → Type 0 = λ n. Each (λ z. unsigned_abs z < 2 ^ 32) (targets_of s.row.operand (at + n) (instr_of code at s).operand) × AllNear (at + n) (rest code (at + s.instr.length)) in
      subst P o.long_is (subst (AllNear at) o.rest_is h)

  pub can_parts : (place : ℕ → ℕ) → AllCanWrite place at (rest code at) → CanWrite place s.row.operand (at + s.instr.length) (instr_of code at s).operand × AllCanWrite place (at + s.instr.length) (rest code (at + s.instr.length))
  can_parts place h =
      let P : ℕ → Type 0 = λ n. CanWrite place s.row.operand (at + n) (instr_of code at s).operand × AllCanWrite place (at + n) (rest code (at + s.instr.length)) in
      subst P o.long_is (subst (AllCanWrite place at) o.rest_is h)

  pub far_parts : (place : ℕ → ℕ) → far_from place at (rest code at) ≡ option_or (first_far (wide_distances place s.row.operand (at + s.instr.length) (instr_of code at s).operand)) (far_from place (at + s.instr.length) (rest code (at + s.instr.length)))
  far_parts place =
      ap (far_from place at) o.rest_is
      ∙ ap (λ (n : ℕ). option_or (first_far (wide_distances place s.row.operand (at + n) (instr_of code at s).operand)) (far_from place (at + n) (rest code (at + s.instr.length)))) o.long_is

  pub wide_parts : first_wide (rest code at) ≡ option_or (past_255 s.row.operand s.instr.operand) (first_wide (rest code (at + s.instr.length)))
  wide_parts =
      ap first_wide o.rest_is
      ∙ ap (λ (x : Option ℕ). option_or x (first_wide (rest code (at + s.instr.length)))) (many_are s.row.operand code at s.instr.operand)

  pub far_found : (place : ℕ → ℕ) (d : ℤ) (whole : Option ℤ) → far_from place at (rest code at) ≡ whole → Path (Option ℤ) (Some d) (first_far (wide_distances place s.row.operand (at + s.instr.length) (instr_of code at s).operand)) → Some d ≡ whole
  far_found place d whole h e =
      ap (λ (x : Option ℤ). option_or x (far_from place (at + s.instr.length) (rest code (at + s.instr.length)))) e ∙ sym (far_parts place) ∙ h

  pub far_none : (place : ℕ → ℕ) (whole : Option ℤ) → far_from place at (rest code at) ≡ whole → Path (Option ℤ) None (first_far (wide_distances place s.row.operand (at + s.instr.length) (instr_of code at s).operand)) → far_from place (at + s.instr.length) (rest code (at + s.instr.length)) ≡ whole
  far_none place whole h e =
      ap (λ (x : Option ℤ). option_or x (far_from place (at + s.instr.length) (rest code (at + s.instr.length)))) e ∙ sym (far_parts place) ∙ h

  pub wide_found : (n : ℕ) (whole : Option ℕ) → first_wide (rest code at) ≡ whole → Path (Option ℕ) (Some n) (past_255 s.row.operand s.instr.operand) → Some n ≡ whole
  wide_found n whole h e = ap (λ (x : Option ℕ). option_or x (first_wide (rest code (at + s.instr.length)))) e ∙ sym wide_parts ∙ h

  pub wide_none : (whole : Option ℕ) → first_wide (rest code at) ≡ whole → Path (Option ℕ) None (past_255 s.row.operand s.instr.operand) → first_wide (rest code (at + s.instr.length)) ≡ whole
  wide_none whole h e = ap (λ (x : Option ℕ). option_or x (first_wide (rest code (at + s.instr.length)))) e ∙ sym wide_parts ∙ h

  -- bytes that were written
  pub written : (place token : ℕ → ℕ) (out whole : List ℕ) → out ++ instrs_onto row_of short (instrs_from place token at (rest code at)) [] ≡ whole
      → (out ++ instr_onto row_of short (instr_to place token (at + s.instr.length) (instr_of code at s)) []) ++ instrs_onto row_of short (instrs_from place token (at + s.instr.length) (rest code (at + s.instr.length))) [] ≡ whole
  written place token out whole h =
      let is = rest code (at + s.instr.length) in
      let parts : instrs_from place token at (rest code at) ≡ instr_to place token (at + s.instr.length) (instr_of code at s) ∷ instrs_from place token (at + s.instr.length) is =
      ap (instrs_from place token at) o.rest_is ∙ ap (λ (n : ℕ). instr_to place token (at + n) (instr_of code at s) ∷ instrs_from place token (at + n) is) o.long_is in
      one_more row_of short out whole (instr_to place token (at + s.instr.length) (instr_of code at s)) (instrs_from place token (at + s.instr.length) is)
      (ap (λ (js : List Instr). out ++ instrs_onto row_of short js []) (sym parts) ∙ h)
