-- The shortened code of a whole body.
use Rattle.std.proofs.Common.{◌≡◌, ℕ, ◌+◌, ◌<◌, ◌^◌, List, [], length, map, Option, None, refl, sym, ap, ◌∙◌, subst, arith}
use Rattle.std.specs.Option.{unwrap_or}
use Rattle.cil_opcodes.specs.Rows.{row_of}
use Rattle.assemblies.specs.Rows.{RawLine}
use Rattle.assemblies.specs.Chosen.{Choice, line_to}
use Rattle.assemblies.specs.Closed.{Each}
use Rattle.image_form.specs.Codes.{Meaning, Words, Instr, LinesFit, instrs_of, instrs_onto, instrs_to, lines_of, long, short}
use Rattle.chosen_image.specs.Spells.{TargetsStart, AllDistancesFit}
use Rattle.image_form.proofs.CodeLaws.{instrs_law}
use Rattle.short_code.specs.Short.{to_short, IsBound}
use Rattle.short_code.specs.Pieces.{pieces}
use Rattle.short_code.proofs.PieceLaws.{are_shorter}
use Rattle.chosen_image.proofs.PlaceLaws.{begin}
use Rattle.code_shrink.specs.declared.starts.Start.{Start}
use Rattle.code_shrink.specs.Starts.{place_in, starts_from, Rise, Pairs}
use Rattle.code_shrink.specs.Shrunk.{CanShrink, instrs_in, pieces_of, instrs_from, shrunk, shrunk_bytes}
use Rattle.code_shrink.specs.Limits.{AllNear, AllCanWrite, far_from, far_in, wide_in}
use Rattle.code_shrink.specs.Lines.{AreBytes, AllMeanTo, AllMeanBack, AllNumbered, rows_in, lines_in}
use Rattle.code_shrink.proofs.Walking.{whole_of}
use Rattle.code_shrink.proofs.Lie.{Lies, whole_lies, sound_short, can_write, near_from, bounds_small, same_instrs, same_far}
use Rattle.code_shrink.proofs.LineLaws.{lines_go}
use Rattle.code_shrink.proofs.Spelt.{short_same, lines_fit, targets_start, distances_fit, instrs_spelt}
use Rattle.code_shrink.proofs.Found.{pairs, starts_rise}

lies : (code : List ℕ) → AreBytes code → CanShrink code → Lies (pieces_of code) 0 (instrs_in code)
lies code bytes h = whole_lies code bytes (whole_of code h.whole) h.targets

pub read_law : (token : ℕ → ℕ) (code : List ℕ) → AreBytes code → CanShrink code → far_in code ≡ None → instrs_of row_of short (shrunk_bytes token code) ≡ shrunk token code
read_law token code bytes h far =
    instrs_law row_of short (shrunk token code) (sound_short (instrs_in code) (to_short (pieces_of code)) (λ y b. refl) token 0 (instrs_in code) (lies code bytes h) far)

pub lines_law : (k : Choice) (before after : Meaning) (token : ℕ → ℕ) (code : List ℕ) → AreBytes code → CanShrink code → far_in code ≡ None → AllMeanTo k before after token (instrs_in code)
    → lines_of after short 0 (instrs_of row_of short (shrunk_bytes token code)) ≡ map (line_to k (to_short (pieces_of code))) (lines_of before long 0 (instrs_in code))
lines_law k before after token code bytes h far t =
    let is = instrs_in code in
    let place = to_short (pieces_of code) in
    let start : place 0 ≡ 0 = begin is in
    let whole = lies code bytes h in
    ap (lines_of after short 0) (read_law token code bytes h far)
    ∙ ap (λ (n : ℕ). lines_of after short n (shrunk token code)) (sym start)
    ∙ lines_go place token k before after 0 is (λ y. let sum : 0 + y ≡ y = omega arith in omega (arith, ap place sum, start)) whole.sound t

-- ---- the spelling of its lines

pub fit_law : (m : Meaning) (w : Words) (code : List ℕ) → AreBytes code → CanShrink code → AllMeanBack m w (instrs_in code) → LinesFit row_of long m w 0 (rows_in code) (lines_in m code)
fit_law m w code bytes h b = lines_fit m w (pieces_of code) 0 (instrs_in code) (lies code bytes h).sound h.targets b

pub places_law : (m : Meaning) (w : Words) (code : List ℕ) → AreBytes code → CanShrink code → (at : ℕ) → to_short (pieces_of code) at ≡ to_short (pieces (instrs_to w (rows_in code) (lines_in m code))) at
places_law m w code bytes h at = sym (short_same m w 0 (instrs_in code) at (lies code bytes h).sound)

pub targets_law : (m : Meaning) (w : Words) (code : List ℕ) → AreBytes code → CanShrink code → AllMeanBack m w (instrs_in code) → Each (λ (l : RawLine). TargetsStart (pieces (instrs_to w (rows_in code) (lines_in m code))) l.operand) (lines_in m code)
targets_law m w code bytes h b = targets_start m w (instrs_in code) (lies code bytes h).sound h.targets b

pub distances_law : (m : Meaning) (code : List ℕ) → far_in code ≡ None → AllDistancesFit (to_short (pieces_of code)) (rows_in code) (lines_in m code)
distances_law m code far = distances_fit m (to_short (pieces_of code)) 0 (instrs_in code) far

pub spelling_law : (k : Choice) (m : Meaning) (words : Words) (token : ℕ → ℕ) (code : List ℕ) → AreBytes code → CanShrink code → AllNumbered k m words token (instrs_in code) → instrs_to words (rows_in code) (map (line_to k (to_short (pieces_of code))) (lines_in m code)) ≡ shrunk token code
spelling_law k m words token code bytes h n = instrs_spelt k m words token (to_short (pieces_of code)) 0 (instrs_in code) (lies code bytes h).sound n

-- ---- with the starts that were found

module _ (code : List ℕ) (bytes : AreBytes code) (h : CanShrink code) (starts : List Start) (is_starts : starts ≡ starts_from 0 0 (pieces_of code)) where
  pub rise : Rise starts
  rise = subst Rise (sym is_starts) (starts_rise (pieces_of code) 0 0 (are_shorter (instrs_in code)))

  pub paired : Pairs (pieces_of code) starts
  paired = subst (Pairs (pieces_of code)) (sym is_starts) (pairs (pieces_of code) (are_shorter (instrs_in code)))

  agree : (y : ℕ) → IsBound (pieces_of code) y → place_in starts y ≡ to_short (pieces_of code) y
  agree y b = ap (λ (o : Option ℕ). unwrap_or o 0) (paired.starts_there y b)

  pub near : length code < 2 ^ 32 → AllNear 0 (instrs_in code)
  near small = near_from (pieces_of code) 0 (instrs_in code) (bounds_small code bytes (whole_of code h.whole) small) h.targets

  pub far_is : far_from (place_in starts) 0 (instrs_in code) ≡ far_in code
  far_is = same_far (pieces_of code) (place_in starts) agree 0 (instrs_in code) (lies code bytes h)

  pub writes : length code < 2 ^ 32 → far_in code ≡ None → wide_in code ≡ None → AllCanWrite (place_in starts) 0 (instrs_in code)
  writes small far wide =
      can_write (instrs_in code) (place_in starts) agree 0 (instrs_in code) (bounds_small code bytes (whole_of code h.whole) small) (lies code bytes h) (far_is ∙ far) wide

  pub bytes_are : (token : ℕ → ℕ) → instrs_onto row_of short (instrs_from (place_in starts) token 0 (instrs_in code)) [] ≡ shrunk_bytes token code
  bytes_are token = ap (λ (is : List Instr). instrs_onto row_of short is []) (same_instrs (pieces_of code) (place_in starts) agree token 0 (instrs_in code) (lies code bytes h))
