-- The way that starts tell is the one of the instructions.
use Rattle.std.proofs.Common.{◌≡◌, ⊎_elim, ℕ, zero, suc, ◌+◌, ◌-◌, ◌<◌, ◌≤◌, List, [], ◌∷◌, length, Option, Some, None, refl, sym, ap, ◌∙◌, subst, arith}
use Rattle.std.specs.Prelude.{nat_lt, if◌then◌else◌, slice_get}
use Rattle.std.proofs.lemmas.Bool.{lt-ltb, le-ltb, cases_lt}
use Rattle.machine_rename.specs.Places.{Piece, AreShorter}
use Rattle.machine_rename.proofs.PlaceLaws.{if_true, if_false}
use Rattle.image_form.specs.Codes.{Instr}
use Rattle.short_code.specs.Short.{to_short}
use Rattle.short_code.specs.Pieces.{pieces}
use Rattle.short_code.proofs.PieceLaws.{are_shorter}
use Rattle.code_shrink.specs.declared.starts.Start.{Start}
use Rattle.code_shrink.specs.Shrunk.{instrs_in, pieces_of}
use Rattle.code_shrink.specs.Starts.{starts_from, way, TellWay}
use Rattle.code_shrink.proofs.Found.{starts_rise, Before, Behind}

-- ---- of pieces

module _ {A : Type 0} where
  way_step : (x : Piece A) (xs : List (Piece A)) (l s at : ℕ) → way (starts_from l s (x ∷ xs)) (l + at) ≡ (if nat_lt (l + at) (l + x.long) then s else way (starts_from (l + x.long) (s + x.short) xs) (l + at))
  way_step x [] l s at = refl
  way_step x (y ∷ ys) l s at = refl

  way_of : (xs : List (Piece A)) (l s at : ℕ) → way (starts_from l s xs) (l + at) ≡ s + to_short xs at
  way_of [] l s at = omega arith
  way_of (x ∷ xs) l s at =
      way_step x xs l s at
      ∙ ⊎_elim
      (λ lt.
      let inside : l + at < l + x.long = omega (arith, lt) in
      let here = if_true (nat_lt at x.long) 0 (x.short + to_short xs (at - x.long)) (lt-ltb at x.long lt) in
      if_true (nat_lt (l + at) (l + x.long)) s (way (starts_from (l + x.long) (s + x.short) xs) (l + at)) (lt-ltb (l + at) (l + x.long) inside)
      ∙ omega (arith, here))
      (λ le.
      let past : l + x.long ≤ l + at = omega (arith, le) in
      let place : l + at ≡ l + x.long + (at - x.long) = omega (arith, le) in
      let behind = if_false (nat_lt at x.long) 0 (x.short + to_short xs (at - x.long)) (le-ltb at x.long le) in
      if_false (nat_lt (l + at) (l + x.long)) s (way (starts_from (l + x.long) (s + x.short) xs) (l + at)) (le-ltb (l + at) (l + x.long) past)
      ∙ ap (way (starts_from (l + x.long) (s + x.short) xs)) place
      ∙ way_of xs (l + x.long) (s + x.short) (at - x.long)
      ∙ omega (arith, behind))
      (cases_lt at x.long)

  not_empty : (xs : List (Piece A)) (l s : ℕ) → 0 < length (starts_from l s xs)
  not_empty [] l s = omega arith
  not_empty (x ∷ xs) l s = omega arith

  each_shorter : (xs : List (Piece A)) (l s k : ℕ) (t : Start) → AreShorter xs → s ≤ l → slice_get (starts_from l s xs) k ≡ Some t → t.short ≤ t.long
  each_shorter [] l s zero t h le e = let here : Path (Option Start) (Some (record { long = l; short = s })) (Some t) = e in let same : record { long = l; short = s } ≡ t = cc in subst (λ (x : Start). x.short ≤ x.long) same le
  each_shorter [] l s (suc k) t h le e = absurd (let none : Path (Option Start) None (Some t) = e in cc)
  each_shorter (x ∷ xs) l s zero t h le e = let here : Path (Option Start) (Some (record { long = l; short = s })) (Some t) = e in let same : record { long = l; short = s } ≡ t = cc in subst (λ (x : Start). x.short ≤ x.long) same le
  each_shorter (x ∷ xs) l s (suc k) t h le e = each_shorter xs (l + x.long) (s + x.short) k t h.2 (omega (arith, h.0, h.1, le)) e

-- ---- of code

pub tells : (code : List ℕ) → TellWay (starts_from 0 0 (pieces_of code))
tells code =
    let shorter = are_shorter (instrs_in code) in
    record {
      rise = starts_rise (pieces_of code) 0 0 shorter;
      some = not_empty (pieces_of code) 0 0;
      shorter = λ k t e. each_shorter (pieces_of code) 0 0 k t shorter (omega arith) e;
    }

pub way_in : (code : List ℕ) → way (starts_from 0 0 (pieces_of code)) ≡ to_short (pieces_of code)
way_in code = λ i at. there at i where
  there : (at : ℕ) → way (starts_from 0 0 (pieces_of code)) at ≡ to_short (pieces_of code) at
  there at = let same : at ≡ 0 + at = omega arith in ap (way (starts_from 0 0 (pieces_of code))) same ∙ way_of (pieces_of code) 0 0 at ∙ omega arith

-- ---- by the last start up to a place

passed : (t u : Start) (us : List Start) (at k : ℕ) → Before (t ∷ u ∷ us) at (suc k) → way (t ∷ u ∷ us) at ≡ way (u ∷ us) at
passed t u us at k h = if_false (nat_lt at u.long) t.short (way (u ∷ us) at) (le-ltb at u.long (h 1 u (omega arith) (omega arith) refl))

pub way_within : (starts : List Start) (at k : ℕ) (s : Start) → slice_get starts k ≡ Some s → Before starts at k → Behind starts at k → suc k < length starts → way starts at ≡ s.short
way_within [] at k s e before behind more = absurd (omega (arith, more))
way_within (t ∷ []) at k s e before behind more = absurd (omega (arith, more))
way_within (t ∷ u ∷ us) at zero s e before behind more =
    let here : Path (Option Start) (Some t) (Some s) = e in
    let same : t ≡ s = cc in
    if_true (nat_lt at u.long) t.short (way (u ∷ us) at) (lt-ltb at u.long (behind 1 u (omega arith) refl))
    ∙ ap (λ (x : Start). x.short) same
way_within (t ∷ u ∷ us) at (suc k) s e before behind more =
    passed t u us at k before
    ∙ way_within (u ∷ us) at k s e (λ j v p q. before (suc j) v (omega arith) (omega (arith, q))) (λ j v p. behind (suc j) v (omega (arith, p))) (omega (arith, more))

pub way_last : (starts : List Start) (at k : ℕ) (s : Start) → slice_get starts k ≡ Some s → Before starts at k → suc k ≡ length starts → way starts at ≡ s.short + (at - s.long)
way_last [] at k s e before all = absurd (omega (arith, all))
way_last (t ∷ []) at zero s e before all =
    let here : Path (Option Start) (Some t) (Some s) = e in
    let same : t ≡ s = cc in
    ap (λ (x : Start). x.short + (at - x.long)) same
way_last (t ∷ []) at (suc k) s e before all = absurd (omega (arith, all))
way_last (t ∷ u ∷ us) at zero s e before all = absurd (omega (arith, all))
way_last (t ∷ u ∷ us) at (suc k) s e before all =
    passed t u us at k before
    ∙ way_last (u ∷ us) at k s e (λ j v p q. before (suc j) v (omega arith) (omega (arith, q))) (omega (arith, all))
