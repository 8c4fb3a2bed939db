-- The targets of a switch, one after the other.
use Rattle.std.proofs.Common.{◌≡◌, ℕ, suc, ◌+◌, ◌-◌, ◌<◌, ◌≤◌, ◌^◌, Bool, true, false, List, [], ◌∷◌, ◌++◌, map, Option, Some, None, refl, sym, ap, ◌∙◌, subst, arith, append_assoc}
use Rattle.std.specs.Prelude.{ℤ, unsigned_abs, if◌then◌else◌}
use Rattle.std.specs.List.{range_with_len}
use Rattle.std.specs.Int.{Width, cast_unsigned}
use Rattle.std.specs.Int.RustNames.{FitsSigned}
use Rattle.assemblies.specs.Closed.{Each}
use Rattle.image_bytes.specs.Layout.{all_onto}
use Rattle.image_form.specs.Codes.{AllFit, behind_first, signed_onto}
use Rattle.code_shrink.specs.Limits.{is_near, first_far}
use Rattle.code_shrink.proofs.Onto.{number_splits}

pub range_next : (k n : ℕ) → k < n → range_with_len k (n - k) ≡ k ∷ range_with_len (k + 1) (n - (k + 1))
range_next k n lt = let more : n - k ≡ suc (n - (k + 1)) = omega (arith, lt) in ap (range_with_len k) more

pub range_ends : (k n : ℕ) → n ≤ k → range_with_len k (n - k) ≡ []
range_ends k n le = let none : n - k ≡ 0 = omega (arith, le) in ap (range_with_len k) none

pub range_whole : (n : ℕ) → range_with_len 0 n ≡ range_with_len 0 (n - 0)
range_whole n = let same : n ≡ n - 0 = omega arith in ap (range_with_len 0) same

one_splits : (w : Width) (z : ℤ) (rest : List ℕ) → signed_onto w z rest ≡ signed_onto w z [] ++ rest
one_splits w z rest = number_splits (behind_first w) (cast_unsigned w z) rest

-- through two maps, as code has them
module _ (t : ℤ → ℤ) (g : ℕ → ℤ) (k n : ℕ) (lt : k < n) where
  pub small_next : Each (λ z. unsigned_abs z < 2 ^ 32) (map t (map g (range_with_len k (n - k)))) → (unsigned_abs (t (g k)) < 2 ^ 32) × Each (λ z. unsigned_abs z < 2 ^ 32) (map t (map g (range_with_len (k + 1) (n - (k + 1)))))
  small_next h = subst (λ (ks : List ℕ). Each (λ z. unsigned_abs z < 2 ^ 32) (map t (map g ks))) (range_next k n lt) h

  pub fit_next : (w : Width) → AllFit w (map t (map g (range_with_len k (n - k)))) → FitsSigned w (t (g k)) × AllFit w (map t (map g (range_with_len (k + 1) (n - (k + 1)))))
  fit_next w h = subst (λ (ks : List ℕ). AllFit w (map t (map g ks))) (range_next k n lt) h

  pub far_next : first_far (map t (map g (range_with_len k (n - k)))) ≡ (if is_near (t (g k)) then first_far (map t (map g (range_with_len (k + 1) (n - (k + 1))))) else Some (t (g k)))
  far_next = ap (λ (ks : List ℕ). first_far (map t (map g ks))) (range_next k n lt)

  pub onto_next : (w : Width) (out whole : List ℕ) → out ++ all_onto (signed_onto w) (map t (map g (range_with_len k (n - k)))) [] ≡ whole
      → (out ++ signed_onto w (t (g k)) []) ++ all_onto (signed_onto w) (map t (map g (range_with_len (k + 1) (n - (k + 1))))) [] ≡ whole
  onto_next w out whole h =
      let zs = map t (map g (range_with_len (k + 1) (n - (k + 1)))) in
      append_assoc out (signed_onto w (t (g k)) []) (all_onto (signed_onto w) zs [])
      ∙ ap (λ (l : List ℕ). out ++ l) (sym (one_splits w (t (g k)) (all_onto (signed_onto w) zs [])))
      ∙ ap (λ (ks : List ℕ). out ++ all_onto (signed_onto w) (map t (map g ks)) []) (sym (range_next k n lt))
      ∙ h

-- what is outside

pub outside_some : (z d : ℤ) (o : Option ℤ) → Path (Option ℤ) (Some d) (if is_near z then None else Some z) → (if is_near z then o else Some z) ≡ Some d
outside_some z d o = by (is_near z) where
  by : (b : Bool) → Path (Option ℤ) (Some d) (if b then None else Some z) → (if b then o else Some z) ≡ Some d
  by true e = absurd cc
  by false e = sym e

pub outside_none : (z : ℤ) (o : Option ℤ) → Path (Option ℤ) None (if is_near z then None else Some z) → (if is_near z then o else Some z) ≡ o
outside_none z o = by (is_near z) where
  by : (b : Bool) → Path (Option ℤ) None (if b then None else Some z) → (if b then o else Some z) ≡ o
  by true e = refl
  by false e = absurd cc
