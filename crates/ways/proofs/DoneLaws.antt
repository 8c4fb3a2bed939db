-- Where all nodes were met and no path is left, each height is told.
use Rattle.std.proofs.Common.{◌≡◌, ℕ, false, List, map, Option, Some, None, refl, sym, ◌∙◌, subst}
use Rattle.std.specs.Prelude.{slice_get}
use Rattle.std.specs.Option.{option_map}
use Rattle.std.proofs.lemmas.Option.{slice_get-map}
use Rattle.ways.specs.Heights.{HeightFits, AreHeights}
use Rattle.ways.specs.declared.walk.Mark.{Mark}
use Rattle.ways.specs.declared.walk.Mark.TheVariants as mark
use Rattle.ways.specs.declared.walk.Walk.{Walk}
use Rattle.ways.specs.Walk.{is_unknown, height_of, MarkFits, IsOn, IsDone}

module _ (next : ℕ → List ℕ) (w : Walk) (done : IsDone next w) (met : (a : ℕ) (m : Mark) → slice_get w.marks.items a ≡ Some m → is_unknown m ≡ false) where
  not_open : (a : ℕ) → slice_get w.marks.items a ≡ Some mark.Open → ⊥
  not_open a there = subst (λ path. IsOn path a) done.empty (done.walks.on_path a there)

  by_mark : (a : ℕ) (m : Mark) → slice_get w.marks.items a ≡ Some m → is_unknown m ≡ false → MarkFits next w.known a m → HeightFits next a (height_of m)
  by_mark a mark.Unknown there known fits = cc known
  by_mark a mark.Open there known fits = absurd (not_open a there)
  by_mark a (mark.Height h) there known fits = fits.0
  by_mark a mark.Endless there known fits = fits

  pub heights_told : AreHeights next (map height_of w.marks.items)
  heights_told a h there = go (slice_get w.marks.items a) refl (sym (slice_get-map height_of w.marks.items a) ∙ there)
    where
      go : (o : Option Mark) → slice_get w.marks.items a ≡ o → option_map height_of o ≡ Some h → HeightFits next a h
      go None e f = cc f
      go (Some m) e f = let same : height_of m ≡ h = cc f in subst (λ x. HeightFits next a x) same (by_mark a m e (met a m e) (done.walks.marked a m e))
