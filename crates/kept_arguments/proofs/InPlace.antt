-- Arguments that are kept in place one by one.
use Rattle.std.proofs.Common.{◌≡◌, ℕ, ◌+◌, ◌<◌, List, ◌∷◌, length, Some, refl, sym, ap, ◌∙◌, subst, arith, below_more}
use Rattle.std.specs.Prelude.{None, slice_set, unwrap_or}
use Rattle.std.proofs.lemmas.List.{length-set}
use Rattle.board_types.specs.declared.value.Value.TheVariants.{Ref}
use Rattle.kept_values.specs.declared.keeping.PlaceKind.{PlaceKind}
use Rattle.kept_values.specs.Keeping.{kept_as}
use Rattle.tiny_ram.specs.Memory.{RamFrame, Memory, with_frames}
use Rattle.tiny_ram.specs.Region.{Keeps}
use Rattle.tiny_ram.specs.declared.memory.Ram.{Ram}
use Rattle.memory_states.proofs.Lists.{set_here, set_elsewhere}
use Rattle.step_calls.specs.Arguments.{held_at, IsHanded}
use Rattle.kept_arguments.specs.Kept.{KeptHere, KeptInPlace}

module _ (m : Memory) (f : RamFrame) (fs : List RamFrame) (kinds : ℕ → PlaceKind) (first : ℕ) where
  pub none_kept : (r : Ram) → Keeps r m → m.frames ≡ f ∷ fs → KeptInPlace r m f fs kinds first 0
  none_kept r k e = record {
    places = f.places;
    keeps = subst (λ (z : List RamFrame). Keeps r (with_frames m z)) e k;
    count = refl;
    each = λ i l. absurd (omega (arith, l));
    lower = λ j l. refl;
    upper = λ j l. refl;
  }

  module _ (u : Ram) (i : ℕ) (old : KeptInPlace u m f fs kinds first i) where
    -- the next one still lies there
    pub still_held : held_at (record f { places = old.places }) (first + i) ≡ held_at f (first + i)
    still_held = ap (λ o. unwrap_or (unwrap_or o None) (Ref 0)) (old.upper (first + i) (omega arith))

    pub one_more : (v : Ram) → first + i < length f.places → KeptHere v (with_frames m (record f { places = old.places } ∷ fs)) (record f { places = old.places }) fs (kinds i) (first + i) → KeptInPlace v m f fs kinds first (i + 1)
    one_more v inside h =
        let held = slice_set old.places (first + i) (Some h.kept.value) in
        let count = old.count in
        let here : first + i < length old.places = omega (arith, inside, count) in
        record {
          places = held;
          keeps = h.keeps;
          count = length-set old.places (first + i) (Some h.kept.value) ∙ old.count;
          each = below_more (λ j. IsHanded held (kinds j) (held_at f (first + j)) (first + j)) i
              (λ j l. let one = old.each j l in record { kept = one.kept; here = set_elsewhere old.places (first + i) (first + j) (Some h.kept.value) (λ q. omega (arith, q, l)) ∙ one.here })
              (record { kept = record { value = h.kept.value; is = ap (kept_as (kinds i)) (sym still_held) ∙ h.kept.is }; here = set_here old.places (first + i) (Some h.kept.value) here });
          lower = λ j l. set_elsewhere old.places (first + i) j (Some h.kept.value) (λ q. omega (arith, q, l)) ∙ old.lower j l;
          upper = λ j l. set_elsewhere old.places (first + i) j (Some h.kept.value) (λ q. omega (arith, q, l)) ∙ old.upper j (omega (arith, l));
        }
