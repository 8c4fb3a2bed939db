-- Arguments that are handed over one by one.
use Rattle.std.proofs.Common.{◌≡◌, ℕ, ◌+◌, ◌%◌, ◌<◌, ◌≤◌, List, ◌∷◌, length, Some, refl, sym, ap, ◌∙◌, subst, arith, below_more}
use Rattle.std.specs.Prelude.{sum, slice_index, slice_set}
use Rattle.std.proofs.lemmas.List.{length-set}
use Rattle.kept_values.specs.declared.keeping.PlaceKind.{PlaceKind}
use Rattle.tiny_ram.specs.Memory.{RamFrame, Memory, innermost, frame_at, variables, with_frames, IsFrame}
use Rattle.tiny_ram.specs.Region.{Keeps}
use Rattle.tiny_ram.specs.declared.memory.Ram.{Ram}
use Rattle.tiny_ram.proofs.Kept.{frame_new, frame_stays}
use Rattle.tiny_ram.proofs.Tops.{top_of}
use Rattle.memory_states.proofs.Lists.{set_here, set_elsewhere}
use Rattle.tiny_except.proofs.Walks.{small}
use Rattle.tiny_except.proofs.Tops.{top_is}
use Rattle.step_calls.specs.declared.arguments.Given.{Given}
use Rattle.step_calls.specs.Arguments.{value_of, AreBeside, HandedOne, IsHanded, HandedOver}

pub wrapped : (a b n : ℕ) → a + b < n → n ≤ 4194304 → (a + b) % 4294967296 ≡ a + b
wrapped a b n l k = omega (arith, l, k)

pub two_wrapped : (a b d : ℕ) → a + b + d ≤ 4194304 → ((a + b) % 4294967296 + d) % 4294967296 ≡ a + b + d
two_wrapped a b d l = omega (arith, l)

-- a stack lies within its frame's places
pub record Deep (f : RamFrame) : Type 0 where
  pub most : f.depth ≤ slice_index f.sizes 2
  pub inside : variables f + slice_index f.sizes 2 ≤ sum f.sizes
  pub few : sum f.sizes ≤ 4194304

pub deep : (r : Ram) (m : Memory) (f : RamFrame) (fs : List RamFrame) → Keeps r m → m.frames ≡ f ∷ fs → Deep f
deep r m f fs k e =
    let top = top_of r.words.items r.heap r.hot m f fs k e in
    record { most = top.stands.depth; inside = top.three; few = small r m (innermost m.room m.frames) f k (top_is m (innermost m.room m.frames) f fs e refl) }

module _ (m : Memory) (y f : RamFrame) (fs : List RamFrame) (from to : ℕ) (e : m.frames ≡ y ∷ f ∷ fs) (b : AreBeside m.room y f fs from to) where
  pub caller_is : IsFrame m from f
  caller_is =
      ap (frame_at m.room m.frames) b.calls ∙ ap (λ z. frame_at m.room z (innermost m.room (f ∷ fs))) e
      ∙ frame_stays m.room y (f ∷ fs) (innermost m.room (f ∷ fs)) f b.fits (frame_new m.room f fs)

  pub starts_at : to ≡ innermost m.room m.frames
  starts_at = b.starts ∙ sym (ap (innermost m.room) e)

module _ (m : Memory) (y f : RamFrame) (fs : List RamFrame) (kinds : ℕ → PlaceKind) (x : Given) where
  pub none_handed : (r : Ram) → Keeps r m → m.frames ≡ y ∷ f ∷ fs → HandedOver r m y f fs kinds x 0
  none_handed r k e = record {
    places = y.places;
    keeps = subst (λ (z : List RamFrame). Keeps r (with_frames m z)) e k;
    count = refl;
    each = λ i l. absurd (omega (arith, l));
    others = λ i l. refl;
  }

  module _ (u v : Ram) (i : ℕ) (old : HandedOver u m y f fs kinds x i) (inside : i < length y.places) where
    pub one_more : HandedOne v (with_frames m (record y { places = old.places } ∷ f ∷ fs)) (record y { places = old.places }) (f ∷ fs) (kinds i) (value_of f x i) i → HandedOver v m y f fs kinds x (i + 1)
    one_more h =
        let held = slice_set old.places i (Some h.kept.value) in
        let count = old.count in
        let here : i < length old.places = omega (arith, inside, count) in
        record {
          places = held;
          keeps = h.keeps;
          count = length-set old.places i (Some h.kept.value) ∙ old.count;
          each = below_more (λ j. IsHanded held (kinds j) (value_of f x j) j) i
              (λ j l. let one = old.each j l in record { kept = one.kept; here = set_elsewhere old.places i j (Some h.kept.value) (λ q. omega (arith, q, l)) ∙ one.here })
              (record { kept = h.kept; here = set_here old.places i (Some h.kept.value) here });
          others = λ j l. set_elsewhere old.places i j (Some h.kept.value) (λ q. omega (arith, q, l)) ∙ old.others j (omega (arith, l));
        }
