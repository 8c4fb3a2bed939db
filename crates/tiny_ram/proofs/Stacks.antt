-- Frames behind a write, and where they end.
use Rattle.std.proofs.Common.{◌≡◌, inr, ℕ, ◌+◌, ◌*◌, ◌/◌, ◌%◌, ◌^◌, ◌<◌, ◌≤◌, List, [], ◌∷◌, Some, sym, ap, ◌∙◌, subst, arith, get_or}
use Rattle.std.specs.Prelude.{sum}
use Rattle.ram_words.specs.declared.frames.Hot.{Hot}
use Rattle.ram_words.specs.Region.{SameBut}
use Rattle.ram_words.specs.Cells.{row_in}
use Rattle.ram_words.specs.Frames.{sizes_in, sizes_at, placed, hot_at}
use Rattle.tiny_ram.specs.Memory.{RamFrame, frame_cells, frames_cells}
use Rattle.tiny_ram.specs.Region.{Stands, Stacked}
use Rattle.tiny_ram.proofs.Elsewhere.{Agree, outside, part, kept_at-same}

pub sizes_at-same : (ws us : List ℕ) (base : ℕ) → Agree (base + 3) (base + 6) ws us → sizes_at us base ≡ sizes_at ws base
unfolding sizes_at
sizes_at-same ws us base s =
    ap (λ w. sizes_in w (get_or us (base + 4) 0) (get_or us (base + 5) 0)) (s.at (base + 3) (omega arith) (omega arith))
    ∙ ap (λ w. sizes_in (get_or ws (base + 3) 0) w (get_or us (base + 5) 0)) (s.at (base + 4) (omega arith) (omega arith))
    ∙ ap (λ w. sizes_in (get_or ws (base + 3) 0) (get_or ws (base + 4) 0) w) (s.at (base + 5) (omega arith) (omega arith))

pub hot_at-same : (ws us : List ℕ) (base : ℕ) → Agree base (base + 6) ws us → hot_at us base ≡ hot_at ws base
unfolding hot_at
hot_at-same ws us base s =
    ap (λ z. placed base z (get_or us base 0 % 2 ^ 22) (get_or us (base + 2) 0)) (sizes_at-same ws us base (part base (base + 6) (base + 3) (base + 6) ws us s (omega arith) (omega arith)))
    ∙ ap (λ w. placed base (sizes_at ws base) (w % 2 ^ 22) (get_or us (base + 2) 0)) (s.at base (omega arith) (omega arith))
    ∙ ap (λ w. placed base (sizes_at ws base) (get_or ws base 0 % 2 ^ 22) w) (s.at (base + 2) (omega arith) (omega arith))

pub stands-same : (ws us : List ℕ) (base : ℕ) (h : Hot) (f : RamFrame) → Agree base (base + 3 * frame_cells f) ws us → Stands ws base h f → Stands us base h f
stands-same ws us base h f s k = record {
  sizes = sizes_at-same ws us base (part base (base + 3 * frame_cells f) (base + 3) (base + 6) ws us s (omega arith) (omega arith)) ∙ k.sizes;
  method = ap row_in (s.at (base + 1) (omega arith) (omega arith)) ∙ k.method;
  initialiser = ap (λ w. w / 2 ^ 22) (s.at base (omega arith) (omega arith)) ∙ k.initialiser;
  hot = k.hot;
  place = k.place;
  depth = k.depth;
  count = k.count;
  places = λ i l.
      let inner : i < sum f.sizes = omega (arith, l, k.count) in
      k.places i l ∙ sym (ap Some (kept_at-same ws us (base + 6 + 3 * i) (part base (base + 3 * frame_cells f) (base + 6 + 3 * i) (base + 6 + 3 * i + 3) ws us s (omega arith) (omega (arith, inner)))));
}

-- all frames, where a write is before the first
pub stacked-same : (ws us : List ℕ) (end base : ℕ) (h : Hot) (fs : List RamFrame) (a b : ℕ) → SameBut a b ws us → b ≤ base → Stacked ws end base h fs → Stacked us end base h fs
stacked-same ws us end base h [] a b s d k = (k.0, k.1 ∙ sym (hot_at-same ws us base (outside base (base + 6) a b ws us s (inr d))))
stacked-same ws us end base h (f ∷ fs) a b s d k =
    let next : ℕ = base + 3 * frame_cells f in
    let same : hot_at us next ≡ hot_at ws next = hot_at-same ws us next (outside next (next + 6) a b ws us s (inr (omega arith))) in (
      stands-same ws us base h f (outside base (base + 3 * frame_cells f) a b ws us s (inr d)) k.0,
      subst (λ (g : Hot). Stacked us end next g fs) (sym same) (stacked-same ws us end next (hot_at ws next) fs a b s (omega arith) k.1),
    )

-- frames fill the words up to the end
pub stacked-end : (ws : List ℕ) (end base : ℕ) (h : Hot) (fs : List RamFrame) → Stacked ws end base h fs → base + 3 * frames_cells fs ≡ end
stacked-end ws end base h [] k = omega (arith, k.0)
stacked-end ws end base h (f ∷ fs) k =
    let rest : base + 3 * frame_cells f + 3 * frames_cells fs ≡ end = stacked-end ws end (base + 3 * frame_cells f) (hot_at ws (base + 3 * frame_cells f)) fs k.1 in
    omega (arith, rest)
