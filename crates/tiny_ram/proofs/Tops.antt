-- The innermost frame changes by a write inside it.
use Rattle.std.proofs.Common.{◌≡◌, inl, inr, ⊎_elim, ℕ, ◌+◌, ◌*◌, ◌<◌, ◌≤◌, List, ◌∷◌, length, refl, ap, ◌∙◌, subst, arith}
use Rattle.std.specs.Prelude.{sum, slice_index}
use Rattle.ram_words.specs.declared.frames.Hot.{Hot}
use Rattle.ram_words.specs.Region.{SameBut}
use Rattle.ram_words.specs.Frames.{sizes_at, placed, hot_at}
use Rattle.tiny_ram.specs.Memory.{RamFrame, Memory, frame_cells, frames_cells, with_frames}
use Rattle.tiny_ram.specs.Region.{Stands, Stacked, Holds}
use Rattle.tiny_ram.proofs.Elsewhere.{laid-same}
use Rattle.tiny_ram.proofs.Stacks.{stacked-end}
use Rattle.tiny_ram.proofs.Puts.{first_put}

three_sizes : (ws : List ℕ) (base : ℕ) → slice_index (sizes_at ws base) 0 + slice_index (sizes_at ws base) 1 + slice_index (sizes_at ws base) 2 ≤ sum (sizes_at ws base)
unfolding sizes_at
three_sizes ws base = omega arith

-- where the innermost frame lies
pub record Top (ws : List ℕ) (end low room : ℕ) (h : Hot) (f : RamFrame) (fs : List RamFrame) : Type 0 where
  pub stands : Stands ws low h f
  pub arguments : h.arguments ≡ low + 6
  pub stack : h.stack ≡ low + 6 + 3 * slice_index f.sizes 0 + 3 * slice_index f.sizes 1
  pub top : h.top ≡ low + 6 + 3 * slice_index f.sizes 0 + 3 * slice_index f.sizes 1 + 3 * f.depth
  pub limit : h.limit ≡ low + 6 + 3 * slice_index f.sizes 0 + 3 * slice_index f.sizes 1 + 3 * slice_index f.sizes 2
  pub three : slice_index f.sizes 0 + slice_index f.sizes 1 + slice_index f.sizes 2 ≤ sum f.sizes
  pub inside : low + 3 * frame_cells f ≤ length ws
  pub small : length ws ≤ 12582912

pub top_of : (ws : List ℕ) (end : ℕ) (h : Hot) (m : Memory) (f : RamFrame) (fs : List RamFrame) (k : Holds ws end h m) → m.frames ≡ f ∷ fs → Top ws end k.low m.room h f fs
top_of ws end h m f fs k e =
    let stacked : Stacked ws (3 * m.room) k.low h (f ∷ fs) = subst (λ (z : List RamFrame). Stacked ws (3 * m.room) k.low h z) e k.stacked in
    let fills : k.low + 3 * frame_cells f + 3 * frames_cells fs ≡ 3 * m.room = stacked-end ws (3 * m.room) (k.low + 3 * frame_cells f) (hot_at ws (k.low + 3 * frame_cells f)) fs stacked.1 in
    record {
      stands = stacked.0;
      arguments = ap (λ (g : Hot). g.arguments) stacked.0.hot;
      stack = ap (λ (g : Hot). g.stack) stacked.0.hot;
      top = ap (λ (g : Hot). g.top) stacked.0.hot;
      limit = ap (λ (g : Hot). g.limit) stacked.0.hot;
      three = subst (λ (z : List ℕ). slice_index z 0 + slice_index z 1 + slice_index z 2 ≤ sum z) stacked.0.sizes (three_sizes ws k.low);
      inside = omega (arith, fills, k.size);
      small = omega (arith, k.size, k.most);
    }

pub top_changed :
    (ws us : List ℕ) (end : ℕ) (h new : Hot) (m : Memory) (f g : RamFrame) (fs : List RamFrame) (k : Holds ws end h m)
    → m.frames ≡ f ∷ fs → frame_cells g ≡ frame_cells f → SameBut k.low (k.low + 3 * frame_cells f) ws us → Stands us k.low new g
    → Holds us end new (with_frames m (g ∷ fs))
top_changed ws us end h new m f g fs k e z s n =
    let stacked : Stacked ws (3 * m.room) k.low h (f ∷ fs) = subst (λ (z : List RamFrame). Stacked ws (3 * m.room) k.low h z) e k.stacked in
    record {
      size = s.size ∙ k.size;
      most = k.most;
      heap = k.heap;
      laid = laid-same ws us 0 k.low (k.low + 3 * frame_cells f) m.heap s (inl (omega (arith, k.heap, k.order))) k.laid;
      low = k.low;
      low_at = ap (λ (x : Hot). x.arguments) n.hot;
      stacked = first_put ws us (3 * m.room) k.low k.low new f f g fs stacked.1 refl refl z s n;
      order = k.order;
    }

-- nothing is written
pub unchanged : (a b : ℕ) (ws : List ℕ) → SameBut a b ws ws
unchanged a b ws = record { size = refl; at = λ i d. refl }

-- the stack has another depth
pub deep : (ws : List ℕ) (base : ℕ) (h : Hot) (f : RamFrame) (n top : ℕ) → Stands ws base h f → n ≤ slice_index f.sizes 2 → top ≡ base + 6 + 3 * slice_index f.sizes 0 + 3 * slice_index f.sizes 1 + 3 * n → Stands ws base (record h { top = top }) (record f { depth = n })
deep ws base h f n top k l e = record {
  sizes = k.sizes;
  method = k.method;
  initialiser = k.initialiser;
  hot =
      ap (λ (g : Hot). let x : Hot = record g { top = top } in x) k.hot
      ∙ ap (λ t. let x : Hot = record (placed base f.sizes f.depth h.place) { top = t } in x) e;
  place = k.place;
  depth = l;
  count = k.count;
  places = k.places;
}

-- a wider stretch
pub wider : (a b low high : ℕ) (ws us : List ℕ) → SameBut a b ws us → low ≤ a → b ≤ high → SameBut low high ws us
wider a b low high ws us s l h = record { size = s.size; at = λ i d. s.at i (⊎_elim (λ (e : i < low). inl (omega arith)) (λ (e : high ≤ i). inr (omega arith)) d) }
