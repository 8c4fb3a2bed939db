-- A frame is put away, and a new one stands before it; frames are found by their numbers.
use Rattle.std.proofs.Common.{◌≡◌, ◌⊎◌, inl, inr, ⊎_elim, ℕ, ◌+◌, ◌-◌, ◌*◌, ◌/◌, ◌%◌, ◌^◌, ◌<◌, ◌≤◌, Bool, true, false, ◌==◌, List, [], ◌∷◌, length, Some, refl, sym, ap, ◌∙◌, subst, arith, get_or}
use Rattle.std.specs.Prelude.{sum, if◌then◌else◌, slice_index}
use Rattle.std.proofs.lemmas.Bool.{eqb-true}
use Rattle.std.proofs.lemmas.List.{get_or_past}
use Rattle.ram_words.specs.declared.frames.Hot.{Hot}
use Rattle.ram_words.specs.Region.{SameBut}
use Rattle.ram_words.specs.Cells.{row_in}
use Rattle.ram_words.specs.Frames.{sizes_at, placed, hot_at}
use Rattle.tiny_ram.specs.Memory.{RamFrame, frame_cells, frames_cells, innermost, frame_at, caller_of, callers}
use Rattle.tiny_ram.specs.Region.{Stands, Stacked}
use Rattle.tiny_ram.proofs.Elsewhere.{outside, kept_at-same}
use Rattle.tiny_ram.proofs.Stacks.{sizes_at-same, hot_at-same, stacked-same, stacked-end}

-- what was written into the header of the frame that waits from now on
pub record Away (ws us : List ℕ) (base : ℕ) (h : Hot) : Type 0 where
  pub depth : base < length ws → get_or us base 0 % 2 ^ 22 ≡ (h.top - h.stack) / 3 % 2 ^ 22
  pub initialiser : base < length ws → get_or us base 0 / 2 ^ 22 ≡ get_or ws base 0 / 2 ^ 22
  pub place : base + 2 < length ws → get_or us (base + 2) 0 ≡ h.place
  pub method : get_or us (base + 1) 0 ≡ get_or ws (base + 1) 0
  pub outside : SameBut base (base + 3) ws us

-- a stack place's number has 22 bits
pub small_stack : (ws : List ℕ) (base : ℕ) → slice_index (sizes_at ws base) 2 < 2 ^ 22
unfolding sizes_at
small_stack ws base = omega arith

-- the frame's own header tells where it goes on
pub away-hot : (ws us : List ℕ) (base : ℕ) (h : Hot) (f : RamFrame) → Stands ws base h f → Away ws us base h → base + 3 ≤ length ws → hot_at us base ≡ h
unfolding hot_at
away-hot ws us base h f k a room =
    let sizes : sizes_at us base ≡ f.sizes = sizes_at-same ws us base (outside (base + 3) (base + 6) base (base + 3) ws us a.outside (inr (omega arith))) ∙ k.sizes in
    let most : slice_index f.sizes 2 < 2 ^ 22 = subst (λ (z : List ℕ). slice_index z 2 < 2 ^ 22) k.sizes (small_stack ws base) in
    let top : h.top ≡ base + 6 + 3 * slice_index f.sizes 0 + 3 * slice_index f.sizes 1 + 3 * f.depth = ap (λ (g : Hot). g.top) k.hot in
    let stack : h.stack ≡ base + 6 + 3 * slice_index f.sizes 0 + 3 * slice_index f.sizes 1 = ap (λ (g : Hot). g.stack) k.hot in
    let d : get_or us base 0 % 2 ^ 22 ≡ f.depth = a.depth (omega arith) ∙ omega (arith, top, stack, most, k.depth) in
    ap (λ z. placed base z (get_or us base 0 % 2 ^ 22) (get_or us (base + 2) 0)) sizes
    ∙ ap (λ n. placed base f.sizes n (get_or us (base + 2) 0)) d
    ∙ ap (placed base f.sizes f.depth) (a.place (omega arith))
    ∙ sym k.hot

pub away-stands : (ws us : List ℕ) (base : ℕ) (h : Hot) (f : RamFrame) → Stands ws base h f → Away ws us base h → base + 3 ≤ length ws → Stands us base h f
away-stands ws us base h f k a room = record {
  sizes = sizes_at-same ws us base (outside (base + 3) (base + 6) base (base + 3) ws us a.outside (inr (omega arith))) ∙ k.sizes;
  method = ap row_in a.method ∙ k.method;
  initialiser = a.initialiser (omega arith) ∙ k.initialiser;
  hot = k.hot;
  place = k.place;
  depth = k.depth;
  count = k.count;
  places = λ i l. k.places i l ∙ sym (ap Some (kept_at-same ws us (base + 6 + 3 * i) (outside (base + 6 + 3 * i) (base + 6 + 3 * i + 3) base (base + 3) ws us a.outside (inr (omega arith)))));
}

past-hot : (ws us : List ℕ) (base : ℕ) → length us ≡ length ws → length ws ≤ base → hot_at us base ≡ hot_at ws base
past-hot ws us base e l = hot_at-same ws us base record { at = λ j m n. get_or_past us j 0 (omega arith) ∙ sym (get_or_past ws j 0 (omega arith)) }

-- the innermost frame waits, if there is one
pub put_away : (ws us : List ℕ) (end base : ℕ) (h : Hot) (fs : List RamFrame) → length ws ≡ end → Stacked ws end base h fs → Away ws us base h → Stacked us end base (hot_at us base) fs
put_away ws us end base h [] size k a = (k.0, refl)
put_away ws us end base h (f ∷ fs) size k a =
    let fills : base + 3 * frame_cells f + 3 * frames_cells fs ≡ end = stacked-end ws end (base + 3 * frame_cells f) (hot_at ws (base + 3 * frame_cells f)) fs k.1 in
    let room : base + 3 ≤ length ws = omega (arith, fills, size) in
    let next : ℕ = base + 3 * frame_cells f in
    let same : hot_at us next ≡ hot_at ws next = hot_at-same ws us next (outside next (next + 6) base (base + 3) ws us a.outside (inr (omega arith))) in (
      subst (λ (g : Hot). Stands us base g f) (sym (away-hot ws us base h f k.0 a room)) (away-stands ws us base h f k.0 a room),
      subst (λ (g : Hot). Stacked us end next g fs) (sym same) (stacked-same ws us end next (hot_at ws next) fs base (base + 3) a.outside (omega arith) k.1),
    )

-- frames behind all that was written, the first by its own header
pub stacked_behind : (ws us : List ℕ) (end base : ℕ) (fs : List RamFrame) (a b : ℕ) → SameBut a b ws us → b ≤ base → Stacked ws end base (hot_at ws base) fs → Stacked us end base (hot_at us base) fs
stacked_behind ws us end base fs a b s d k =
    let same : hot_at us base ≡ hot_at ws base = hot_at-same ws us base (outside base (base + 6) a b ws us s (inr d)) in
    subst (λ (g : Hot). Stacked us end base g fs) (sym same) (stacked-same ws us end base (hot_at ws base) fs a b s d k)

-- ---- frames by their numbers

-- where the frame of a number lies
pub record Found (ws : List ℕ) (room low : ℕ) (h : Hot) (fs : List RamFrame) (thing : ℕ) (f : RamFrame) : Type 0 where
  pub hot : Hot
  pub stands : Stands ws (3 * (thing - 1)) hot f
  pub first : ((3 * (thing - 1) ≡ low) × (hot ≡ h)) ⊎ ((low < 3 * (thing - 1)) × (hot ≡ hot_at ws (3 * (thing - 1))))
  pub rest : List RamFrame
  pub fills : 3 * (thing - 1) + 3 * frame_cells f + 3 * frames_cells rest ≡ 3 * room
  pub caller : caller_of room fs thing ≡ innermost room rest

pub found : (ws : List ℕ) (room low : ℕ) (h : Hot) (fs : List RamFrame) (thing : ℕ) (f : RamFrame) → Stacked ws (3 * room) low h fs → frame_at room fs thing ≡ Some f → Found ws room low h fs thing f
found ws room low h [] thing f k e = absurd (cc e)
found ws room low h (g ∷ gs) thing f k e = at (innermost room (g ∷ gs) == thing) refl (λ s. found ws room (low + 3 * frame_cells g) (hot_at ws (low + 3 * frame_cells g)) gs thing f k.1 s) e
  where
    fills : low + 3 * frame_cells g + 3 * frames_cells gs ≡ 3 * room
    fills = stacked-end ws (3 * room) (low + 3 * frame_cells g) (hot_at ws (low + 3 * frame_cells g)) gs k.1

    at : (b : Bool) → (innermost room (g ∷ gs) == thing) ≡ b → (frame_at room gs thing ≡ Some f → Found ws room (low + 3 * frame_cells g) (hot_at ws (low + 3 * frame_cells g)) gs thing f) → (if b then Some g else frame_at room gs thing) ≡ Some f → Found ws room low h (g ∷ gs) thing f
    at true q deeper s =
        let number : 1 + (room - (frame_cells g + frames_cells gs)) ≡ thing = eqb-true (innermost room (g ∷ gs)) thing q in
        let base : low ≡ 3 * (thing - 1) = omega (arith, fills, number) in
        let same : g ≡ f = cc s in
        record {
          hot = h;
          stands = subst (λ (x : RamFrame). Stands ws (3 * (thing - 1)) h x) same (subst (λ j. Stands ws j h g) base k.0);
          first = inl (sym base, refl);
          rest = gs;
          fills = subst (λ (x : RamFrame). 3 * (thing - 1) + 3 * frame_cells x + 3 * frames_cells gs ≡ 3 * room) same (omega (arith, fills, base));
          caller = ap (λ (b : Bool). if b then innermost room gs else caller_of room gs thing) q;
        }
    at false q deeper s =
        let next : ℕ = low + 3 * frame_cells g in
        let r : Found ws room next (hot_at ws next) gs thing f = deeper s in
        record {
          hot = r.hot;
          stands = r.stands;
          first = inr (⊎_elim
              (λ (z : (3 * (thing - 1) ≡ next) × (r.hot ≡ hot_at ws next)). let there : low < 3 * (thing - 1) = omega (arith, z.0) in (there, z.1 ∙ ap (hot_at ws) (sym z.0)))
              (λ (z : (next < 3 * (thing - 1)) × (r.hot ≡ hot_at ws (3 * (thing - 1)))). let there : low < 3 * (thing - 1) = omega (arith, z.0) in (there, z.1))
              r.first);
          rest = r.rest;
          fills = r.fills;
          caller = ap (λ (b : Bool). if b then innermost room gs else caller_of room gs thing) q ∙ r.caller;
        }

-- the number at a word from which frames fill the memory
pub numbered : (room base n : ℕ) (fs : List RamFrame) → base + 3 * frames_cells fs ≡ 3 * room → (base < 3 * room → n ≡ base / 3 + 1) → (3 * room ≤ base → n ≡ 0) → n ≡ innermost room fs
numbered room base n [] e some none = none (omega (arith, e))
numbered room base n (f ∷ fs) e some none = some (omega (arith, e)) ∙ omega (arith, e)

-- ---- the innermost frame ends

pub record Left (ws : List ℕ) (room low end : ℕ) (fs : List RamFrame) : Type 0 where
  pub stacked : Stacked ws (3 * room) end (hot_at ws end) (callers fs)
  pub order : low ≤ end

pub left : (ws : List ℕ) (room low end : ℕ) (h : Hot) (fs : List RamFrame) → Stacked ws (3 * room) low h fs → low < 3 * room → end ≡ low + 3 * (2 + sum (sizes_at ws low)) → Left ws room low end fs
left ws room low end h [] k l e = absurd (omega (arith, k.0))
left ws room low end h (f ∷ fs) k l e =
    let there : low + 3 * frame_cells f ≡ end = ap (λ (z : List ℕ). low + 3 * (2 + sum z)) (sym k.0.sizes) ∙ sym e in
    record { stacked = subst (λ j. Stacked ws (3 * room) j (hot_at ws j) fs) there k.1; order = omega (arith, e) }

pub none_left : (ws : List ℕ) (room low : ℕ) (h : Hot) (fs : List RamFrame) → Stacked ws (3 * room) low h fs → 3 * room ≤ low → fs ≡ callers fs
none_left ws room low h [] k l = refl
none_left ws room low h (f ∷ fs) k l =
    let fills : low + 3 * frame_cells f + 3 * frames_cells fs ≡ 3 * room = stacked-end ws (3 * room) (low + 3 * frame_cells f) (hot_at ws (low + 3 * frame_cells f)) fs k.1 in
    absurd (omega (arith, fills))
