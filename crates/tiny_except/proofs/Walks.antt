-- A walk from the innermost frame outwards, by the frames' numbers.
use Rattle.std.proofs.Common.{◌≡◌, ◌≢◌, ℕ, ◌+◌, ◌-◌, ◌*◌, ◌^◌, ◌<◌, ◌≤◌, Bool, true, false, ◌==◌, List, [], ◌∷◌, length, Some, refl, sym, ap, ◌∙◌, subst, arith, eq-eqb}
use Rattle.std.specs.Prelude.{if◌then◌else◌, sum}
use Rattle.std.proofs.lemmas.Bool.{eqb-true}
use Rattle.tiny_ram.specs.Memory.{RamFrame, Memory, frame_cells, frames_cells, innermost, frame_at, caller_of, IsFrame}
use Rattle.tiny_ram.specs.Region.{Keeps}
use Rattle.tiny_ram.specs.declared.memory.Ram.{Ram}
use Rattle.tiny_ram.proofs.Stacks.{stacked-end}

-- the frames from that of a number on
abbrev pub from_frame : ℕ → List RamFrame → ℕ → List RamFrame
from_frame room [] thing = []
from_frame room (f ∷ fs) thing = if innermost room (f ∷ fs) == thing then f ∷ fs else from_frame room fs thing

pub from_top : (room : ℕ) (fs : List RamFrame) → from_frame room fs (innermost room fs) ≡ fs
from_top room [] = refl
from_top room (f ∷ fs) = ap (λ (b : Bool). if b then f ∷ fs else from_frame room fs (innermost room (f ∷ fs))) (eq-eqb (innermost room (f ∷ fs)) (innermost room (f ∷ fs)) refl)

pub from_nothing : (room : ℕ) (fs : List RamFrame) → from_frame room fs 0 ≡ []
from_nothing room [] = refl
from_nothing room (f ∷ fs) = by (innermost room (f ∷ fs) == 0) refl (from_nothing room fs)
  where
    by : (b : Bool) → (innermost room (f ∷ fs) == 0) ≡ b → from_frame room fs 0 ≡ [] → (if b then f ∷ fs else from_frame room fs 0) ≡ []
    by true q ih = absurd (omega (arith, eqb-true (innermost room (f ∷ fs)) 0 q))
    by false q ih = ih

pub here : (room : ℕ) (fs : List RamFrame) (thing : ℕ) (g : RamFrame) (gs : List RamFrame) → from_frame room fs thing ≡ g ∷ gs → frame_at room fs thing ≡ Some g
here room [] thing g gs e = absurd (cc e)
here room (f ∷ fs) thing g gs e = by (innermost room (f ∷ fs) == thing) (here room fs thing g gs) e
  where
    by : (b : Bool) → (from_frame room fs thing ≡ g ∷ gs → frame_at room fs thing ≡ Some g) → (if b then f ∷ fs else from_frame room fs thing) ≡ g ∷ gs → (if b then Some f else frame_at room fs thing) ≡ Some g
    by true ih q = let same : f ≡ g = cc q in ap Some same
    by false ih q = ih q

top_other : (room : ℕ) (fs : List RamFrame) (n : ℕ) → 0 < n → n ≤ room - frames_cells fs → innermost room fs ≢ n
top_other room [] n l h e = omega (arith, l, e)
top_other room (f ∷ fs) n l h e = omega (arith, h, e)

caller_other : (room : ℕ) (fs : List RamFrame) (thing n : ℕ) → 0 < n → n ≤ room - frames_cells fs → caller_of room fs thing ≢ n
caller_other room [] thing n l h e = omega (arith, l, e)
caller_other room (f ∷ fs) thing n l h e = by (innermost room (f ∷ fs) == thing) (caller_other room fs thing n l (omega (arith, h))) e
  where
    by : (b : Bool) → caller_of room fs thing ≢ n → (if b then innermost room fs else caller_of room fs thing) ≡ n → ⊥
    by true ih q = top_other room fs n l (omega (arith, h)) q
    by false ih q = ih q

not_equal : (a b : ℕ) → a ≢ b → (a == b) ≡ false
not_equal a b h = by (a == b) refl
  where
    by : (x : Bool) → (a == b) ≡ x → x ≡ false
    by true q = absurd (h (eqb-true a b q))
    by false q = refl

-- a frame that isn't the first is found behind it
skip : (room : ℕ) (f : RamFrame) (fs : List RamFrame) (n : ℕ) → n ≢ innermost room (f ∷ fs) → from_frame room (f ∷ fs) n ≡ from_frame room fs n
skip room f fs n h = ap (λ (b : Bool). if b then f ∷ fs else from_frame room fs n) (not_equal (innermost room (f ∷ fs)) n (λ e. h (sym e)))

pub outwards : (room : ℕ) (fs : List RamFrame) (thing : ℕ) (g : RamFrame) (gs : List RamFrame) → frames_cells fs ≤ room → from_frame room fs thing ≡ g ∷ gs → from_frame room fs (caller_of room fs thing) ≡ gs
outwards room [] thing g gs l e = absurd (cc e)
outwards room (f ∷ fs) thing g gs l e = by (innermost room (f ∷ fs) == thing) (outwards room fs thing g gs (omega (arith, l))) e
  where
    low : 1 + (room - frames_cells (f ∷ fs)) ≤ room - frames_cells fs
    low = omega (arith, l)

    some : 0 < 1 + (room - frames_cells (f ∷ fs))
    some = omega arith

    by : (b : Bool) → (from_frame room fs thing ≡ g ∷ gs → from_frame room fs (caller_of room fs thing) ≡ gs) → (if b then f ∷ fs else from_frame room fs thing) ≡ g ∷ gs → from_frame room (f ∷ fs) (if b then innermost room fs else caller_of room fs thing) ≡ gs
    by true ih q = let same : fs ≡ gs = cc q in skip room f fs (innermost room fs) (top_other room fs (1 + (room - frames_cells (f ∷ fs))) some low) ∙ from_top room fs ∙ same
    by false ih q = skip room f fs (caller_of room fs thing) (caller_other room fs thing (1 + (room - frames_cells (f ∷ fs))) some low) ∙ ih q

pub caller_is : (room : ℕ) (fs : List RamFrame) (thing : ℕ) (g : RamFrame) (gs : List RamFrame) → from_frame room fs thing ≡ g ∷ gs → caller_of room fs thing ≡ innermost room gs
caller_is room [] thing g gs e = absurd (cc e)
caller_is room (f ∷ fs) thing g gs e = by (innermost room (f ∷ fs) == thing) (caller_is room fs thing g gs) e
  where
    by : (b : Bool) → (from_frame room fs thing ≡ g ∷ gs → caller_of room fs thing ≡ innermost room gs) → (if b then f ∷ fs else from_frame room fs thing) ≡ g ∷ gs → (if b then innermost room fs else caller_of room fs thing) ≡ innermost room gs
    by true ih q = let same : fs ≡ gs = cc q in ap (innermost room) same
    by false ih q = ih q

pub few : (fs : List RamFrame) → 2 * length fs ≤ frames_cells fs
few [] = omega arith
few (f ∷ fs) = let rest = few fs in omega (arith, rest)

-- the frames of a memory are within its room
pub record Roomy (m : Memory) : Type 0 where
  pub cells : frames_cells m.frames ≤ m.room
  pub most : m.room ≤ 4194304
  pub count : 2 * length m.frames ≤ m.room

pub roomy : (r : Ram) (m : Memory) → Keeps r m → Roomy m
roomy r m k =
    let fills : k.low + 3 * frames_cells m.frames ≡ 3 * m.room = stacked-end r.words.items (3 * m.room) k.low r.hot m.frames k.stacked in
    let most : m.room ≤ 2 ^ 22 = k.most in
    let two = few m.frames in
    record { cells = omega (arith, fills); most = most; count = omega (arith, fills, two) }

pub frame_fits : (room : ℕ) (fs : List RamFrame) (thing : ℕ) (f : RamFrame) → frame_at room fs thing ≡ Some f → frame_cells f ≤ frames_cells fs
frame_fits room [] thing f e = absurd (cc e)
frame_fits room (g ∷ gs) thing f e = by (innermost room (g ∷ gs) == thing) (frame_fits room gs thing f) e
  where
    by : (b : Bool) → (frame_at room gs thing ≡ Some f → frame_cells f ≤ frames_cells gs) → (if b then Some g else frame_at room gs thing) ≡ Some f → frame_cells f ≤ frames_cells (g ∷ gs)
    by true ih q = let same : g ≡ f = cc q in subst (λ (z : RamFrame). frame_cells z ≤ frames_cells (g ∷ gs)) same (omega arith)
    by false ih q = let rest = ih q in omega (arith, rest)

-- a frame's places have numbers of 32 bits, with the three behind them
pub small : (r : Ram) (m : Memory) (thing : ℕ) (f : RamFrame) → Keeps r m → IsFrame m thing f → sum f.sizes ≤ 4194304
small r m thing f k e = let fits = frame_fits m.room m.frames thing f e in let room = roomy r m k in omega (arith, fits, room.cells, room.most)
