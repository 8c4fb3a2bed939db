-- What a memory has by its numbers after a call.
use Rattle.std.proofs.Common.{◌≡◌, ◌≢◌, ⊎_elim, ℕ, ◌+◌, ◌-◌, ◌*◌, ◌/◌, ◌<◌, ◌≤◌, Bool, true, false, ◌==◌, List, [], ◌∷◌, ◌++◌, Option, Some, None, refl, sym, ap, ◌∙◌, arith}
use Rattle.std.specs.Prelude.{if◌then◌else◌, nat_lt}
use Rattle.std.proofs.lemmas.Bool.{eqb-true, eqb-false, eq-eqb, ne_eqb, le-ltb}
use Rattle.machine.specs.Data.{Cell, element_bytes}
use Rattle.tiny_ram.specs.Things.{Entry, entry_cells, layout_of, packed_by, cells_in}
use Rattle.tiny_ram.specs.Memory.{RamFrame, heap_cells, frame_cells, frames_cells, entry_at, put_entry, innermost, frame_at, put_frame}
use Rattle.tiny_ram.proofs.Elsewhere.{some_cells}
use Rattle.tiny_ram.proofs.Heaps.{first_or_later, put_first, put_later}

pub packed_cells : (o : Option Cell) (n : ℕ) → cells_in (packed_by o) n ≡ 1 + (n * element_bytes o + 11) / 12
packed_cells None n = omega arith
packed_cells (Some cell) n = refl

entry_first : (x : Entry) (xs : List Entry) (n : ℕ) → n ≡ 0 → entry_at (x ∷ xs) n ≡ Some x
entry_first x xs n e = ap (λ (b : Bool). if b then Some x else (if nat_lt n (entry_cells x) then None else entry_at xs (n - entry_cells x))) (eq-eqb n 0 e)

entry_later : (x : Entry) (xs : List Entry) (n : ℕ) → 0 < n → entry_cells x ≤ n → entry_at (x ∷ xs) n ≡ entry_at xs (n - entry_cells x)
entry_later x xs n h k =
    ap (λ (b : Bool). if b then Some x else (if nat_lt n (entry_cells x) then None else entry_at xs (n - entry_cells x))) (ne_eqb n 0 (λ e. omega arith))
    ∙ ap (λ (b : Bool). if b then None else entry_at xs (n - entry_cells x)) (le-ltb n (entry_cells x) k)

pub entry_put : (xs : List Entry) (n : ℕ) (x y : Entry) → entry_at xs n ≡ Some x → entry_cells y ≡ entry_cells x → entry_at (put_entry xs n y) n ≡ Some y
entry_put [] n x y e z = absurd (cc e)
entry_put (w ∷ ws) n x y e z =
    ⊎_elim
    (λ (q : (n ≡ 0) × (w ≡ x)). ap (λ l. entry_at l n) (put_first w ws n y q.0) ∙ entry_first y ws n q.0)
    (λ (q : (0 < n) × (entry_cells w ≤ n) × (entry_at ws (n - entry_cells w) ≡ Some x)).
    ap (λ l. entry_at l n) (put_later w ws n y q.0 q.1) ∙ entry_later w (put_entry ws (n - entry_cells w) y) n q.0 q.1 ∙ entry_put ws (n - entry_cells w) x y q.2 z)
    (first_or_later w ws n x e)

pub entry_other : (xs : List Entry) (n k : ℕ) (x y z : Entry) → entry_at xs n ≡ Some x → entry_cells y ≡ entry_cells x → k ≢ n → entry_at xs k ≡ Some z → entry_at (put_entry xs n y) k ≡ Some z
entry_other [] n k x y z e s d t = absurd (cc e)
entry_other (w ∷ ws) n k x y z e s d t =
    ⊎_elim
    (λ (q : (n ≡ 0) × (w ≡ x)).
    let size : entry_cells y ≡ entry_cells w = s ∙ sym (ap entry_cells q.1) in
    ap (λ l. entry_at l k) (put_first w ws n y q.0)
    ∙ ⊎_elim
    (λ (p : (k ≡ 0) × (w ≡ z)). absurd (d (p.0 ∙ sym q.0)))
    (λ (p : (0 < k) × (entry_cells w ≤ k) × (entry_at ws (k - entry_cells w) ≡ Some z)).
    entry_later y ws k p.0 (omega (arith, p.1, size)) ∙ ap (λ j. entry_at ws (k - j)) size ∙ p.2)
    (first_or_later w ws k z t))
    (λ (q : (0 < n) × (entry_cells w ≤ n) × (entry_at ws (n - entry_cells w) ≡ Some x)).
    ap (λ l. entry_at l k) (put_later w ws n y q.0 q.1)
    ∙ ⊎_elim
    (λ (p : (k ≡ 0) × (w ≡ z)). entry_first w (put_entry ws (n - entry_cells w) y) k p.0 ∙ ap Some p.1)
    (λ (p : (0 < k) × (entry_cells w ≤ k) × (entry_at ws (k - entry_cells w) ≡ Some z)).
    entry_later w (put_entry ws (n - entry_cells w) y) k p.0 p.1
    ∙ entry_other ws (n - entry_cells w) (k - entry_cells w) x y z q.2 s (λ (r : k - entry_cells w ≡ n - entry_cells w). d (omega (arith, r, p.1, q.1))) p.2)
    (first_or_later w ws k z t))
    (first_or_later w ws n x e)

pub entry_new : (xs : List Entry) (y : Entry) → entry_at (xs ++ y ∷ []) (heap_cells xs) ≡ Some y
entry_new [] y = refl
entry_new (x ∷ xs) y =
    let some : 1 ≤ entry_cells x = some_cells (layout_of x.shape) x.shape.count in
    let back : entry_cells x + heap_cells xs - entry_cells x ≡ heap_cells xs = omega arith in
    entry_later x (xs ++ y ∷ []) (entry_cells x + heap_cells xs) (omega (arith, some)) (omega arith) ∙ ap (entry_at (xs ++ y ∷ [])) back ∙ entry_new xs y

pub entry_stays : (xs : List Entry) (y x : Entry) (n : ℕ) → entry_at xs n ≡ Some x → entry_at (xs ++ y ∷ []) n ≡ Some x
entry_stays [] y x n e = absurd (cc e)
entry_stays (w ∷ ws) y x n e =
    ⊎_elim
    (λ (q : (n ≡ 0) × (w ≡ x)). entry_first w (ws ++ y ∷ []) n q.0 ∙ ap Some q.1)
    (λ (q : (0 < n) × (entry_cells w ≤ n) × (entry_at ws (n - entry_cells w) ≡ Some x)).
    entry_later w (ws ++ y ∷ []) n q.0 q.1 ∙ entry_stays ws y x (n - entry_cells w) q.2)
    (first_or_later w ws n x e)

-- ---- frames

frame_first : (room : ℕ) (f : RamFrame) (fs : List RamFrame) (thing : ℕ) → innermost room (f ∷ fs) ≡ thing → frame_at room (f ∷ fs) thing ≡ Some f
frame_first room f fs thing e = ap (λ (b : Bool). if b then Some f else frame_at room fs thing) (eq-eqb (innermost room (f ∷ fs)) thing e)

frame_later : (room : ℕ) (f : RamFrame) (fs : List RamFrame) (thing : ℕ) → innermost room (f ∷ fs) ≢ thing → frame_at room (f ∷ fs) thing ≡ frame_at room fs thing
frame_later room f fs thing d = ap (λ (b : Bool). if b then Some f else frame_at room fs thing) (ne_eqb (innermost room (f ∷ fs)) thing d)

pub frame_new : (room : ℕ) (f : RamFrame) (fs : List RamFrame) → frame_at room (f ∷ fs) (innermost room (f ∷ fs)) ≡ Some f
frame_new room f fs = frame_first room f fs (innermost room (f ∷ fs)) refl

-- a frame has no greater cells behind it than all frames
frame_number : (room : ℕ) (fs : List RamFrame) (thing : ℕ) (x : RamFrame) → frame_at room fs thing ≡ Some x → 1 + (room - frames_cells fs) ≤ thing
frame_number room [] thing x e = absurd (cc e)
frame_number room (f ∷ fs) thing x e = at (innermost room (f ∷ fs) == thing) refl (λ t. frame_number room fs thing x t) e
  where
    at : (b : Bool) → (innermost room (f ∷ fs) == thing) ≡ b → (frame_at room fs thing ≡ Some x → 1 + (room - frames_cells fs) ≤ thing) → (if b then Some f else frame_at room fs thing) ≡ Some x → 1 + (room - (frame_cells f + frames_cells fs)) ≤ thing
    at true q deeper t = let n : 1 + (room - (frame_cells f + frames_cells fs)) ≡ thing = eqb-true (innermost room (f ∷ fs)) thing q in omega (arith, n)
    at false q deeper t = let n : 1 + (room - frames_cells fs) ≤ thing = deeper t in omega (arith, n)

pub frame_stays : (room : ℕ) (f : RamFrame) (fs : List RamFrame) (thing : ℕ) (x : RamFrame) → frame_cells f + frames_cells fs ≤ room → frame_at room fs thing ≡ Some x → frame_at room (f ∷ fs) thing ≡ Some x
frame_stays room f fs thing x l e =
    let n : 1 + (room - frames_cells fs) ≤ thing = frame_number room fs thing x e in
    frame_later room f fs thing (λ (q : innermost room (f ∷ fs) ≡ thing). omega (arith, q, n, l)) ∙ e

frames_put : (room : ℕ) (fs : List RamFrame) (thing : ℕ) (f g : RamFrame) → frame_at room fs thing ≡ Some f → frame_cells g ≡ frame_cells f → frames_cells (put_frame room fs thing g) ≡ frames_cells fs
frames_put room [] thing f g e z = absurd (cc e)
frames_put room (x ∷ xs) thing f g e z = at (innermost room (x ∷ xs) == thing) refl (λ t. frames_put room xs thing f g t z) e
  where
    at : (b : Bool) → (innermost room (x ∷ xs) == thing) ≡ b → (frame_at room xs thing ≡ Some f → frames_cells (put_frame room xs thing g) ≡ frames_cells xs) → (if b then Some x else frame_at room xs thing) ≡ Some f → frames_cells (if b then g ∷ xs else x ∷ put_frame room xs thing g) ≡ frame_cells x + frames_cells xs
    at true q deeper t = let same : x ≡ f = cc t in ap (λ n. n + frames_cells xs) (z ∙ sym (ap frame_cells same))
    at false q deeper t = ap (λ n. frame_cells x + n) (deeper t)

pub frame_put : (room : ℕ) (fs : List RamFrame) (thing : ℕ) (f g : RamFrame) → frame_at room fs thing ≡ Some f → frame_cells g ≡ frame_cells f → frame_at room (put_frame room fs thing g) thing ≡ Some g
frame_put room [] thing f g e z = absurd (cc e)
frame_put room (x ∷ xs) thing f g e z = at (innermost room (x ∷ xs) == thing) refl (λ t. frame_put room xs thing f g t z) e
  where
    at : (b : Bool) → (innermost room (x ∷ xs) == thing) ≡ b → (frame_at room xs thing ≡ Some f → frame_at room (put_frame room xs thing g) thing ≡ Some g) → (if b then Some x else frame_at room xs thing) ≡ Some f → frame_at room (if b then g ∷ xs else x ∷ put_frame room xs thing g) thing ≡ Some g
    at true q deeper t =
        let same : x ≡ f = cc t in
        frame_first room g xs thing (ap (λ n. 1 + (room - (n + frames_cells xs))) (z ∙ sym (ap frame_cells same)) ∙ eqb-true (innermost room (x ∷ xs)) thing q)
    at false q deeper t =
        let cells : frames_cells (put_frame room xs thing g) ≡ frames_cells xs = frames_put room xs thing f g t z in
        frame_later room x (put_frame room xs thing g) thing (λ (r : innermost room (x ∷ put_frame room xs thing g) ≡ thing). eqb-false (innermost room (x ∷ xs)) thing q (ap (λ n. 1 + (room - (frame_cells x + n))) (sym cells) ∙ r)) ∙ deeper t

pub frame_other : (room : ℕ) (fs : List RamFrame) (thing other : ℕ) (f g y : RamFrame) → frame_at room fs thing ≡ Some f → frame_cells g ≡ frame_cells f → other ≢ thing → frame_at room fs other ≡ Some y → frame_at room (put_frame room fs thing g) other ≡ Some y
frame_other room [] thing other f g y e z d o = absurd (cc e)
frame_other room (x ∷ xs) thing other f g y e z d o = at (innermost room (x ∷ xs) == thing) refl (innermost room (x ∷ xs) == other) refl (λ t s. frame_other room xs thing other f g y t z d s) e o
  where
    at : (b : Bool) → (innermost room (x ∷ xs) == thing) ≡ b → (k : Bool) → (innermost room (x ∷ xs) == other) ≡ k → (frame_at room xs thing ≡ Some f → frame_at room xs other ≡ Some y → frame_at room (put_frame room xs thing g) other ≡ Some y) → (if b then Some x else frame_at room xs thing) ≡ Some f → (if k then Some x else frame_at room xs other) ≡ Some y → frame_at room (if b then g ∷ xs else x ∷ put_frame room xs thing g) other ≡ Some y
    at true q true p deeper t s = absurd (d (sym (eqb-true (innermost room (x ∷ xs)) other p) ∙ eqb-true (innermost room (x ∷ xs)) thing q))
    at true q false p deeper t s =
        let same : x ≡ f = cc t in
        frame_later room g xs other (λ (r : innermost room (g ∷ xs) ≡ other). eqb-false (innermost room (x ∷ xs)) other p (ap (λ n. 1 + (room - (n + frames_cells xs))) (ap frame_cells same ∙ sym z) ∙ r)) ∙ s
    at false q true p deeper t s =
        let cells : frames_cells (put_frame room xs thing g) ≡ frames_cells xs = frames_put room xs thing f g t z in
        frame_first room x (put_frame room xs thing g) other (ap (λ n. 1 + (room - (frame_cells x + n))) cells ∙ eqb-true (innermost room (x ∷ xs)) other p) ∙ s
    at false q false p deeper t s =
        let cells : frames_cells (put_frame room xs thing g) ≡ frames_cells xs = frames_put room xs thing f g t z in
        frame_later room x (put_frame room xs thing g) other (λ (r : innermost room (x ∷ put_frame room xs thing g) ≡ other). eqb-false (innermost room (x ∷ xs)) other p (ap (λ n. 1 + (room - (frame_cells x + n))) (sym cells) ∙ r)) ∙ deeper t s
