-- One place of a thing is put, and the others stay.
use Rattle.std.proofs.Common.{◌≡◌, ◌≢◌, inl, inr, ⊎_elim, ℕ, ◌+◌, ◌-◌, ◌*◌, ◌/◌, ◌%◌, ◌^◌, ◌<◌, ◌≤◌, Bool, true, false, ◌==◌, List, [], ◌∷◌, length, Option, Some, None, refl, sym, ap, ◌∙◌, subst, arith, get_or}
use Rattle.std.specs.Prelude.{ℤ, pos, negsuc, sum, if◌then◌else◌, slice_get, slice_set}
use Rattle.std.specs.Int.{w32, cast_unsigned}
use Rattle.std.proofs.lemmas.Bool.{cases_eq, cases_lt, eqb-true, eq-eqb}
use Rattle.std.proofs.lemmas.Option.{slice_get-get_or}
use Rattle.std.proofs.lemmas.List.{get_or-set_same, get_or-set_other, length-set}
use Rattle.plain_types.specs.declared.elem.Elem.{Elem}
use Rattle.board_types.specs.declared.board.BoardType.{BoardType}
use Rattle.board_types.specs.declared.value.Shape.{Shape}
use Rattle.board_types.specs.declared.value.Value.{Value}
use Rattle.board_types.specs.declared.value.Value.TheVariants.{Int, Long, Ref, Pointer, Handle}
use Rattle.cil_opcodes.specs.declared.shape.IntegerType.TheVariants.{U2}
use Rattle.machine.specs.Data.{Cell, Bits}
use Rattle.ram_words.specs.declared.frames.Hot.{Hot}
use Rattle.ram_words.specs.Region.{SameBut}
use Rattle.ram_words.specs.Cells.{elem_named, row_in, kept_at}
use Rattle.ram_words.specs.Elements.{type_held}
use Rattle.ram_words.specs.Headers.{shape_at, headed, static_shape}
use Rattle.ram_words.specs.Frames.{hot_at}
use Rattle.tiny_ram.specs.declared.parts.Part.{Part}
use Rattle.tiny_ram.specs.declared.parts.Part.TheVariants.{Slot, CodePlace, Depth, Initialiser, Past}
use Rattle.tiny_ram.specs.Things.{Layout, Packed, Cells, Alone, packed_by, layout_of, place_at, stored_by, Entry, entry_cells, with_place}
use Rattle.tiny_ram.specs.Memory.{RamFrame, Memory, frame_cells, frames_cells, innermost, frame_at, put_frame, PartTakes, with_part, heap_cells, IsEntry}
use Rattle.tiny_ram.specs.Region.{Lies, Stands, Stacked, Holds}
use Rattle.tiny_ram.proofs.Elsewhere.{Agree, outside, part, kept_at-same}
use Rattle.tiny_ram.proofs.Heaps.{laid-at, inside}
use Rattle.tiny_ram.proofs.Stacks.{sizes_at-same, hot_at-same, stands-same, stacked-end}
use Rattle.tiny_ram.proofs.Waits.{Found, found, stacked_behind}

-- one of the places of a list is set, where each is what is held there
pub set_places :
    (xs : List (Option Value)) (i : ℕ) (w : Option Value) (before after : ℕ → Option Value)
    → i < length xs → after i ≡ w
    → ((j : ℕ) → j ≢ i → j < length xs → after j ≡ before j)
    → ((j : ℕ) → j < length xs → slice_get xs j ≡ Some (before j))
    → (j : ℕ) → j < length (slice_set xs i w) → slice_get (slice_set xs i w) j ≡ Some (after j)
set_places xs i w before after l here others old j m =
    let size : length (slice_set xs i w) ≡ length xs = length-set xs i w in
    elim (cases_eq j i) [
      | inl q ↦
          slice_get-get_or (slice_set xs i w) j w m ∙ ap Some (ap (λ k. get_or (slice_set xs i w) k w) q ∙ get_or-set_same xs i w w l ∙ sym here ∙ ap after (sym q))
      | inr d ↦
          let n : j < length xs = omega (arith, m, size) in
          slice_get-get_or (slice_set xs i w) j w m ∙ ap Some (get_or-set_other xs i j w w d) ∙ sym (slice_get-get_or xs j w n) ∙ old j n ∙ ap Some (sym (others j d n))
    ]

-- ---- objects

pub lies-put :
    (ws us : List ℕ) (start : ℕ) (e : Entry) (i : ℕ) (elem : Elem) (v : Value) (k : Layout)
    → Lies ws start e → i < length e.places → layout_of e.shape ≡ k
    → shape_at us start ≡ shape_at ws start
    → place_at k us start i ≡ Some (stored_by k elem v)
    → ((j : ℕ) → j ≢ i → j < length e.places → place_at k us start j ≡ place_at k ws start j)
    → Lies us start (with_place e i elem v)
lies-put ws us start e i elem v k h l ek es here others = record {
  shape = es ∙ h.shape;
  count = length-set e.places i (Some (stored_by (layout_of e.shape) elem v)) ∙ h.count;
  places = set_places e.places i (Some (stored_by (layout_of e.shape) elem v)) (place_at (layout_of e.shape) ws start) (place_at (layout_of e.shape) us start) l
      (subst (λ (x : Layout). place_at x us start i ≡ Some (stored_by x elem v)) (sym ek) here)
      (subst (λ (x : Layout). (j : ℕ) → j ≢ i → j < length e.places → place_at x us start j ≡ place_at x ws start j) (sym ek) others)
      h.places;
}

-- a header of the kind of static fields tells no more
headed_static : (a b c : ℕ) → a / 2 ^ 24 % 8 ≡ 5 → headed a b c ≡ static_shape
headed_static a b c e = ap (λ (x : Bool). if x then static_shape else record { what = a / 2 ^ 24 % 8; of = record { ranks = a % 2 ^ 16; elem = elem_named (a / 2 ^ 28); of = row_in b }; count = c }) (eq-eqb (a / 2 ^ 24 % 8) 5 e)

static_kind : (a b c : ℕ) (d : Bool) → (a / 2 ^ 24 % 8 == 5) ≡ d → (headed a b c).what ≡ 5 → a / 2 ^ 24 % 8 ≡ 5
static_kind a b c true q w = eqb-true (a / 2 ^ 24 % 8) 5 q
static_kind a b c false q w =
    sym (ap (λ (x : Bool). let t : Shape = if x then static_shape else record { what = a / 2 ^ 24 % 8; of = record { ranks = a % 2 ^ 16; elem = elem_named (a / 2 ^ 28); of = row_in b }; count = c } in t.what) q) ∙ w

packed_alone : (o : Option Cell) → packed_by o ≡ Alone → ⊥
packed_alone None e = cc e
packed_alone (Some cell) e = cc e

alone_what : (s : Shape) → layout_of s ≡ Alone → s.what ≡ 5
alone_what s e = at (s.what == 1) (s.what == 2) (s.what == 5) refl e
  where
    at : (a b d : Bool) → (s.what == 5) ≡ d → (if a then packed_by (type_held s.of) else (if b then Packed (Bits U2) else (if d then Alone else Cells))) ≡ Alone → s.what ≡ 5
    at true b d q h = absurd (packed_alone (type_held s.of) h)
    at false true d q h = absurd (cc h)
    at false false true q h = eqb-true s.what 5 q
    at false false false q h = absurd (cc h)

-- the header of an object without one is that of a static field
pub alone_kind : (ws : List ℕ) (start : ℕ) (e : Entry) → Lies ws start e → layout_of e.shape ≡ Alone → get_or ws start 0 / 2 ^ 24 % 8 ≡ 5
unfolding shape_at
alone_kind ws start e h k = static_kind (get_or ws start 0) (get_or ws (start + 1) 0) (get_or ws (start + 2) 0) (get_or ws start 0 / 2 ^ 24 % 8 == 5) refl (ap (λ (s : Shape). s.what) h.shape ∙ alone_what e.shape k)

pub alone_count : (ws : List ℕ) (start : ℕ) (e : Entry) → Lies ws start e → layout_of e.shape ≡ Alone → length e.places ≡ 1
unfolding shape_at
alone_count ws start e h k =
    h.count ∙ sym (ap (λ (s : Shape). s.count) h.shape)
    ∙ ap (λ (s : Shape). s.count) (headed_static (get_or ws start 0) (get_or ws (start + 1) 0) (get_or ws (start + 2) 0) (alone_kind ws start e h k))

-- it stays so where the highest byte of its first word stays
pub alone_shape : (ws us : List ℕ) (start : ℕ) → get_or us start 0 / 2 ^ 24 ≡ get_or ws start 0 / 2 ^ 24 → get_or ws start 0 / 2 ^ 24 % 8 ≡ 5 → shape_at us start ≡ shape_at ws start
unfolding shape_at
alone_shape ws us start e k =
    headed_static (get_or us start 0) (get_or us (start + 1) 0) (get_or us (start + 2) 0) (ap (λ w. w % 8) e ∙ k)
    ∙ sym (headed_static (get_or ws start 0) (get_or ws (start + 1) 0) (get_or ws (start + 2) 0) k)

-- where an object is that is there
pub record Here (ws : List ℕ) (end thing : ℕ) (e : Entry) : Type 0 where
  pub lies : Lies ws (3 * (thing - 1)) e
  pub inside : 3 * (thing - 1) + 3 * entry_cells e ≤ end

pub here : (ws : List ℕ) (end : ℕ) (h : Hot) (m : Memory) (thing : ℕ) (e : Entry) → Holds ws end h m → IsEntry m thing e → Here ws end thing e
here ws end h m thing e k i =
    let l : thing - 1 + entry_cells e ≤ heap_cells m.heap = inside m.heap (thing - 1) e i.there in
    let z : 0 + 3 * (thing - 1) ≡ 3 * (thing - 1) = omega arith in
    record { lies = subst (λ j. Lies ws j e) z (laid-at ws 0 (thing - 1) m.heap e k.laid i.there); inside = omega (arith, l, k.heap) }

pub shape_of_parts : (s : Shape) (what count : ℕ) (of : BoardType) → s.what ≡ what → s.of ≡ of → s.count ≡ count → s ≡ record { what = what; of = of; count = count }
shape_of_parts s what count of ew eo ec =
    ap (λ (w : ℕ). (let t : Shape = record { what = w; of = s.of; count = s.count } in t)) ew
    ∙ ap (λ (o : BoardType). (let t : Shape = record { what = what; of = o; count = s.count } in t)) eo
    ∙ ap (λ (c : ℕ). (let t : Shape = record { what = what; of = of; count = c } in t)) ec

-- ---- frames

pub stands-slot :
    (ws us : List ℕ) (base : ℕ) (h : Hot) (f : RamFrame) (i : ℕ) (v : Value)
    → Stands ws base h f → i < sum f.sizes → kept_at us (base + 6 + 3 * i) ≡ Some v
    → SameBut (base + 6 + 3 * i) (base + 6 + 3 * i + 3) ws us
    → Stands us base h (record f { places = slice_set f.places i (Some v) })
stands-slot ws us base h f i v k l here s =
    let head : Agree base (base + 6) ws us = outside base (base + 6) (base + 6 + 3 * i) (base + 6 + 3 * i + 3) ws us s (inl (omega arith)) in
    record {
      sizes = sizes_at-same ws us base (part base (base + 6) (base + 3) (base + 6) ws us head (omega arith) (omega arith)) ∙ k.sizes;
      method = ap row_in (head.at (base + 1) (omega arith) (omega arith)) ∙ k.method;
      initialiser = ap (λ w. w / 2 ^ 22) (head.at base (omega arith) (omega arith)) ∙ k.initialiser;
      hot = k.hot;
      place = k.place;
      depth = k.depth;
      count = length-set f.places i (Some v) ∙ k.count;
      places = set_places f.places i (Some v) (λ j. kept_at ws (base + 6 + 3 * j)) (λ j. kept_at us (base + 6 + 3 * j)) (omega (arith, l, k.count)) here
          (λ j d m. kept_at-same ws us (base + 6 + 3 * j) (outside (base + 6 + 3 * j) (base + 6 + 3 * j + 3) (base + 6 + 3 * i) (base + 6 + 3 * i + 3) ws us s
          (⊎_elim (λ (lt : j < i). inl (omega arith)) (λ (ge : i ≤ j). inr (omega (arith, d))) (cases_lt j i))))
          k.places;
    }

pub stands-initialiser :
    (ws us : List ℕ) (base : ℕ) (h : Hot) (f : RamFrame) (b : Bool)
    → Stands ws base h f → get_or us base 0 / 2 ^ 22 ≡ (if b then 1 else 0) → SameBut base (base + 1) ws us
    → Stands us base h (record f { initialiser = b })
stands-initialiser ws us base h f b k here s = record {
  sizes = sizes_at-same ws us base (outside (base + 3) (base + 6) base (base + 1) ws us s (inr (omega arith))) ∙ k.sizes;
  method = ap row_in (s.at (base + 1) (inr (omega arith))) ∙ k.method;
  initialiser = here;
  hot = k.hot;
  place = k.place;
  depth = k.depth;
  count = k.count;
  places = λ i l. k.places i l ∙ sym (ap Some (kept_at-same ws us (base + 6 + 3 * i) (outside (base + 6 + 3 * i) (base + 6 + 3 * i + 3) base (base + 1) ws us s (inr (omega arith)))));
}

-- the int32 1 or 0 is put there
pub stands-int :
    (ws us : List ℕ) (base : ℕ) (h : Hot) (f : RamFrame) (i : ℕ) (elem : Elem) (n : ℤ)
    → Stands ws base h f → PartTakes f Initialiser (Int n)
    → get_or us base 0 / 2 ^ 22 ≡ (if (cast_unsigned w32 n == 1) then 1 else 0) → SameBut base (base + 1) ws us
    → Stands us base h (with_part f i elem Initialiser (Int n))
stands-int ws us base h f i elem (pos n) k t here s = stands-initialiser ws us base h f (n == 1) k here s
stands-int ws us base h f i elem (negsuc n) k t here s = absurd t

same_sizes : (f : RamFrame) (i : ℕ) (elem : Elem) (p : Part) (v : Value) → (with_part f i elem p v).sizes ≡ f.sizes
same_sizes f i elem Slot v = refl
same_sizes f i elem CodePlace (Int n) = refl
same_sizes f i elem CodePlace (Long n) = refl
same_sizes f i elem CodePlace (Ref n) = refl
same_sizes f i elem CodePlace (Pointer n) = refl
same_sizes f i elem CodePlace (Handle n) = refl
same_sizes f i elem Depth (Int (pos n)) = refl
same_sizes f i elem Depth (Int (negsuc n)) = refl
same_sizes f i elem Depth (Long n) = refl
same_sizes f i elem Depth (Ref n) = refl
same_sizes f i elem Depth (Pointer n) = refl
same_sizes f i elem Depth (Handle n) = refl
same_sizes f i elem Initialiser (Int (pos n)) = refl
same_sizes f i elem Initialiser (Int (negsuc n)) = refl
same_sizes f i elem Initialiser (Long n) = refl
same_sizes f i elem Initialiser (Ref n) = refl
same_sizes f i elem Initialiser (Pointer n) = refl
same_sizes f i elem Initialiser (Handle n) = refl
same_sizes f i elem Past v = refl

pub same_cells : (f : RamFrame) (i : ℕ) (elem : Elem) (p : Part) (v : Value) → frame_cells (with_part f i elem p v) ≡ frame_cells f
same_cells f i elem p v = ap (λ (z : List ℕ). 2 + sum z) (same_sizes f i elem p v)

-- the innermost frame gives way to another of its size, by a write inside it
pub first_put :
    (ws us : List ℕ) (end low a : ℕ) (h : Hot) (x f g : RamFrame) (xs : List RamFrame)
    → Stacked ws end (low + 3 * frame_cells x) (hot_at ws (low + 3 * frame_cells x)) xs → a ≡ low → x ≡ f → frame_cells g ≡ frame_cells f
    → SameBut a (a + 3 * frame_cells f) ws us → Stands us a h g
    → Stacked us end low h (g ∷ xs)
first_put ws us end low a h x f g xs k e same z s n =
    let size : frame_cells x ≡ frame_cells g = ap frame_cells same ∙ sym z in
    let next : low + 3 * frame_cells x ≡ low + 3 * frame_cells g = ap (λ j. low + 3 * j) size in (
      subst (λ j. Stands us j h g) e n,
      subst (λ j. Stacked us end j (hot_at us j) xs) next (stacked_behind ws us end (low + 3 * frame_cells x) xs a (a + 3 * frame_cells f) s (omega (arith, e, size, z)) k),
    )

-- a frame deeper in the stack begins behind the innermost one
deeper_at : (ws : List ℕ) (room low : ℕ) (h : Hot) (x : RamFrame) (xs : List RamFrame) (thing : ℕ) (f : RamFrame) → Stacked ws (3 * room) low h (x ∷ xs) → frame_at room xs thing ≡ Some f → low + 3 * frame_cells x ≤ 3 * (thing - 1)
deeper_at ws room low h x xs thing f k t =
    let next : ℕ = low + 3 * frame_cells x in
    let r : Found ws room next (hot_at ws next) xs thing f = found ws room next (hot_at ws next) xs thing f k.1 t in
    ⊎_elim
    (λ (z : (3 * (thing - 1) ≡ next) × (r.hot ≡ hot_at ws next)). omega (arith, z.0))
    (λ (z : (next < 3 * (thing - 1)) × (r.hot ≡ hot_at ws (3 * (thing - 1)))). omega (arith, z.0))
    r.first

-- the innermost frame has the number of its first word
first_number : (ws : List ℕ) (room low : ℕ) (h : Hot) (x : RamFrame) (xs : List RamFrame) (thing : ℕ) → Stacked ws (3 * room) low h (x ∷ xs) → (innermost room (x ∷ xs) == thing) ≡ true → 3 * (thing - 1) ≡ low
first_number ws room low h x xs thing k q =
    let fills : low + 3 * frame_cells x + 3 * frames_cells xs ≡ 3 * room = stacked-end ws (3 * room) (low + 3 * frame_cells x) (hot_at ws (low + 3 * frame_cells x)) xs k.1 in
    let number : 1 + (room - (frame_cells x + frames_cells xs)) ≡ thing = eqb-true (innermost room (x ∷ xs)) thing q in
    omega (arith, fills, number)

-- one frame of a stack gives way to another of its size, by a write inside it, where all wait
pub replaced_below :
    (ws us : List ℕ) (room low : ℕ) (fs : List RamFrame) (thing : ℕ) (f g : RamFrame)
    → Stacked ws (3 * room) low (hot_at ws low) fs → frame_at room fs thing ≡ Some f → frame_cells g ≡ frame_cells f
    → SameBut (3 * (thing - 1)) (3 * (thing - 1) + 3 * frame_cells f) ws us
    → Stands us (3 * (thing - 1)) (hot_at us (3 * (thing - 1))) g
    → Stacked us (3 * room) low (hot_at us low) (put_frame room fs thing g)
replaced_below ws us room low [] thing f g k e z s n = absurd (cc e)
replaced_below ws us room low (x ∷ xs) thing f g k e z s n =
    at (innermost room (x ∷ xs) == thing) refl (λ t. replaced_below ws us room (low + 3 * frame_cells x) xs thing f g k.1 t z s n) e
  where
    at : (b : Bool) → (innermost room (x ∷ xs) == thing) ≡ b → (frame_at room xs thing ≡ Some f → Stacked us (3 * room) (low + 3 * frame_cells x) (hot_at us (low + 3 * frame_cells x)) (put_frame room xs thing g)) → (if b then Some x else frame_at room xs thing) ≡ Some f → Stacked us (3 * room) low (hot_at us low) (if b then g ∷ xs else x ∷ put_frame room xs thing g)
    at true q deeper t =
        let base : 3 * (thing - 1) ≡ low = first_number ws room low (hot_at ws low) x xs thing k q in
        let same : x ≡ f = cc t in
        first_put ws us (3 * room) low (3 * (thing - 1)) (hot_at us low) x f g xs k.1 base same z s (subst (λ j. Stands us (3 * (thing - 1)) (hot_at us j) g) base n)
    at false q deeper t =
        let past : low + 3 * frame_cells x ≤ 3 * (thing - 1) = deeper_at ws room low (hot_at ws low) x xs thing f k t in
        let hot : hot_at us low ≡ hot_at ws low = hot_at-same ws us low (outside low (low + 6) (3 * (thing - 1)) (3 * (thing - 1) + 3 * frame_cells f) ws us s (inl (omega (arith, past)))) in (
          subst (λ (h : Hot). Stands us low h x) (sym hot) (stands-same ws us low (hot_at ws low) x (outside low (low + 3 * frame_cells x) (3 * (thing - 1)) (3 * (thing - 1) + 3 * frame_cells f) ws us s (inl past)) k.0),
          deeper t,
        )

-- the same, where the innermost frame is that one
pub replaced_first :
    (ws us : List ℕ) (room low : ℕ) (h new : Hot) (fs : List RamFrame) (thing : ℕ) (f g : RamFrame)
    → Stacked ws (3 * room) low h fs → frame_at room fs thing ≡ Some f → 3 * (thing - 1) ≡ low → frame_cells g ≡ frame_cells f
    → SameBut (3 * (thing - 1)) (3 * (thing - 1) + 3 * frame_cells f) ws us
    → Stands us (3 * (thing - 1)) new g
    → Stacked us (3 * room) low new (put_frame room fs thing g)
replaced_first ws us room low h new [] thing f g k e b z s n = absurd (cc e)
replaced_first ws us room low h new (x ∷ xs) thing f g k e b z s n = at (innermost room (x ∷ xs) == thing) refl e
  where
    at : (d : Bool) → (innermost room (x ∷ xs) == thing) ≡ d → (if d then Some x else frame_at room xs thing) ≡ Some f → Stacked us (3 * room) low new (if d then g ∷ xs else x ∷ put_frame room xs thing g)
    at true q t = let same : x ≡ f = cc t in first_put ws us (3 * room) low (3 * (thing - 1)) new x f g xs k.1 b same z s n
    at false q t = let past : low + 3 * frame_cells x ≤ 3 * (thing - 1) = deeper_at ws room low h x xs thing f k t in absurd (omega (arith, past, b))

-- and where it is another
pub replaced_later :
    (ws us : List ℕ) (room low : ℕ) (h : Hot) (fs : List RamFrame) (thing : ℕ) (f g : RamFrame)
    → Stacked ws (3 * room) low h fs → frame_at room fs thing ≡ Some f → low < 3 * (thing - 1) → frame_cells g ≡ frame_cells f
    → SameBut (3 * (thing - 1)) (3 * (thing - 1) + 3 * frame_cells f) ws us
    → Stands us (3 * (thing - 1)) (hot_at us (3 * (thing - 1))) g
    → Stacked us (3 * room) low h (put_frame room fs thing g)
replaced_later ws us room low h [] thing f g k e b z s n = absurd (cc e)
replaced_later ws us room low h (x ∷ xs) thing f g k e b z s n = at (innermost room (x ∷ xs) == thing) refl e
  where
    at : (d : Bool) → (innermost room (x ∷ xs) == thing) ≡ d → (if d then Some x else frame_at room xs thing) ≡ Some f → Stacked us (3 * room) low h (if d then g ∷ xs else x ∷ put_frame room xs thing g)
    at true q t = let base : 3 * (thing - 1) ≡ low = first_number ws room low h x xs thing k q in absurd (omega (arith, base, b))
    at false q t =
        let past : low + 3 * frame_cells x ≤ 3 * (thing - 1) = deeper_at ws room low h x xs thing f k t in (
          stands-same ws us low h x (outside low (low + 3 * frame_cells x) (3 * (thing - 1)) (3 * (thing - 1) + 3 * frame_cells f) ws us s (inl past)) k.0,
          replaced_below ws us room (low + 3 * frame_cells x) xs thing f g k.1 t z s n,
        )

-- a frame begins behind all objects
pub frame_behind : (ws : List ℕ) (end : ℕ) (h : Hot) (m : Memory) (thing : ℕ) (f : RamFrame) (k : Holds ws end h m) → frame_at m.room m.frames thing ≡ Some f → end ≤ 3 * (thing - 1)
frame_behind ws end h m thing f k e =
    let r : Found ws m.room k.low h m.frames thing f = found ws m.room k.low h m.frames thing f k.stacked e in
    ⊎_elim
    (λ (z : (3 * (thing - 1) ≡ k.low) × (r.hot ≡ h)). omega (arith, z.0, k.order))
    (λ (z : (k.low < 3 * (thing - 1)) × (r.hot ≡ hot_at ws (3 * (thing - 1)))). omega (arith, z.0, k.order))
    r.first
