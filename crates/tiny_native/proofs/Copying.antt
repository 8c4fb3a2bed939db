-- Copies of places, one by one.
use Rattle.std.proofs.Common.{◌≡◌, ◌⊎◌, inl, inr, ⊎_elim, ℕ, ◌+◌, ◌-◌, ◌<◌, ◌≤◌, Bool, true, false, List, length, Option, Some, None, refl, sym, ap, ◌∙◌, subst, arith, get_or}
use Rattle.std.specs.Prelude.{slice_set, if◌then◌else◌}
use Rattle.std.proofs.lemmas.Bool.{cases_eq}
use Rattle.std.proofs.lemmas.List.{get_or-set_same, get_or-set_other, length-set}
use Rattle.board_types.specs.declared.value.Value.{Value}
use Rattle.machine.specs.Data.{Cell}
use Rattle.plain_types.specs.declared.elem.Elem.TheVariants.{Void}
use Rattle.ram_words.specs.Elements.{HasKind, cut_by}
use Rattle.tiny_ram.specs.declared.memory.Ram.{Ram}
use Rattle.tiny_ram.specs.Things.{Entry, Packed, layout_of}
use Rattle.tiny_ram.specs.Memory.{Memory, entry_at, IsEntry, put_in, shown}
use Rattle.tiny_ram.specs.Region.{Keeps}
use Rattle.tiny_ram.proofs.Kept.{entry_other}
use Rattle.tiny_native.specs.Copies.{Laid, Copied, AllHaveKind, PlaceHasKind, cut_place}
use Rattle.tiny_native.proofs.Memories.{put_same, put_twice, put_there}

-- which places are copied after so many turns
abbrev pub low_of : Bool → ℕ → ℕ → ℕ
low_of backwards count k = if backwards then count - k else 0

abbrev pub high_of : Bool → ℕ → ℕ → ℕ
high_of backwards count k = if backwards then count else k

-- one more place is copied, behind the others or before them
pub laid_more : (cell : Cell) (from before after : List (Option Value)) (i j low high x low' high' : ℕ) (w : Option Value)
    → low ≤ high → Laid cell from before i j low high after → j + x < length before → w ≡ cut_place cell (get_or from (i + x) None)
    → ((x ≡ high) × (low' ≡ low) × (high' ≡ high + 1)) ⊎ ((x + 1 ≡ low) × (low' ≡ x) × (high' ≡ high))
    → Laid cell from before i j low' high' (slice_set after (j + x) w)
laid_more cell from before after i j low high x low' high' w o h l e next = record {
  count = length-set after (j + x) w ∙ h.count;
  inside = λ k a b. elim (cases_eq k x) [
    | inl q ↦ ap (λ t. get_or (slice_set after (j + x) w) (j + t) None) q ∙ get_or-set_same after (j + x) w None (omega (arith, l, h.count)) ∙ e ∙ ap (λ t. cut_place cell (get_or from (i + t) None)) (sym q)
    | inr d ↦ get_or-set_other after (j + x) (j + k) w None (λ (r : j + k ≡ j + x). d (omega (arith, r))) ∙ h.inside k
        (⊎_elim (λ (z : (x ≡ high) × (low' ≡ low) × (high' ≡ high + 1)). omega (arith, z.1, a)) (λ (z : (x + 1 ≡ low) × (low' ≡ x) × (high' ≡ high)). omega (arith, z.0, z.1, a, d)) next)
        (⊎_elim (λ (z : (x ≡ high) × (low' ≡ low) × (high' ≡ high + 1)). omega (arith, z.0, z.2, b, d)) (λ (z : (x + 1 ≡ low) × (low' ≡ x) × (high' ≡ high)). omega (arith, z.2, b)) next)
  ];
  outside = λ t away.
      let far : (t < j + low) ⊎ (j + high ≤ t) = ⊎_elim
      (λ (z : (x ≡ high) × (low' ≡ low) × (high' ≡ high + 1)). ⊎_elim (λ (lt : t < j + low'). inl (omega (arith, lt, z.1))) (λ (le : j + high' ≤ t). inr (omega (arith, le, z.2))) away)
      (λ (z : (x + 1 ≡ low) × (low' ≡ x) × (high' ≡ high)). ⊎_elim (λ (lt : t < j + low'). inl (omega (arith, lt, z.0, z.1))) (λ (le : j + high' ≤ t). inr (omega (arith, le, z.2))) away)
      next in
      let other : t ≡ j + x → ⊥ = λ r. ⊎_elim
      (λ (z : (x ≡ high) × (low' ≡ low) × (high' ≡ high + 1)). ⊎_elim (λ (lt : t < j + low'). omega (arith, lt, z.0, z.1, r, o)) (λ (le : j + high' ≤ t). omega (arith, le, z.0, z.2, r)) away)
      (λ (z : (x + 1 ≡ low) × (low' ≡ x) × (high' ≡ high)). ⊎_elim (λ (lt : t < j + low'). omega (arith, lt, z.1, r)) (λ (le : j + high' ≤ t). omega (arith, le, z.0, z.2, r, o)) away)
      next in
      get_or-set_other after (j + x) t w None other ∙ h.outside t far;
}

pub copied_none : (u : Ram) (m : Memory) (thing : ℕ) (e : Entry) (cell : Cell) (from : List (Option Value)) (i j low high : ℕ) → Keeps u m → IsEntry m thing e → high ≤ low → Copied u m thing e cell from i j low high
copied_none u m thing e cell from i j low high k h o = record {
  places = e.places;
  keeps = subst (λ (w : Memory). Keeps u w) (sym (put_same m e thing h)) k;
  laid = record { count = refl; inside = λ t a b. absurd (omega (arith, a, b, o)); outside = λ t away. refl };
}

pub bounds_start : (b : Bool) (n : ℕ) → high_of b n 0 ≤ low_of b n 0
bounds_start true n = omega arith
bounds_start false n = omega arith

pub bounds_ordered : (b : Bool) (n k : ℕ) → k ≤ n → low_of b n k ≤ high_of b n k
bounds_ordered true n k h = omega arith
bounds_ordered false n k h = omega arith

pub bounds_end : (b : Bool) (n k : ℕ) → k ≡ n → (low_of b n k ≡ 0) × (high_of b n k ≡ n)
bounds_end true n k e = (omega (arith, e), refl)
bounds_end false n k e = (refl, e)

abbrev some_of : Option Entry → Entry → Entry
some_of None d = d
some_of (Some e) d = e

abbrev held_in : Entry → List (Option Value) → Entry
held_in e places = record e { places = places }

put_more :
    (u u' : Ram) (m : Memory) (b i j off : ℕ) (e : Entry) (cell : Cell) (from : List (Option Value)) (low high low' high' : ℕ) (w : Option Value) (c : Copied u m b e cell from i j low high)
    → IsEntry m b e → j + off < length e.places → low ≤ high
    → ((off ≡ high) × (low' ≡ low) × (high' ≡ high + 1)) ⊎ ((off + 1 ≡ low) × (low' ≡ off) × (high' ≡ high))
    → w ≡ get_or from (i + off) None
    → Keeps u' (put_in (put_in m b (held_in e c.places)) b (held_in e (slice_set c.places (j + off) (cut_place cell w))))
    → Copied u' m b e cell from i j low' high'
put_more u u' m b i j off e cell from low high low' high' w c hb l o next r k = record {
  places = slice_set c.places (j + off) (cut_place cell w);
  keeps = subst (λ (x : Memory). Keeps u' x) (put_twice m e (held_in e c.places) (held_in e (slice_set c.places (j + off) (cut_place cell w))) b hb refl) k;
  laid = laid_more cell from e.places c.places i j low high off low' high' (cut_place cell w) o c.laid l (ap (cut_place cell) r) next;
}

-- one more place is copied, where what is read was not yet written
pub copied_more :
    (u u' : Ram) (m : Memory) (a b i j off count : ℕ) (d e : Entry) (cell : Cell) (low high low' high' : ℕ)
    → IsEntry m a d → IsEntry m b e → layout_of e.shape ≡ Packed cell → i + count ≤ length d.places → j + count ≤ length e.places → off < count → AllHaveKind cell d.places i count
    → low ≤ high
    → ((off ≡ high) × (low' ≡ low) × (high' ≡ high + 1)) ⊎ ((off + 1 ≡ low) × (low' ≡ off) × (high' ≡ high))
    → (i + off < j + low) ⊎ (j + high ≤ i + off)
    → Copied u m b e cell d.places i j low high
    → ((m' : Memory) (d' e' : Entry) → Keeps u m' → IsEntry m' a d' → IsEntry m' b e' → layout_of e'.shape ≡ Packed cell → i + off < length d'.places → j + off < length e'.places → PlaceHasKind cell (get_or d'.places (i + off) None) → Keeps u' (put_in m' b (record e' { places = slice_set e'.places (j + off) (cut_place cell (get_or d'.places (i + off) None)) })))
    → Copied u' m b e cell d.places i j low' high'
copied_more u u' m a b i j off count d e cell low high low' high' ha hb p room_a room_b l kinds o next apart c step =
    let now : Entry = held_in e c.places in
    let there : IsEntry (put_in m b now) b now = put_there m e now b hb refl in
    let inner : j + off < length e.places = omega (arith, room_b, l) in
    let inside : j + off < length c.places = omega (arith, inner, c.laid.count) in
    elim (cases_eq a b) [
      | inl q ↦
          let same : d ≡ e = ap (λ x. some_of x d) (sym ha.there ∙ ap (λ t. entry_at m.heap (t - 1)) q ∙ hb.there) in
          let read : get_or c.places (i + off) None ≡ get_or d.places (i + off) None = c.laid.outside (i + off) apart ∙ ap (λ (x : Entry). get_or x.places (i + off) None) (sym same) in
          let long : length d.places ≡ length e.places = ap (λ (x : Entry). length x.places) same in
          let room : i + off < length c.places = omega (arith, room_a, l, c.laid.count, long) in
          put_more u u' m b i j off e cell d.places low high low' high' (get_or c.places (i + off) None) c hb inner o next read
          (step (put_in m b now) now now c.keeps (subst (λ t. IsEntry (put_in m b now) t now) (sym q) there) there p room inside (subst (PlaceHasKind cell) (sym read) (kinds off l)))
      | inr n ↦
          let away : IsEntry (put_in m b now) a d = record { some = ha.some; there = entry_other m.heap (b - 1) (a - 1) e now d hb.there refl (λ (r : a - 1 ≡ b - 1). n (omega (arith, r, ha.some, hb.some))) ha.there } in
          put_more u u' m b i j off e cell d.places low high low' high' (get_or d.places (i + off) None) c hb inner o next refl
          (step (put_in m b now) d now c.keeps away there p (omega (arith, room_a, l)) inside (kinds off l))
    ]

-- a value that was read and is put
pub read_kind : (cell : Cell) (held : Option Value) (value : Value) → value ≡ shown Void held → PlaceHasKind cell held → HasKind cell value × (Some (cut_by (Some cell) value) ≡ cut_place cell held)
read_kind cell (Some v) value e h = (subst (λ (w : Value). HasKind cell w) (sym e) h, ap (λ (w : Value). Some (cut_by (Some cell) w)) e)
read_kind cell None value e h = absurd h
