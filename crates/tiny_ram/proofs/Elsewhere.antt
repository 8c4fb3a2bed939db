-- What lies in words that stay the same.
use Rattle.std.proofs.Common.{◌≡◌, ◌⊎◌, inl, inr, ⊎_elim, ℕ, ◌+◌, ◌*◌, ◌/◌, ◌%◌, ◌<◌, ◌≤◌, List, [], ◌∷◌, Some, refl, sym, ap, ◌∙◌, subst, arith, get_or, w32}
use Rattle.std.specs.Int.{to_le_bytes}
use Rattle.cil_opcodes.specs.declared.shape.IntegerType.TheVariants.{I1, U1, I2, U2, I4, U4, I8, U8}
use Rattle.machine.specs.Data.{Cell, Bits, Refers, cell_bytes}
use Rattle.ram_words.specs.Region.{SameBut}
use Rattle.ram_words.specs.Cells.{kept_at}
use Rattle.ram_words.specs.Elements.{byte_at, half_at, element_at}
use Rattle.ram_words.specs.Headers.{shape_at, headed}
use Rattle.tiny_ram.specs.Things.{Layout, Packed, Bare, Cells, Alone, cells_in, layout_of, place_at, Entry, entry_cells}
use Rattle.tiny_ram.specs.Region.{Lies, Laid}
use Rattle.tiny_ram.specs.Memory.{heap_cells}

-- the words from low on, below high, are the same
pub record Agree (low high : ℕ) (ws us : List ℕ) : Type 0 where
  pub at : (j : ℕ) → low ≤ j → j < high → get_or us j 0 ≡ get_or ws j 0

pub outside : (low high a b : ℕ) (ws us : List ℕ) → SameBut a b ws us → (high ≤ a) ⊎ (b ≤ low) → Agree low high ws us
outside low high a b ws us s d = record { at = λ j l h. s.at j (⊎_elim (λ (e : high ≤ a). inl (omega arith)) (λ (e : b ≤ low). inr (omega arith)) d) }

pub part : (low high a b : ℕ) (ws us : List ℕ) → Agree low high ws us → low ≤ a → b ≤ high → Agree a b ws us
part low high a b ws us s l h = record { at = λ j m n. s.at j (omega arith) (omega arith) }

pub kept_at-same : (ws us : List ℕ) (at : ℕ) → Agree at (at + 3) ws us → kept_at us at ≡ kept_at ws at
unfolding kept_at
kept_at-same ws us at s = rw (s.at at (omega arith) (omega arith), s.at (at + 1) (omega arith) (omega arith), s.at (at + 2) (omega arith) (omega arith)) refl

pub shape_at-same : (ws us : List ℕ) (at : ℕ) → Agree at (at + 3) ws us → shape_at us at ≡ shape_at ws at
unfolding shape_at
shape_at-same ws us at s =
    ap (λ w. headed w (get_or us (at + 1) 0) (get_or us (at + 2) 0)) (s.at at (omega arith) (omega arith))
    ∙ ap (λ w. headed (get_or ws at 0) w (get_or us (at + 2) 0)) (s.at (at + 1) (omega arith) (omega arith))
    ∙ ap (λ w. headed (get_or ws at 0) (get_or ws (at + 1) 0) w) (s.at (at + 2) (omega arith) (omega arith))

byte_at-same : (ws us : List ℕ) (a i : ℕ) → get_or us (a + i / 4) 0 ≡ get_or ws (a + i / 4) 0 → byte_at us a i ≡ byte_at ws a i
byte_at-same ws us a i e = ap (λ w. get_or (to_le_bytes w32 w) (i % 4) 0) e

half_at-same : (ws us : List ℕ) (a i : ℕ) → get_or us (a + i / 2) 0 ≡ get_or ws (a + i / 2) 0 → half_at us a i ≡ half_at ws a i
half_at-same ws us a i e =
    let low : 2 * i / 4 ≡ i / 2 = omega arith in
    let high : (2 * i + 1) / 4 ≡ i / 2 = omega arith in
    let el : byte_at us a (2 * i) ≡ byte_at ws a (2 * i) = byte_at-same ws us a (2 * i) (subst (λ k. get_or us (a + k) 0 ≡ get_or ws (a + k) 0) (sym low) e) in
    let eh : byte_at us a (2 * i + 1) ≡ byte_at ws a (2 * i + 1) = byte_at-same ws us a (2 * i + 1) (subst (λ k. get_or us (a + k) 0 ≡ get_or ws (a + k) 0) (sym high) e) in
    ap (λ b. b + 256 * byte_at us a (2 * i + 1)) el ∙ ap (λ b. byte_at ws a (2 * i) + 256 * b) eh

pub element-same : (k : Cell) (ws us : List ℕ) (a n i : ℕ) → i < n → Agree a (a + 3 * ((n * cell_bytes k + 11) / 12)) ws us → element_at k us a i ≡ element_at k ws a i
unfolding element_at
element-same (Bits I1) ws us a n i l s = rw (byte_at-same ws us a i (s.at (a + i / 4) (omega arith) (omega arith))) refl
element-same (Bits U1) ws us a n i l s = rw (byte_at-same ws us a i (s.at (a + i / 4) (omega arith) (omega arith))) refl
element-same (Bits I2) ws us a n i l s = rw (half_at-same ws us a i (s.at (a + i / 2) (omega arith) (omega arith))) refl
element-same (Bits U2) ws us a n i l s = rw (half_at-same ws us a i (s.at (a + i / 2) (omega arith) (omega arith))) refl
element-same (Bits I4) ws us a n i l s = rw (s.at (a + i) (omega arith) (omega arith)) refl
element-same (Bits U4) ws us a n i l s = rw (s.at (a + i) (omega arith) (omega arith)) refl
element-same (Bits I8) ws us a n i l s = rw (s.at (a + 2 * i) (omega arith) (omega arith), s.at (a + 2 * i + 1) (omega arith) (omega arith)) refl
element-same (Bits U8) ws us a n i l s = rw (s.at (a + 2 * i) (omega arith) (omega arith), s.at (a + 2 * i + 1) (omega arith) (omega arith)) refl
element-same Refers ws us a n i l s = rw (s.at (a + i) (omega arith) (omega arith)) refl

pub some_cells : (k : Layout) (n : ℕ) → 1 ≤ cells_in k n
some_cells (Packed cell) n = omega arith
some_cells Bare n = omega arith
some_cells Cells n = omega arith
some_cells Alone n = omega arith

pub place-same : (k : Layout) (ws us : List ℕ) (at n i : ℕ) → i < n → Agree at (at + 3 * cells_in k n) ws us → place_at k us at i ≡ place_at k ws at i
place-same (Packed cell) ws us at n i l s = ap Some (element-same cell ws us (at + 3) n i l (part at (at + 3 * (1 + (n * cell_bytes cell + 11) / 12)) (at + 3) (at + 3 + 3 * ((n * cell_bytes cell + 11) / 12)) ws us s (omega arith) (omega arith)))
place-same Bare ws us at n i l s = refl
place-same Cells ws us at n i l s = kept_at-same ws us (at + 3 + 3 * i) (part at (at + 3 * (1 + n)) (at + 3 + 3 * i) (at + 3 + 3 * i + 3) ws us s (omega arith) (omega arith))
place-same Alone ws us at n i l s = kept_at-same ws us at (part at (at + 3) at (at + 3) ws us s (omega arith) (omega arith))

pub lies-same : (ws us : List ℕ) (at : ℕ) (e : Entry) → Agree at (at + 3 * entry_cells e) ws us → Lies ws at e → Lies us at e
lies-same ws us at e s h =
    let some : 1 ≤ entry_cells e = some_cells (layout_of e.shape) e.shape.count in
    record {
      shape = shape_at-same ws us at (part at (at + 3 * entry_cells e) at (at + 3) ws us s (omega arith) (omega (arith, some))) ∙ h.shape;
      count = h.count;
      places = λ i l. h.places i l ∙ sym (ap Some (place-same (layout_of e.shape) ws us at e.shape.count i (omega (arith, l, h.count)) s));
    }

-- all objects, where a write is elsewhere
pub laid-same : (ws us : List ℕ) (at a b : ℕ) (es : List Entry) → SameBut a b ws us → (at + 3 * heap_cells es ≤ a) ⊎ (b ≤ at) → Laid ws at es → Laid us at es
laid-same ws us at a b [] s d h = tt
laid-same ws us at a b (e ∷ es) s d h = (
  lies-same ws us at e (outside at (at + 3 * entry_cells e) a b ws us s (⊎_elim (λ (l : at + 3 * (entry_cells e + heap_cells es) ≤ a). inl (omega arith)) (λ (r : b ≤ at). inr r) d)) h.0,
  laid-same ws us (at + 3 * entry_cells e) a b es s (⊎_elim (λ (l : at + 3 * (entry_cells e + heap_cells es) ≤ a). inl (omega arith)) (λ (r : b ≤ at). inr (omega arith)) d) h.1,
)
