-- What a memory keeps in packed places: values of their kind, cut to their width.
use Rattle.std.proofs.Common.{◌≡◌, ⊎_elim, ℕ, zero, suc, ◌+◌, ◌-◌, ◌*◌, ◌/◌, ◌%◌, ◌^◌, ◌<◌, ◌≤◌, List, length, Option, Some, None, refl, ap, ◌∙◌, subst, arith, get_or, lit<, w32}
use Rattle.std.specs.Prelude.{ℤ, pos, negsuc, slice_get, slice_index_or}
use Rattle.std.specs.Int.{w8, w16, cast_signed, cast_unsigned, to_le_bytes}
use Rattle.std.proofs.lemmas.Bool.{cases_lt, le-ltb}
use Rattle.std.proofs.lemmas.Int.{to_z_pos}
use Rattle.std.proofs.lemmas.Nat.{mod_below}
use Rattle.std.proofs.lemmas.Option.{get_or_from_slice_get}
use Rattle.cil_opcodes.specs.declared.shape.IntegerType.TheVariants.{I1, U1, I2, U2, I4, U4, I8, U8}
use Rattle.board_types.specs.declared.value.Value.{Value}
use Rattle.board_types.specs.declared.value.Value.TheVariants.{Int}
use Rattle.machine.specs.Data.{Cell, Bits, Refers}
use Rattle.ram_words.specs.Elements.{byte_at, half_at, element_at, HasKind, cut_by}
use Rattle.tiny_ram.specs.declared.memory.Ram.{Ram}
use Rattle.tiny_ram.specs.Things.{Entry, Layout, Packed, layout_of, place_at}
use Rattle.tiny_ram.specs.Memory.{Memory, IsEntry}
use Rattle.tiny_ram.specs.Region.{Keeps, Lies}
use Rattle.tiny_ram.proofs.Puts.{Here, here}

byte_small : (n i : ℕ) → get_or (to_le_bytes w32 n) i 0 < 256
byte_small n zero = mod_below n 256 (lit< tt)
byte_small n (suc zero) = mod_below (n / 256) 256 (lit< tt)
byte_small n (suc (suc zero)) = mod_below (n / 65536) 256 (lit< tt)
byte_small n (suc (suc (suc zero))) = mod_below (n / 16777216) 256 (lit< tt)
byte_small n (suc (suc (suc (suc i)))) = lit< tt

half_small : (ws : List ℕ) (a i : ℕ) → half_at ws a i < 2 ^ 16
half_small ws a i =
    let low : byte_at ws a (2 * i) < 256 = byte_small (get_or ws (a + 2 * i / 4) 0) (2 * i % 4) in
    let high : byte_at ws a (2 * i + 1) < 256 = byte_small (get_or ws (a + (2 * i + 1) / 4) 0) ((2 * i + 1) % 4) in
    omega (arith, low, high)

low8 : (b : ℕ) → b < 2 ^ 8 → cast_unsigned w32 (cast_signed w8 b) % 2 ^ 8 ≡ b
low8 b h = ⊎_elim
    (λ (lt : b < 2 ^ 7). ap (λ (z : ℤ). cast_unsigned w32 z % 2 ^ 8) (to_z_pos w8 b lt) ∙ omega (arith, h))
    (λ (le : 2 ^ 7 ≤ b). ap (λ (z : ℤ). cast_unsigned w32 z % 2 ^ 8) (signed_high b le) ∙ omega (arith, h, le))
    (cases_lt b (2 ^ 7))
  where
    signed_high : (b : ℕ) → 2 ^ 7 ≤ b → cast_signed w8 b ≡ negsuc (2 ^ 8 - suc b)
    signed_high b le = rw (le-ltb b (2 ^ 7) le) refl

low16 : (b : ℕ) → b < 2 ^ 16 → cast_unsigned w32 (cast_signed w16 b) % 2 ^ 16 ≡ b
low16 b h = ⊎_elim
    (λ (lt : b < 2 ^ 15). ap (λ (z : ℤ). cast_unsigned w32 z % 2 ^ 16) (to_z_pos w16 b lt) ∙ omega (arith, h))
    (λ (le : 2 ^ 15 ≤ b). ap (λ (z : ℤ). cast_unsigned w32 z % 2 ^ 16) (signed_high b le) ∙ omega (arith, h, le))
    (cases_lt b (2 ^ 15))
  where
    signed_high : (b : ℕ) → 2 ^ 15 ≤ b → cast_signed w16 b ≡ negsuc (2 ^ 16 - suc b)
    signed_high b le = rw (le-ltb b (2 ^ 15) le) refl

-- a value that is of the kind and cut already
pub record Fitting (cell : Cell) (v : Value) : Type 0 where
  pub kind : HasKind cell v
  pub cut : cut_by (Some cell) v ≡ v

fitting_element : (cell : Cell) (ws : List ℕ) (a i : ℕ) → Fitting cell (element_at cell ws a i)
unfolding element_at
fitting_element (Bits I1) ws a i = record { kind = tt; cut = ap (λ n. Int (cast_signed w8 n)) (low8 (byte_at ws a i) (byte_small (get_or ws (a + i / 4) 0) (i % 4))) }
fitting_element (Bits U1) ws a i = record { kind = tt; cut = ap (λ n. Int (pos n)) (let h : byte_at ws a i < 256 = byte_small (get_or ws (a + i / 4) 0) (i % 4) in omega (arith, h)) }
fitting_element (Bits I2) ws a i = record { kind = tt; cut = ap (λ n. Int (cast_signed w16 n)) (low16 (half_at ws a i) (half_small ws a i)) }
fitting_element (Bits U2) ws a i = record { kind = tt; cut = ap (λ n. Int (pos n)) (let h : half_at ws a i < 2 ^ 16 = half_small ws a i in omega (arith, h)) }
fitting_element (Bits I4) ws a i = record { kind = tt; cut = refl }
fitting_element (Bits U4) ws a i = record { kind = tt; cut = refl }
fitting_element (Bits I8) ws a i = record { kind = tt; cut = refl }
fitting_element (Bits U8) ws a i = record { kind = tt; cut = refl }
fitting_element Refers ws a i = record { kind = tt; cut = refl }

-- what a place of packed elements holds
pub record Element (cell : Cell) (held : Option Value) : Type 0 where
  pub value : Value
  pub is : held ≡ Some value
  pub fits : Fitting cell value

pub element_held : (u : Ram) (m : Memory) (thing : ℕ) (e : Entry) (cell : Cell) → Keeps u m → IsEntry m thing e → layout_of e.shape ≡ Packed cell → (i : ℕ) → i < length e.places → Element cell (slice_index_or e.places i None)
element_held u m thing e cell k h p i l =
    let lies : Lies u.words.items (3 * (thing - 1)) e = (let t : Here u.words.items u.heap thing e = here u.words.items u.heap u.hot m thing e k h in t.lies) in
    let at : slice_get e.places i ≡ Some (place_at (Packed cell) u.words.items (3 * (thing - 1)) i) = subst (λ (x : Layout). slice_get e.places i ≡ Some (place_at x u.words.items (3 * (thing - 1)) i)) p (lies.places i l) in
    record {
      value = element_at cell u.words.items (3 * (thing - 1) + 3) i;
      is = get_or_from_slice_get e.places i (Some (element_at cell u.words.items (3 * (thing - 1) + 3) i)) None at;
      fits = fitting_element cell u.words.items (3 * (thing - 1) + 3) i;
    }

pub entry_count : (u : Ram) (m : Memory) (thing : ℕ) (e : Entry) → Keeps u m → IsEntry m thing e → length e.places ≡ e.shape.count
entry_count u m thing e k h = let t : Here u.words.items u.heap thing e = here u.words.items u.heap u.hot m thing e k h in t.lies.count
