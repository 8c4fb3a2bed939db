-- Words of zeros hold what new things hold.
use Rattle.std.proofs.Common.{◌≡◌, ℕ, zero, suc, ◌+◌, ◌*◌, ◌/◌, ◌%◌, ◌<◌, ◌^◌, ◌==◌, Bool, true, false, List, [], length, Option, Some, None, refl, sym, ap, ◌∙◌, subst, arith, get_or, w32}
use Rattle.std.specs.Prelude.{pos, slice_get, replicate, if◌then◌else◌}
use Rattle.std.specs.Int.{w8, w16, cast_signed, to_le_bytes}
use Rattle.std.proofs.lemmas.Option.{slice_get-get_or}
use Rattle.std.proofs.lemmas.List.{length-replicate, get_or-replicate}
use Rattle.cil_opcodes.specs.declared.shape.IntegerType.TheVariants.{I1, U1, I2, U2, I4, U4, I8, U8}
use Rattle.board_types.specs.declared.value.Value.TheVariants.{Int}
use Rattle.board_types.specs.declared.value.Shape.{Shape}
use Rattle.machine.specs.Data.{Cell, Bits, Refers, cell_bytes}
use Rattle.ram_words.specs.Cells.{kept_at, value_by}
use Rattle.ram_words.specs.Elements.{element_at, zero_by, type_held}
use Rattle.std.proofs.lemmas.Bool.{eqb-true}
use Rattle.ram_words.specs.Headers.{static_shape}
use Rattle.tiny_ram.specs.Things.{Layout, Packed, Bare, Cells, Alone, packed_by, layout_of, cells_in, place_at, fresh_place, IsMade}
use Rattle.tiny_ram.proofs.Elsewhere.{Agree, part, element-same, kept_at-same}

zero_byte : (k : ℕ) → get_or (to_le_bytes w32 0) k 0 ≡ 0
zero_byte zero = refl
zero_byte (suc zero) = refl
zero_byte (suc (suc zero)) = refl
zero_byte (suc (suc (suc zero))) = refl
zero_byte (suc (suc (suc (suc k)))) = refl

zero_element : (k : Cell) (a i : ℕ) → element_at k [] a i ≡ zero_by (Some k)
unfolding element_at
zero_element (Bits I1) a i = ap (λ b. Int (cast_signed w8 b)) (zero_byte (i % 4))
zero_element (Bits U1) a i = ap (λ b. Int (pos b)) (zero_byte (i % 4))
zero_element (Bits I2) a i = ap (λ b. Int (cast_signed w16 (b + 256 * get_or (to_le_bytes w32 0) ((2 * i + 1) % 4) 0))) (zero_byte (2 * i % 4)) ∙ ap (λ b. Int (cast_signed w16 (0 + 256 * b))) (zero_byte ((2 * i + 1) % 4))
zero_element (Bits U2) a i = ap (λ b. Int (pos (b + 256 * get_or (to_le_bytes w32 0) ((2 * i + 1) % 4) 0))) (zero_byte (2 * i % 4)) ∙ ap (λ b. Int (pos (0 + 256 * b))) (zero_byte ((2 * i + 1) % 4))
zero_element (Bits I4) a i = refl
zero_element (Bits U4) a i = refl
zero_element (Bits I8) a i = refl
zero_element (Bits U8) a i = refl
zero_element Refers a i = refl

-- where there is no header the first word has no tag
abbrev pub Tagless : Layout → ℕ → Type 0
Tagless (Packed cell) w = Unit {0}
Tagless Bare w = Unit {0}
Tagless Cells w = Unit {0}
Tagless Alone w = w % 256 ≡ 0

-- words of zeros behind the header
pub fresh_at : (k : Layout) (us : List ℕ) (at n i : ℕ) → i < n → Agree (at + 3) (at + 3 * cells_in k n) [] us → Tagless k (get_or us at 0) → place_at k us at i ≡ fresh_place k
unfolding kept_at
fresh_at (Packed cell) us at n i l s h =
    let there : at + 3 * (1 + (n * cell_bytes cell + 11) / 12) ≡ at + 3 + 3 * ((n * cell_bytes cell + 11) / 12) = omega arith in
    ap Some (element-same cell [] us (at + 3) n i l (subst (λ j. Agree (at + 3) j [] us) there s) ∙ zero_element cell (at + 3) i)
fresh_at Bare us at n i l s h = refl
fresh_at Cells us at n i l s h = kept_at-same [] us (at + 3 + 3 * i) (part (at + 3) (at + 3 * (1 + n)) (at + 3 + 3 * i) (at + 3 + 3 * i + 3) [] us s (omega arith) (omega arith))
fresh_at Alone us at n i l s h = ap (λ t. value_by t (get_or us at 0 / 2 ^ 16 % 256) (get_or us (at + 1) 0) (get_or us (at + 2) 0)) h

packed_tagless : (o : Option Cell) (w : ℕ) → Tagless (packed_by o) w
packed_tagless None w = tt
packed_tagless (Some cell) w = tt

-- the words of a new static field have no tag
pub tagless : (s : Shape) (w : ℕ) → IsMade s → w % 2 ^ 16 ≡ s.of.ranks → Tagless (layout_of s) w
tagless s w made e = at (s.what == 1) (s.what == 2) (s.what == 5) refl
  where
    at : (a b d : Bool) → (s.what == 5) ≡ d → Tagless (if a then packed_by (type_held s.of) else (if b then Packed (Bits U2) else (if d then Alone else Cells))) w
    at true b d q = packed_tagless (type_held s.of) w
    at false true d q = tt
    at false false true q =
        let same : s ≡ static_shape = made.static (eqb-true s.what 5 q) in
        let none : s.of.ranks ≡ 0 = ap (λ (t : Shape). t.of.ranks) same in
        omega (arith, e, none)
    at false false false q = tt

-- a new thing's header tells its shape
pub made_shape : (s : Shape) → IsMade s → (if s.what == 5 then static_shape else s) ≡ s
made_shape s made = at (s.what == 5) refl
  where
    at : (d : Bool) → (s.what == 5) ≡ d → (if d then static_shape else s) ≡ s
    at true q = sym (made.static (eqb-true s.what 5 q))
    at false q = refl

pub replicated : {A : Type 0} (n i : ℕ) (x : A) → i < n → slice_get (replicate n x) i ≡ Some x
replicated n i x l =
    let count : length (replicate n x) ≡ n = length-replicate n x in
    slice_get-get_or (replicate n x) i x (omega (arith, count)) ∙ ap Some (get_or-replicate n i x x l)
