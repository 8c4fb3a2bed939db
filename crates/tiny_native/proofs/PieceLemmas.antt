-- Pieces of texts, as places hold them and as the machine sees them.
use Rattle.std.proofs.Common.{◌≡◌, ℕ, ◌%◌, ◌^◌, ◌<◌, ◌≤◌, Bool, true, false, ◌==◌, List, [], ◌∷◌, length, map, take, drop, Option, Some, None, refl, sym, ap, ◌∙◌, arith, get_or, w32}
use Rattle.std.specs.Prelude.{ℤ, pos, negsuc, unsigned_abs, slice_get, if◌then◌else◌, ◌-◌}
use Rattle.std.specs.Int.{cast_unsigned}
use Rattle.std.proofs.lemmas.Option.{slice_get-get_or, slice_get_past}
use Rattle.std.proofs.lemmas.List.{length-map, get_or-map, ext_get_or, take-map, drop-map}
use Rattle.cil_opcodes.specs.declared.shape.IntegerType.TheVariants.{I1, U1, I2, U2, I4, U4, I8, U8}
use Rattle.board_types.specs.declared.board.Known.TheVariants.{IndexOutOfRange}
use Rattle.board_types.specs.declared.value.Value.{Value as BoardValue}
use Rattle.board_types.specs.declared.value.Value.TheVariants as board
use Rattle.machine.specs.Data.{Cell, Bits, Refers, Int, Null, Object}
use Rattle.machine.specs.Numbers.{is_negative}
use Rattle.machine.specs.Throw.{goes, raise}
use Rattle.machine.specs.Rows.{or_raise, index_of}
use Rattle.machine.specs.Natives.{piece, unit_of}
use Rattle.ram_words.specs.Elements.{HasKind}
use Rattle.tiny_ops.specs.Operators.{Leads, reference}
use Rattle.tiny_native.specs.Seen.{Scene, seen, unit_place}
use Rattle.tiny_native.specs.Copies.{unit_in, unit_in_text, is_wide}

-- ---- an index

nonneg_bits : (i : ℤ) → is_negative i ≡ false → cast_unsigned w32 i ≡ unsigned_abs i
nonneg_bits (pos n) e = refl
nonneg_bits (negsuc n) e = absurd (cc e)

pub unit_there : (s : Scene) (i : ℤ) (units : List ℕ) (k : ℕ) → is_negative i ≡ false → k ≡ unsigned_abs i → k < length units → unit_in_text s i units ≡ goes s.program s.state s.frame s.callers s.next (Int (pos (get_or units k 0)) ∷ s.rest)
unit_there s i units k neg e l =
    ap (λ (b : Bool). if b then raise s.program s.state IndexOutOfRange else or_raise s.program s.state IndexOutOfRange (slice_get units (index_of i)) (λ u. goes s.program s.state s.frame s.callers s.next (Int (pos u) ∷ s.rest))) neg
    ∙ ap (λ (o : Option ℕ). or_raise s.program s.state IndexOutOfRange o (λ u. goes s.program s.state s.frame s.callers s.next (Int (pos u) ∷ s.rest))) (ap (slice_get units) (nonneg_bits i neg ∙ sym e) ∙ slice_get-get_or units k 0 l)

pub unit_past : (s : Scene) (i : ℤ) (units : List ℕ) (k : ℕ) → is_negative i ≡ false → k ≡ unsigned_abs i → length units ≤ k → unit_in_text s i units ≡ raise s.program s.state IndexOutOfRange
unit_past s i units k neg e l =
    ap (λ (b : Bool). if b then raise s.program s.state IndexOutOfRange else or_raise s.program s.state IndexOutOfRange (slice_get units (index_of i)) (λ u. goes s.program s.state s.frame s.callers s.next (Int (pos u) ∷ s.rest))) neg
    ∙ ap (λ (o : Option ℕ). or_raise s.program s.state IndexOutOfRange o (λ u. goes s.program s.state s.frame s.callers s.next (Int (pos u) ∷ s.rest))) (ap (slice_get units) (nonneg_bits i neg ∙ sym e) ∙ slice_get_past units k l)

-- ---- pieces

pub piece-map : {A B : Type 0} (f : A → B) (i n : ℕ) (xs : List A) → piece i n (map f xs) ≡ map f (piece i n xs)
piece-map f i n xs = ap (take n) (drop-map f i xs) ∙ take-map f n (drop i xs)

units_back : (units : List ℕ) → ((k : ℕ) → k < length units → get_or units k 0 % 2 ^ 16 ≡ get_or units k 0) → map unit_in (map unit_place units) ≡ units
units_back units small =
    let size : length (map unit_in (map unit_place units)) ≡ length units = length-map (map unit_place units) unit_in ∙ length-map units unit_place in
    ext_get_or 0 (map unit_in (map unit_place units)) units size
    (λ k l. let inner : k < length units = omega (arith, l, size) in
    get_or-map unit_in (map unit_place units) k None 0 (omega (arith, inner, length-map units unit_place))
    ∙ ap unit_in (get_or-map unit_place units k 0 None inner)
    ∙ small k inner)

pub text_piece : (units : List ℕ) (i n : ℕ) → ((k : ℕ) → k < length units → get_or units k 0 % 2 ^ 16 ≡ get_or units k 0) → map unit_in (piece i n (map unit_place units)) ≡ piece i n units
text_piece units i n small = sym (piece-map unit_in i n (map unit_place units)) ∙ ap (piece i n) (units_back units small)

reference_unit : (n : ℕ) → unit_of (reference n) ≡ 0
reference_unit n = at (n == 0)
  where
    at : (b : Bool) → unit_of (if b then Null else Object (n - 1)) ≡ 0
    at true = refl
    at false = refl

seen_unit : (l : Leads) (h : Option BoardValue) → unit_of (seen l h) ≡ unit_in h
seen_unit l None = refl
seen_unit l (Some (board.Int n)) = refl
seen_unit l (Some (board.Long n)) = refl
seen_unit l (Some (board.Ref n)) = reference_unit n
seen_unit l (Some (board.Pointer at)) = refl
seen_unit l (Some (board.Handle f)) = refl

units_seen : (l : Leads) (hs : List (Option BoardValue)) → map unit_of (map (seen l) hs) ≡ map unit_in hs
units_seen l [] = refl
units_seen l (h ∷ hs) = ap (λ u. u ∷ map unit_of (map (seen l) hs)) (seen_unit l h) ∙ ap (λ us. unit_in h ∷ us) (units_seen l hs)

pub array_piece : (l : Leads) (places : List (Option BoardValue)) (i n : ℕ) → map unit_of (piece i n (map (seen l) places)) ≡ map unit_in (piece i n places)
array_piece l places i n = ap (map unit_of) (piece-map (seen l) i n places) ∙ units_seen l (piece i n places)

-- elements as wide as chars are int32s
pub wide_kind : (cell : Cell) (v : BoardValue) → is_wide (Some cell) ≡ true → HasKind cell v → HasKind (Bits U2) v
wide_kind (Bits I2) (board.Int n) e h = tt
wide_kind (Bits I2) (board.Long n) e h = absurd h
wide_kind (Bits I2) (board.Ref n) e h = absurd h
wide_kind (Bits I2) (board.Pointer at) e h = absurd h
wide_kind (Bits I2) (board.Handle f) e h = absurd h
wide_kind (Bits U2) v e h = h
wide_kind (Bits I1) v e h = absurd (cc e)
wide_kind (Bits U1) v e h = absurd (cc e)
wide_kind (Bits I4) v e h = absurd (cc e)
wide_kind (Bits U4) v e h = absurd (cc e)
wide_kind (Bits I8) v e h = absurd (cc e)
wide_kind (Bits U8) v e h = absurd (cc e)
wide_kind Refers v e h = absurd (cc e)
