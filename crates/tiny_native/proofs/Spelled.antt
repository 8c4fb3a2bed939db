-- Numbers that the bytes of a data field spell.
use Rattle.std.proofs.Common.{◌≡◌, inl, inr, ℕ, zero, suc, ◌+◌, ◌*◌, ◌<◌, List, length, map, take, drop, Option, Some, None, refl, sym, ap, ◌∙◌, arith, get_or}
use Rattle.std.specs.Prelude.{slice_set}
use Rattle.std.proofs.lemmas.Bool.{cases_eq}
use Rattle.std.proofs.lemmas.List.{drop-drop, get_or-set_same, get_or-set_other, get_or-map, length-map, ext_get_or}
use Rattle.cil_opcodes.specs.declared.shape.IntegerType.{IntegerType}
use Rattle.cil_opcodes.specs.declared.shape.IntegerType.TheVariants.{I1, U1, I2, U2, I4, U4, I8, U8}
use Rattle.board_types.specs.declared.value.Value.{Value as BoardValue}
use Rattle.machine.specs.Data.{bytes_of, Null}
use Rattle.machine.specs.Numbers.{cut, little_endian}
use Rattle.machine.specs.Natives.{numbers_of}
use Rattle.tiny_ops.specs.Operators.{Leads, stack_value}
use Rattle.tiny_native.specs.Seen.{seen}
use Rattle.tiny_native.specs.Told.{number_at}

step_over : (integer : IntegerType) (i : ℕ) → bytes_of integer + i * bytes_of integer ≡ suc i * bytes_of integer
step_over I1 i = omega arith
step_over U1 i = omega arith
step_over I2 i = omega arith
step_over U2 i = omega arith
step_over I4 i = omega arith
step_over U4 i = omega arith
step_over I8 i = omega arith
step_over U8 i = omega arith

numbers_length : (integer : IntegerType) (n : ℕ) (bytes : List ℕ) → length (numbers_of integer n bytes) ≡ n
numbers_length integer zero bytes = refl
numbers_length integer (suc n) bytes = ap suc (numbers_length integer n (drop (bytes_of integer) bytes))

numbers_get : (integer : IntegerType) (n : ℕ) (bytes : List ℕ) (i : ℕ) → i < n → get_or (numbers_of integer n bytes) i Null ≡ number_at integer bytes (i * bytes_of integer)
numbers_get integer zero bytes i h = absurd (omega (arith, h))
numbers_get integer (suc n) bytes zero h = ap (number_at integer bytes) (let z : 0 ≡ 0 * bytes_of integer = omega arith in z)
numbers_get integer (suc n) bytes (suc i) h =
    numbers_get integer n (drop (bytes_of integer) bytes) i (omega (arith, h))
    ∙ ap (λ l. cut integer (little_endian (take (bytes_of integer) l))) (drop-drop (i * bytes_of integer) (bytes_of integer) bytes ∙ ap (λ k. drop k bytes) (step_over integer i))

pub filled_more : (l : Leads) (integer : IntegerType) (bytes : List ℕ) (places : List (Option BoardValue)) (k : ℕ) (w : BoardValue) → k < length places → stack_value l w ≡ number_at integer bytes (k * bytes_of integer)
    → ((i : ℕ) → i < k → seen l (get_or places i None) ≡ number_at integer bytes (i * bytes_of integer))
    → (i : ℕ) → i < k + 1 → seen l (get_or (slice_set places k (Some w)) i None) ≡ number_at integer bytes (i * bytes_of integer)
filled_more l integer bytes places k w h e f i m = elim (cases_eq i k) [
  | inl q ↦ ap (λ j. seen l (get_or (slice_set places k (Some w)) j None)) q ∙ ap (seen l) (get_or-set_same places k (Some w) None h) ∙ e ∙ ap (λ j. number_at integer bytes (j * bytes_of integer)) (sym q)
  | inr d ↦ ap (seen l) (get_or-set_other places k i (Some w) None d) ∙ f i (omega (arith, m, d))
]

pub filled_values : (l : Leads) (integer : IntegerType) (bytes : List ℕ) (places : List (Option BoardValue)) (n : ℕ) → length places ≡ n
    → ((i : ℕ) → i < n → seen l (get_or places i None) ≡ number_at integer bytes (i * bytes_of integer))
    → numbers_of integer n bytes ≡ map (seen l) places
filled_values l integer bytes places n c f =
    ext_get_or Null (numbers_of integer n bytes) (map (seen l) places) (numbers_length integer n bytes ∙ sym (length-map places (seen l) ∙ c))
    (λ i h.
    let inner : i < n = omega (arith, h, numbers_length integer n bytes) in
    numbers_get integer n bytes i inner ∙ sym (f i inner) ∙ sym (get_or-map (seen l) places i None Null (omega (arith, inner, c))))
