-- What places keep, by their kinds.
use Rattle.std.proofs.Common.{◌≡◌, ℕ, ◌-◌, Bool, true, false, ◌==◌, Option, Some, None, refl}
use Rattle.std.specs.Prelude.{if◌then◌else◌}
use Rattle.cil_opcodes.specs.declared.shape.IntegerType.TheVariants.{I1, U1, I2, U2, I4, U4, I8, U8}
use Rattle.board_types.specs.declared.value.Value.{Value as BoardValue}
use Rattle.board_types.specs.declared.value.Value.TheVariants as board
use Rattle.machine.specs.Data.{Cell, Bits, Refers, Null, Object}
use Rattle.machine.specs.Numbers.{kept_in, zero_in}
use Rattle.ram_words.specs.Elements.{HasKind, cut_by, zero_by}
use Rattle.tiny_ops.specs.Operators.{Leads, stack_value, reference}

reference_kept : (n : ℕ) → kept_in Refers (reference n) ≡ Some (reference n)
unfolding kept_in
reference_kept n = at (n == 0)
  where
    at : (b : Bool) → kept_in Refers (if b then Null else Object (n - 1)) ≡ Some (if b then Null else Object (n - 1))
    at true = refl
    at false = refl

number_refused : (b : Bool) (n : ℕ) (cell : Cell) → (kept_in cell Null ≡ None) → ((k : ℕ) → kept_in cell (Object k) ≡ None) → kept_in cell (if b then Null else Object (n - 1)) ≡ None
number_refused true n cell e f = e
number_refused false n cell e f = f (n - 1)

pub value_kept : (l : Leads) (cell : Cell) (v : BoardValue) → HasKind cell v → kept_in cell (stack_value l v) ≡ Some (stack_value l (cut_by (Some cell) v))
unfolding kept_in
value_kept l (Bits I1) (board.Int n) h = refl
value_kept l (Bits I1) (board.Long n) h = absurd h
value_kept l (Bits I1) (board.Ref n) h = absurd h
value_kept l (Bits I1) (board.Pointer at) h = absurd h
value_kept l (Bits I1) (board.Handle f) h = absurd h
value_kept l (Bits U1) (board.Int n) h = refl
value_kept l (Bits U1) (board.Long n) h = absurd h
value_kept l (Bits U1) (board.Ref n) h = absurd h
value_kept l (Bits U1) (board.Pointer at) h = absurd h
value_kept l (Bits U1) (board.Handle f) h = absurd h
value_kept l (Bits I2) (board.Int n) h = refl
value_kept l (Bits I2) (board.Long n) h = absurd h
value_kept l (Bits I2) (board.Ref n) h = absurd h
value_kept l (Bits I2) (board.Pointer at) h = absurd h
value_kept l (Bits I2) (board.Handle f) h = absurd h
value_kept l (Bits U2) (board.Int n) h = refl
value_kept l (Bits U2) (board.Long n) h = absurd h
value_kept l (Bits U2) (board.Ref n) h = absurd h
value_kept l (Bits U2) (board.Pointer at) h = absurd h
value_kept l (Bits U2) (board.Handle f) h = absurd h
value_kept l (Bits I4) (board.Int n) h = refl
value_kept l (Bits I4) (board.Long n) h = absurd h
value_kept l (Bits I4) (board.Ref n) h = absurd h
value_kept l (Bits I4) (board.Pointer at) h = absurd h
value_kept l (Bits I4) (board.Handle f) h = absurd h
value_kept l (Bits U4) (board.Int n) h = refl
value_kept l (Bits U4) (board.Long n) h = absurd h
value_kept l (Bits U4) (board.Ref n) h = absurd h
value_kept l (Bits U4) (board.Pointer at) h = absurd h
value_kept l (Bits U4) (board.Handle f) h = absurd h
value_kept l (Bits I8) (board.Int n) h = absurd h
value_kept l (Bits I8) (board.Long n) h = refl
value_kept l (Bits I8) (board.Ref n) h = absurd h
value_kept l (Bits I8) (board.Pointer at) h = absurd h
value_kept l (Bits I8) (board.Handle f) h = absurd h
value_kept l (Bits U8) (board.Int n) h = absurd h
value_kept l (Bits U8) (board.Long n) h = refl
value_kept l (Bits U8) (board.Ref n) h = absurd h
value_kept l (Bits U8) (board.Pointer at) h = absurd h
value_kept l (Bits U8) (board.Handle f) h = absurd h
value_kept l Refers (board.Int n) h = absurd h
value_kept l Refers (board.Long n) h = absurd h
value_kept l Refers (board.Ref n) h = reference_kept n
value_kept l Refers (board.Pointer at) h = absurd h
value_kept l Refers (board.Handle f) h = absurd h

pub value_refused : (l : Leads) (cell : Cell) (v : BoardValue) → (HasKind cell v → ⊥) → kept_in cell (stack_value l v) ≡ None
unfolding kept_in
value_refused l (Bits I1) (board.Int n) h = absurd (h tt)
value_refused l (Bits I1) (board.Long n) h = refl
value_refused l (Bits I1) (board.Ref n) h = number_refused (n == 0) n (Bits I1) refl (λ k. refl)
value_refused l (Bits I1) (board.Pointer at) h = refl
value_refused l (Bits I1) (board.Handle f) h = refl
value_refused l (Bits U1) (board.Int n) h = absurd (h tt)
value_refused l (Bits U1) (board.Long n) h = refl
value_refused l (Bits U1) (board.Ref n) h = number_refused (n == 0) n (Bits U1) refl (λ k. refl)
value_refused l (Bits U1) (board.Pointer at) h = refl
value_refused l (Bits U1) (board.Handle f) h = refl
value_refused l (Bits I2) (board.Int n) h = absurd (h tt)
value_refused l (Bits I2) (board.Long n) h = refl
value_refused l (Bits I2) (board.Ref n) h = number_refused (n == 0) n (Bits I2) refl (λ k. refl)
value_refused l (Bits I2) (board.Pointer at) h = refl
value_refused l (Bits I2) (board.Handle f) h = refl
value_refused l (Bits U2) (board.Int n) h = absurd (h tt)
value_refused l (Bits U2) (board.Long n) h = refl
value_refused l (Bits U2) (board.Ref n) h = number_refused (n == 0) n (Bits U2) refl (λ k. refl)
value_refused l (Bits U2) (board.Pointer at) h = refl
value_refused l (Bits U2) (board.Handle f) h = refl
value_refused l (Bits I4) (board.Int n) h = absurd (h tt)
value_refused l (Bits I4) (board.Long n) h = refl
value_refused l (Bits I4) (board.Ref n) h = number_refused (n == 0) n (Bits I4) refl (λ k. refl)
value_refused l (Bits I4) (board.Pointer at) h = refl
value_refused l (Bits I4) (board.Handle f) h = refl
value_refused l (Bits U4) (board.Int n) h = absurd (h tt)
value_refused l (Bits U4) (board.Long n) h = refl
value_refused l (Bits U4) (board.Ref n) h = number_refused (n == 0) n (Bits U4) refl (λ k. refl)
value_refused l (Bits U4) (board.Pointer at) h = refl
value_refused l (Bits U4) (board.Handle f) h = refl
value_refused l (Bits I8) (board.Int n) h = refl
value_refused l (Bits I8) (board.Long n) h = absurd (h tt)
value_refused l (Bits I8) (board.Ref n) h = number_refused (n == 0) n (Bits I8) refl (λ k. refl)
value_refused l (Bits I8) (board.Pointer at) h = refl
value_refused l (Bits I8) (board.Handle f) h = refl
value_refused l (Bits U8) (board.Int n) h = refl
value_refused l (Bits U8) (board.Long n) h = absurd (h tt)
value_refused l (Bits U8) (board.Ref n) h = number_refused (n == 0) n (Bits U8) refl (λ k. refl)
value_refused l (Bits U8) (board.Pointer at) h = refl
value_refused l (Bits U8) (board.Handle f) h = refl
value_refused l Refers (board.Int n) h = refl
value_refused l Refers (board.Long n) h = refl
value_refused l Refers (board.Ref n) h = absurd (h tt)
value_refused l Refers (board.Pointer at) h = refl
value_refused l Refers (board.Handle f) h = refl

pub zero_alike : (l : Leads) (cell : Option Cell) → stack_value l (zero_by cell) ≡ zero_in cell
zero_alike l (Some (Bits I1)) = refl
zero_alike l (Some (Bits U1)) = refl
zero_alike l (Some (Bits I2)) = refl
zero_alike l (Some (Bits U2)) = refl
zero_alike l (Some (Bits I4)) = refl
zero_alike l (Some (Bits U4)) = refl
zero_alike l (Some (Bits I8)) = refl
zero_alike l (Some (Bits U8)) = refl
zero_alike l (Some Refers) = refl
zero_alike l None = refl
