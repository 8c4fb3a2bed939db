-- Whether boxes are equal.
use Rattle.std.proofs.Common.{◌≡◌, ℕ, ◌-◌, Bool, true, false, ◌==◌, List, ◌∷◌, Option, Some, None, refl, ap}
use Rattle.std.specs.Prelude.{ℤ, if◌then◌else◌}
use Rattle.board_types.specs.declared.board.Known.TheVariants.{NullReference}
use Rattle.board_types.specs.declared.value.Value.{Value as BoardValue}
use Rattle.board_types.specs.declared.value.Value.TheVariants as board
use Rattle.machine.specs.Data.{CliType, thing_at, Value, Int, Long, Null, Object, Thing, Instance, Text, Elements, Boxed, StaticCell, Frame, State}
use Rattle.machine.specs.Program.{Program}
use Rattle.machine.specs.Numbers.{of_bool}
use Rattle.machine.specs.Throw.{on_some, goes, raise}
use Rattle.machine.specs.Natives.{on_enum, same_number_value, is_box_of, equals_box, enum_equals}
use Rattle.tiny_ops.specs.Operators.{Leads, reference, stack_value}
use Rattle.tiny_native.specs.Seen.{kind_of}
use Rattle.tiny_native.specs.Copies.{Lacks}
use Rattle.tiny_native.proofs.Enums.{box_lacks}

int_reference : (a : ℤ) (n : ℕ) → same_number_value (Int a) (reference n) ≡ false
int_reference a n = at (n == 0)
  where
    at : (b : Bool) → same_number_value (Int a) (if b then Null else Object (n - 1)) ≡ false
    at true = refl
    at false = refl

long_reference : (a : ℤ) (n : ℕ) → same_number_value (Long a) (reference n) ≡ false
long_reference a n = at (n == 0)
  where
    at : (b : Bool) → same_number_value (Long a) (if b then Null else Object (n - 1)) ≡ false
    at true = refl
    at false = refl

reference_any : (n : ℕ) (w : Value) → same_number_value (reference n) w ≡ false
reference_any n w = at (n == 0)
  where
    at : (b : Bool) → same_number_value (if b then Null else Object (n - 1)) w ≡ false
    at true = refl
    at false = refl

pub not_int : (l : Leads) (a : ℤ) (v : BoardValue) → ((n : ℤ) → v ≡ board.Int n → ⊥) → same_number_value (Int a) (stack_value l v) ≡ false
not_int l a (board.Int n) h = absurd (h n refl)
not_int l a (board.Long n) h = refl
not_int l a (board.Ref n) h = int_reference a n
not_int l a (board.Pointer at) h = refl
not_int l a (board.Handle f) h = refl

pub not_long : (l : Leads) (a : ℤ) (v : BoardValue) → ((n : ℤ) → v ≡ board.Long n → ⊥) → same_number_value (Long a) (stack_value l v) ≡ false
not_long l a (board.Long n) h = absurd (h n refl)
not_long l a (board.Int n) h = refl
not_long l a (board.Ref n) h = long_reference a n
not_long l a (board.Pointer at) h = refl
not_long l a (board.Handle f) h = refl

pub no_number : (l : Leads) (v : BoardValue) (w : Value) → ((n : ℤ) → v ≡ board.Int n → ⊥) → ((n : ℤ) → v ≡ board.Long n → ⊥) → same_number_value (stack_value l v) w ≡ false
no_number l (board.Int n) w h k = absurd (h n refl)
no_number l (board.Long n) w h k = absurd (k n refl)
no_number l (board.Ref n) w h k = reference_any n w
no_number l (board.Pointer at) w h k = refl
no_number l (board.Handle f) w h k = refl

pub no_box_of : (type : CliType) (value : Value) (x : Thing) → (kind_of x ≡ 3 → ⊥) → is_box_of type value x ≡ false
no_box_of type value (Boxed own v) h = absurd (h refl)
no_box_of type value (Text units) h = refl
no_box_of type value (Instance class fields) h = refl
no_box_of type value (Elements element values) h = refl
no_box_of type value (StaticCell own v) h = refl

equals_reference : (heap : List Thing) (type : CliType) (value : Value) (n : ℕ) → equals_box heap type value Null ≡ Some false
equals_reference heap type value n = refl

module _ (p : Program) (s : State) (f : Frame) (fs : List Frame) (next : ℕ) (rest more : List Value) where
  abbrev pub equals_on : Value → CliType → Value → Option State
  equals_on other type value = on_some (equals_box s.heap type value other) (λ b. goes p s f fs next (of_bool b ∷ rest))

  pub enum_equals_null : (other : Value) → enum_equals p s f fs next rest (Null ∷ other ∷ more) ≡ raise p s NullReference
  unfolding enum_equals
  enum_equals_null other = refl

  pub enum_equals_box : (other : Value) (k : ℕ) (type : CliType) (value : Value) → thing_at s.heap k ≡ Some (Boxed type value) → enum_equals p s f fs next rest (Object k ∷ other ∷ more) ≡ on_enum (Boxed type value) (equals_on other)
  unfolding enum_equals
  enum_equals_box other k type value e = ap (λ (o : Option Thing). on_some o (λ x. on_enum x (equals_on other))) e

  pub enum_equals_lacks : (other v : Value) → Lacks 3 s.heap v → enum_equals p s f fs next rest (v ∷ other ∷ more) ≡ None
  unfolding enum_equals
  enum_equals_lacks other v h = box_lacks p s v (equals_on other) h
