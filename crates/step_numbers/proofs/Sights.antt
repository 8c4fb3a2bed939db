-- What the operators see of the region's values, and what they give, beside the machine's.
use Rattle.std.specs.Int.{w32, w64, cast_unsigned}
use Rattle.std.specs.Prelude.{if◌then◌else◌}
use Rattle.std.specs.Option.{option_map}
use Rattle.std.proofs.Common.{◌≡◌, ℕ, ℤ, zero, suc, ◌-◌, Bool, true, false, not, List, Option, Some, None, refl, sym, ap, ◌∙◌, arith}
use Rattle.std.proofs.Math.Dec.{eqb-suc-zero}
use Rattle.cil_opcodes.specs.declared.shape.IntegerType.{IntegerType}
use Rattle.cil_opcodes.specs.declared.shape.Sign.{Sign}
use Rattle.cil_opcodes.specs.declared.shape.Operator.{Operator}
use Rattle.cil_opcodes.specs.declared.shape.UnaryOperator.{UnaryOperator}
use Rattle.cil_opcodes.specs.declared.shape.ShiftOperator.{ShiftOperator}
use Rattle.cil_opcodes.specs.declared.shape.Comparison.{Comparison}
use Rattle.board_types.specs.declared.value.Value.{Value as RamValue}
use Rattle.board_types.specs.declared.value.Value.TheVariants as ram
use Rattle.machine.specs.Data.{Refers, Spot, InArgument, InObject, Value, Int, Long, Null, Object, Handle, Pointer}
use Rattle.machine.specs.Numbers.{Answer, Gives, Sight, AnInt, ALong, ANull, AnObject, Another, sight_of, pair_of, on_pair, on_shift, on_unary, compared, branch_compared, on_convert, on_convert_checked, is_zero, binary, shift, unary, compare, branch_compare, convert, convert_checked, truth, as_int}
use Rattle.tiny_ops.specs.Operators.{Leads, stack_value, reference}
use Rattle.tiny_ops.specs.declared.answer.OpEnd.TheVariants as ended
use Rattle.tiny_ram.specs.Memory.{RamFrame}
use Rattle.memory_states.specs.Values.{IsValue}
use Rattle.step_numbers.specs.Taken.{Seen, IsAnswer}

-- ---- values

object_is : (k : ℕ) → reference (suc k) ≡ Object k
object_is k = ap (λ (b : Bool). if b then Null else Object (suc k - 1)) (eqb-suc-zero k) ∙ ap Object (omega arith)

-- all pointers lead to one spot
abbrev into : Spot → Leads
into spot = record { cell = λ e. Refers; spot = λ at. spot }

abbrev pub nowhere : Leads
nowhere = into (InArgument 0 0)

module _ (room : ℕ) (fs : List RamFrame) where
  pub value_seen : (r : RamValue) (v : Value) → IsValue room fs r v → Seen r v
  value_seen (ram.Int n) (Int k) h = λ l. ap AnInt h
  value_seen (ram.Long n) (Long k) h = λ l. ap ALong h
  value_seen (ram.Ref n) Null h = λ l. ap (λ (n : ℕ). sight_of (reference n)) h
  value_seen (ram.Ref n) (Object k) h = λ l. let more : n ≡ suc k = omega (arith, h) in ap (λ (n : ℕ). sight_of (reference n)) more ∙ ap sight_of (object_is k)
  value_seen (ram.Handle field) (Handle f) h = λ l. refl
  value_seen (ram.Pointer at) (Pointer cell spot) h = λ l. refl
  value_seen _ _ h = absurd h

  referred : (n : ℕ) → (v : Value) × (reference n ≡ v) × IsValue room fs (ram.Ref n) v
  referred zero = (Null, refl, refl)
  referred (suc n) = (Object n, object_is n, omega arith)

  -- what an operator gives is the machine's value: no pointer
  pub given_is : (r : RamValue) (a : Answer) → IsAnswer (ended.Gives r) a → (v : Value) × (a ≡ Gives v) × IsValue room fs r v
  given_is (ram.Int n) a h = (Int n, sym (h nowhere), refl)
  given_is (ram.Long n) a h = (Long n, sym (h nowhere), refl)
  given_is (ram.Ref n) a h = let to = referred n in (to.0, sym (h nowhere) ∙ ap Gives to.1, to.2)
  given_is (ram.Handle f) a h = (Handle (record { file = f.assembly; row = f.row }), sym (h nowhere), refl)
  given_is (ram.Pointer at) a h =
      let e : Gives (Pointer Refers (InArgument 0 0)) ≡ Gives (Pointer Refers (InObject 0 0)) = h nowhere ∙ sym (h (into (InObject 0 0))) in absurd (cc e)

-- an int32 that was looked for, as a number without sign
pub int_none : (o : Option ℤ) → None ≡ option_map (cast_unsigned w32) o → o ≡ None
int_none None e = refl
int_none (Some z) e = absurd (cc e)

pub int_some : (o : Option ℤ) (n : ℕ) → Some n ≡ option_map (cast_unsigned w32) o → (z : ℤ) × (o ≡ Some z) × (n ≡ cast_unsigned w32 z)
int_some None n e = absurd (cc e)
int_some (Some z) n e = (z, refl, cc e)

-- ---- operators, which go by what they see

by_two : {A : Type 0} (f : Sight → Sight → A) (a b c d : Sight) → a ≡ c → b ≡ d → f a b ≡ f c d
by_two f a b c d e q = ap (λ z. f z b) e ∙ ap (f c) q

-- `brtrue` by what it sees
truth_by : Sight → Option Bool
truth_by (AnInt n) = Some (not (is_zero w32 n))
truth_by (ALong n) = Some (not (is_zero w64 n))
truth_by ANull = Some false
truth_by (AnObject n) = Some true
truth_by Another = None

truth_is : (v : Value) → truth v ≡ truth_by (sight_of v)
unfolding truth truth_by
truth_is (Int n) = refl
truth_is (Long n) = refl
truth_is Null = refl
truth_is (Object n) = refl
truth_is (Handle f) = refl
truth_is (Pointer c s) = refl

int_by : Sight → Option ℤ
int_by (AnInt n) = Some n
int_by (ALong n) = None
int_by ANull = None
int_by (AnObject n) = None
int_by Another = None

int_is : (v : Value) → as_int v ≡ int_by (sight_of v)
unfolding int_by
int_is (Int n) = refl
int_is (Long n) = refl
int_is Null = refl
int_is (Object n) = refl
int_is (Handle f) = refl
int_is (Pointer c s) = refl

module _ (l : Leads) (x : RamValue) (v : Value) (h : Seen x v) where
  pub unary_seen : (operator : UnaryOperator) → unary operator (stack_value l x) ≡ unary operator v
  unfolding unary
  unary_seen operator = ap (on_unary operator) (h l)

  pub convert_seen : (integer : IntegerType) → convert integer (stack_value l x) ≡ convert integer v
  unfolding convert
  convert_seen integer = ap (on_convert integer) (h l)

  pub convert_checked_seen : (integer : IntegerType) (source : Sign) → convert_checked integer source (stack_value l x) ≡ convert_checked integer source v
  unfolding convert_checked
  convert_checked_seen integer source = ap (on_convert_checked integer source) (h l)

  pub truth_seen : truth (stack_value l x) ≡ truth v
  truth_seen = truth_is (stack_value l x) ∙ ap truth_by (h l) ∙ sym (truth_is v)

  pub int_seen : as_int (stack_value l x) ≡ as_int v
  int_seen = int_is (stack_value l x) ∙ ap int_by (h l) ∙ sym (int_is v)

  module _ (y : RamValue) (w : Value) (k : Seen y w) where
    seen_both : {A : Type 0} (f : Sight → Sight → A) → f (sight_of (stack_value l x)) (sight_of (stack_value l y)) ≡ f (sight_of v) (sight_of w)
    seen_both f = by_two f (sight_of (stack_value l x)) (sight_of (stack_value l y)) (sight_of v) (sight_of w) (h l) (k l)

    pub binary_seen : (operator : Operator) → binary operator (stack_value l x) (stack_value l y) ≡ binary operator v w
    unfolding binary
    binary_seen operator = seen_both (λ a b. on_pair operator (pair_of a b))

    pub shift_seen : (operator : ShiftOperator) → shift operator (stack_value l x) (stack_value l y) ≡ shift operator v w
    unfolding shift
    shift_seen operator = seen_both (on_shift operator)

    pub compare_seen : (comparison : Comparison) → compare comparison (stack_value l x) (stack_value l y) ≡ compare comparison v w
    unfolding compare
    compare_seen comparison = seen_both (λ a b. compared comparison (pair_of a b))

    pub branch_compare_seen : (comparison : Comparison) → branch_compare comparison (stack_value l x) (stack_value l y) ≡ branch_compare comparison v w
    unfolding branch_compare
    branch_compare_seen comparison = seen_both (λ a b. branch_compared comparison (pair_of a b))
