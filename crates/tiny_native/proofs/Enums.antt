-- Enums: which types they are, and what the machine's natives make of their boxes.
use Rattle.std.proofs.Common.{◌≡◌, ◌⊎◌, ⊎_elim, ℕ, zero, suc, Bool, true, false, List, ◌∷◌, Option, Some, None, refl, ap, ◌∙◌, arith}
use Rattle.std.specs.Prelude.{ℤ, pos, negsuc, not, FitsSigned}
use Rattle.std.proofs.lemmas.Int.{to_z-of_z}
use Rattle.std.specs.Int.{w32, w64, cast_signed, cast_unsigned}
use Rattle.plain_types.specs.declared.elem.Elem.{Elem}
use Rattle.plain_types.specs.declared.elem.Elem.TheVariants as elem
use Rattle.cil_opcodes.specs.declared.shape.IntegerType.{IntegerType}
use Rattle.cil_opcodes.specs.declared.shape.IntegerType.TheVariants.{I1, U1, I2, U2, I4, U4, I8, U8}
use Rattle.board_types.specs.declared.board.TypeAt.{TypeAt}
use Rattle.board_types.specs.declared.board.BoardType.{BoardType}
use Rattle.board_types.specs.declared.board.Known.TheVariants.{NullReference}
use Rattle.machine.specs.Data.{CliType, Basic, EnumOf, ClassOf, ValueOf, ArrayOf, cell_of, thing_at, Value, Int, Long, Null, Object, Handle, Pointer, Thing, Instance, Text, Elements, Boxed, StaticCell, Frame, State}
use Rattle.machine.specs.Program.{Program}
use Rattle.machine.specs.Numbers.{int_meant, long_meant}
use Rattle.machine.specs.Throw.{on_some, raise}
use Rattle.machine.specs.Rows.{on_thing}
use Rattle.machine.specs.Natives.{on_enum, number_text, new_text, enum_to_string}
use Rattle.board_ids.specs.Ids.{is_no_row, plain_type, in_brackets, cli_type}
use Rattle.tiny_native.specs.Types.{is_enum_type}
use Rattle.tiny_native.specs.Seen.{kind_of}
use Rattle.tiny_native.specs.Copies.{Lacks}
use Rattle.tiny_native.proofs.TypeSame.{either, plain_view}

pub enum_ranked : (n : ℕ) (t : CliType) → (n ≡ 0 → ⊥) → is_enum_type (in_brackets n t) ≡ false
enum_ranked zero t h = absurd (h refl)
enum_ranked (suc n) t h = refl

either_enum : (e : Elem) (a : TypeAt) (q : Bool) → is_enum_type (either e a q) ≡ not q
either_enum e a true = refl
either_enum e a false = refl

pub plain_enum : (e : Elem) (a : TypeAt) → (e ≡ elem.Class → ⊥) → (e ≡ elem.Value → ⊥) → is_enum_type (plain_type e a) ≡ not (is_no_row a)
plain_enum e a nc nv = ⊎_elim
    (λ (pe : e ≡ elem.Class). absurd (nc pe))
    (λ (l : (e ≡ elem.Value) ⊎ ((a : TypeAt) → plain_type e a ≡ either e a (is_no_row a))). ⊎_elim
    (λ (pe : e ≡ elem.Value). absurd (nv pe))
    (λ (ve : (a : TypeAt) → plain_type e a ≡ either e a (is_no_row a)). ap is_enum_type (ve a) ∙ either_enum e a (is_no_row a))
    l)
    (plain_view e)

-- a type without brackets
pub flat_type : (t : BoardType) → t.ranks ≡ 0 → cli_type t ≡ plain_type t.elem t.of
flat_type t e = ap (λ n. in_brackets n (plain_type t.elem t.of)) e

pub enum_box : (type : CliType) (value : Value) (go : CliType → Value → Option State) → is_enum_type type ≡ true → on_enum (Boxed type value) go ≡ go type value
enum_box (EnumOf e c) value go h = refl
enum_box (Basic e) value go h = absurd (cc h)
enum_box (ClassOf c) value go h = absurd (cc h)
enum_box (ValueOf c) value go h = absurd (cc h)
enum_box (ArrayOf t) value go h = absurd (cc h)

pub other_box : (type : CliType) (value : Value) (go : CliType → Value → Option State) → is_enum_type type ≡ false → on_enum (Boxed type value) go ≡ None
other_box (EnumOf e c) value go h = absurd (cc h)
other_box (Basic e) value go h = refl
other_box (ClassOf c) value go h = refl
other_box (ValueOf c) value go h = refl
other_box (ArrayOf t) value go h = refl

no_enum : (x : Thing) (go : CliType → Value → Option State) → (kind_of x ≡ 3 → ⊥) → on_enum x go ≡ None
no_enum (Boxed type value) go h = absurd (h refl)
no_enum (Text units) go h = refl
no_enum (Instance class fields) go h = refl
no_enum (Elements element values) go h = refl
no_enum (StaticCell type value) go h = refl

pub box_lacks : (p : Program) (s : State) (v : Value) (go : CliType → Value → Option State) → Lacks 3 s.heap v → on_thing p s v (λ n x. on_enum x go) ≡ None
box_lacks p s (Object n) go h = ap (λ (o : Option Thing). on_some o (λ x. on_enum x go)) h.1 ∙ no_enum h.0 go h.2
box_lacks p s Null go h = absurd h
box_lacks p s (Int n) go h = refl
box_lacks p s (Long n) go h = refl
box_lacks p s (Handle f) go h = refl
box_lacks p s (Pointer cell spot) go h = refl

pub int_means : (integer : IntegerType) (n : ℤ) → (integer ≡ U4 → ⊥) → int_meant integer n ≡ n
int_means U4 n h = absurd (h refl)
int_means I1 n h = refl
int_means U1 n h = refl
int_means I2 n h = refl
int_means U2 n h = refl
int_means I4 n h = refl
int_means I8 n h = refl
int_means U8 n h = refl

pub long_means : (integer : IntegerType) (n : ℤ) → (integer ≡ U8 → ⊥) → long_meant integer n ≡ n
long_means U8 n h = absurd (h refl)
long_means I1 n h = refl
long_means U1 n h = refl
long_means I2 n h = refl
long_means U2 n h = refl
long_means I4 n h = refl
long_means U4 n h = refl
long_means I8 n h = refl

-- an int32 goes through 64 bits
pub wider : (n : ℤ) → FitsSigned w32 n → cast_signed w64 (cast_unsigned w64 n) ≡ n
wider (pos k) f = to_z-of_z w64 (pos k) (record { sfits = omega (arith, f.sfits) })
wider (negsuc k) f = to_z-of_z w64 (negsuc k) (record { sfits = omega (arith, f.sfits) })

module _ (p : Program) (s : State) (f : Frame) (fs : List Frame) (next : ℕ) (rest more : List Value) where
  abbrev pub text_on : CliType → Value → Option State
  text_on type value = on_some (number_text (cell_of type) value) (λ units. new_text p s f fs next rest units)

  pub to_string_null : enum_to_string p s f fs next rest (Null ∷ more) ≡ raise p s NullReference
  unfolding enum_to_string
  to_string_null = refl

  pub to_string_box : (k : ℕ) (type : CliType) (value : Value) → thing_at s.heap k ≡ Some (Boxed type value) → enum_to_string p s f fs next rest (Object k ∷ more) ≡ on_enum (Boxed type value) text_on
  unfolding enum_to_string
  to_string_box k type value e = ap (λ (o : Option Thing). on_some o (λ x. on_enum x text_on)) e

  pub to_string_lacks : (v : Value) → Lacks 3 s.heap v → enum_to_string p s f fs next rest (v ∷ more) ≡ None
  unfolding enum_to_string
  to_string_lacks v h = box_lacks p s v text_on h
