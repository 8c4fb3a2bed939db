-- Values that name what is there.
use Rattle.std.proofs.Common.{◌≡◌, ℤ, ℕ, zero, suc, ◌<◌, ◌≤◌, Bool, true, false, ◌==◌, ◌&&◌, List, [], ◌∷◌, ◌++◌, map, length, replicate, take, drop, Option, Some, None, refl, sym, ap, subst, arith}
use Rattle.std.specs.Prelude.{if◌then◌else◌, slice_get, slice_set, pos, int_le, ◌+ℤ◌, ◌-ℤ◌, ◌*ℤ◌}
use Rattle.std.specs.Int.{Width, w32, w64, cast_unsigned}
use Rattle.std.specs.Option.{option_map}
use Rattle.std.proofs.lemmas.Bool.{eqb-true, ne_eqb}
use Rattle.cil_opcodes.specs.declared.shape.IntegerType.{IntegerType}
use Rattle.cil_opcodes.specs.declared.shape.IntegerType.TheVariants.{I1, U1, I2, U2, I4, U4, I8, U8}
use Rattle.cil_opcodes.specs.declared.shape.Sign.{Sign}
use Rattle.cil_opcodes.specs.declared.shape.Operator.{Operator}
use Rattle.cil_opcodes.specs.declared.shape.Operator.TheVariants.{Add, Subtract, Multiply, Divide, DivideUnsigned, Remainder, RemainderUnsigned, And, Or, Xor, AddChecked, SubtractChecked, MultiplyChecked}
use Rattle.cil_opcodes.specs.declared.shape.UnaryOperator.{UnaryOperator}
use Rattle.cil_opcodes.specs.declared.shape.ShiftOperator.{ShiftOperator}
use Rattle.board_types.specs.declared.board.Known.TheVariants.{Overflow, Arithmetic, DivideByZero}
use Rattle.machine.specs.Data.{Id, CliType, Basic, EnumOf, ClassOf, ValueOf, ArrayOf, PlaceType, Plain, To, Cell, Bits, Refers, cell_of, Spot, InArgument, InLocal, InObject, Value, Int, Long, Null, Object, Handle, Pointer, Thing, Slot, Nothing, Caught, Throwing, Leaving, Frame}
use Rattle.machine.specs.Program.{Program, Method}
use Rattle.machine.specs.Numbers.{Answer, Gives, Raises, NoCase, cut, least, greatest, integer_at, read_as, is_long, small, checked, by_signed, by_unsigned, is_zero, is_least_by_minus_one, arithmetic, Sight, AnInt, ALong, sight_of, Pair, Ints, Longs, References, Other, pair_of, on_pair, binary, on_shift, shift, on_unary, unary, on_convert, convert, on_convert_checked, convert_checked, same_width, PlaceKind, Holds, HoldsPointer, HoldsHandle, kind_of_type, kind_of, kept_pointer, kept_handle, kept_by, kept, kept_in, zero_in, zero_of, zero_place}
use Rattle.machine.specs.Throw.{on_some}
use Rattle.machine.specs.Rows.{Taken, take_arguments, keep_all, method_cells}
use Rattle.machine_whole.specs.Whole.{Context, over, is_constant, chain_cells, id_at, place_at, Leads, Names, AllName, IsInstance, SlotNames, SlotsName}
use Rattle.machine_whole.proofs.Heaps.{Extends, same_heap, some_same, some_inv}

pub cells_positive : (o : Option Method) → 0 < method_cells o
cells_positive None = omega arith
cells_positive (Some m) = omega arith

pub map_inv : {A B : Type 0} (g : A → B) (o : Option A) (b : B) → option_map g o ≡ Some b → (x : A) × (o ≡ Some x) × (g x ≡ b)
map_inv g None b e = absurd (cc e)
map_inv g (Some x) b e = (x, refl, some_same (g x) b e)

if_inv : {A : Type 0} (b : Bool) (x y : A) → (if b then Some x else None) ≡ Some y → x ≡ y
if_inv true x y e = some_same x y e
if_inv false x y e = absurd (cc e)

module _ (fields frames : Bool) (p : Program) where
  -- what is named there is named here
  pub record Reaches (old new : Context) : Type 0 where
    pub heap : Extends old.heap new.heap
    pub chain : (depth : ℕ) (id : Id) → id_at p old.chain depth ≡ Some id → id_at p new.chain depth ≡ Some id

  at_more : (k : Id → Option Cell) (old new : Context) → Reaches old new → (depth : ℕ) (cell : Cell) → on_some (id_at p old.chain depth) k ≡ Some cell → on_some (id_at p new.chain depth) k ≡ Some cell
  at_more k old new x depth cell e =
      let y = some_inv (id_at p old.chain depth) k cell e in
      subst (λ o. on_some o k ≡ Some cell) (sym (x.chain depth y.0 y.1)) y.2

  leads_more : (old new : Context) → Reaches old new → (cell : Cell) (spot : Spot) → Leads fields frames p old cell spot → Leads fields frames p new cell spot
  leads_more old new x cell (InArgument depth n) h = λ e. at_more (λ id. on_some (p.method id) (λ m. place_at m.arguments n)) old new x depth cell (h e)
  leads_more old new x cell (InLocal depth n) h = λ e. at_more (λ id. on_some (p.method id) (λ m. place_at m.locals n)) old new x depth cell (h e)
  leads_more old new x cell (InObject object n) h = record { mould = h.mould; at = x.heap.keeps object h.mould h.at; place = h.place }

  pub names_more : (old new : Context) → Reaches old new → (v : Value) → Names fields frames p old v → Names fields frames p new v
  names_more old new x (Int n) h = tt
  names_more old new x (Long n) h = tt
  names_more old new x Null h = tt
  names_more old new x (Handle f) h = tt
  names_more old new x (Object n) h = record { mould = h.mould; at = x.heap.keeps n h.mould h.at }
  names_more old new x (Pointer cell spot) h = leads_more old new x cell spot h

  pub all_more : (old new : Context) → Reaches old new → (vs : List Value) → AllName fields frames p old vs → AllName fields frames p new vs
  all_more old new x [] h = tt
  all_more old new x (v ∷ vs) h = (names_more old new x v h.0, all_more old new x vs h.1)

  instance_more : (old new : List Thing) → Extends old new → (n : ℕ) → IsInstance fields frames p old n → IsInstance fields frames p new n
  instance_more old new x n h = record { class = h.class; count = h.count; at = x.keeps n _ h.at }

  slot_more : (old new : List Thing) → Extends old new → (slot : Slot) → SlotNames fields frames p old slot → SlotNames fields frames p new slot
  slot_more old new x Nothing h = tt
  slot_more old new x (Caught object) h = instance_more old new x object h
  slot_more old new x (Throwing turns catch object) h = instance_more old new x object h
  slot_more old new x (Leaving finals target) h = tt

  pub slots_more : (old new : List Thing) → Extends old new → (xs : List Slot) → SlotsName fields frames p old xs → SlotsName fields frames p new xs
  slots_more old new x [] h = tt
  slots_more old new x (s ∷ ss) h = (slot_more old new x s h.0, slots_more old new x ss h.1)

  pub slot_at : (heap : List Thing) (xs : List Slot) (k : ℕ) (slot : Slot) → SlotsName fields frames p heap xs → slice_get xs k ≡ Some slot → SlotNames fields frames p heap slot
  slot_at heap [] k slot h e = absurd (cc e)
  slot_at heap (x ∷ xs) zero slot h e = subst (SlotNames fields frames p heap) (some_same x slot e) h.0
  slot_at heap (x ∷ xs) (suc k) slot h e = slot_at heap xs k slot h.1 e

  pub slots_set : (heap : List Thing) (xs : List Slot) (k : ℕ) (slot : Slot) → SlotsName fields frames p heap xs → SlotNames fields frames p heap slot → SlotsName fields frames p heap (slice_set xs k slot)
  slots_set heap [] k slot h g = tt
  slots_set heap (x ∷ xs) zero slot h g = (g, h.1)
  slots_set heap (x ∷ xs) (suc k) slot h g = (h.0, slots_set heap xs k slot h.1 g)

  pub slots_fresh : (heap : List Thing) (n : ℕ) → SlotsName fields frames p heap (replicate n Nothing)
  slots_fresh heap zero = tt
  slots_fresh heap (suc n) = (tt, slots_fresh heap n)

  -- ---- frames

  within_chain : (is : List Id) (d : ℕ) (x : Id) → id_at p is d ≡ Some x → d ≤ chain_cells p is
  within_chain [] d x e = absurd (cc e)
  within_chain (i ∷ is) d x e = at (chain_cells p (i ∷ is) == d) refl e (within_chain is d x)
    where
      at : (b : Bool) → (chain_cells p (i ∷ is) == d) ≡ b → (if b then Some i else id_at p is d) ≡ Some x → (id_at p is d ≡ Some x → d ≤ chain_cells p is) → d ≤ chain_cells p (i ∷ is)
      at true y e ih = let same : chain_cells p (i ∷ is) ≡ d = eqb-true (chain_cells p (i ∷ is)) d y in subst (λ n. n ≤ chain_cells p (i ∷ is)) same (omega arith)
      at false y e ih = omega (arith, ih e)

  pub pushed : (heap : List Thing) (g : Frame) (fs : List Frame) → Reaches (over heap fs) (over heap (g ∷ fs))
  pushed heap g fs =
      record {
        heap = same_heap heap;
        chain = λ d id e.
            let is : List Id = map (λ (f : Frame). f.method) fs in
            let le = within_chain is d id e in
            let one = cells_positive (p.method g.method) in
            let no : (chain_cells p (g.method ∷ is) == d) ≡ false = ne_eqb (chain_cells p (g.method ∷ is)) d (λ x. omega (arith, le, one, x)) in
            subst (λ (b : Bool). (if b then Some g.method else id_at p is d) ≡ Some id) (sym no) e;
      }

  pub from_heap : (heap : List Thing) (fs : List Frame) → Reaches (over heap []) (over heap fs)
  from_heap heap fs = record { heap = same_heap heap; chain = λ d id e. absurd (cc e) }

  pub reach : (old new : List Thing) → Extends old new → (fs : List Frame) → Reaches (over old fs) (over new fs)
  reach old new x fs = record { heap = x; chain = λ d id e. e }

  -- ---- lists

  module _ (cx : Context) where
    pub all_get : (vs : List Value) (n : ℕ) (v : Value) → AllName fields frames p cx vs → slice_get vs n ≡ Some v → Names fields frames p cx v
    all_get [] n v h e = absurd (cc e)
    all_get (w ∷ vs) zero v h e = subst (Names fields frames p cx) (some_same w v e) h.0
    all_get (w ∷ vs) (suc n) v h e = all_get vs n v h.1 e

    pub all_set : (vs : List Value) (n : ℕ) (v : Value) → AllName fields frames p cx vs → Names fields frames p cx v → AllName fields frames p cx (slice_set vs n v)
    all_set [] n v h k = tt
    all_set (w ∷ vs) zero v h k = (k, h.1)
    all_set (w ∷ vs) (suc n) v h k = (h.0, all_set vs n v h.1 k)

    pub all_append : (vs ws : List Value) → AllName fields frames p cx vs → AllName fields frames p cx ws → AllName fields frames p cx (vs ++ ws)
    all_append [] ws h k = k
    all_append (v ∷ vs) ws h k = (h.0, all_append vs ws h.1 k)

    pub all_take : (n : ℕ) (vs : List Value) → AllName fields frames p cx vs → AllName fields frames p cx (take n vs)
    all_take zero vs h = tt
    all_take (suc n) [] h = tt
    all_take (suc n) (v ∷ vs) h = (h.0, all_take n vs h.1)

    pub all_drop : (n : ℕ) (vs : List Value) → AllName fields frames p cx vs → AllName fields frames p cx (drop n vs)
    all_drop zero vs h = h
    all_drop (suc n) [] h = tt
    all_drop (suc n) (v ∷ vs) h = all_drop n vs h.1

    pub all_replicate : (n : ℕ) (v : Value) → Names fields frames p cx v → AllName fields frames p cx (replicate n v)
    all_replicate zero v h = tt
    all_replicate (suc n) v h = (h, all_replicate n v h)

    pub taken_name : (n : ℕ) (vs us : List Value) (t : Taken Value) → AllName fields frames p cx vs → AllName fields frames p cx us → take_arguments n vs us ≡ Some t → AllName fields frames p cx t.arguments × AllName fields frames p cx t.rest
    taken_name zero vs us t h k e = subst (λ (t : Taken Value). AllName fields frames p cx t.arguments × AllName fields frames p cx t.rest) (some_same (record { arguments = us; rest = vs }) t e) (k, h)
    taken_name (suc n) [] us t h k e = absurd (cc e)
    taken_name (suc n) (v ∷ vs) us t h k e = taken_name n vs (v ∷ us) t h.1 (h.0, k) e

    -- ---- numbers

    pub cut_names : (i : IntegerType) (n : ℕ) → Names fields frames p cx (cut i n)
    cut_names I1 n = tt
    cut_names U1 n = tt
    cut_names I2 n = tt
    cut_names U2 n = tt
    cut_names I4 n = tt
    cut_names U4 n = tt
    cut_names I8 n = tt
    cut_names U8 n = tt

    small_names : (i : IntegerType) (n : ℤ) → Names fields frames p cx (small i n)
    small_names I1 n = tt
    small_names U1 n = tt
    small_names I2 n = tt
    small_names U2 n = tt
    small_names I4 n = tt
    small_names U4 n = tt
    small_names I8 n = tt
    small_names U8 n = tt

    abbrev pub AnswerNames : Answer → Type 0
    AnswerNames (Gives v) = Names fields frames p cx v
    AnswerNames (Raises known) = Unit {0}
    AnswerNames NoCase = Unit {0}

    if_answer : (b : Bool) (x y : Answer) → AnswerNames x → AnswerNames y → AnswerNames (if b then x else y)
    if_answer true x y g h = g
    if_answer false x y g h = h

    checked_names : (i : IntegerType) (n : ℤ) → AnswerNames (checked i n)
    checked_names i n = if_answer (int_le (least i) n && int_le n (greatest i)) (Gives (cut i (cast_unsigned w64 n))) (Raises Overflow) (cut_names i (cast_unsigned w64 n)) tt

    signed_names : (w : Width) (x y : ℤ) (v : Value) → Names fields frames p cx v → AnswerNames (by_signed w x y v)
    signed_names w x y v h = if_answer (is_zero w y) (Raises DivideByZero) (if is_least_by_minus_one w x y then Raises Arithmetic else Gives v) tt (if_answer (is_least_by_minus_one w x y) (Raises Arithmetic) (Gives v) tt h)

    unsigned_names : (w : Width) (y : ℤ) (v : Value) → Names fields frames p cx v → AnswerNames (by_unsigned w y v)
    unsigned_names w y v h = if_answer (is_zero w y) (Raises DivideByZero) (Gives v) tt h

    arithmetic_names : (w : Width) (make : ℤ → Value) → ((n : ℤ) → Names fields frames p cx (make n)) → (operator : Operator) (x y : ℤ) → AnswerNames (arithmetic w make operator x y)
    arithmetic_names w make g Add x y = g _
    arithmetic_names w make g Subtract x y = g _
    arithmetic_names w make g Multiply x y = g _
    arithmetic_names w make g Divide x y = signed_names w x y _ (g _)
    arithmetic_names w make g Remainder x y = signed_names w x y _ (g _)
    arithmetic_names w make g DivideUnsigned x y = unsigned_names w y _ (g _)
    arithmetic_names w make g RemainderUnsigned x y = unsigned_names w y _ (g _)
    arithmetic_names w make g And x y = g _
    arithmetic_names w make g Or x y = g _
    arithmetic_names w make g Xor x y = g _
    arithmetic_names w make g (AddChecked sign) x y = checked_names (integer_at w sign) (read_as w sign x +ℤ read_as w sign y)
    arithmetic_names w make g (SubtractChecked sign) x y = checked_names (integer_at w sign) (read_as w sign x -ℤ read_as w sign y)
    arithmetic_names w make g (MultiplyChecked sign) x y = checked_names (integer_at w sign) (read_as w sign x *ℤ read_as w sign y)

    pair_names : (operator : Operator) (q : Pair) → AnswerNames (on_pair operator q)
    pair_names operator (Ints x y) = arithmetic_names w32 Int (λ n. tt) operator x y
    pair_names operator (Longs x y) = arithmetic_names w64 Long (λ n. tt) operator x y
    pair_names operator (References same) = tt
    pair_names operator Other = tt

    pub binary_names : (operator : Operator) (x y : Value) → AnswerNames (binary operator x y)
    unfolding binary
    binary_names operator x y = pair_names operator (pair_of (sight_of x) (sight_of y))

    abbrev pub OptionNames : Option Value → Type 0
    OptionNames None = Unit {0}
    OptionNames (Some v) = Names fields frames p cx v

    on_shift_names : (operator : ShiftOperator) (x y : Sight) → OptionNames (on_shift operator x y)
    on_shift_names operator (AnInt x) (AnInt y) = tt
    on_shift_names operator (ALong x) (AnInt y) = tt
    on_shift_names operator _ _ = tt

    pub shift_names : (operator : ShiftOperator) (x y : Value) → OptionNames (shift operator x y)
    unfolding shift
    shift_names operator x y = on_shift_names operator (sight_of x) (sight_of y)

    on_unary_names : (operator : UnaryOperator) (x : Sight) → OptionNames (on_unary operator x)
    on_unary_names operator (AnInt x) = tt
    on_unary_names operator (ALong x) = tt
    on_unary_names operator _ = tt

    pub unary_names : (operator : UnaryOperator) (x : Value) → OptionNames (unary operator x)
    unfolding unary
    unary_names operator x = on_unary_names operator (sight_of x)

    on_convert_names : (i : IntegerType) (x : Sight) → OptionNames (on_convert i x)
    on_convert_names i (AnInt x) = cut_names i _
    on_convert_names i (ALong x) = cut_names i _
    on_convert_names i _ = tt

    pub convert_names : (i : IntegerType) (x : Value) → OptionNames (convert i x)
    unfolding convert
    convert_names i x = on_convert_names i (sight_of x)

    on_convert_checked_names : (i : IntegerType) (sign : Sign) (x : Sight) → AnswerNames (on_convert_checked i sign x)
    on_convert_checked_names i sign (AnInt x) = checked_names i _
    on_convert_checked_names i sign (ALong x) = checked_names i _
    on_convert_checked_names i sign _ = tt

    pub convert_checked_names : (i : IntegerType) (sign : Sign) (x : Value) → AnswerNames (convert_checked i sign x)
    unfolding convert_checked
    convert_checked_names i sign x = on_convert_checked_names i sign (sight_of x)

    pub constant_names : (v : Value) → is_constant v ≡ true → Names fields frames p cx v
    constant_names (Int n) e = tt
    constant_names (Long n) e = tt
    constant_names Null e = tt
    constant_names (Handle f) e = tt
    constant_names (Object n) e = absurd (cc e)
    constant_names (Pointer c x) e = absurd (cc e)

    zero_in_names : (o : Option Cell) → Names fields frames p cx (zero_in o)
    zero_in_names (Some (Bits i)) = at (is_long i)
      where
        at : (b : Bool) → Names fields frames p cx (if b then Long (pos 0) else Int (pos 0))
        at true = tt
        at false = tt
    zero_in_names (Some Refers) = tt
    zero_in_names None = tt

    pub zero_names : (type : CliType) → Names fields frames p cx (zero_of type)
    unfolding zero_of
    zero_names type = zero_in_names (cell_of type)

    zero_place_names : (type : PlaceType) → Names fields frames p cx (zero_place type)
    unfolding zero_place
    zero_place_names (Plain type) = zero_names type
    zero_place_names (To type) = tt

    pub zeros_name : (types : List CliType) → AllName fields frames p cx (map zero_of types)
    zeros_name [] = tt
    zeros_name (k ∷ ks) = (zero_names k, zeros_name ks)

    pub places_name : (types : List PlaceType) → AllName fields frames p cx (map zero_place types)
    places_name [] = tt
    places_name (k ∷ ks) = (zero_place_names k, places_name ks)

  -- ---- values in places

  -- what a cell keeps is no pointer
  pub kept_in_names : (cx : Context) (cell : Cell) (v w : Value) → Names fields frames p cx v → kept_in cell v ≡ Some w → Names fields frames p (over cx.heap []) w
  unfolding kept_in
  kept_in_names cx (Bits i) (Int n) w h e = at (is_long i) e
    where
      at : (b : Bool) → (if b then None else Some (small i n)) ≡ Some w → Names fields frames p (over cx.heap []) w
      at true x = absurd (cc x)
      at false x = subst (Names fields frames p (over cx.heap [])) (some_same (small i n) w x) (small_names (over cx.heap []) i n)
  kept_in_names cx (Bits i) (Long n) w h e = subst (Names fields frames p (over cx.heap [])) (if_inv (is_long i) (Long n) w e) tt
  kept_in_names cx Refers Null w h e = subst (Names fields frames p (over cx.heap [])) (some_same Null w e) tt
  kept_in_names cx Refers (Object n) w h e = subst (Names fields frames p (over cx.heap [])) (some_same (Object n) w e) (record { mould = h.mould; at = h.at })
  kept_in_names cx _ _ w h e = absurd (cc e)

  handle_names : (cx : Context) (v w : Value) → kept_handle v ≡ Some w → Names fields frames p cx w
  handle_names cx (Handle f) w e = subst (Names fields frames p cx) (some_same (Handle f) w e) tt
  handle_names cx _ w e = absurd (cc e)

  pointer_names : (cx : Context) (wide : Cell) (v w : Value) → Names fields frames p cx v → kept_pointer wide v ≡ Some w → Names fields frames p cx w
  pointer_names cx wide (Pointer cell spot) w h e = subst (Names fields frames p cx) (if_inv (same_width cell wide) (Pointer cell spot) w e) h
  pointer_names cx wide _ w h e = absurd (cc e)

  kept_by_names : (cx : Context) (o : Option PlaceKind) (v w : Value) → Names fields frames p cx v → kept_by o v ≡ Some w → Names fields frames p cx w
  kept_by_names cx None v w h e = absurd (cc e)
  kept_by_names cx (Some (Holds cell)) v w h e = names_more (over cx.heap []) cx (record { heap = same_heap cx.heap; chain = λ d id e. absurd (cc e) }) w (kept_in_names cx cell v w h e)
  kept_by_names cx (Some (HoldsPointer cell)) v w h e = pointer_names cx cell v w h e
  kept_by_names cx (Some HoldsHandle) v w h e = handle_names cx v w e

  -- a value as its place keeps it
  pub kept_names : (cx : Context) (type : PlaceType) (v w : Value) → Names fields frames p cx v → kept type v ≡ Some w → Names fields frames p cx w
  unfolding kept
  kept_names cx type v w h e = kept_by_names cx (kind_of type) v w h e

  abbrev IsFlat : Option PlaceKind → Type 0
  IsFlat None = Unit {0}
  IsFlat (Some (Holds cell)) = Unit {0}
  IsFlat (Some (HoldsPointer cell)) = ⊥
  IsFlat (Some HoldsHandle) = Unit {0}

  holds_flat : (o : Option Cell) → IsFlat (option_map Holds o)
  holds_flat None = tt
  holds_flat (Some c) = tt

  type_flat : (type : CliType) → IsFlat (kind_of_type type)
  type_flat (Basic e) = holds_flat (cell_of (Basic e))
  type_flat (EnumOf e c) = holds_flat (cell_of (EnumOf e c))
  type_flat (ClassOf c) = tt
  type_flat (ValueOf c) = tt
  type_flat (ArrayOf t) = tt

  flat_names : (cx : Context) (o : Option PlaceKind) (v w : Value) → IsFlat o → Names fields frames p cx v → kept_by o v ≡ Some w → Names fields frames p (over cx.heap []) w
  flat_names cx None v w f h e = absurd (cc e)
  flat_names cx (Some (Holds cell)) v w f h e = kept_in_names cx cell v w h e
  flat_names cx (Some (HoldsPointer cell)) v w f h e = absurd f
  flat_names cx (Some HoldsHandle) v w f h e = handle_names (over cx.heap []) v w e

  pub plain_names : (cx : Context) (type : CliType) (v w : Value) → Names fields frames p cx v → kept (Plain type) v ≡ Some w → Names fields frames p (over cx.heap []) w
  unfolding kept
  plain_names cx type v w h e = flat_names cx (kind_of_type type) v w (type_flat type) h e

  pub keep_all_names : (cx : Context) (ks : List PlaceType) (vs ws : List Value) → AllName fields frames p cx vs → keep_all ks vs ≡ Some ws → AllName fields frames p cx ws × (length ws ≡ length ks)
  keep_all_names cx [] [] ws h e = subst (λ l. AllName fields frames p cx l × (length l ≡ 0)) (some_same [] ws e) (tt, refl)
  keep_all_names cx [] (v ∷ vs) ws h e = absurd (cc e)
  keep_all_names cx (k ∷ ks) [] ws h e = absurd (cc e)
  keep_all_names cx (k ∷ ks) (v ∷ vs) ws h e =
      let x = some_inv (kept k v) (λ w. option_map (λ ws. w ∷ ws) (keep_all ks vs)) ws e in
      let y = map_inv (λ ws. x.0 ∷ ws) (keep_all ks vs) ws x.2 in
      let r = keep_all_names cx ks vs y.0 h.1 y.1 in
      subst (λ l. AllName fields frames p cx l × (length l ≡ length (k ∷ ks))) y.2 ((kept_names cx k v x.0 h.0 x.1, r.0), ap suc r.1)
