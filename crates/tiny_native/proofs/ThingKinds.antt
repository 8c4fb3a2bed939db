-- Things by their kinds.
use Rattle.std.proofs.Common.{◌≡◌, ℕ, ◌-◌, ◌<◌, Bool, true, false, List, Option, Some, None, refl, ap, ◌∙◌, subst, arith}
use Rattle.std.specs.Prelude.{ℤ, if◌then◌else◌, ◌==◌, length}
use Rattle.board_types.specs.declared.board.TypeAt.{TypeAt}
use Rattle.machine.specs.Numbers.{as_int, as_long, as_handle}
use Rattle.std.specs.Option.{option_map}
use Rattle.std.proofs.lemmas.Bool.{ne_eqb}
use Rattle.board_types.specs.declared.value.Shape.{Shape}
use Rattle.board_types.specs.declared.value.Value.{Value as BoardValue}
use Rattle.board_types.specs.declared.value.Value.TheVariants as board
use Rattle.board_types.specs.declared.board.Known.{Known}
use Rattle.machine.specs.Data.{CliType, thing_at, Value, Int, Long, Null, Object, Handle, Pointer, Thing, Instance, Text, Elements, Boxed, StaticCell, State}
use Rattle.machine.specs.Program.{Program}
use Rattle.machine.specs.Throw.{on_some}
use Rattle.machine.specs.Rows.{on_thing_or, on_elements}
use Rattle.machine.specs.Natives.{units_of, text_at, on_string, on_array_or_null}
use Rattle.tiny_ops.specs.Operators.{Leads, reference, stack_value}
use Rattle.tiny_ram.specs.Things.{Entry}
use Rattle.tiny_ram.specs.Memory.{IsEntry}
use Rattle.tiny_native.specs.Seen.{Scene, Holds, IsArray, IsBox, Named, kind_of, text_entry}
use Rattle.tiny_native.specs.Copies.{Lacks, Finds}

pub object_of : (n : ℕ) → 0 < n → reference n ≡ Object (n - 1)
object_of n h = ap (λ (b : Bool). if b then Null else Object (n - 1)) (ne_eqb n 0 (λ e. omega (arith, e, h)))

-- ---- what a thing of a kind is

pub record TextNamed (c : Scene) (v : BoardValue) (thing : ℕ) (shape : Shape) : Type 0 where
  pub units : List ℕ
  pub value : stack_value c.leads v ≡ Object (thing - 1)
  pub at : thing_at c.state.heap (thing - 1) ≡ Some (Text units)
  pub is : IsEntry c.memory thing (text_entry units)
  pub count : shape.count ≡ length units

pub record ArrayNamed (c : Scene) (v : BoardValue) (thing : ℕ) (shape : Shape) : Type 0 where
  pub element : CliType
  pub values : List Value
  pub entry : Entry
  pub value : stack_value c.leads v ≡ Object (thing - 1)
  pub at : thing_at c.state.heap (thing - 1) ≡ Some (Elements element values)
  pub is : IsEntry c.memory thing entry
  pub what : entry.shape.what ≡ 1
  pub array : IsArray c.leads entry element values
  pub same : shape ≡ entry.shape

pub record BoxNamed (c : Scene) (v : BoardValue) (thing : ℕ) (shape : Shape) : Type 0 where
  pub type : CliType
  pub held : Value
  pub entry : Entry
  pub value : stack_value c.leads v ≡ Object (thing - 1)
  pub at : thing_at c.state.heap (thing - 1) ≡ Some (Boxed type held)
  pub is : IsEntry c.memory thing entry
  pub what : entry.shape.what ≡ 3
  pub box : IsBox c.leads entry type held
  pub same : shape ≡ entry.shape

text_of : (l : Leads) (e : Entry) (x : Thing) → Holds l e x → kind_of x ≡ 2 → (units : List ℕ) × (x ≡ Text units) × (e ≡ text_entry units)
text_of l e (Text units) h k = (units, refl, h)
text_of l e (Instance class fields) h k = absurd (omega (arith, k))
text_of l e (Elements element values) h k = absurd (omega (arith, k))
text_of l e (Boxed type value) h k = absurd (omega (arith, k))
text_of l e (StaticCell type value) h k = absurd (omega (arith, k))

array_of : (l : Leads) (e : Entry) (x : Thing) → Holds l e x → kind_of x ≡ 1 → (element : CliType) × (values : List Value) × (x ≡ Elements element values) × IsArray l e element values
array_of l e (Elements element values) h k = (element, values, refl, h)
array_of l e (Text units) h k = absurd (omega (arith, k))
array_of l e (Instance class fields) h k = absurd (omega (arith, k))
array_of l e (Boxed type value) h k = absurd (omega (arith, k))
array_of l e (StaticCell type value) h k = absurd (omega (arith, k))

pub boxed_of : (l : Leads) (e : Entry) (x : Thing) → Holds l e x → kind_of x ≡ 3 → (type : CliType) × (value : Value) × (x ≡ Boxed type value) × IsBox l e type value
boxed_of l e (Boxed type value) h k = (type, value, refl, h)
boxed_of l e (Elements element values) h k = absurd (omega (arith, k))
boxed_of l e (Text units) h k = absurd (omega (arith, k))
boxed_of l e (Instance class fields) h k = absurd (omega (arith, k))
boxed_of l e (StaticCell type value) h k = absurd (omega (arith, k))

named_value : (c : Scene) (v : BoardValue) (what thing : ℕ) (shape : Shape) → Finds c v what thing shape → stack_value c.leads v ≡ Object (thing - 1)
named_value c v what thing shape h = ap (stack_value c.leads) h.value ∙ object_of thing h.some

pub text_named : (c : Scene) (v : BoardValue) (thing : ℕ) (shape : Shape) → Finds c v 2 thing shape → TextNamed c v thing shape
text_named c v thing shape h =
    let n : Named c thing = h.named in
    let t : (units : List ℕ) × (n.object ≡ Text units) × (n.entry ≡ text_entry units) = text_of c.leads n.entry n.object n.holds h.kind in
    record {
      units = t.0;
      value = named_value c v 2 thing shape h;
      at = n.at ∙ ap Some t.1;
      is = subst (λ e. IsEntry c.memory thing e) t.2 n.is;
      count = ap (λ (s : Shape). s.count) (h.same ∙ ap (λ (e : Entry). e.shape) t.2);
    }

pub array_named : (c : Scene) (v : BoardValue) (thing : ℕ) (shape : Shape) → Finds c v 1 thing shape → ArrayNamed c v thing shape
array_named c v thing shape h =
    let n : Named c thing = h.named in
    let t : (element : CliType) × (values : List Value) × (n.object ≡ Elements element values) × IsArray c.leads n.entry element values = array_of c.leads n.entry n.object n.holds h.kind in
    record {
      element = t.0;
      values = t.1;
      entry = n.entry;
      value = named_value c v 1 thing shape h;
      at = n.at ∙ ap Some t.2;
      is = n.is;
      what = n.kind ∙ h.kind;
      array = t.3;
      same = h.same;
    }

pub box_named : (c : Scene) (v : BoardValue) (thing : ℕ) (shape : Shape) → Finds c v 3 thing shape → BoxNamed c v thing shape
box_named c v thing shape h =
    let n : Named c thing = h.named in
    let t : (type : CliType) × (value : Value) × (n.object ≡ Boxed type value) × IsBox c.leads n.entry type value = boxed_of c.leads n.entry n.object n.holds h.kind in
    record {
      type = t.0;
      held = t.1;
      entry = n.entry;
      value = named_value c v 3 thing shape h;
      at = n.at ∙ ap Some t.2;
      is = n.is;
      what = n.kind ∙ h.kind;
      box = t.3;
      same = h.same;
    }

-- ---- what has no thing of a kind

no_units : (x : Thing) → (kind_of x ≡ 2 → ⊥) → units_of x ≡ None
no_units (Text units) h = absurd (h refl)
no_units (Instance class fields) h = refl
no_units (Elements element values) h = refl
no_units (Boxed type value) h = refl
no_units (StaticCell type value) h = refl

no_elements : (x : Thing) (go : CliType → List Value → Option State) → (kind_of x ≡ 1 → ⊥) → on_elements x go ≡ None
no_elements (Elements element values) go h = absurd (h refl)
no_elements (Text units) go h = refl
no_elements (Instance class fields) go h = refl
no_elements (Boxed type value) go h = refl
no_elements (StaticCell type value) go h = refl

pub text_lacks : (heap : List Thing) (v : Value) → Lacks 2 heap v → text_at heap v ≡ None
text_lacks heap (Object n) h = ap (λ (o : Option Thing). on_some o (λ x. option_map Some (units_of x))) h.1 ∙ ap (option_map Some) (no_units h.0 h.2)
text_lacks heap Null h = absurd h
text_lacks heap (Int n) h = refl
text_lacks heap (Long n) h = refl
text_lacks heap (Handle f) h = refl
text_lacks heap (Pointer cell spot) h = refl

pub string_lacks : (p : Program) (s : State) (v : Value) (go : List ℕ → Option State) → Lacks 2 s.heap v → on_string p s v go ≡ None
string_lacks p s (Object n) go h = ap (λ (o : Option Thing). on_some o (λ x. on_some (units_of x) go)) h.1 ∙ ap (λ (o : Option (List ℕ)). on_some o go) (no_units h.0 h.2)
string_lacks p s Null go h = absurd h
string_lacks p s (Int n) go h = refl
string_lacks p s (Long n) go h = refl
string_lacks p s (Handle f) go h = refl
string_lacks p s (Pointer cell spot) go h = refl

pub array_lacks : (p : Program) (s : State) (known : Known) (v : Value) (go : ℕ → CliType → List Value → Option State) → Lacks 1 s.heap v → on_thing_or p s known v (λ n x. on_elements x (go n)) ≡ None
array_lacks p s known (Object n) go h = ap (λ (o : Option Thing). on_some o (λ x. on_elements x (go n))) h.1 ∙ no_elements h.0 (go n) h.2
array_lacks p s known Null go h = absurd h
array_lacks p s known (Int n) go h = refl
array_lacks p s known (Long n) go h = refl
array_lacks p s known (Handle f) go h = refl
array_lacks p s known (Pointer cell spot) go h = refl

pub array_or_null_lacks : (heap : List Thing) (v : Value) (go : Option State) → Lacks 1 heap v → on_array_or_null heap v go ≡ None
array_or_null_lacks heap (Object n) go h = ap (λ (o : Option Thing). on_some o (λ x. on_elements x (λ element values. go))) h.1 ∙ no_elements h.0 (λ element values. go) h.2
array_or_null_lacks heap Null go h = absurd h
array_or_null_lacks heap (Int n) go h = refl
array_or_null_lacks heap (Long n) go h = refl
array_or_null_lacks heap (Handle f) go h = refl
array_or_null_lacks heap (Pointer cell spot) go h = refl

-- ---- values of another kind

reference_int : (n : ℕ) → as_int (reference n) ≡ None
reference_int n = at (n == 0)
  where
    at : (b : Bool) → as_int (if b then Null else Object (n - 1)) ≡ None
    at true = refl
    at false = refl

reference_long : (n : ℕ) → as_long (reference n) ≡ None
reference_long n = at (n == 0)
  where
    at : (b : Bool) → as_long (if b then Null else Object (n - 1)) ≡ None
    at true = refl
    at false = refl

reference_handle : (n : ℕ) → as_handle (reference n) ≡ None
reference_handle n = at (n == 0)
  where
    at : (b : Bool) → as_handle (if b then Null else Object (n - 1)) ≡ None
    at true = refl
    at false = refl

pub no_int : (l : Leads) (v : BoardValue) → ((n : ℤ) → v ≡ board.Int n → ⊥) → as_int (stack_value l v) ≡ None
no_int l (board.Int n) h = absurd (h n refl)
no_int l (board.Long n) h = refl
no_int l (board.Ref n) h = reference_int n
no_int l (board.Pointer at) h = refl
no_int l (board.Handle f) h = refl

pub no_long : (l : Leads) (v : BoardValue) → ((n : ℤ) → v ≡ board.Long n → ⊥) → as_long (stack_value l v) ≡ None
no_long l (board.Long n) h = absurd (h n refl)
no_long l (board.Int n) h = refl
no_long l (board.Ref n) h = reference_long n
no_long l (board.Pointer at) h = refl
no_long l (board.Handle f) h = refl

pub no_handle : (l : Leads) (v : BoardValue) → ((f : TypeAt) → v ≡ board.Handle f → ⊥) → as_handle (stack_value l v) ≡ None
no_handle l (board.Handle f) h = absurd (h f refl)
no_handle l (board.Int n) h = refl
no_handle l (board.Long n) h = refl
no_handle l (board.Ref n) h = reference_handle n
no_handle l (board.Pointer at) h = refl
