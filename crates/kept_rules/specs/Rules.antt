-- Which rows are kept, as rules: where one row and a second one are kept, a third one is. A rule with one premise has it twice.
use Rattle.std.specs.Prelude.{codes, ◌≡◌, ℕ, ◌+◌, Bool, ◌&&◌, true, false, List, Some, slice_get}
use Rattle.std.specs.List.{position}
use Rattle.plain_types.specs.declared.elem.Elem.{Elem}
use Rattle.board_types.specs.declared.board.Known.{Known}
use Rattle.machine.specs.Data.{Id}
use Rattle.machine.specs.Program.{Body, NativeName}
use Rattle.machine.specs.Texts.{same_text}
use Rattle.machine_rename.specs.Rename.{by_instructions, throws}
use Rattle.classes.specs.Classes.{OwnMethod}
use Rattle.classes.specs.Queries.{is_instance_kind, library_class, basic_name, known_name}
use Rattle.assemblies.specs.Rows.{Reference, TypeRow, FieldRow, MethodRow, Assembly}
use Rattle.assemblies.specs.Binding.{resolve_ref, resolve_method, resolve_field, holds, range, classes_of}
use Rattle.assemblies.specs.Chosen.{Choice}
use Rattle.kept_closure.specs.Named.{Stands}
use Rattle.kept_closure.specs.Kept.{Overrides, Fills, is_literal}
use Rattle.kept_rules.specs.Row.{Row, TypeRefAt, FieldRefAt, MethodRefAt, TypeAt, FieldAt, MethodAt, names_of}

abbrev pub type_at : Id → Row
type_at c = TypeAt c.file c.row

abbrev pub field_at : Id → Row
field_at c = FieldAt c.file c.row

abbrev pub method_at : Id → Row
method_at m = MethodAt m.file m.row

module _ (size : ℕ) (ps : List Assembly) where
  -- what is kept of any program
  pub data Root : Type 0 where
    Entry : (f n : ℕ) (p : Assembly) → slice_get ps f ≡ Some p → p.entry ≡ Some n → Root
    -- Object, String and the primitive types
    BasicType : (e : Elem) (name : List ℕ) (c : Id) → basic_name e ≡ Some name → library_class (classes_of size ps) name ≡ Some c → Root
    ArrayType : (c : Id) → library_class (classes_of size ps) (codes "Array") ≡ Some c → Root
    -- the classes of exceptions that instructions throw, and that of all of them
    ThrownByCode : (k : Known) (c : Id) → by_instructions k ≡ true → library_class (classes_of size ps) (known_name k) ≡ Some c → Root
    ExceptionType : (c : Id) → library_class (classes_of size ps) (codes "Exception") ≡ Some c → Root

  abbrev pub root_row : Root → Row
  root_row (Entry f n p at e) = MethodAt f n
  root_row (BasicType e name c b l) = type_at c
  root_row (ArrayType c l) = type_at c
  root_row (ThrownByCode k c b l) = type_at c
  root_row (ExceptionType c l) = type_at c

  pub data RowRule : Type 0 where
    -- a row what it names
    Names : (a : Row) (i : ℕ) (c : Row) → slice_get (names_of ps a) i ≡ Some c → RowRule
    -- a member its type
    TypeOfMethod : (f n k : ℕ) (p : Assembly) → slice_get ps f ≡ Some p → position (λ (t : TypeRow). holds t.first_method t.method_count n) p.types ≡ Some k → RowRule
    TypeOfField : (f n k : ℕ) (p : Assembly) → slice_get ps f ≡ Some p → position (λ (t : TypeRow). holds t.first_field t.field_count n) p.types ≡ Some k → RowRule
    -- a reference its definition
    Defined : (f n : ℕ) (c : Id) → resolve_ref size ps f n ≡ Some c → RowRule
    FieldDefined : (f n : ℕ) (c : Id) → resolve_field size ps f (Reference n) ≡ Some c → RowRule
    MethodDefined : (f n : ℕ) (c : Id) → resolve_method size ps f (Reference n) ≡ Some c → RowRule
    -- a type its instance fields and its initialiser
    InstanceFieldOf : (f n i : ℕ) (p : Assembly) (t : TypeRow) (x : FieldRow) → Stands ps (λ q. q.types) f n p t → slice_get (range t.first_field t.field_count p.fields) i ≡ Some x → is_instance_kind x.kind ≡ true → RowRule
    InitialiserOf : (f n i : ℕ) (p : Assembly) (t : TypeRow) (m : MethodRow) → Stands ps (λ q. q.types) f n p t → slice_get (range t.first_method t.method_count p.methods) i ≡ Some m → (m.is_static && same_text m.name (codes ".cctor")) ≡ true → RowRule
    -- a native the classes of exceptions that it throws
    ThrownByNative : (f n : ℕ) (p : Assembly) (m : MethodRow) (name : NativeName) (k : Known) (c : Id) → Stands ps (λ q. q.methods) f n p m → m.body ≡ Body.Native name → throws name k ≡ true → library_class (classes_of size ps) (known_name k) ≡ Some c → RowRule
    -- a virtual method of a type the one that takes its slot there, and that one the first
    TakesSlot : (c : Id) (up : List Id) (m u : OwnMethod) → Overrides size ps c up m u → RowRule
    SlotTaken : (c : Id) (up : List Id) (m u : OwnMethod) → Overrides size ps c up m u → RowRule
    -- an interface's method the one of a type that fills it
    FilledBy : (c i d : Id) (m body : OwnMethod) → Fills size ps c i d m body → RowRule

  abbrev pub first_row : RowRule → Row
  first_row (Names a i c e) = a
  first_row (TypeOfMethod f n k p at e) = MethodAt f n
  first_row (TypeOfField f n k p at e) = FieldAt f n
  first_row (Defined f n c e) = TypeRefAt f n
  first_row (FieldDefined f n c e) = FieldRefAt f n
  first_row (MethodDefined f n c e) = MethodRefAt f n
  first_row (InstanceFieldOf f n i p t x s e k) = TypeAt f n
  first_row (InitialiserOf f n i p t m s e k) = TypeAt f n
  first_row (ThrownByNative f n p m name k c s b t l) = MethodAt f n
  first_row (TakesSlot c up m u o) = type_at c
  first_row (SlotTaken c up m u o) = method_at m.id
  first_row (FilledBy c i d m body o) = type_at d

  -- apart from the first one only where there are two
  abbrev pub second_row : RowRule → Row
  second_row (TakesSlot c up m u o) = method_at u.id
  second_row (FilledBy c i d m body o) = method_at m.id
  second_row (Names a i c e) = a
  second_row (TypeOfMethod f n k p at e) = MethodAt f n
  second_row (TypeOfField f n k p at e) = FieldAt f n
  second_row (Defined f n c e) = TypeRefAt f n
  second_row (FieldDefined f n c e) = FieldRefAt f n
  second_row (MethodDefined f n c e) = MethodRefAt f n
  second_row (InstanceFieldOf f n i p t x s e k) = TypeAt f n
  second_row (InitialiserOf f n i p t m s e k) = TypeAt f n
  second_row (ThrownByNative f n p m name k c s b t l) = MethodAt f n
  second_row (SlotTaken c up m u o) = method_at m.id

  abbrev pub then_row : RowRule → Row
  then_row (Names a i c e) = c
  then_row (TypeOfMethod f n k p at e) = TypeAt f k
  then_row (TypeOfField f n k p at e) = TypeAt f k
  then_row (Defined f n c e) = type_at c
  then_row (FieldDefined f n c e) = field_at c
  then_row (MethodDefined f n c e) = method_at c
  then_row (InstanceFieldOf f n i p t x s e k) = FieldAt f (t.first_field + i)
  then_row (InitialiserOf f n i p t m s e k) = MethodAt f (t.first_method + i)
  then_row (ThrownByNative f n p m name k c s b t l) = type_at c
  then_row (TakesSlot c up m u o) = method_at m.id
  then_row (SlotTaken c up m u o) = method_at u.id
  then_row (FilledBy c i d m body o) = method_at body.id

  -- a set of rows has the roots and is closed under the rules
  pub record IsRuled (has : Row → Bool) : Type 0 where
    pub roots : (r : Root) → has (root_row r) ≡ true
    pub rules : (r : RowRule) → has (first_row r) ≡ true → has (second_row r) ≡ true → has (then_row r) ≡ true

  -- the least one
  pub record IsLeast (has : Row → Bool) : Type 0 where
    pub ruled : IsRuled has
    pub least : (other : Row → Bool) → IsRuled other → (r : Row) → has r ≡ true → other r ≡ true

  -- what references to fields name are fields that aren't literal (rule 46), and entries are methods
  pub record MembersStand (rows : ℕ → Choice) : Type 0 where
    pub fields : (f n : ℕ) (c : Id) → (rows f).field_refs n ≡ true → resolve_field size ps f (Reference n) ≡ Some c → (p : Assembly) × ((x : FieldRow) × Stands ps (λ q. q.fields) c.file c.row p x × (is_literal x.kind ≡ false))
    pub entry : (f n : ℕ) (p : Assembly) → slice_get ps f ≡ Some p → p.entry ≡ Some n → (m : MethodRow) × (slice_get p.methods n ≡ Some m)
