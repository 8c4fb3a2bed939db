-- Two programs that are alike: the one has the other's types, methods and fields under new numbers, or some of them.
use Rattle.std.specs.Prelude.{◌≡◌, ℕ, ◌≤◌, Bool, true, false, nat_lt, List, ◌∷◌, map, Option, Some, None}
use Rattle.std.specs.List.{find, filter}
use Rattle.std.specs.Option.{option_map}
use Rattle.board_types.specs.declared.board.Known.{Known}
use Rattle.plain_types.specs.declared.elem.Elem.{Elem}
use Rattle.machine.specs.Data.{Id, id_eq}
use Rattle.machine_rename.specs.Rename.{Renaming, Asked}
use Rattle.classes.specs.Classes.{OwnField, OwnMethod, Class, Classes}
use Rattle.classes.specs.Code.{Sources}
use Rattle.classes.specs.Queries.{ends, above, parents, enclosing_of, listed, chain, first_some, own_virtual, is_virtual_named, methods_of, method_at, is_or_implements, is_interface, is_instance, is_initialiser, known, basic, array, exception_class}
use Rattle.classes.specs.Listed.{program_of}
use Rattle.alike.specs.Carry.{field_to, own_method_to, code_to}

-- which members of the larger program the smaller one has
pub record Kept : Type 0 where
  pub method : Id → Bool
  pub field : Id → Bool

module _ (r : Renaming) (kept : Kept) where
  -- a class and its renamed one, which may have more members
  pub record ClassAlike (low high : Class) : Type 0 where
    pub namespace : high.namespace ≡ low.namespace
    pub name : high.name ≡ low.name
    pub enclosing : high.enclosing ≡ option_map r.type low.enclosing
    pub superclass : high.superclass ≡ option_map r.type low.superclass
    pub interfaces : high.interfaces ≡ map r.type low.interfaces
    pub kind : high.kind ≡ low.kind
    pub is_interface : high.is_interface ≡ low.is_interface
    pub is_lazy : high.is_lazy ≡ low.is_lazy
    pub fields : filter (λ (f : OwnField). kept.field f.id) high.fields ≡ map (field_to r) low.fields
    pub methods : filter (λ (m : OwnMethod). kept.method m.id) high.methods ≡ map (own_method_to r) low.methods
    -- a type keeps its instance fields and its initialiser
    pub instances : filter is_instance high.fields ≡ map (field_to r) (filter is_instance low.fields)
    pub starts : (m : OwnMethod) → find is_initialiser high.methods ≡ Some m → kept.method m.id ≡ true

  abbrev pub BothAlike : Option Class → Option Class → Type 0
  BothAlike None None = Unit {0}
  BothAlike (Some low) (Some high) = ClassAlike low high
  BothAlike _ _ = ⊥

  pub record ClassesAlike (low high : Classes) : Type 0 where
    pub types : (a b : Id) → id_eq (r.type a) (r.type b) ≡ id_eq a b
    pub methods : (a b : Id) → id_eq (r.method a) (r.method b) ≡ id_eq a b
    pub fields : (a b : Id) → id_eq (r.field a) (r.field b) ≡ id_eq a b
    pub class : (c : Id) → BothAlike (low.class c) (high.class (r.type c))
    pub method_owner : (m : Id) → high.method_owner (r.method m) ≡ option_map r.type (low.method_owner m)
    pub field_owner : (f : Id) → high.field_owner (r.field f) ≡ option_map r.type (low.field_owner f)
    -- the members that it has
    pub has_method : (m c : Id) → low.method_owner m ≡ Some c → kept.method (r.method m) ≡ true
    pub has_field : (f c : Id) → low.field_owner f ≡ Some c → kept.field (r.field f) ≡ true
    -- no way on goes in a circle
    pub size : high.size ≤ low.size
    pub ups : (c : Id) → ends high.size (above high) (r.type c) ≡ true
    pub parents : (c : Id) → ends high.size (parents high) (r.type c) ≡ true
    pub outers : (c : Id) → ends high.size (λ d. listed (enclosing_of high d)) (r.type c) ≡ true
    -- no class has two methods of one name and signature
    pub firsts : (m c : Id) (x : OwnMethod) → low.method_owner m ≡ Some c → method_at high (r.method m) ≡ Some x → x.is_virtual ≡ true → own_virtual high x (r.type c) ≡ Some x
    pub alone : (m : OwnMethod) (c : Id) (y : OwnMethod) → own_virtual high m (r.type c) ≡ Some y → kept.method y.id ≡ false → find (is_virtual_named m) (filter (λ (x : OwnMethod). kept.method x.id) (methods_of high (r.type c))) ≡ None
    -- a virtual method without newslot is kept exactly where the nearest inherited one of its name and signature is
    pub slots : (m : OwnMethod) (c : Id) (y u : OwnMethod) (up : List Id) → chain high (r.type c) ≡ r.type c ∷ up → own_virtual high m (r.type c) ≡ Some y → y.is_newslot ≡ false → first_some (own_virtual high m) up ≡ Some u → kept.method y.id ≡ kept.method u.id
    -- a virtual method is kept where it fills a kept method of an interface
    pub fills : (m : OwnMethod) (c i : Id) (y : OwnMethod) → high.method_owner m.id ≡ Some (r.type i) → method_at high m.id ≡ Some m → kept.method m.id ≡ true → is_interface high (r.type i) ≡ true → is_interface high (r.type c) ≡ false → is_or_implements high (r.type c) (r.type i) ≡ true → first_some (own_virtual high m) (chain high (r.type c)) ≡ Some y → kept.method y.id ≡ true
    pub basic : (e : Elem) → basic high e ≡ option_map r.type (basic low e)
    pub array : array high ≡ option_map r.type (array low)
    pub exception : exception_class high ≡ option_map r.type (exception_class low)

  pub record Alike (low high : Sources) : Type 0 where
    pub classes : ClassesAlike low.classes high.classes
    pub begin : (m : Id) → r.place m 0 ≡ 0
    pub places : (m : Id) (a b : ℕ) → nat_lt (r.place m a) (r.place m b) ≡ nat_lt a b
    pub code : (m : Id) → high.code (r.method m) ≡ option_map (code_to r m) (low.code m)
    pub entry : high.entry ≡ option_map r.method low.entry
    pub known : (k : Known) → Asked (program_of low) k → known high.classes k ≡ option_map r.type (known low.classes k)
