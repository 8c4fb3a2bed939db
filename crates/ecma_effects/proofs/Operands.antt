-- What an instruction's operand names, of the two kinds of rows: the same operands are taken, and the rows are alike.
use Rattle.std.proofs.Common.{◌≡◌, Bool, true, false, ◌&&◌, ◌||◌, not, Option, Some, None, refl, sym, ap, ◌∙◌, subst}
use Rattle.std.specs.Prelude.{if◌then◌else◌, nat_eq, is_some}
use Rattle.std.specs.Option.{option_map}
use Rattle.plain_types.specs.declared.elem.Elem.TheVariants as elem
use Rattle.cil_opcodes.specs.declared.shape.Access.{Access}
use Rattle.cil_opcodes.specs.declared.shape.Access.TheVariants as access
use Rattle.machine.specs.Data.{Id, CliType, PlaceType, Plain, Bits, Refers}
use Rattle.machine.specs.Program.{Exact, Typed, Instruction}
use Rattle.machine.specs.Program.{Access as MemoryAccess}
use Rattle.machine_typed.specs.Typing.{is_plain, has_body}
use Rattle.classes.specs.Classes.{Classes, Class, OwnField, OwnMethod, FieldKind, InstanceField, StaticField, LiteralField, DataField, Signature}
use Rattle.classes.specs.Code.{Operand as CodeOperand}
use Rattle.classes.specs.Queries.{is_instance_kind, is_static_kind, data_of, field_at, method_at, bytes, some_eq, basic, array}
use Rattle.classes.specs.Queries.{type_of as type_in}
use Rattle.classes.specs.Listed.{type_of_operand, access_of, is_constructor}
use Rattle.class_rules.specs.Rules.{holds_some}
use Rattle.class_rules.specs.Facts.{is_reference_class}
use Rattle.class_rules.specs.Made.{is_made as is_made_in}
use Rattle.code_rules.specs.Verdict.{names_type, has_this}
use Rattle.code_rules.specs.Verdict.{is_callable as may_be_called, is_new as may_be_made, is_instance_field as is_of_instance, typed_access as typed_in}
use Rattle.code_rules.proofs.OperandLaws.{some_holds}
use Rattle.place_types.specs.Types.{type_of, place_of, type_up, place_up}
use Rattle.place_types.specs.Held.{has_arrays}
use Rattle.verify_ops.specs.declared.facts.Operand.{Operand}
use Rattle.verify_ops.specs.declared.facts.FieldOperand.{FieldOperand}
use Rattle.verify_ops.specs.declared.facts.MethodOperand.{MethodOperand}
use Rattle.verify_ops.specs.Facts.{type_named, is_abstract, is_callable, is_made, is_void, is_new, is_string, is_instance_field, is_static_field, is_data_field, names_plain, names_element, typed_access, access_named, with_type, result_of}
use Rattle.ecma_effects.specs.Known.{without_bytes, IsField, IsMethod, Both, IsOperand}
use Rattle.ecma_effects.proofs.Renamed.{access_up, plain_up}
use Rattle.ecma_effects.proofs.Owners.{class_refers}

pub and_same : (a a' b b' : Bool) → a' ≡ a → b' ≡ b → (a' && b') ≡ (a && b)
and_same a a' b b' e h = ap (λ c. c && b') e ∙ ap (λ c. a && c) h

-- ---- types

holds_map : {A B : Type 0} (h : A → B) (o : Option A) (test : B → Bool) → holds_some o (λ a. test (h a)) ≡ holds_some (option_map h o) test
holds_map h None test = refl
holds_map h (Some a) test = refl

holds_ext : {A : Type 0} (o : Option A) (test test' : A → Bool) → ((a : A) → o ≡ Some a → test a ≡ test' a) → holds_some o test ≡ holds_some o test'
holds_ext None test test' f = refl
holds_ext (Some a) test test' f = f a refl

map_map : {A B C : Type 0} (h : A → B) (g : B → C) (o : Option A) → option_map (λ a. g (h a)) o ≡ option_map g (option_map h o)
map_map h g None = refl
map_map h g (Some a) = refl

module _ (cs : Classes) (o : CodeOperand) (p : Operand) (is : IsOperand cs o p) where
  pub types_take : (test : CliType → Bool) → ((t : CliType) → test (type_up t) ≡ test t) → holds_some (type_named p) (λ t. test (type_of t)) ≡ names_type cs test o
  types_take test same =
      holds_map type_of (type_named p) test
      ∙ (ap (λ z. holds_some z test) is.type
      ∙ (sym (holds_map type_up (type_of_operand cs o) test)
      ∙ holds_ext (type_of_operand cs o) (λ t. test (type_up t)) test (λ t h. same t)))

  pub plain_takes : names_plain p ≡ names_type cs is_plain o
  plain_takes = types_take is_plain plain_up

  pub element_takes_type : names_element p ≡ names_type cs is_plain o
  element_takes_type = holds_ext (type_named p) (λ t. is_plain (type_of t) && has_arrays t) (λ t. is_plain (type_of t)) (λ t h. right (is_plain (type_of t)) (has_arrays t) (is.arrays t h)) ∙ plain_takes
    where
      right : (a b : Bool) → b ≡ true → (a && b) ≡ a
      right true b h = h
      right false b h = refl

  pub access_takes : (a : Access) → typed_access a (names_plain p) ≡ typed_in cs a o
  access_takes (access.Integer i) = refl
  access_takes access.Reference = refl
  access_takes access.Typed = plain_takes

  pub element_access_takes : (a : Access) → typed_access a (names_element p) ≡ typed_in cs a o
  element_access_takes (access.Integer i) = refl
  element_access_takes access.Reference = refl
  element_access_takes access.Typed = element_takes_type

  -- the instruction has the type
  pub type_there : (make : CliType → Instruction) (t : CliType) → type_of_operand cs o ≡ Some t → with_type make p ≡ Some (make (type_up t))
  type_there make t e = map_map type_of make (type_named p) ∙ ap (option_map make) (is.type ∙ ap (option_map type_up) e)

  -- and the access
  pub access_there : (a : Access) → typed_in cs a o ≡ true → (m : MemoryAccess) × (access_of cs a o ≡ Some m) × (access_named a p ≡ Some (access_up m))
  access_there (access.Integer i) h = (Exact (Bits i), refl, refl)
  access_there access.Reference h = (Exact Refers, refl, refl)
  access_there access.Typed h =
      let s = some_holds (type_of_operand cs o) is_plain h in
      (Typed s.0, ap (option_map Typed) s.1, map_map type_of Typed (type_named p) ∙ ap (option_map Typed) (is.type ∙ ap (option_map type_up) s.1))

-- ---- both name something

pub both_some : {A B : Type 0} (R : A → B → Type 0) (a : Option A) (b : Option B) (x : A) → a ≡ Some x → Both R a b → (y : B) × (b ≡ Some y) × R x y
both_some R a b x e h = at b (subst (λ z. Both R z b) e h)
  where
    at : (b : Option _) → Both R (Some x) b → (y : _) × (b ≡ Some y) × R x y
    at None h = absurd h
    at (Some y) h = (y, refl, h)

-- ---- fields

instance_kind : (k : FieldKind) → is_instance_kind (without_bytes k) ≡ is_instance_kind k
instance_kind InstanceField = refl
instance_kind StaticField = refl
instance_kind LiteralField = refl
instance_kind (DataField bytes) = refl

static_kind : (k : FieldKind) → is_static_kind (without_bytes k) ≡ is_static_kind k
static_kind InstanceField = refl
static_kind StaticField = refl
static_kind LiteralField = refl
static_kind (DataField bytes) = refl

data_kind : (k : FieldKind) → is_some (data_of (without_bytes k)) ≡ is_some (data_of k)
data_kind InstanceField = refl
data_kind StaticField = refl
data_kind LiteralField = refl
data_kind (DataField bytes) = refl

module _ (cs : Classes) where
  pub fields_take : (a : Option Id) (b : Option FieldOperand) (test : Id → OwnField → Bool) (test' : FieldOperand → Bool) → Both (IsField cs) a b → ((id : Id) (f : FieldOperand) (k : IsField cs id f) → test' f ≡ test k.owner k.own)
      → holds_some b test' ≡ holds_some a (λ id. holds_some (cs.field_owner id) (λ owner. holds_some (field_at cs id) (test owner)))
  fields_take None None test test' k f = refl
  fields_take None (Some b) test test' k f = absurd k
  fields_take (Some a) None test test' k f = absurd k
  fields_take (Some id) (Some b) test test' k f =
      f id b k ∙ sym (ap (λ z. holds_some z (λ owner. holds_some (field_at cs id) (test owner))) k.owner_is ∙ ap (λ z. holds_some z (test k.owner)) k.own_is)

  pub methods_take : (a : Option Id) (b : Option MethodOperand) (test : Id → OwnMethod → Bool) (test' : MethodOperand → Bool) → Both (IsMethod cs) a b → ((id : Id) (m : MethodOperand) (k : IsMethod cs id m) → test' m ≡ test k.owner k.own)
      → holds_some b test' ≡ holds_some a (λ id. holds_some (cs.method_owner id) (λ owner. holds_some (method_at cs id) (test owner)))
  methods_take None None test test' k f = refl
  methods_take None (Some b) test test' k f = absurd k
  methods_take (Some a) None test test' k f = absurd k
  methods_take (Some id) (Some b) test test' k f =
      f id b k ∙ sym (ap (λ z. holds_some z (λ owner. holds_some (method_at cs id) (test owner))) k.owner_is ∙ ap (λ z. holds_some z (test k.owner)) k.own_is)

  -- what each asks
  pub instance_asks : (id : Id) (f : FieldOperand) (k : IsField cs id f) → is_instance_field f ≡ is_of_instance cs k.owner k.own
  instance_asks id f k = and_same _ _ _ _ (ap is_instance_kind k.kind ∙ instance_kind k.own.kind) (class_refers cs k.owner f.class k.class k.owner_fits)

  pub static_asks : (id : Id) (f : FieldOperand) (k : IsField cs id f) → is_static_field f ≡ is_static_kind k.own.kind
  static_asks id f k = ap is_static_kind k.kind ∙ static_kind k.own.kind

  pub data_asks : (id : Id) (f : FieldOperand) (k : IsField cs id f) → is_data_field f ≡ is_some (data_of k.own.kind)
  data_asks id f k = ap (λ z. is_some (data_of z)) k.kind ∙ data_kind k.own.kind

  pub call_asks : (id : Id) (m : MethodOperand) (k : IsMethod cs id m) → not (is_abstract m) ≡ not k.own.is_abstract
  call_asks id m k = ap not k.abstract

  this_asks : (id : Id) (m : MethodOperand) (k : IsMethod cs id m) → m.this ≡ has_this k.own
  this_asks id m k = k.this ∙ sym (ap (λ z. holds_some z (λ (s : Signature). s.has_this)) k.signed)

  pub virtual_asks : (id : Id) (m : MethodOperand) (k : IsMethod cs id m) → is_callable m ≡ may_be_called cs k.owner k.own
  virtual_asks id m k = and_same _ _ _ _ (ap not k.static) (and_same _ _ _ _ (this_asks id m k) (class_refers cs k.owner m.class k.place k.owner_fits))

  -- a constructor isn't abstract, and gives nothing back
  pub not_abstract : (id : Id) (m : MethodOperand) (k : IsMethod cs id m) → is_constructor k.own ≡ true → is_abstract m ≡ false
  not_abstract id m k c = k.abstract ∙ at k.own.is_abstract (sym k.body ∙ ap has_body (k.code c))
    where
      at : (b : Bool) → not b ≡ true → b ≡ false
      at false h = refl
      at true h = sym h

  pub no_result : (id : Id) (m : MethodOperand) (k : IsMethod cs id m) → is_constructor k.own ≡ true → result_of m.returns ≡ None
  no_result id m k c = k.returns ∙ ap (λ z. option_map place_up (option_map (λ s. Plain (type_in cs s)) z)) (k.nothing c)

  void_result : (id : Id) (m : MethodOperand) (k : IsMethod cs id m) → is_constructor k.own ≡ true → is_void m.returns ≡ true
  void_result id m k c = at (is_void m.returns) (place_of m.returns) (no_result id m k c)
    where
      at : (b : Bool) (x : PlaceType) → (if b then None else Some x) ≡ None → b ≡ true
      at true x h = refl
      at false x h = absurd (cc h)

  made_test : (a i r s y : Bool) → (not (a || y) && (not i && (r && (not s && true)))) ≡ ((not a && not i) && (r && (not s && not y)))
  made_test true i r s y = refl
  made_test false i r s false = refl
  made_test false true r s true = refl
  made_test false false false s true = refl
  made_test false false true true true = refl
  made_test false false true false true = refl

  made_asks : (id : Id) (m : MethodOperand) (k : IsMethod cs id m) → is_made m.class m.class_flags ≡ is_made_in cs k.owner
  made_asks id m k =
      and_same _ _ _ _ (ap not k.unmade)
      (and_same _ _ _ _ (ap not k.interface)
      (and_same _ _ _ _ (class_refers cs k.owner m.class k.place k.owner_fits)
      (and_same _ _ _ _ (ap not (ap is_string k.place.element ∙ k.string)) (ap (λ n. nat_eq n 0) k.place.single))))
      ∙ (made_test k.class.is_abstract k.class.is_interface (is_reference_class cs k.owner) (some_eq (Some k.owner) (basic cs elem.String)) (some_eq (Some k.owner) (array cs))
      ∙ sym (ap (λ z. holds_some z (λ (c : Class). not c.is_abstract && not c.is_interface) && (is_reference_class cs k.owner && (not (some_eq (Some k.owner) (basic cs elem.String)) && not (some_eq (Some k.owner) (array cs))))) k.class_is))

  new_test : (c t d v : Bool) → (c ≡ true → v ≡ true) → (c && (t && (d && v))) ≡ (c && (t && d))
  new_test false t d v f = refl
  new_test true false d v f = refl
  new_test true true false v f = refl
  new_test true true true v f = f refl

  pub new_asks : (id : Id) (m : MethodOperand) (k : IsMethod cs id m) → is_new m ≡ may_be_made cs k.owner k.own
  new_asks id m k =
      and_same _ _ _ _ k.constructor (and_same _ _ _ _ (this_asks id m k) (and_same _ _ _ _ (made_asks id m k) refl))
      ∙ new_test (is_constructor k.own) (has_this k.own) (is_made_in cs k.owner) (is_void m.returns && not (is_abstract m)) (λ c. ap (λ b. b && not (is_abstract m)) (void_result id m k c) ∙ ap not (not_abstract id m k c))
