-- Operands of programs that are alike are of the same kinds.
use Rattle.std.proofs.Common.{◌≡◌, Bool, ◌&&◌, Option, Some, None, refl, ap, ◌∙◌}
use Rattle.std.specs.Prelude.{not, is_some}
use Rattle.std.specs.Option.{option_map}
use Rattle.cil_opcodes.specs.declared.shape.Access.{Access}
use Rattle.cil_opcodes.specs.declared.shape.Access.TheVariants as access
use Rattle.cil_opcodes.specs.declared.shape.Shape.{Shape}
use Rattle.cil_opcodes.specs.declared.shape.Shape.TheVariants as shape
use Rattle.plain_types.specs.declared.elem.Elem.TheVariants as elem
use Rattle.machine.specs.Data.{Id, CliType, Basic, EnumOf, ClassOf, ValueOf, ArrayOf, cell_of}
use Rattle.machine_rename.specs.Rename.{Renaming, type_to}
use Rattle.machine_rename.proofs.Base.{cell_law}
use Rattle.machine_typed.specs.Typing.{is_plain, is_number, is_bits, is_refers}
use Rattle.classes.specs.Classes.{Signature, OwnField, OwnMethod, Class, Classes}
use Rattle.classes.specs.Code.{Operand, NoOperand, Number, Targets, OfType, OfField, OfMethod, OfText, Unresolved}
use Rattle.classes.specs.Listed.{text_of, is_constructor}
use Rattle.classes.specs.Queries.{is_instance_kind, is_static_kind, data_of, type_of, type_of_class, method_at, field_at, some_eq, basic, array}
use Rattle.class_rules.specs.Facts.{is_reference_class}
use Rattle.class_rules.specs.Rules.{holds_some}
use Rattle.class_rules.specs.Made.{is_made}
use Rattle.code_rules.specs.Verdict.{has_this, names_method, names_field, names_type, is_callable, is_new, is_instance_field, typed_access, operand_fits}
use Rattle.alike.specs.Carry.{signature_to, field_to, own_method_to, operand_to}
use Rattle.alike.specs.Alike.{Kept, BothAlike, ClassesAlike}
use Rattle.alike.proofs.Members.{type_of_class_law, type_of_law, method_at_law, field_at_law}

module _ (r : Renaming) (kept : Kept) (low high : Classes) (a : ClassesAlike r kept low high) (abstract : (c : Id) → option_map (λ (k : Class). k.is_abstract) (high.class (r.type c)) ≡ option_map (λ (k : Class). k.is_abstract) (low.class c)) where
  -- ---- types

  plain_law : (t : CliType) → is_plain (type_to r t) ≡ is_plain t
  plain_law (Basic e) = refl
  plain_law (EnumOf e c) = refl
  plain_law (ClassOf c) = refl
  plain_law (ValueOf c) = refl
  plain_law (ArrayOf t) = plain_law t

  number_law : (t : CliType) → is_number (type_to r t) ≡ is_number t
  number_law t = ap is_bits (cell_law r t)

  names_type_law : (id : Id) (test : CliType → Bool) → ((t : CliType) → test (type_to r t) ≡ test t) → (o : Operand) → names_type high test (operand_to r id o) ≡ names_type low test o
  names_type_law id test same NoOperand = refl
  names_type_law id test same (Number n) = refl
  names_type_law id test same (Targets to) = refl
  names_type_law id test same (OfType s) = ap test (type_of_law r kept low high a s) ∙ same (type_of low s)
  names_type_law id test same (OfField f) = refl
  names_type_law id test same (OfMethod m) = refl
  names_type_law id test same (OfText units) = refl
  names_type_law id test same Unresolved = refl

  access_law : (id : Id) (x : Access) (o : Operand) → typed_access high x (operand_to r id o) ≡ typed_access low x o
  access_law id (access.Integer i) o = refl
  access_law id access.Reference o = refl
  access_law id access.Typed o = names_type_law id is_plain plain_law o

  -- ---- classes

  refers_law : (c : Id) → is_reference_class high (r.type c) ≡ is_reference_class low c
  refers_law c = ap (λ t. is_refers (cell_of t)) (type_of_class_law r kept low high a c) ∙ ap is_refers (cell_law r (type_of_class low c))

  other_law : (c : Id) (o : Option Id) → some_eq (Some (r.type c)) (option_map r.type o) ≡ some_eq (Some c) o
  other_law c None = refl
  other_law c (Some d) = a.types c d

  concrete_law : (c : Id) → holds_some (high.class (r.type c)) (λ k. not k.is_abstract && not k.is_interface) ≡ holds_some (low.class c) (λ k. not k.is_abstract && not k.is_interface)
  concrete_law c = by (low.class c) (high.class (r.type c)) (a.class c) (abstract c)
    where
      by : (l h : Option Class) → BothAlike r kept l h → option_map (λ (k : Class). k.is_abstract) h ≡ option_map (λ (k : Class). k.is_abstract) l → holds_some h (λ k. not k.is_abstract && not k.is_interface) ≡ holds_some l (λ k. not k.is_abstract && not k.is_interface)
      by None None e g = refl
      by (Some l) (Some h) e g =
          let same : h.is_abstract ≡ l.is_abstract = cc g in
          ap (λ b. not b && not h.is_interface) same ∙ ap (λ b. not l.is_abstract && not b) e.is_interface
      by None (Some h) e g = absurd e
      by (Some l) None e g = absurd e

  made_law : (c : Id) → is_made high (r.type c) ≡ is_made low c
  made_law c =
      ap (λ b. b && (is_reference_class high (r.type c) && (not (some_eq (Some (r.type c)) (basic high elem.String)) && not (some_eq (Some (r.type c)) (array high))))) (concrete_law c)
      ∙ ap (λ b. holds_some (low.class c) (λ k. not k.is_abstract && not k.is_interface) && (b && (not (some_eq (Some (r.type c)) (basic high elem.String)) && not (some_eq (Some (r.type c)) (array high))))) (refers_law c)
      ∙ ap (λ b. holds_some (low.class c) (λ k. not k.is_abstract && not k.is_interface) && (is_reference_class low c && (not b && not (some_eq (Some (r.type c)) (array high))))) (ap (some_eq (Some (r.type c))) (a.basic elem.String) ∙ other_law c (basic low elem.String))
      ∙ ap (λ b. holds_some (low.class c) (λ k. not k.is_abstract && not k.is_interface) && (is_reference_class low c && (not (some_eq (Some c) (basic low elem.String)) && not b))) (ap (some_eq (Some (r.type c))) a.array ∙ other_law c (array low))

  -- ---- methods

  named_method : (test' test : Id → OwnMethod → Bool) → ((c : Id) (m : OwnMethod) → test' (r.type c) (own_method_to r m) ≡ test c m) → (m : Id) → names_method high test' (OfMethod (r.method m)) ≡ names_method low test (OfMethod m)
  named_method test' test same m =
      ap (λ o. holds_some o (λ owner. holds_some (method_at high (r.method m)) (test' owner))) (a.method_owner m)
      ∙ ap (λ x. holds_some (option_map r.type (low.method_owner m)) (λ owner. holds_some x (test' owner))) (method_at_law r kept low high a m)
      ∙ by (low.method_owner m) (method_at low m)
    where
      by : (o : Option Id) (x : Option OwnMethod) → holds_some (option_map r.type o) (λ owner. holds_some (option_map (own_method_to r) x) (test' owner)) ≡ holds_some o (λ owner. holds_some x (test owner))
      by None x = refl
      by (Some c) None = refl
      by (Some c) (Some y) = same c y

  names_method_law : (id : Id) (test' test : Id → OwnMethod → Bool) → ((c : Id) (m : OwnMethod) → test' (r.type c) (own_method_to r m) ≡ test c m) → (o : Operand) → names_method high test' (operand_to r id o) ≡ names_method low test o
  names_method_law id test' test same NoOperand = refl
  names_method_law id test' test same (Number n) = refl
  names_method_law id test' test same (Targets to) = refl
  names_method_law id test' test same (OfType s) = refl
  names_method_law id test' test same (OfField f) = refl
  names_method_law id test' test same (OfMethod m) = named_method test' test same m
  names_method_law id test' test same (OfText units) = refl
  names_method_law id test' test same Unresolved = refl

  this_law : (m : OwnMethod) → has_this (own_method_to r m) ≡ has_this m
  this_law m = by m.signature
    where
      by : (o : Option Signature) → holds_some (option_map (signature_to r) o) (λ s. s.has_this) ≡ holds_some o (λ s. s.has_this)
      by None = refl
      by (Some s) = refl

  callable_law : (c : Id) (m : OwnMethod) → is_callable high (r.type c) (own_method_to r m) ≡ is_callable low c m
  callable_law c m =
      ap (λ b. not m.is_static && (b && is_reference_class high (r.type c))) (this_law m) ∙ ap (λ b. not m.is_static && (has_this m && b)) (refers_law c)

  new_law : (c : Id) (m : OwnMethod) → is_new high (r.type c) (own_method_to r m) ≡ is_new low c m
  new_law c m = ap (λ b. is_constructor m && (b && is_made high (r.type c))) (this_law m) ∙ ap (λ b. is_constructor m && (has_this m && b)) (made_law c)

  -- ---- fields

  named_field : (test' test : Id → OwnField → Bool) → ((c : Id) (f : OwnField) → test' (r.type c) (field_to r f) ≡ test c f) → (f : Id) → names_field high test' (OfField (r.field f)) ≡ names_field low test (OfField f)
  named_field test' test same f =
      ap (λ o. holds_some o (λ owner. holds_some (field_at high (r.field f)) (test' owner))) (a.field_owner f)
      ∙ ap (λ x. holds_some (option_map r.type (low.field_owner f)) (λ owner. holds_some x (test' owner))) (field_at_law r kept low high a f)
      ∙ by (low.field_owner f) (field_at low f)
    where
      by : (o : Option Id) (x : Option OwnField) → holds_some (option_map r.type o) (λ owner. holds_some (option_map (field_to r) x) (test' owner)) ≡ holds_some o (λ owner. holds_some x (test owner))
      by None x = refl
      by (Some c) None = refl
      by (Some c) (Some y) = same c y

  names_field_law : (id : Id) (test' test : Id → OwnField → Bool) → ((c : Id) (f : OwnField) → test' (r.type c) (field_to r f) ≡ test c f) → (o : Operand) → names_field high test' (operand_to r id o) ≡ names_field low test o
  names_field_law id test' test same NoOperand = refl
  names_field_law id test' test same (Number n) = refl
  names_field_law id test' test same (Targets to) = refl
  names_field_law id test' test same (OfType s) = refl
  names_field_law id test' test same (OfField f) = named_field test' test same f
  names_field_law id test' test same (OfMethod m) = refl
  names_field_law id test' test same (OfText units) = refl
  names_field_law id test' test same Unresolved = refl

  instance_law : (c : Id) (f : OwnField) → is_instance_field high (r.type c) (field_to r f) ≡ is_instance_field low c f
  instance_law c f = ap (λ b. is_instance_kind f.kind && b) (refers_law c)

  -- ---- literals

  text_law : (id : Id) (o : Operand) → is_some (text_of (operand_to r id o)) ≡ is_some (text_of o)
  text_law id NoOperand = refl
  text_law id (Number n) = refl
  text_law id (Targets to) = refl
  text_law id (OfType s) = refl
  text_law id (OfField f) = refl
  text_law id (OfMethod m) = refl
  text_law id (OfText units) = refl
  text_law id Unresolved = refl

  -- ---- the whole

  static_field : (id : Id) (o : Operand) → names_field high (λ owner f. is_static_kind f.kind) (operand_to r id o) ≡ names_field low (λ owner f. is_static_kind f.kind) o
  static_field id o = names_field_law id (λ owner f. is_static_kind f.kind) (λ owner f. is_static_kind f.kind) (λ c f. refl) o

  instance_field : (id : Id) (o : Operand) → names_field high (is_instance_field high) (operand_to r id o) ≡ names_field low (is_instance_field low) o
  instance_field id o = names_field_law id (is_instance_field high) (is_instance_field low) instance_law o

  pub fits_law : (id : Id) (s : Shape) (o : Operand) → operand_fits high s (operand_to r id o) ≡ operand_fits low s o
  fits_law id shape.LoadString o = text_law id o
  fits_law id shape.Call o = names_method_law id (λ owner m. not m.is_abstract) (λ owner m. not m.is_abstract) (λ c m. refl) o
  fits_law id shape.CallVirtual o = names_method_law id (is_callable high) (is_callable low) callable_law o
  fits_law id shape.NewObject o = names_method_law id (is_new high) (is_new low) new_law o
  fits_law id shape.LoadField o = instance_field id o
  fits_law id shape.LoadFieldAddress o = instance_field id o
  fits_law id shape.StoreField o = instance_field id o
  fits_law id shape.LoadStatic o = static_field id o
  fits_law id shape.LoadStaticAddress o = static_field id o
  fits_law id shape.StoreStatic o = static_field id o
  fits_law id shape.LoadToken o = names_field_law id (λ owner f. is_some (data_of f.kind)) (λ owner f. is_some (data_of f.kind)) (λ c f. refl) o
  fits_law id shape.CastClass o = names_type_law id is_plain plain_law o
  fits_law id shape.IsInstance o = names_type_law id is_plain plain_law o
  fits_law id shape.UnboxAny o = names_type_law id is_plain plain_law o
  fits_law id shape.NewArray o = names_type_law id is_plain plain_law o
  fits_law id shape.LoadElementAddress o = names_type_law id is_plain plain_law o
  fits_law id shape.Box o = names_type_law id is_number number_law o
  fits_law id shape.Unbox o = names_type_law id is_number number_law o
  fits_law id (shape.LoadIndirect x) o = access_law id x o
  fits_law id (shape.StoreIndirect x) o = access_law id x o
  fits_law id (shape.LoadElement x) o = access_law id x o
  fits_law id (shape.StoreElement x) o = access_law id x o
  fits_law id _ o = refl
