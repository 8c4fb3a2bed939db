-- What the rules of classes add to what rows tell of a field and of a method.
use Rattle.std.proofs.Common.{◌≡◌, ℕ, Bool, true, false, List, [], Option, Some, None, refl, sym, ap, ◌∙◌, subst}
use Rattle.std.specs.Prelude.{slice_get, is_some, if◌then◌else◌, ◌&&◌, not, unwrap_or}
use Rattle.std.specs.Option.{option_map}
use Rattle.std.specs.List.{position, find}
use Rattle.std.proofs.lemmas.Bool.{and_parts, both_ways}
use Rattle.plain_types.specs.declared.elem.Elem.{Elem}
use Rattle.plain_types.specs.declared.elem.Elem.TheVariants as elem
use Rattle.machine.specs.Data.{Id, id_eq, CliType, Cell, cell_of, elem_cell}
use Rattle.machine.specs.Program.{Body, Code, Native, Missing}
use Rattle.machine.specs.Throw.{on_some}
use Rattle.machine_typed.specs.Typing.{is_refers, is_number, is_bits, is_plain, has_body}
use Rattle.machine_typed.proofs.Types.{id_same}
use Rattle.classes.specs.Classes.{Classes, Class, OwnField, OwnMethod, SigType, Spelt, ClassToken, ValueToken, ArraySig, Signature, FieldKind, InstanceField, StaticField, LiteralField, DataField, TypeKind, Builtin, Enumeration, OtherValue, Reference}
use Rattle.classes.specs.Queries.{basic, some_eq, is_integer, kind_of, type_by_kind, is_instance, is_instance_kind, is_static_kind, fields_of, methods_of, instance_fields, field_types, fields, field_at, flag_eq}
use Rattle.classes.specs.Queries.{type_of as type_in}
use Rattle.classes.specs.Listed.{is_constructor}
use Rattle.classes.specs.Reading.{IsRead}
use Rattle.class_rules.specs.Rules.{holds_some, is_user, only_if, is_native, is_void, value_well, sig_fits, data_sig_fits, is_data_kind, field_signature_fits, result_fits, signature_fits, method_signature_fits, constructor_fits, method_stands_well, Keeps}
use Rattle.class_rules.proofs.Ways.{all_at}
use Rattle.class_rules.proofs.Kept.{holds_inv, part_of}
use Rattle.class_rules.proofs.Slots.{found}
use Rattle.class_rules.proofs.FitsLaws.{both_some}
use Rattle.verify_ops.specs.declared.facts.FieldOperand.{FieldOperand}
use Rattle.verify_ops.specs.declared.facts.MethodOperand.{MethodOperand}
use Rattle.verify_ops.specs.Facts.{is_string}
use Rattle.ecma_effects.specs.Known.{elem_of, kind_fits, IsField, IsMethod}
use Rattle.ecma_effects.specs.Told.{TellsField, TellsMethod, Tabled}
use Rattle.ecma_effects.proofs.Places.{instance_each, Signed, TypesOf, typed_fields, position_found, among}

no_data : (k : FieldKind) → is_instance_kind k ≡ true → is_data_kind k ≡ false
no_data InstanceField h = refl
no_data StaticField h = refl
no_data LiteralField h = refl
no_data (DataField bytes) h = absurd (cc h)

static_no_data : (k : FieldKind) → is_static_kind k ≡ true → is_data_kind k ≡ false
static_no_data InstanceField h = refl
static_no_data StaticField h = refl
static_no_data LiteralField h = refl
static_no_data (DataField bytes) h = absurd (cc h)

no_class : (cs : Classes) (e : Elem) (c : Id) → basic cs e ≡ Some c → is_some (elem_cell e) ≡ true
no_class cs elem.Void c h = absurd (cc h)
no_class cs elem.Class c h = absurd (cc h)
no_class cs elem.Value c h = absurd (cc h)
no_class cs elem.Bool c h = refl
no_class cs elem.Char c h = refl
no_class cs elem.I1 c h = refl
no_class cs elem.U1 c h = refl
no_class cs elem.I2 c h = refl
no_class cs elem.U2 c h = refl
no_class cs elem.I4 c h = refl
no_class cs elem.U4 c h = refl
no_class cs elem.I8 c h = refl
no_class cs elem.U8 c h = refl
no_class cs elem.String c h = refl
no_class cs elem.Object c h = refl

string_element : (e : Elem) → is_string e ≡ true → e ≡ elem.String
string_element elem.String h = refl
string_element elem.Void h = absurd (cc h)
string_element elem.Class h = absurd (cc h)
string_element elem.Value h = absurd (cc h)
string_element elem.Bool h = absurd (cc h)
string_element elem.Char h = absurd (cc h)
string_element elem.I1 h = absurd (cc h)
string_element elem.U1 h = absurd (cc h)
string_element elem.I2 h = absurd (cc h)
string_element elem.U2 h = absurd (cc h)
string_element elem.I4 h = absurd (cc h)
string_element elem.U4 h = absurd (cc h)
string_element elem.I8 h = absurd (cc h)
string_element elem.U8 h = absurd (cc h)
string_element elem.Object h = absurd (cc h)

string_no_integer : (e : Elem) → is_integer e ≡ true → is_string e ≡ true → ⊥
string_no_integer e h s = (let no : false ≡ true = sym (ap is_integer (string_element e s)) ∙ h in cc no)

flags_same : (a b : Bool) → flag_eq a b ≡ true → a ≡ b
flags_same true b h = sym h
flags_same false true h = absurd (cc h)
flags_same false false h = refl

if_so : (a b : Bool) → only_if a b ≡ true → a ≡ true → b ≡ true
if_so true b h e = h
if_so false b h e = absurd (cc e)

refers_some : (q : Option Cell) → is_refers q ≡ true → is_some q ≡ true
refers_some (Some c) h = refl
refers_some None h = absurd (cc h)

bits_some : (q : Option Cell) → is_bits q ≡ true → is_some q ≡ true
bits_some (Some c) h = refl
bits_some None h = absurd (cc h)

some_here : (o : Option Id) (c : Id) → some_eq (Some c) o ≡ true → o ≡ Some c
some_here None c h = absurd (cc h)
some_here (Some d) c h = ap Some (sym (id_same c d h))

-- a type that a signature may have is a plain one (27)
refers_plain : (q : Option TypeKind) (c : Id) → is_refers (cell_of (type_by_kind q c)) ≡ true → is_plain (type_by_kind q c) ≡ true
refers_plain None c h = refl
refers_plain (Some Reference) c h = refl
refers_plain (Some (Builtin g)) c h = refers_some (elem_cell g) h
refers_plain (Some (Enumeration g)) c h = refers_some (elem_cell g) h
refers_plain (Some OtherValue) c h = absurd (cc h)

number_plain : (q : Option TypeKind) (c : Id) → is_number (type_by_kind q c) ≡ true → is_plain (type_by_kind q c) ≡ true
number_plain None c h = absurd (cc h)
number_plain (Some Reference) c h = absurd (cc h)
number_plain (Some (Builtin g)) c h = bits_some (elem_cell g) h
number_plain (Some (Enumeration g)) c h = bits_some (elem_cell g) h
number_plain (Some OtherValue) c h = absurd (cc h)

plain_sig : (cs : Classes) (s : SigType) → sig_fits cs s ≡ true → is_plain (type_in cs s) ≡ true
plain_sig cs (Spelt e) h = h
plain_sig cs (ClassToken c) h = refers_plain (kind_of cs c) c h
plain_sig cs (ValueToken c) h = number_plain (kind_of cs c) c h
plain_sig cs (ArraySig s) h = plain_sig cs s h

module _ (n : ℕ) (cs : Classes) (r : IsRead n cs) (k : Keeps n cs) (t : Tabled cs) where
  -- ---- the kind of a class

  kind_there : (c : Id) (class : Class) → cs.class c ≡ Some class → kind_of cs c ≡ Some class.kind
  kind_there c class e = ap (option_map (λ (z : Class). z.kind)) e

  kinds_fit : (c : Id) (class : Class) → cs.class c ≡ Some class → kind_fits (kind_of cs c) ≡ true
  kinds_fit c class e = ap kind_fits (kind_there c class e) ∙ by class.kind refl
    where
      by : (z : TypeKind) → class.kind ≡ z → kind_fits (Some z) ≡ true
      by Reference h = refl
      by OtherValue h = refl
      by (Builtin g) h = no_class cs g c (r.builtin c g (kind_there c class e ∙ ap Some h))
      by (Enumeration g) h =
          let w = subst (λ z. value_well cs c z ≡ true) h (k.values c class e) in
          (and_parts (is_integer g) _ w).0

  string_kind : (c : Id) (class : Class) → cs.class c ≡ Some class → is_string (elem_of (kind_of cs c)) ≡ some_eq (Some c) (basic cs elem.String)
  string_kind c class e = by (is_string (elem_of (kind_of cs c))) (some_eq (Some c) (basic cs elem.String)) refl refl
    where
      to_string : (z : Option TypeKind) → kind_of cs c ≡ z → kind_fits z ≡ true → is_string (elem_of z) ≡ true → z ≡ Some (Builtin elem.String)
      to_string None h w s = absurd (cc s)
      to_string (Some Reference) h w s = absurd (cc s)
      to_string (Some OtherValue) h w s = absurd (cc s)
      to_string (Some (Builtin g)) h w s = ap (λ z. Some (Builtin z)) (string_element g s)
      to_string (Some (Enumeration g)) h w s = absurd (string_no_integer g w s)

      by : (u v : Bool) → is_string (elem_of (kind_of cs c)) ≡ u → some_eq (Some c) (basic cs elem.String) ≡ v → u ≡ v
      by true true h w = refl
      by false false h w = refl
      by true false h w =
          let z : kind_of cs c ≡ Some (Builtin elem.String) = to_string (kind_of cs c) refl (kinds_fit c class e) h in
          let one : some_eq (Some c) (basic cs elem.String) ≡ true = both_some (Some c) (basic cs elem.String) c refl (r.builtin c elem.String z) in
          sym one ∙ w
      by false true h w =
          let z : kind_of cs c ≡ Some (Builtin elem.String) = r.basic_kind c elem.String (some_here (basic cs elem.String) c w) in
          sym h ∙ ap (λ q. is_string (elem_of q)) z

  -- ---- fields

  fits_27 : (c : Id) (i : ℕ) (g : OwnField) → slice_get (fields_of cs c) i ≡ Some g → field_signature_fits cs g ≡ true
  fits_27 c i g e = let w = part_of (cs.class c) (λ z. z.fields) i g e in all_at (field_signature_fits cs) w.0.fields i g (k.field_signatures c w.0 w.1) w.2

  signed_27 : (g : OwnField) → field_signature_fits cs g ≡ true → (s : SigType) × (g.signature ≡ Some s) × ((if is_data_kind g.kind then data_sig_fits cs s else sig_fits cs s) ≡ true)
  signed_27 g h = holds_inv g.signature (λ s. if is_data_kind g.kind then data_sig_fits cs s else sig_fits cs s) h

  abbrev Row : OwnField → Type 0
  Row g = (field_at cs g.id ≡ Some g) × Signed g

  row_each : (c : Id) (i : ℕ) (g : OwnField) → slice_get (fields_of cs c) i ≡ Some g → is_instance g ≡ true → Row g
  row_each c i g e h = let s = signed_27 g (fits_27 c i g e) in (t.entry c i g e, (s.0, s.1))

  all_fields : (c : Id) → (ts : List CliType) × (field_types cs (instance_fields cs c) ≡ Some ts) × TypesOf cs (instance_fields cs c) ts
  all_fields c = typed_fields cs (instance_fields cs c) (λ i g e. (instance_each cs Row row_each cs.size c i g e).1)

  fields_there : (c : Id) (class : Class) (ts : List CliType) → cs.class c ≡ Some class → field_types cs (instance_fields cs c) ≡ Some ts → fields cs c ≡ Some ts
  fields_there c class ts e h = ap (λ z. on_some z (λ (q : Class). field_types cs (instance_fields cs c))) e ∙ h

  module _ (id : Id) (f : FieldOperand) (q : TellsField cs id f) where
    stands : (j : ℕ) × (slice_get (fields_of cs q.owner) j ≡ Some q.own) × (id_eq q.own.id id ≡ true)
    stands = found (λ (z : OwnField). id_eq z.id id) (fields_of cs q.owner) q.own (sym (ap (λ w. on_some w (λ c. find (λ z. id_eq z.id id) (fields_of cs c))) q.owner_is) ∙ q.own_is)

    class_there : (class : Class) × (cs.class q.owner ≡ Some class) × (slice_get class.fields stands.0 ≡ Some q.own)
    class_there = part_of (cs.class q.owner) (λ z. z.fields) stands.0 q.own stands.1

    plain_if : is_data_kind q.own.kind ≡ false → is_plain (type_in cs q.signature) ≡ true
    plain_if h =
        let s = signed_27 q.own (fits_27 q.owner stands.0 q.own stands.1) in
        let same : s.0 ≡ q.signature = (let both : Some s.0 ≡ Some q.signature = sym s.1 ∙ q.signed in cc both) in
        plain_sig cs q.signature (subst (λ z. sig_fits cs z ≡ true) same (sym (ap (λ (d : Bool). if d then data_sig_fits cs s.0 else sig_fits cs s.0) h) ∙ s.2))

    abbrev At : ℕ → Type 0
    At i = (position (λ g. id_eq g.id id) (instance_fields cs q.owner) ≡ Some i) × (slice_get (instance_fields cs q.owner) i ≡ Some q.own)

    place_at : is_instance_kind q.own.kind ≡ true → (i : ℕ) × At i
    place_at h =
        let a = among cs q.owner stands.0 q.own stands.1 h in
        let p = position_found (λ g. id_eq g.id id) (instance_fields cs q.owner) a.0 q.own a.1 stands.2 in
        let e : field_at cs p.1.id ≡ Some p.1 = (instance_each cs Row row_each cs.size q.owner p.0 p.1 p.3).0 in
        let both : Some p.1 ≡ Some q.own = sym e ∙ (ap (field_at cs) (id_same p.1.id id p.4) ∙ q.own_is) in
        (p.0, (p.2, p.3 ∙ both))

    -- only an instance field has a place
    place_or : (b : Bool) → is_instance_kind q.own.kind ≡ b → (i : ℕ) × (is_instance_kind q.own.kind ≡ true → At i)
    place_or true h = let w = place_at h in (w.0, λ e. w.1)
    place_or false h = (0, λ e. absurd (both_ways (is_instance_kind q.own.kind) h e))

    pub field_known : IsField cs id f
    field_known =
        let w = place_or (is_instance_kind q.own.kind) refl in
        let ts = all_fields q.owner in
        record {
          owner = q.owner;
          own = q.own;
          signature = q.signature;
          owner_is = q.owner_is;
          own_is = q.own_is;
          signed = q.signed;
          class = q.class;
          type = q.type;
          kind = q.kind;
          owner_fits = kinds_fit q.owner class_there.0 class_there.1;
          plain = λ h. plain_if (no_data q.own.kind h);
          plain_static = λ h. plain_if (static_no_data q.own.kind h);
          place = w.0;
          types = ts.0;
          place_is = λ h. (w.1 h).0;
          types_are = λ h. fields_there q.owner class_there.0 ts.0 class_there.1 ts.1;
          type_there = λ h. ts.2 w.0 q.own q.signature ((w.1 h).1) q.signed;
        }

  -- ---- methods

  module _ (id : Id) (m : MethodOperand) (q : TellsMethod cs id m) where
    method_stands : (j : ℕ) × (slice_get (methods_of cs q.owner) j ≡ Some q.own) × (id_eq q.own.id id ≡ true)
    method_stands = found (λ (z : OwnMethod). id_eq z.id id) (methods_of cs q.owner) q.own (sym (ap (λ w. on_some w (λ c. find (λ z. id_eq z.id id) (methods_of cs c))) q.owner_is) ∙ q.own_is)

    in_class : slice_get q.class.methods method_stands.0 ≡ Some q.own
    in_class = sym (ap (λ z. slice_get (unwrap_or (option_map (λ (c : Class). c.methods) z) []) method_stands.0) q.class_is) ∙ method_stands.1

    value_has : (s : SigType) → q.signature.returns ≡ Some s → is_plain (type_in cs s) ≡ true
    value_has s e =
        let w = holds_inv q.own.signature (signature_fits cs q.owner) (all_at (method_signature_fits cs q.owner) q.class.methods method_stands.0 q.own (k.method_signatures q.owner q.class q.class_is) in_class) in
        let same : w.0 ≡ q.signature = (let both : Some w.0 ≡ Some q.signature = sym w.1 ∙ q.signed in cc both) in
        let fit : result_fits cs w.0.returns ≡ true = (and_parts (result_fits cs w.0.returns) _ w.2).0 in
        plain_sig cs s (sym (ap (λ (z : Signature). result_fits cs z.returns) same ∙ ap (result_fits cs) e) ∙ fit)

    abbrev rules : Type 0
    rules = (not (is_user q.owner && is_native q.own.body) ≡ true) × (only_if q.own.is_abstract q.own.is_virtual ≡ true) × (flag_eq (has_body q.own.body) (not q.own.is_abstract) ≡ true) × (only_if (is_constructor q.own) (constructor_fits cs q.owner q.class q.own) ≡ true)

    well : rules
    well =
        let a = all_at (method_stands_well cs q.owner q.class) q.class.methods method_stands.0 q.own (k.methods q.owner q.class q.class_is) in_class in
        let a1 = and_parts (not (is_user q.owner && is_native q.own.body)) _ a in
        let a2 = and_parts (not (q.own.is_static && q.own.is_virtual)) _ a1.1 in
        let a3 = and_parts (only_if q.own.is_abstract q.own.is_virtual) _ a2.1 in
        let a4 = and_parts (only_if q.own.is_abstract q.class.is_abstract) _ a3.1 in
        let a5 = and_parts (flag_eq (has_body q.own.body) (not q.own.is_abstract)) _ a4.1 in
        let a6 = and_parts (only_if (is_constructor q.own) (constructor_fits cs q.owner q.class q.own)) _ a5.1 in
        (a1.0, a3.0, a5.0, a6.0)

    constructs : is_constructor q.own ≡ true → (not q.own.is_virtual ≡ true) × (holds_some q.own.signature (λ s. s.has_this && is_void s.returns) ≡ true)
    constructs h =
        let c = if_so (is_constructor q.own) (constructor_fits cs q.owner q.class q.own) well.3 h in
        let c1 = and_parts (not q.own.is_static) _ c in
        let c2 = and_parts (not q.own.is_virtual) _ c1.1 in
        let c3 = and_parts (holds_some q.own.signature (λ s. s.has_this && is_void s.returns)) _ c2.1 in
        (c2.0, c3.0)

    returns_none : is_constructor q.own ≡ true → q.signature.returns ≡ None
    returns_none h = by q.signature.returns ((and_parts q.signature.has_this (is_void q.signature.returns) (sym (ap (λ z. holds_some z (λ (s : Signature). s.has_this && is_void s.returns)) q.signed) ∙ (constructs h).1)).1)
      where
        by : (z : Option SigType) → is_void z ≡ true → z ≡ None
        by None h = refl
        by (Some s) h = absurd (cc h)

    concrete : is_constructor q.own ≡ true → q.own.is_abstract ≡ true → ⊥
    concrete h a = both_ways (not q.own.is_virtual) (ap not (if_so q.own.is_abstract q.own.is_virtual well.1 a)) (constructs h).0

    own_code : is_constructor q.own ≡ true → is_native q.own.body ≡ false
    own_code h = by (is_user q.owner) refl
      where
        off : (z : Bool) → not z ≡ true → z ≡ false
        off false w = refl
        off true w = sym w

        by : (u : Bool) → is_user q.owner ≡ u → is_native q.own.body ≡ false
        by false e = t.constructors q.owner method_stands.0 q.own e method_stands.1 h
        by true e = off (is_native q.own.body) (sym (ap (λ z. not (z && is_native q.own.body)) e) ∙ well.0)

    has_code : is_constructor q.own ≡ true → q.own.body ≡ Code
    has_code h = by q.own.body q.own.is_abstract (flags_same (has_body q.own.body) (not q.own.is_abstract) well.2) (own_code h) (concrete h)
      where
        by : (body : Body) (a : Bool) → has_body body ≡ not a → is_native body ≡ false → (a ≡ true → ⊥) → body ≡ Code
        by Code a e w never = refl
        by (Native name) a e w never = absurd (cc (sym w))
        by Missing true e w never = absurd (never refl)
        by Missing false e w never = absurd (cc e)

    pub method_known : IsMethod cs id m
    method_known =
        let ts = all_fields q.owner in
        record {
          owner = q.owner;
          class = q.class;
          own = q.own;
          signature = q.signature;
          owner_is = q.owner_is;
          class_is = q.class_is;
          own_is = q.own_is;
          signed = q.signed;
          place = q.place;
          unmade = q.unmade;
          interface = q.interface;
          constructor = q.constructor;
          this = q.this;
          params = q.params;
          returns = q.returns;
          static = q.static;
          abstract = q.abstract;
          owner_fits = kinds_fit q.owner q.class q.class_is;
          value = value_has;
          body = flags_same (has_body q.own.body) (not q.own.is_abstract) well.2;
          code = has_code;
          nothing = returns_none;
          string = string_kind q.owner q.class q.class_is;
          fields = ap is_some (fields_there q.owner q.class ts.0 q.class_is ts.1);
        }
