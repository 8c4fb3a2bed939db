-- A set that meets all that the law of chosen rows asks: one assembly with one class and one virtual method.
use Rattle.std.proofs.Common.{◌≡◌, ℕ, zero, suc, true, false, List, [], ◌∷◌, Some, None, refl, ap, ◌∙◌, subst, arith}
use Rattle.std.specs.Prelude.{codes, slice_get}
use Rattle.machine.specs.Data.{Id}
use Rattle.machine.specs.Program.{Body}
use Rattle.classes.specs.Classes.{OwnMethod, TypeKind, Classes}
use Rattle.classes.specs.Queries.{ends, above, parents, enclosing_of, listed, method_at, own_virtual}
use Rattle.assemblies.specs.Rows.{TypeRow, MethodRow, Assembly}
use Rattle.assemblies.specs.Binding.{id_at, own_method, classes_of, method_owner}
use Rattle.assemblies.specs.Chosen.{Choice}
use Rattle.assemblies.specs.Closed.{Each, Names, SignatureNames, CodeHolds, Closed}
use Rattle.assemblies.specs.Joined.{Joined}

abbrev object : TypeRow
object =
    record {
      namespace = codes "System";
      name = codes "Object";
      enclosing = None;
      extends = None;
      interfaces = [];
      kind = TypeKind.Reference;
      is_interface = false;
      is_abstract = false;
      is_lazy = true;
      first_field = 0;
      field_count = 0;
      first_method = 0;
      method_count = 1;
    }

abbrev to_string : MethodRow
to_string =
    record {
      name = codes "ToString";
      signature = record { has_this = true; returns = None; parameters = [] };
      is_static = false;
      is_virtual = true;
      is_newslot = true;
      is_abstract = false;
      body = Body.Missing;
      code = None;
    }

abbrev base : Assembly
base =
    record {
      name = codes "mscorlib";
      version = [];
      entry = None;
      assemblies = [];
      refs = [];
      field_refs = [];
      method_refs = [];
      fields = [];
      specs = [];
      types = object ∷ [];
      methods = to_string ∷ [];
    }

abbrev set : List Assembly
set = base ∷ []

abbrev all : ℕ → Choice
all f =
    record {
      assemblies = λ n. true;
      refs = λ n. true;
      field_refs = λ n. true;
      method_refs = λ n. true;
      types = λ n. true;
      fields = λ n. true;
      methods = λ n. true;
      specs = λ n. true;
      short = λ n at. at;
      long = λ n at. at;
    }

only : {A : Type 0} (x y : A) (n : ℕ) → slice_get (x ∷ []) n ≡ Some y → x ≡ y
only x y zero e = cc e
only x y (suc n) e = absurd (cc e)

-- what stands in a table of the only assembly
in_base : {A : Type 0} (part : Assembly → List A) (f n : ℕ) (p : Assembly) (x : A) → slice_get set f ≡ Some p → slice_get (part p) n ≡ Some x → slice_get (part base) n ≡ Some x
in_base part f n p x at row = ap (λ q. slice_get (part q) n) (only base p f at) ∙ row

closed : Closed 1 all set
closed =
    record {
      of_assembly = λ f n p r a at row k s. refl;
      inside = λ f n p r m at row k s. refl;
      defined = λ j f n c k e. refl;
      field_ref = λ f n p r at row k. absurd (cc (in_base (λ q. q.field_refs) f n p r at row));
      method_ref = λ f n p r at row k. absurd (cc (in_base (λ q. q.method_refs) f n p r at row));
      field_defined = λ f n c k e. refl;
      method_defined = λ f n c k e. refl;
      outer = λ f n p t m at row k e. absurd (cc (ap (λ (u : TypeRow). u.enclosing) (only object t n (in_base (λ q. q.types) f n p t at row)) ∙ e));
      extends = λ f n p t x at row k e. absurd (cc (ap (λ (u : TypeRow). u.extends) (only object t n (in_base (λ q. q.types) f n p t at row)) ∙ e));
      interfaces = λ f n p t at row k. subst (λ (u : TypeRow). Each (Names 1 all set f) u.interfaces) (only object t n (in_base (λ q. q.types) f n p t at row)) tt;
      instance = λ f n i p t x at row k e s. refl;
      initialiser = λ f n i p t m at row k e s. refl;
      field = λ f n p x at row k. absurd (cc (in_base (λ q. q.fields) f n p x at row));
      field_type = λ f n k p at e s. refl;
      method = λ f n p m at row k. subst (λ (u : MethodRow). SignatureNames 1 all set f u.signature × CodeHolds 1 all set f n u.code) (only to_string m n (in_base (λ q. q.methods) f n p m at row)) ((tt, tt), tt);
      method_type = λ f n k p at e s. refl;
      entry = λ f n p at e. refl;
    }

abbrev high : Classes
high = classes_of 1 set

ups : (f n : ℕ) → ends 1 (above high) (id_at f n) ≡ true
ups zero zero = refl
ups zero (suc n) = refl
ups (suc f) n = refl

all_ups : (f n : ℕ) → ends 1 (parents high) (id_at f n) ≡ true
all_ups zero zero = refl
all_ups zero (suc n) = refl
all_ups (suc f) n = refl

outers : (f n : ℕ) → ends 1 (λ d. listed (enclosing_of high d)) (id_at f n) ≡ true
outers zero zero = refl
outers zero (suc n) = refl
outers (suc f) n = refl

firsts : (f n : ℕ) (c : Id) (x : OwnMethod) → method_owner set (id_at f n) ≡ Some c → method_at high (id_at f n) ≡ Some x → own_virtual high x c ≡ Some x
firsts zero zero c x e g =
    let who : id_at 0 0 ≡ c = cc e in
    let same : own_method 1 set 0 0 to_string ≡ x = cc g in
    subst (λ (y : OwnMethod). own_virtual high y c ≡ Some y) same (subst (λ d. own_virtual high (own_method 1 set 0 0 to_string) d ≡ Some (own_method 1 set 0 0 to_string)) who refl)
firsts zero (suc n) c x e g = absurd (cc e)
firsts (suc f) n c x e g = absurd (cc e)

pub sample : Joined 1 9 all set
sample =
    record {
      closed = closed;
      grows = omega arith;
      ups = λ c. ups c.file c.row;
      parents = λ c. all_ups c.file c.row;
      outers = λ c. outers c.file c.row;
      firsts = λ m c x e g v. firsts m.file m.row c x e g;
      alone = λ m c y e k. absurd (cc k);
      slots = λ m c y u up k way e n near. refl;
      fills = λ m c i y k o f h s g j e. refl;
      basics = λ e name c p t. refl;
      array = λ c t. refl;
      exception = λ c t. refl;
      asked = λ k c a t. refl;
      begin = λ f n. refl;
      places = λ f n a b. refl;
    }
