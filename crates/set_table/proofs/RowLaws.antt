-- The rows of an image as those of its set, one after the other.
use Rattle.std.proofs.Common.{◌≡◌, ℕ, zero, suc, ◌+◌, ◌<◌, List, [], ◌∷◌, ◌++◌, length, take, Option, Some, None, refl, sym, ap, ◌∙◌, arith}
use Rattle.std.specs.Prelude.{slice_get}
use Rattle.std.specs.Option.{option_map}
use Rattle.machine.specs.Throw.{on_some}
use Rattle.machine.specs.Data.{Id}
use Rattle.classes.specs.Classes.{SigType, Signature, OwnField, OwnMethod}
use Rattle.image_form.specs.Form.{part}
use Rattle.assemblies.specs.Binding.{id_at, numbered, expanded, expanded_signature}
use Rattle.std.specs.List.{filter_map}
use Rattle.set_signatures.specs.Meant.{field_told, method_told}
use Rattle.set_signatures.proofs.ExpandLaws.{field_means, method_means}
use Rattle.world_rows.specs.World.{size_of}
use Rattle.class_table.specs.Seen.{kind_seen, field_kind_seen, body_seen}
use Rattle.class_table.specs.Outlines.{Outline}
use Rattle.tiny_rows.specs.Rows.{rows_seen}
use Rattle.tiny_members.specs.declared.types.TypeDef.{TypeDef}
use Rattle.tiny_members.specs.declared.fields.FieldDef.{FieldDef}
use Rattle.tiny_members.specs.declared.methods.MethodDef.{MethodDef}
use Rattle.tiny_members.specs.Rows as members
use Rattle.tiny_members.specs.Rows.{token_seen, interfaces_seen, type_seen, field_type_in, method_type_in, field_of, method_of, without_code}
use Rattle.set_names.specs.Names.{seen_all}
use Rattle.set_names.proofs.IndexLaws.{take_next}
use Rattle.set_table.specs.declared.subject.Subject.{Subject}
use Rattle.set_table.specs.Subject.{IsSubject, class_in, outline_in, field_in, method_in}

-- ---- a row that is there

got : {A : Type 0} (xs : List A) (n : ℕ) → n < length xs → (x : A) × (slice_get xs n ≡ Some x)
got [] n h = absurd (omega arith)
got (x ∷ xs) zero h = (x, refl)
got (x ∷ xs) (suc n) h = got xs n (omega arith)

-- what is made of a signature that is read is made of one that is there
read_there : {S R : Type 0} (o : Option S) (make : S → R) (y : R) → option_map make o ≡ Some y → (s : S) × (o ≡ Some s) × (make s ≡ y)
read_there None make y e = cc e
read_there (Some s) make y e = (s, refl, cc e)

-- what the code makes of the parts of a row
abbrev pub outlined : TypeDef → Option Id → List Id → ℕ → ℕ → ℕ → ℕ → Outline
outlined d superclass interfaces ff cf fm cm =
    record {
      namespace = d.namespace.now;
      name = d.name.now;
      enclosing = d.enclosing;
      superclass = superclass;
      interfaces = interfaces;
      kind = kind_seen d.kind;
      is_interface = d.is_interface;
      is_abstract = d.is_abstract;
      is_lazy = d.is_lazy;
      first_field = ff;
      field_count = cf;
      first_method = fm;
      method_count = cm;
    }

abbrev pub own_made : Id → FieldDef → Option SigType → OwnField
own_made id f signature = record { id = id; name = f.name.now; signature = signature; kind = field_kind_seen f.kind }

abbrev pub own_with : Id → MethodDef → Option Signature → OwnMethod
own_with id m signature =
    record {
      id = id;
      name = m.name.now;
      signature = signature;
      is_static = m.is_static;
      is_virtual = m.is_virtual;
      is_newslot = m.is_newslot;
      is_abstract = m.is_abstract;
      body = body_seen m.body;
    }

module _ (s : Subject) (n : ℕ) where
  pub class_made : (d : TypeDef) (superclass : Option Id) (interfaces : List Id) (ff cf fm cm : ℕ) → Some (type_seen s.image.now d) ≡ slice_get (rows_seen s.image.now).types n
      → superclass ≡ on_some (option_map token_seen d.extends) (class_in s) → interfaces ≡ filter_map (class_in s) (part d.interfaces.first d.interfaces.count (interfaces_seen s.image.now))
      → ff ≡ d.fields.first → cf ≡ d.fields.count → fm ≡ d.methods.first → cm ≡ d.methods.count
      → Some (outlined d superclass interfaces ff cf fm cm) ≡ option_map (outline_in s) (slice_get (rows_seen s.image.now).types n)
  class_made d superclass interfaces ff cf fm cm at e f e1 e2 e3 e4 =
      ap (λ x. Some (outlined d x interfaces ff cf fm cm)) e
      ∙ ap (λ x. Some (outlined d (on_some (option_map token_seen d.extends) (class_in s)) x ff cf fm cm)) f
      ∙ ap (λ x. Some (outlined d (on_some (option_map token_seen d.extends) (class_in s)) (filter_map (class_in s) (part d.interfaces.first d.interfaces.count (interfaces_seen s.image.now))) x cf fm cm)) e1
      ∙ ap (λ x. Some (outlined d (on_some (option_map token_seen d.extends) (class_in s)) (filter_map (class_in s) (part d.interfaces.first d.interfaces.count (interfaces_seen s.image.now))) d.fields.first x fm cm)) e2
      ∙ ap (λ x. Some (outlined d (on_some (option_map token_seen d.extends) (class_in s)) (filter_map (class_in s) (part d.interfaces.first d.interfaces.count (interfaces_seen s.image.now))) d.fields.first d.fields.count x cm)) e3
      ∙ ap (λ x. Some (outlined d (on_some (option_map token_seen d.extends) (class_in s)) (filter_map (class_in s) (part d.interfaces.first d.interfaces.count (interfaces_seen s.image.now))) d.fields.first d.fields.count d.methods.first x)) e4
      ∙ ap (option_map (outline_in s)) at

module _ (s : Subject) (is : IsSubject s) (n : ℕ) where
  pub field_made : (f : FieldDef) (signature : Option SigType) → n < length (rows_seen s.image.now).fields → members.field_seen s.image.now f ≡ slice_get (rows_seen s.image.now).fields n → signature ≡ field_told s.tokens f.signature.now
      → Some (own_made (id_at s.tokens.file n) f signature) ≡ option_map (field_in s n) (slice_get (rows_seen s.image.now).fields n)
  field_made f signature low at e =
      let g = got (rows_seen s.image.now).fields n low in
      let r = read_there (field_type_in s.image.now f.signature.now) (field_of f) g.0 (at ∙ g.1) in
      let k = size_of (seen_all s.names.now) in
      let ps = seen_all s.names.now in
      let told : signature ≡ expanded k ps s.tokens.file r.0 = e ∙ field_means s.image.now k ps s.tokens is.tokens f.signature.now ∙ ap (λ o. on_some o (expanded k ps s.tokens.file)) r.1 in
      ap (λ x. Some (own_made (id_at s.tokens.file n) f x)) told ∙ ap (λ x. Some (field_in s n x)) r.2 ∙ sym (ap (option_map (field_in s n)) g.1)

  pub method_made : (m : MethodDef) (signature : Option Signature) → n < length (rows_seen s.image.now).methods → members.method_seen s.image.now m ≡ option_map without_code (slice_get (rows_seen s.image.now).methods n) → signature ≡ method_told s.tokens m.signature.now
      → Some (own_with (id_at s.tokens.file n) m signature) ≡ option_map (method_in s n) (slice_get (rows_seen s.image.now).methods n)
  method_made m signature low at e =
      let g = got (rows_seen s.image.now).methods n low in
      let r = read_there (method_type_in s.image.now m.signature.now) (method_of m) (without_code g.0) (at ∙ ap (option_map without_code) g.1) in
      let k = size_of (seen_all s.names.now) in
      let ps = seen_all s.names.now in
      let told : signature ≡ expanded_signature k ps s.tokens.file r.0 = e ∙ method_means s.image.now k ps s.tokens is.tokens m.signature.now ∙ ap (λ o. on_some o (expanded_signature k ps s.tokens.file)) r.1 in
      ap (λ x. Some (own_with (id_at s.tokens.file n) m x)) told ∙ ap (λ x. Some (method_in s n x)) r.2 ∙ sym (ap (option_map (method_in s n)) g.1)

-- ---- numbered rows

numbered_push : {A B : Type 0} (make : ℕ → A → B) (n : ℕ) (xs : List A) (x : A) → numbered make n (xs ++ x ∷ []) ≡ numbered make n xs ++ make (n + length xs) x ∷ []
numbered_push make n [] x = let same : n ≡ n + 0 = omega arith in ap (λ k. make k x ∷ []) same
numbered_push make n (y ∷ ys) x = let same : suc n + length ys ≡ n + suc (length ys) = omega arith in ap (λ zs. make n y ∷ zs) (numbered_push make (suc n) ys x ∙ ap (λ k. numbered make (suc n) ys ++ make k x ∷ []) same)

taken : {A : Type 0} (xs : List A) (n : ℕ) (x : A) → slice_get xs n ≡ Some x → length (take n xs) ≡ n
taken [] n x e = cc e
taken (y ∷ xs) zero x e = refl
taken (y ∷ xs) (suc n) x e = ap suc (taken xs n x e)

pub numbered_more : {A B C : Type 0} (seen : ℕ → A → C) (make : ℕ → B → C) (rows : List A) (xs : List B) (n : ℕ) (row : A) → length rows ≡ n → numbered seen 0 rows ≡ numbered make 0 (take n xs) → Some (seen n row) ≡ option_map (make n) (slice_get xs n) → numbered seen 0 (rows ++ row ∷ []) ≡ numbered make 0 (take (n + 1) xs)
numbered_more {A} {B} {C} seen make rows xs n row count known here = go (slice_get xs n) refl here
  where
    go : (o : Option B) → slice_get xs n ≡ o → Some (seen n row) ≡ option_map (make n) o → numbered seen 0 (rows ++ row ∷ []) ≡ numbered make 0 (take (n + 1) xs)
    go None e h = cc h
    go (Some x) e h =
        let same : seen n row ≡ make n x = cc h in
        let here : 0 + length rows ≡ n = omega (arith, count) in
        let place : 0 + length (take n xs) ≡ n = omega (arith, taken xs n x e) in
        numbered_push seen 0 rows row
        ∙ ap (λ k. numbered seen 0 rows ++ seen k row ∷ []) here
        ∙ ap (λ ys. ys ++ seen n row ∷ []) known
        ∙ ap (λ y. numbered make 0 (take n xs) ++ y ∷ []) same
        ∙ sym (ap (numbered make 0) (take_next xs n x e) ∙ numbered_push make 0 (take n xs) x ∙ ap (λ k. numbered make 0 (take n xs) ++ make k x ∷ []) place)
