-- What references to members mean, by what is told of their parts.
use Rattle.std.proofs.Common.{◌≡◌, ℕ, Bool, true, false, ◌&&◌, cond, List, [], ◌∷◌, Option, Some, None, refl, sym, ap, ◌∙◌}
use Rattle.std.specs.Prelude.{slice_get}
use Rattle.std.specs.List.{find}
use Rattle.std.specs.Option.{option_map}
use Rattle.machine.specs.Data.{Id}
use Rattle.machine.specs.Texts.{same_text}
use Rattle.machine.specs.Throw.{on_some}
use Rattle.classes.specs.Classes.{SigType, Signature, OwnField, OwnMethod, Classes}
use Rattle.classes.specs.Queries.{field_signature_eq, method_signature_eq, is_named, is_field_named, methods_of, fields_of, or_else, first_some, chain, find_method, find_field}
use Rattle.assemblies.specs.Rows.{Assembly, RawType, RawSignature, FieldRefRow, MethodRefRow, Reference}
use Rattle.assemblies.specs.Binding.{resolve, resolve_field, resolve_method, expanded, expanded_signature, classes_of}
use Rattle.world_rows.specs.World.{size_of}
use Rattle.member_keys.specs.declared.keys.ClassId.{ClassId}
use Rattle.member_keys.specs.declared.keys.TypeKey.{TypeKey}
use Rattle.member_keys.specs.declared.keys.SignatureKey.{SignatureKey}
use Rattle.member_keys.specs.Seen.{class_seen, type_seen, signature_seen}
use Rattle.class_table.specs.Seen.{classes_seen}
use Rattle.member_search.specs.declared.sort.Sort.TheVariants.{Field, Method}
use Rattle.member_search.specs.Shown.{Indexed}
use Rattle.set_signatures.specs.Meant.{field_told, method_told}
use Rattle.set_signatures.proofs.ExpandLaws.{field_means, method_means}
use Rattle.tiny_rows.specs.Rows.{rows_seen}
use Rattle.tiny_members.specs.declared.references.MemberRef.{MemberRef}
use Rattle.tiny_members.specs.Rows.{token_seen, field_type_in, method_type_in, field_ref_of, method_ref_of, field_ref_seen, method_ref_seen}
use Rattle.set_names.specs.Names.{seen_all}
use Rattle.set_table.specs.declared.subject.Subject.{Subject}
use Rattle.set_table.specs.Subject.{IsSubject, class_in}
use Rattle.set_binding.specs.Searched.{IsSearched}

-- ---- a signature that isn't told is no member's

and_false : (b : Bool) → (b && false) ≡ false
and_false true = refl
and_false false = refl

find_none : {A : Type 0} (test : A → Bool) (xs : List A) → ((x : A) → test x ≡ false) → find test xs ≡ None
find_none test [] h = refl
find_none test (x ∷ xs) h = ap (λ b. cond b (Some x) (find test xs)) (h x) ∙ find_none test xs h

none_some : {A B : Type 0} (look : A → Option B) (xs : List A) → ((x : A) → look x ≡ None) → first_some look xs ≡ None
none_some look [] h = refl
none_some look (x ∷ xs) h = ap (λ o. or_else o (first_some look xs)) (h x) ∙ none_some look xs h

no_type : (o : Option SigType) → field_signature_eq o None ≡ false
no_type None = refl
no_type (Some t) = refl

no_signature : (o : Option Signature) → method_signature_eq o None ≡ false
no_signature None = refl
no_signature (Some s) = refl

pub no_field : (cs : Classes) (c : Id) (name : List ℕ) → find_field cs c name None ≡ None
no_field cs c name =
    none_some (λ d. find (is_field_named name None) (fields_of cs d)) (chain cs c)
    (λ d. find_none (is_field_named name None) (fields_of cs d) (λ f. ap (λ b. same_text f.name name && b) (no_type f.signature) ∙ and_false (same_text f.name name)))

pub no_method : (cs : Classes) (c : Id) (name : List ℕ) → find_method cs c name None ≡ None
no_method cs c name =
    none_some (λ d. find (is_named name None) (methods_of cs d)) (chain cs c)
    (λ d. find_none (is_named name None) (methods_of cs d) (λ m. ap (λ b. same_text m.name name && b) (no_signature m.signature) ∙ and_false (same_text m.name name)))

none_on : {A B : Type 0} (o : Option A) (f : A → Option B) → ((x : A) → f x ≡ None) → on_some o f ≡ None
none_on None f h = refl
none_on (Some x) f h = h x

module _ (s : Subject) (is : IsSubject s) (n : ℕ) where
  abbrev ps : List Assembly
  ps = seen_all s.names.now

  abbrev k : ℕ
  k = size_of ps

  abbrev file : ℕ
  file = s.tokens.file

  -- ---- fields

  abbrev field_from : FieldRefRow → Option Id
  field_from r = on_some (resolve k ps file r.parent) (λ c. option_map (λ m. m.id) (find_field (classes_of k ps) c r.name (expanded k ps file r.signature)))

  field_row : resolve_field k ps file (Reference n) ≡ on_some (slice_get (rows_seen s.image.now).field_refs n) field_from
  field_row = ap (λ o. on_some o (λ (p : Assembly). on_some (slice_get p.field_refs n) field_from)) is.here

  pub no_field_ref : None ≡ slice_get (rows_seen s.image.now).field_refs n → None ≡ resolve_field k ps file (Reference n)
  no_field_ref e = sym (field_row ∙ ap (λ o. on_some o field_from) (sym e))

  module _ (r : MemberRef) (at : field_ref_seen s.image.now r ≡ slice_get (rows_seen s.image.now).field_refs n) where
    abbrev by_type : Option SigType → Option Id
    by_type t = on_some (resolve k ps file (token_seen r.parent)) (λ c. option_map (λ m. m.id) (find_field (classes_of k ps) c r.name.now t))

    field_told_so : resolve_field k ps file (Reference n) ≡ by_type (field_told s.tokens r.signature.now)
    field_told_so = field_row ∙ ap (λ o. on_some o field_from) (sym at) ∙ go (field_type_in s.image.now r.signature.now) (field_means s.image.now k ps s.tokens is.tokens r.signature.now)
      where
        go : (raw : Option RawType) → field_told s.tokens r.signature.now ≡ on_some raw (expanded k ps file) → on_some (option_map (field_ref_of r) raw) field_from ≡ by_type (field_told s.tokens r.signature.now)
        go None told = sym (ap by_type told ∙ none_on (resolve k ps file (token_seen r.parent)) (λ c. option_map (λ m. m.id) (find_field (classes_of k ps) c r.name.now None)) (λ c. ap (option_map (λ (m : OwnField). m.id)) (no_field (classes_of k ps) c r.name.now)))
        go (Some raw) told = sym (ap by_type told)

    pub field_of_none : None ≡ class_in s (token_seen r.parent) → None ≡ resolve_field k ps file (Reference n)
    field_of_none e = sym (field_told_so ∙ ap (λ o. on_some o (λ c. option_map (λ m. m.id) (find_field (classes_of k ps) c r.name.now (field_told s.tokens r.signature.now)))) (sym e))

    pub field_untold : None ≡ field_told s.tokens r.signature.now → None ≡ resolve_field k ps file (Reference n)
    field_untold e = sym (field_told_so ∙ ap by_type (sym e) ∙ none_on (resolve k ps file (token_seen r.parent)) (λ c. option_map (λ m. m.id) (find_field (classes_of k ps) c r.name.now None)) (λ c. ap (option_map (λ (m : OwnField). m.id)) (no_field (classes_of k ps) c r.name.now)))

    pub field_found : (index : Indexed) → IsSearched Field ps index → (c : ClassId) (of : TypeKey) → Some (class_seen c) ≡ class_in s (token_seen r.parent) → Some (type_seen of) ≡ field_told s.tokens r.signature.now
        → option_map (λ m. m.id) (find_field (classes_seen index.table) (class_seen c) r.name.now (Some (type_seen of))) ≡ resolve_field k ps file (Reference n)
    field_found index searched c of e f =
        ap (λ cs. option_map (λ m. m.id) (find_field cs (class_seen c) r.name.now (Some (type_seen of)))) searched.classes
        ∙ sym (field_told_so ∙ ap by_type (sym f) ∙ ap (λ o. on_some o (λ d. option_map (λ m. m.id) (find_field (classes_of k ps) d r.name.now (Some (type_seen of))))) (sym e))

  -- ---- methods

  abbrev method_from : MethodRefRow → Option Id
  method_from r = on_some (resolve k ps file r.parent) (λ c. option_map (λ m. m.id) (find_method (classes_of k ps) c r.name (expanded_signature k ps file r.signature)))

  method_row : resolve_method k ps file (Reference n) ≡ on_some (slice_get (rows_seen s.image.now).method_refs n) method_from
  method_row = ap (λ o. on_some o (λ (p : Assembly). on_some (slice_get p.method_refs n) method_from)) is.here

  pub no_method_ref : None ≡ slice_get (rows_seen s.image.now).method_refs n → None ≡ resolve_method k ps file (Reference n)
  no_method_ref e = sym (method_row ∙ ap (λ o. on_some o method_from) (sym e))

  module _ (r : MemberRef) (at : method_ref_seen s.image.now r ≡ slice_get (rows_seen s.image.now).method_refs n) where
    abbrev by_signature : Option Signature → Option Id
    by_signature t = on_some (resolve k ps file (token_seen r.parent)) (λ c. option_map (λ m. m.id) (find_method (classes_of k ps) c r.name.now t))

    method_told_so : resolve_method k ps file (Reference n) ≡ by_signature (method_told s.tokens r.signature.now)
    method_told_so = method_row ∙ ap (λ o. on_some o method_from) (sym at) ∙ go (method_type_in s.image.now r.signature.now) (method_means s.image.now k ps s.tokens is.tokens r.signature.now)
      where
        go : (raw : Option RawSignature) → method_told s.tokens r.signature.now ≡ on_some raw (expanded_signature k ps file) → on_some (option_map (method_ref_of r) raw) method_from ≡ by_signature (method_told s.tokens r.signature.now)
        go None told = sym (ap by_signature told ∙ none_on (resolve k ps file (token_seen r.parent)) (λ c. option_map (λ m. m.id) (find_method (classes_of k ps) c r.name.now None)) (λ c. ap (option_map (λ (m : OwnMethod). m.id)) (no_method (classes_of k ps) c r.name.now)))
        go (Some raw) told = sym (ap by_signature told)

    pub method_of_none : None ≡ class_in s (token_seen r.parent) → None ≡ resolve_method k ps file (Reference n)
    method_of_none e = sym (method_told_so ∙ ap (λ o. on_some o (λ c. option_map (λ m. m.id) (find_method (classes_of k ps) c r.name.now (method_told s.tokens r.signature.now)))) (sym e))

    pub method_untold : None ≡ method_told s.tokens r.signature.now → None ≡ resolve_method k ps file (Reference n)
    method_untold e = sym (method_told_so ∙ ap by_signature (sym e) ∙ none_on (resolve k ps file (token_seen r.parent)) (λ c. option_map (λ m. m.id) (find_method (classes_of k ps) c r.name.now None)) (λ c. ap (option_map (λ (m : OwnMethod). m.id)) (no_method (classes_of k ps) c r.name.now)))

    pub method_found : (index : Indexed) → IsSearched Method ps index → (c : ClassId) (of : SignatureKey) → Some (class_seen c) ≡ class_in s (token_seen r.parent) → Some (signature_seen of) ≡ method_told s.tokens r.signature.now
        → option_map (λ m. m.id) (find_method (classes_seen index.table) (class_seen c) r.name.now (Some (signature_seen of))) ≡ resolve_method k ps file (Reference n)
    method_found index searched c of e f =
        ap (λ cs. option_map (λ m. m.id) (find_method cs (class_seen c) r.name.now (Some (signature_seen of)))) searched.classes
        ∙ sym (method_told_so ∙ ap by_signature (sym f) ∙ ap (λ o. on_some o (λ d. option_map (λ m. m.id) (find_method (classes_of k ps) d r.name.now (Some (signature_seen of))))) (sym e))
