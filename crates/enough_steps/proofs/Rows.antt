-- Where references name the same in two numbers of steps, signatures and rows of types are the same.
use Rattle.std.proofs.Common.{◌≡◌, ℕ, List, Option, Some, None, refl, ap, ◌∙◌}
use Rattle.std.specs.Prelude.{slice_get}
use Rattle.std.specs.List.{filter_map}
use Rattle.std.specs.Option.{option_map}
use Rattle.std.proofs.Math.Path.{fun_ext}
use Rattle.machine.specs.Data.{Id}
use Rattle.machine.specs.Throw.{on_some}
use Rattle.classes.specs.Classes.{SigType, ClassToken, ValueToken, ArraySig, SigPlace, Direct, ByRef, Signature, OwnField, OwnMethod, Class, Classes}
use Rattle.assemblies.specs.Rows.{TypeToken, TypeDef, TypeRef, TypeSpec, RawType, RawSpelt, RawClass, RawValue, RawArray, RawPlace, RawDirect, RawByRef, RawSignature, TypeRow, FieldRow, MethodRow, Assembly}
use Rattle.assemblies.specs.Binding.{id_at, resolve_ref, resolve, both_some, all_some, expanded, expanded_place, expanded_result, expanded_signature, own_field, own_method, numbered, range, class_with, class_at, method_owner, field_owner, library, classes_of}

-- the same classes, with another number of steps
abbrev pub sized : ℕ → Classes → Classes
sized n cs = record cs { size = n }

module _ (k m : ℕ) (ps : List Assembly) (same : (f n : ℕ) → resolve_ref k ps f n ≡ resolve_ref m ps f n) where
  resolve_at : (f : ℕ) (t : TypeToken) → resolve k ps f t ≡ resolve m ps f t
  resolve_at f (TypeDef n) = refl
  resolve_at f (TypeRef n) = same f n
  resolve_at f (TypeSpec n) = refl

  pub resolve_same : (f : ℕ) → resolve k ps f ≡ resolve m ps f
  resolve_same f = fun_ext (resolve_at f)

  expanded_at : (f : ℕ) (s : RawType) → expanded k ps f s ≡ expanded m ps f s
  expanded_at f (RawSpelt e) = refl
  expanded_at f (RawClass t) = ap (option_map ClassToken) (resolve_at f t)
  expanded_at f (RawValue t) = ap (option_map ValueToken) (resolve_at f t)
  expanded_at f (RawArray s) = ap (option_map ArraySig) (expanded_at f s)

  pub expanded_same : (f : ℕ) → expanded k ps f ≡ expanded m ps f
  expanded_same f = fun_ext (expanded_at f)

  place_at : (f : ℕ) (x : RawPlace) → expanded_place k ps f x ≡ expanded_place m ps f x
  place_at f (RawDirect s) = ap (option_map Direct) (expanded_at f s)
  place_at f (RawByRef s) = ap (option_map ByRef) (expanded_at f s)

  result_at : (f : ℕ) (o : Option RawType) → expanded_result k ps f o ≡ expanded_result m ps f o
  result_at f None = refl
  result_at f (Some s) = ap (option_map Some) (expanded_at f s)

  signature_at : (f : ℕ) (s : RawSignature) → expanded_signature k ps f s ≡ expanded_signature m ps f s
  signature_at f s =
      let make : Option SigType → List SigPlace → Signature = λ r p. record { has_this = s.has_this; returns = r; parameters = p } in
      ap (λ o. both_some make o (all_some (expanded_place k ps f) s.parameters)) (result_at f s.returns)
      ∙ ap (λ g. both_some make (expanded_result m ps f s.returns) (all_some g s.parameters)) (fun_ext (place_at f))

  pub signature_same : (f : ℕ) → expanded_signature k ps f ≡ expanded_signature m ps f
  signature_same f = fun_ext (signature_at f)

  field_same : (f : ℕ) → own_field k ps f ≡ own_field m ps f
  field_same f = fun_ext (λ n. fun_ext (λ (x : FieldRow). ap (λ s. record { id = id_at f n; name = x.name; signature = s; kind = x.kind }) (expanded_at f x.signature)))

  method_same : (f : ℕ) → own_method k ps f ≡ own_method m ps f
  method_same f = fun_ext (λ n. fun_ext (λ (x : MethodRow). ap (λ s. record (own_method m ps f n x) { signature = s }) (signature_at f x.signature)))

  class_row : (f : ℕ) (p : Assembly) (t : TypeRow) → class_with k ps f p t ≡ class_with m ps f p t
  class_row f p t =
      let make : (TypeToken → Option Id) → (ℕ → FieldRow → OwnField) → (ℕ → MethodRow → OwnMethod) → Class = λ r x y.
      record (class_with m ps f p t) {
        superclass = on_some t.extends r;
        interfaces = filter_map r t.interfaces;
        fields = numbered x t.first_field (range t.first_field t.field_count p.fields);
        methods = numbered y t.first_method (range t.first_method t.method_count p.methods);
      } in
      ap (λ r. make r (own_field k ps f) (own_method k ps f)) (resolve_same f)
      ∙ (ap (λ x. make (resolve m ps f) x (own_method k ps f)) (field_same f)
      ∙ ap (make (resolve m ps f) (own_field m ps f)) (method_same f))

  class_same : class_at k ps ≡ class_at m ps
  class_same = fun_ext (λ c. ap (λ g. on_some (slice_get ps c.file) (λ p. option_map (g p) (slice_get p.types c.row))) (fun_ext (λ p. fun_ext (class_row c.file p))))

  pub classes_same : classes_of k ps ≡ sized k (classes_of m ps)
  classes_same = ap (λ g. record { size = k; class = g; method_owner = method_owner ps; field_owner = field_owner ps; library = library ps }) class_same
