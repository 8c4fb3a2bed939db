-- Where the names of types, fields, methods and code resolve, the rows that resolve are all that may be kept.
use Rattle.std.proofs.Common.{◌≡◌, ℕ, zero, suc, Bool, true, false, List, Option, Some, None, refl, sym, ap, ◌∙◌, subst}
use Rattle.std.specs.Prelude.{not, is_some, slice_get}
use Rattle.std.specs.Option.{option_map}
use Rattle.std.specs.List.{position}
use Rattle.machine.specs.Data.{Id}
use Rattle.machine.specs.Throw.{on_some}
use Rattle.classes.specs.Classes.{SigType, ClassToken}
use Rattle.class_rules.specs.Rules.{holds_some}
use Rattle.class_rules.proofs.Kept.{holds_inv}
use Rattle.assemblies.specs.Rows.{TypeToken, TypeDef, TypeRef, TypeSpec, MemberToken, Own, Reference, Scope, OfAssembly, Inside, Nowhere, RawType, TypeRefRow, FieldRefRow, MethodRefRow, TypeRow, FieldRow, MethodRow, Assembly}
use Rattle.assemblies.specs.Binding.{id_at, same_assembly, first_number, assembly_of, type_in, in_scope, resolve_ref, resolve, expanded, resolve_method, resolve_field, method_owner, field_owner, operand_type, holds}
use Rattle.assemblies.specs.Chosen.{Choice}
use Rattle.assemblies.specs.Closed.{Each}
use Rattle.assemblies.proofs.Binds.{on_some_back, map_back}
use Rattle.kept_closure.specs.Named.{Stands, InOption, InType, InSignature, InCode}
use Rattle.kept_closure.specs.Kept.{HasType, HasScope, HasRow, HasMethod, HasField, HasNamed, is_literal, HasAll, NamesClass, NamesOperand, NamesRow, NamesMethod, NamesField, Resolves}
use Rattle.kept_closure.proofs.ClosedLaws.{ref_row}
use Rattle.kept_rules.specs.Row.{Row, AssemblyRefAt, TypeRefAt, FieldRefAt, MethodRefAt, TypeAt, FieldAt, MethodAt, SpecAt, marks}
use Rattle.kept_rules.specs.Rules.{MembersStand}
use Rattle.kept_numbers.specs.Numbers.{IsThere}
use Rattle.rows_resolved.specs.Resolved.{is_variable, resolved_rows}
use Rattle.rows_resolved.proofs.Named.{each_map, option_carried, type_carried, signature_carried, code_carried, type_named, one_more, field_ref_named, method_ref_named}

some_there : {A : Type 0} (o : Option A) → is_some o ≡ true → (x : A) × (o ≡ Some x)
some_there None e = absurd (cc e)
some_there (Some x) e = (x, refl)

no_literal : (b : Bool) → not b ≡ true → b ≡ false
no_literal true e = absurd (cc e)
no_literal false e = refl

module _ (size : ℕ) (ps : List Assembly) where
  abbrev all : ℕ → Choice
  all = resolved_rows size ps

  -- ---- the rows are there

  row_of : {A : Type 0} (table : Assembly → List A) (f n : ℕ) (x : A) → on_some (slice_get ps f) (λ p. slice_get (table p) n) ≡ Some x → (p : Assembly) × Stands ps table f n p x
  row_of table f n x e = let p = on_some_back (slice_get ps f) (λ p. slice_get (table p) n) x e in (p.0, (p.1, p.2))

  -- a field that isn't literal
  pub variable_row : (c : Id) → is_variable ps c ≡ true → (p : Assembly) × ((x : FieldRow) × Stands ps (λ q. q.fields) c.file c.row p x × (is_literal x.kind ≡ false))
  variable_row c e =
      let x = holds_inv (on_some (slice_get ps c.file) (λ (p : Assembly). slice_get p.fields c.row)) (λ (x : FieldRow). not (is_literal x.kind)) e in
      let p = row_of (λ q. q.fields) c.file c.row x.0 x.1 in
      (p.0, (x.0, p.1, no_literal (is_literal x.0.kind) x.2))

  pub there : (r : Row) → marks all r ≡ true → IsThere ps r
  there (AssemblyRefAt f n) e =
      let a = some_there (assembly_of ps f n) e in
      let p = on_some_back (slice_get ps f) (λ (p : Assembly). on_some (slice_get p.assemblies n) (λ x. first_number (same_assembly x) ps)) a.0 a.1 in
      let x = on_some_back (slice_get p.0.assemblies n) (λ x. first_number (same_assembly x) ps) a.0 p.2 in
      (p.0, (x.0, (p.1, x.1)))
  there (TypeRefAt f n) e = let c = some_there (resolve_ref size ps f n) e in ref_row ps size f n c.0 c.1
  there (FieldRefAt f n) e =
      let c = holds_inv (resolve_field size ps f (Reference n)) (is_variable ps) e in
      let p = on_some_back (slice_get ps f) _ c.0 c.1 in
      let x = on_some_back (slice_get p.0.field_refs n) _ c.0 p.2 in
      (p.0, (x.0, (p.1, x.1)))
  there (MethodRefAt f n) e =
      let c = some_there (resolve_method size ps f (Reference n)) e in
      let p = on_some_back (slice_get ps f) _ c.0 c.1 in
      let x = on_some_back (slice_get p.0.method_refs n) _ c.0 p.2 in
      (p.0, (x.0, (p.1, x.1)))
  there (TypeAt f n) e =
      let x = some_there (on_some (slice_get ps f) (λ (p : Assembly). slice_get p.types n)) e in
      let p = row_of (λ q. q.types) f n x.0 x.1 in
      (p.0, (x.0, p.1))
  there (FieldAt f n) e = let x = variable_row (id_at f n) e in (x.0, (x.1.0, x.1.1))
  there (MethodAt f n) e =
      let x = some_there (on_some (slice_get ps f) (λ (p : Assembly). slice_get p.methods n)) e in
      let p = row_of (λ q. q.methods) f n x.0 x.1 in
      (p.0, (x.0, p.1))
  there (SpecAt f n) e =
      let t = some_there (operand_type size ps f (TypeSpec n)) e in
      let p = on_some_back (slice_get ps f) (λ (p : Assembly). on_some (slice_get p.specs n) (expanded size ps f)) t.0 t.1 in
      let x = on_some_back (slice_get p.0.specs n) (expanded size ps f) t.0 p.2 in
      (p.0, (x.0, (p.1, x.1)))

  -- ---- what resolves is among the rows

  has_class : (f : ℕ) (t : TypeToken) → NamesClass size ps f t → HasType (all f) t
  has_class f (TypeDef n) (c, e) =
      let p = on_some_back (slice_get ps f) (λ (p : Assembly). option_map (λ (t : TypeRow). id_at f n) (slice_get p.types n)) c e in
      let t = map_back (λ (t : TypeRow). id_at f n) (slice_get p.0.types n) c p.2 in
      ap (λ o. is_some (on_some o (λ (p : Assembly). slice_get p.types n))) p.1 ∙ ap is_some t.1
  has_class f (TypeRef n) (c, e) = ap is_some e
  has_class f (TypeSpec n) (c, e) = absurd (cc e)

  abbrev pub NamesType : ℕ → TypeToken → Type 0
  NamesType f t = (s : SigType) × (operand_type size ps f t ≡ Some s)

  class_of_type : (f : ℕ) (t : TypeToken) → option_map ClassToken (resolve size ps f t) ≡ operand_type size ps f t → NamesType f t → NamesClass size ps f t
  class_of_type f t same (s, e) = let c = map_back ClassToken (resolve size ps f t) s (same ∙ e) in (c.0, c.1)

  has_type : (f : ℕ) (t : TypeToken) → NamesType f t → HasType (all f) t
  has_type f (TypeDef n) k = has_class f (TypeDef n) (class_of_type f (TypeDef n) refl k)
  has_type f (TypeRef n) k = has_class f (TypeRef n) (class_of_type f (TypeRef n) refl k)
  has_type f (TypeSpec n) (s, e) = ap is_some e

  operand_of : (f : ℕ) (t : TypeToken) → NamesType f t → NamesOperand size ps f t
  operand_of f (TypeDef n) k = class_of_type f (TypeDef n) refl k
  operand_of f (TypeRef n) k = class_of_type f (TypeRef n) refl k
  operand_of f (TypeSpec n) (s, e) =
      let p = on_some_back (slice_get ps f) (λ (p : Assembly). on_some (slice_get p.specs n) (expanded size ps f)) s e in
      let x = on_some_back (slice_get p.0.specs n) (expanded size ps f) s p.2 in
      (p.0, (x.0, (p.1, x.1)))

  has_method : (f : ℕ) (t : MemberToken) → NamesMethod size ps f t → HasMethod (all f) t
  has_method f (Own n) (c, e) =
      let o = map_back (λ (owner : Id). id_at f n) (method_owner ps (id_at f n)) c e in
      let p = on_some_back (slice_get ps f) (λ (p : Assembly). on_some (slice_get p.methods n) (λ x. option_map (id_at f) (position (λ (t : TypeRow). holds t.first_method t.method_count n) p.types))) o.0 o.1 in
      let x = on_some_back (slice_get p.0.methods n) (λ x. option_map (id_at f) (position (λ (t : TypeRow). holds t.first_method t.method_count n) p.0.types)) o.0 p.2 in
      ap (λ o. is_some (on_some o (λ (p : Assembly). slice_get p.methods n))) p.1 ∙ ap is_some x.1
  has_method f (Reference n) (c, e) = ap is_some e

  abbrev pub NamesVariable : ℕ → MemberToken → Type 0
  NamesVariable f t = (c : Id) × (resolve_field size ps f t ≡ Some c) × (is_variable ps c ≡ true)

  has_field : (f : ℕ) (t : MemberToken) → NamesVariable f t → HasField (all f) t
  has_field f (Own n) (c, e, v) =
      let o = map_back (λ (owner : Id). id_at f n) (field_owner ps (id_at f n)) c e in
      ap (is_variable ps) o.2 ∙ v
  has_field f (Reference n) (c, e, v) = ap (λ o. holds_some o (is_variable ps)) e ∙ v

  has_row : (f n : ℕ) → NamesRow size ps f n → HasRow (all f) n
  has_row f n (p, (t, s)) = ap (λ o. is_some (on_some o (λ (p : Assembly). slice_get p.types n))) s.0 ∙ ap is_some s.1

  -- ---- what is left to the verdict

  pub record Means : Type 0 where
    pub types : (f n : ℕ) (p : Assembly) (t : TypeRow) → Stands ps (λ q. q.types) f n p t → InOption (NamesRow size ps f) t.enclosing × InOption (NamesClass size ps f) t.extends × Each (NamesClass size ps f) t.interfaces
    pub fields : (f n : ℕ) (p : Assembly) (x : FieldRow) → Stands ps (λ q. q.fields) f n p x → InType (NamesClass size ps f) x.signature
    pub signatures : (f n : ℕ) (p : Assembly) (m : MethodRow) → Stands ps (λ q. q.methods) f n p m → InSignature (NamesClass size ps f) m.signature
    pub codes : (f n : ℕ) (p : Assembly) (m : MethodRow) → Stands ps (λ q. q.methods) f n p m → InOption (InCode (NamesClass size ps f) (NamesType f) (NamesMethod size ps f) (NamesVariable f)) m.code
    pub entry : (f n : ℕ) (p : Assembly) → slice_get ps f ≡ Some p → p.entry ≡ Some n → (m : MethodRow) × (slice_get p.methods n ≡ Some m)

  -- a specification
  spec_named : (f n : ℕ) (p : Assembly) (s : RawType) → Stands ps (λ q. q.specs) f n p s → (all f).specs n ≡ true → InType (NamesClass size ps f) s
  spec_named f n p s at e =
      let t = some_there (operand_type size ps f (TypeSpec n)) e in
      type_named size ps f s t.0 (sym (ap (λ o. on_some o (λ (p : Assembly). on_some (slice_get p.specs n) (expanded size ps f))) at.0 ∙ ap (λ o. on_some o (expanded size ps f)) at.1) ∙ t.1)

  field_refs_named : (f n : ℕ) (p : Assembly) (r : FieldRefRow) → Stands ps (λ q. q.field_refs) f n p r → (all f).field_refs n ≡ true → NamesClass size ps f r.parent × InType (NamesClass size ps f) r.signature
  field_refs_named f n p r s e = let c = holds_inv (resolve_field size ps f (Reference n)) (is_variable ps) e in field_ref_named size ps f n p r c.0 s c.1

  method_refs_named : (f n : ℕ) (p : Assembly) (r : MethodRefRow) → Stands ps (λ q. q.method_refs) f n p r → (all f).method_refs n ≡ true → NamesClass size ps f r.parent × InSignature (NamesClass size ps f) r.signature
  method_refs_named f n p r s e = let c = some_there (resolve_method size ps f (Reference n)) e in method_ref_named size ps f n p r c.0 s c.1

  -- the scope of a reference that resolves
  has_scope : (j f n : ℕ) (c : Id) (p : Assembly) (r : TypeRefRow) → ((m : ℕ) (d : Id) → resolve_ref j ps f m ≡ Some d → resolve_ref size ps f m ≡ Some d) → Stands ps (λ q. q.refs) f n p r → resolve_ref (suc j) ps f n ≡ Some c → HasScope (all f) r.scope
  has_scope j f n c p r more s e = by r.scope (sym (ap (λ o. on_some o (λ (q : Assembly). on_some (slice_get q.refs n) (λ r. in_scope ps f (resolve_ref j ps f) r r.scope))) s.0 ∙ ap (λ o. on_some o (λ r. in_scope ps f (resolve_ref j ps f) r r.scope)) s.1) ∙ e)
    where
      by : (z : Scope) → in_scope ps f (resolve_ref j ps f) r z ≡ Some c → HasScope (all f) z
      by (OfAssembly b) h = let a = on_some_back (assembly_of ps f b) (λ g. type_in ps g None r) c h in ap is_some a.1
      by (Inside m) h = let d = on_some_back (resolve_ref j ps f m) (λ (d : Id). type_in ps d.file (Some d.row) r) c h in ap is_some (more m d.0 d.1)
      by Nowhere h = tt

  refs_scoped : (f n : ℕ) (p : Assembly) (r : TypeRefRow) → Stands ps (λ q. q.refs) f n p r → (all f).refs n ≡ true → HasScope (all f) r.scope
  refs_scoped f n p r s e = let c = some_there (resolve_ref size ps f n) e in by size refl c.0 c.1
    where
      by : (k : ℕ) → size ≡ k → (c : Id) → resolve_ref k ps f n ≡ Some c → HasScope (all f) r.scope
      by zero same c h = absurd (cc h)
      by (suc j) same c h = has_scope j f n c p r (λ m d g. subst (λ z. resolve_ref z ps f m ≡ Some d) (sym same) (one_more ps j f m d g)) s h

  module _ (means : Means) where
    pub all_resolve : Resolves size ps all
    all_resolve =
        record {
          refs = λ f n p r s e. some_there (resolve_ref size ps f n) e;
          named =
              record {
                refs = λ f n p r s e. tt;
                field_refs = field_refs_named;
                method_refs = method_refs_named;
                types = λ f n p t s e. means.types f n p t s;
                fields = λ f n p x s e. means.fields f n p x s;
                methods = λ f n p m s e. (means.signatures f n p m s, option_carried (InCode (NamesClass size ps f) (NamesType f) (NamesMethod size ps f) (NamesVariable f)) (InCode (NamesClass size ps f) (NamesOperand size ps f) (NamesMethod size ps f) (NamesField size ps f)) (code_carried (NamesClass size ps f) (NamesClass size ps f) (λ t k. k) (NamesType f) (NamesOperand size ps f) (operand_of f) (NamesMethod size ps f) (NamesMethod size ps f) (NamesVariable f) (NamesField size ps f) (λ t k. k) (λ t k. (k.0, k.1))) m.code (means.codes f n p m s));
                specs = spec_named;
              };
          entry = means.entry;
        }

    pub members_stand : MembersStand size ps all
    members_stand =
        record {
          fields = λ f n c e h. let d = holds_inv (resolve_field size ps f (Reference n)) (is_variable ps) e in (let same : d.0 ≡ c = (let both : Some d.0 ≡ Some c = sym d.1 ∙ h in cc both) in variable_row c (ap (is_variable ps) (sym same) ∙ d.2));
          entry = means.entry;
        }

    has_named : HasNamed ps all
    has_named =
        record {
          refs = refs_scoped;
          field_refs = λ f n p r s e. let k = field_refs_named f n p r s e in (has_class f r.parent k.0, type_carried (NamesClass size ps f) (HasType (all f)) (has_class f) r.signature k.1);
          method_refs = λ f n p r s e. let k = method_refs_named f n p r s e in (has_class f r.parent k.0, signature_carried (NamesClass size ps f) (HasType (all f)) (has_class f) r.signature k.1);
          types = λ f n p t s e. let k = means.types f n p t s in (option_carried (NamesRow size ps f) (HasRow (all f)) (has_row f) t.enclosing k.0, option_carried (NamesClass size ps f) (HasType (all f)) (has_class f) t.extends k.1, each_map (NamesClass size ps f) (HasType (all f)) (has_class f) t.interfaces k.2);
          fields = λ f n p x s e. type_carried (NamesClass size ps f) (HasType (all f)) (has_class f) x.signature (means.fields f n p x s);
          methods = λ f n p m s e. (signature_carried (NamesClass size ps f) (HasType (all f)) (has_class f) m.signature (means.signatures f n p m s), option_carried (InCode (NamesClass size ps f) (NamesType f) (NamesMethod size ps f) (NamesVariable f)) (InCode (HasType (all f)) (HasType (all f)) (HasMethod (all f)) (HasField (all f))) (code_carried (NamesClass size ps f) (HasType (all f)) (has_class f) (NamesType f) (HasType (all f)) (has_type f) (NamesMethod size ps f) (HasMethod (all f)) (NamesVariable f) (HasField (all f)) (has_method f) (has_field f)) m.code (means.codes f n p m s));
          specs = λ f n p s at e. type_carried (NamesClass size ps f) (HasType (all f)) (has_class f) s (spec_named f n p s at e);
        }

    pub has_all : HasAll ps all
    has_all =
        record {
          types = λ f n p t s. ap (λ o. is_some (on_some o (λ (p : Assembly). slice_get p.types n))) s.0 ∙ ap is_some s.1;
          methods = λ f n p m s. ap (λ o. is_some (on_some o (λ (p : Assembly). slice_get p.methods n))) s.0 ∙ ap is_some s.1;
          fields = λ f n p x s k. ap (λ o. holds_some (on_some o (λ (p : Assembly). slice_get p.fields n)) (λ (x : FieldRow). not (is_literal x.kind))) s.0 ∙ (ap (λ o. holds_some o (λ (x : FieldRow). not (is_literal x.kind))) s.1 ∙ ap not k);
          named = has_named;
        }
