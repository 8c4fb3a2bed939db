-- What is said of each name is carried on, and where types, signatures and references are told, what they name resolves.
use Rattle.std.proofs.Common.{◌≡◌, ℕ, zero, suc, true, List, [], ◌∷◌, Option, Some, None, refl, sym, ap, ◌∙◌}
use Rattle.std.specs.Prelude.{slice_get}
use Rattle.std.specs.Option.{option_map}
use Rattle.std.specs.List.{find}
use Rattle.std.proofs.lemmas.Bool.{and_parts}
use Rattle.machine.specs.Data.{Id}
use Rattle.machine.specs.Texts.{same_text}
use Rattle.machine.specs.Throw.{on_some}
use Rattle.classes.specs.Classes.{SigType, ClassToken, ValueToken, ArraySig, SigPlace, Direct, ByRef, Signature, OwnField, OwnMethod, Classes}
use Rattle.classes.specs.Queries.{field_signature_eq, method_signature_eq, is_field_named, is_named, fields_of, methods_of, chain, find_field, find_method}
use Rattle.class_rules.proofs.Slots.{found, first_found}
use Rattle.assemblies.specs.Rows.{TypeToken, MemberToken, Reference, Scope, OfAssembly, Inside, Nowhere, RawType, RawSpelt, RawClass, RawValue, RawArray, RawPlace, RawDirect, RawByRef, RawSignature, TypeRefRow, FieldRefRow, MethodRefRow, RawOperand, RawNothing, RawNumber, RawTargets, RawTypeOf, RawField, RawMethod, RawText, RawLine, RawKind, RawCatch, RawFinally, RawOther, RawClause, RawCode, Assembly}
use Rattle.assemblies.specs.Binding.{type_in, in_scope, resolve_ref, resolve, both_some, all_some, expanded, expanded_place, expanded_result, expanded_signature, classes_of, resolve_field, resolve_method}
use Rattle.assemblies.specs.Closed.{Each}
use Rattle.assemblies.proofs.Binds.{on_some_back, map_back}
use Rattle.kept_closure.specs.Named.{Stands, InOption, InType, InPlace, InSignature, InKind, InClause, InOperand, InLine, InCode}
use Rattle.kept_closure.specs.Kept.{NamesClass}

-- ---- what is said of each name is carried on

pub each_map : {A : Type 0} (P Q : A → Type 0) → ((x : A) → P x → Q x) → (xs : List A) → Each P xs → Each Q xs
each_map P Q f [] p = tt
each_map P Q f (x ∷ xs) p = (f x p.0, each_map P Q f xs p.1)

pub each_by : {A : Type 0} (P : A → Type 0) (xs : List A) → ((i : ℕ) (x : A) → slice_get xs i ≡ Some x → P x) → Each P xs
each_by P [] f = tt
each_by P (x ∷ xs) f = (f 0 x refl, each_by P xs (λ i y e. f (suc i) y e))

pub option_carried : {A : Type 0} (P Q : A → Type 0) → ((x : A) → P x → Q x) → (o : Option A) → InOption P o → InOption Q o
option_carried P Q f None p = tt
option_carried P Q f (Some x) p = f x p

module _ (T U : TypeToken → Type 0) (f : (t : TypeToken) → T t → U t) where
  pub type_carried : (s : RawType) → InType T s → InType U s
  type_carried (RawSpelt e) p = tt
  type_carried (RawClass t) p = f t p
  type_carried (RawValue t) p = f t p
  type_carried (RawArray s) p = type_carried s p

  place_carried : (s : RawPlace) → InPlace T s → InPlace U s
  place_carried (RawDirect s) p = type_carried s p
  place_carried (RawByRef s) p = type_carried s p

  pub signature_carried : (s : RawSignature) → InSignature T s → InSignature U s
  signature_carried s p = (option_carried (InType T) (InType U) type_carried s.returns p.0, each_map (InPlace T) (InPlace U) place_carried s.parameters p.1)

  kind_carried : (k : RawKind) → InKind T k → InKind U k
  kind_carried (RawCatch t) p = f t p
  kind_carried RawFinally p = tt
  kind_carried RawOther p = tt

  clause_carried : (c : RawClause) → InClause T c → InClause U c
  clause_carried c p = kind_carried c.kind p

  module _ (O P : TypeToken → Type 0) (g : (t : TypeToken) → O t → P t) (M N F G : MemberToken → Type 0) (h : (t : MemberToken) → M t → N t) (i : (t : MemberToken) → F t → G t) where
    operand_carried : (o : RawOperand) → InOperand O M F o → InOperand P N G o
    operand_carried RawNothing p = tt
    operand_carried (RawNumber n) p = tt
    operand_carried (RawTargets to) p = tt
    operand_carried (RawTypeOf t) p = g t p
    operand_carried (RawField t) p = i t p
    operand_carried (RawMethod t) p = h t p
    operand_carried (RawText units) p = tt

    line_carried : (l : RawLine) → InLine O M F l → InLine P N G l
    line_carried l p = operand_carried l.operand p

    pub code_carried : (c : RawCode) → InCode T O M F c → InCode U P N G c
    code_carried c p =
        (each_map (InType T) (InType U) type_carried c.locals p.0, each_map (InClause T) (InClause U) clause_carried c.clauses p.1, each_map (InLine O M F) (InLine P N G) line_carried c.lines p.2)

-- ---- signatures that are told

both_there : {A B C : Type 0} (make : A → B → C) (a : Option A) (b : Option B) (z : C) → both_some make a b ≡ Some z → (x : A) × (y : B) × (a ≡ Some x) × (b ≡ Some y)
both_there make (Some x) (Some y) z e = (x, y, refl, refl)
both_there make (Some x) None z e = absurd (cc e)
both_there make None None z e = absurd (cc e)
both_there make None (Some y) z e = absurd (cc e)

module _ (size : ℕ) (ps : List Assembly) (f : ℕ) where
  abbrev Names : TypeToken → Type 0
  Names t = NamesClass size ps f t

  pub type_named : (s : RawType) (t : SigType) → expanded size ps f s ≡ Some t → InType Names s
  type_named (RawSpelt e) t h = tt
  type_named (RawClass k) t h = let c = map_back ClassToken (resolve size ps f k) t h in (c.0, c.1)
  type_named (RawValue k) t h = let c = map_back ValueToken (resolve size ps f k) t h in (c.0, c.1)
  type_named (RawArray s) t h = let c = map_back ArraySig (expanded size ps f s) t h in type_named s c.0 c.1

  place_named : (s : RawPlace) (t : SigPlace) → expanded_place size ps f s ≡ Some t → InPlace Names s
  place_named (RawDirect s) t h = let c = map_back Direct (expanded size ps f s) t h in type_named s c.0 c.1
  place_named (RawByRef s) t h = let c = map_back ByRef (expanded size ps f s) t h in type_named s c.0 c.1

  places_named : (ss : List RawPlace) (ts : List SigPlace) → all_some (expanded_place size ps f) ss ≡ Some ts → Each (InPlace Names) ss
  places_named [] ts h = tt
  places_named (s ∷ ss) ts h =
      let b = both_there (λ y ys. y ∷ ys) (expanded_place size ps f s) (all_some (expanded_place size ps f) ss) ts h in
      (place_named s b.0 b.2, places_named ss b.1 b.3)

  result_named : (s : Option RawType) (t : Option SigType) → expanded_result size ps f s ≡ Some t → InOption (InType Names) s
  result_named None t h = tt
  result_named (Some s) t h = let c = map_back Some (expanded size ps f s) t h in type_named s c.0 c.1

  pub signature_named : (s : RawSignature) (t : Signature) → expanded_signature size ps f s ≡ Some t → InSignature Names s
  signature_named s t h =
      let make : Option SigType → List SigPlace → Signature = λ r p. record { has_this = s.has_this; returns = r; parameters = p } in
      let b = both_there make (expanded_result size ps f s.returns) (all_some (expanded_place size ps f) s.parameters) t h in
      (result_named s.returns b.0 b.2, places_named s.parameters b.1 b.3)

-- ---- what is found by a signature has one

field_signed : (a b : Option SigType) → field_signature_eq a b ≡ true → (t : SigType) × (b ≡ Some t)
field_signed (Some s) (Some t) e = (t, refl)
field_signed (Some s) None e = absurd (cc e)
field_signed None b e = absurd (cc e)

method_signed : (a b : Option Signature) → method_signature_eq a b ≡ true → (t : Signature) × (b ≡ Some t)
method_signed (Some s) (Some t) e = (t, refl)
method_signed (Some s) None e = absurd (cc e)
method_signed None b e = absurd (cc e)

module _ (cs : Classes) (c : Id) (name : List ℕ) where
  field_by : (s : Option SigType) (x : OwnField) → find_field cs c name s ≡ Some x → (t : SigType) × (s ≡ Some t)
  field_by s x e =
      let a = first_found (λ d. find (is_field_named name s) (fields_of cs d)) (chain cs c) x e in
      let b = found (is_field_named name s) (fields_of cs a.1) x a.3 in
      field_signed x.signature s (and_parts (same_text x.name name) (field_signature_eq x.signature s) b.2).1

  method_by : (s : Option Signature) (x : OwnMethod) → find_method cs c name s ≡ Some x → (t : Signature) × (s ≡ Some t)
  method_by s x e =
      let a = first_found (λ d. find (is_named name s) (methods_of cs d)) (chain cs c) x e in
      let b = found (is_named name s) (methods_of cs a.1) x a.3 in
      method_signed x.signature s (and_parts (same_text x.name name) (method_signature_eq x.signature s) b.2).1

-- ---- references that resolve

-- with one more scope allowed
pub one_more : (ps : List Assembly) (j f n : ℕ) (c : Id) → resolve_ref j ps f n ≡ Some c → resolve_ref (suc j) ps f n ≡ Some c
one_more ps zero f n c e = absurd (cc e)
one_more ps (suc j) f n c e =
    let w = on_some_back (slice_get ps f) (λ (p : Assembly). on_some (slice_get p.refs n) (λ r. in_scope ps f (resolve_ref j ps f) r r.scope)) c e in
    let v = on_some_back (slice_get w.0.refs n) (λ r. in_scope ps f (resolve_ref j ps f) r r.scope) c w.2 in
    ap (λ o. on_some o (λ (p : Assembly). on_some (slice_get p.refs n) (λ r. in_scope ps f (resolve_ref (suc j) ps f) r r.scope))) w.1
    ∙ ap (λ o. on_some o (λ r. in_scope ps f (resolve_ref (suc j) ps f) r r.scope)) v.1
    ∙ scoped v.0 v.0.scope v.2 (λ m o t. one_more ps j f m o t)
  where
    scoped : (r : TypeRefRow) (s : Scope) → in_scope ps f (resolve_ref j ps f) r s ≡ Some c → ((m : ℕ) (o : Id) → resolve_ref j ps f m ≡ Some o → resolve_ref (suc j) ps f m ≡ Some o) → in_scope ps f (resolve_ref (suc j) ps f) r s ≡ Some c
    scoped r (OfAssembly b) t more = t
    scoped r (Inside m) t more =
        let o = on_some_back (resolve_ref j ps f m) (λ (d : Id). type_in ps d.file (Some d.row) r) c t in
        ap (λ x. on_some x (λ (d : Id). type_in ps d.file (Some d.row) r)) (more m o.0 o.1) ∙ o.2
    scoped r Nowhere t more = absurd (cc t)

module _ (size : ℕ) (ps : List Assembly) (f n : ℕ) (p : Assembly) where
  pub field_ref_named : (r : FieldRefRow) (c : Id) → Stands ps (λ q. q.field_refs) f n p r → resolve_field size ps f (Reference n) ≡ Some c → NamesClass size ps f r.parent × InType (NamesClass size ps f) r.signature
  field_ref_named r c s e =
      let by : FieldRefRow → Option Id = λ r. on_some (resolve size ps f r.parent) (λ d. option_map (λ (x : OwnField). x.id) (find_field (classes_of size ps) d r.name (expanded size ps f r.signature))) in
      let here : on_some (slice_get ps f) (λ (q : Assembly). on_some (slice_get q.field_refs n) by) ≡ by r = ap (λ o. on_some o (λ (q : Assembly). on_some (slice_get q.field_refs n) by)) s.0 ∙ ap (λ o. on_some o by) s.1 in
      let d = on_some_back (resolve size ps f r.parent) (λ d. option_map (λ (x : OwnField). x.id) (find_field (classes_of size ps) d r.name (expanded size ps f r.signature))) c (sym here ∙ e) in
      let x = map_back (λ (x : OwnField). x.id) (find_field (classes_of size ps) d.0 r.name (expanded size ps f r.signature)) c d.2 in
      let t = field_by (classes_of size ps) d.0 r.name (expanded size ps f r.signature) x.0 x.1 in
      ((d.0, d.1), type_named size ps f r.signature t.0 t.1)

  pub method_ref_named : (r : MethodRefRow) (c : Id) → Stands ps (λ q. q.method_refs) f n p r → resolve_method size ps f (Reference n) ≡ Some c → NamesClass size ps f r.parent × InSignature (NamesClass size ps f) r.signature
  method_ref_named r c s e =
      let by : MethodRefRow → Option Id = λ r. on_some (resolve size ps f r.parent) (λ d. option_map (λ (x : OwnMethod). x.id) (find_method (classes_of size ps) d r.name (expanded_signature size ps f r.signature))) in
      let here : on_some (slice_get ps f) (λ (q : Assembly). on_some (slice_get q.method_refs n) by) ≡ by r = ap (λ o. on_some o (λ (q : Assembly). on_some (slice_get q.method_refs n) by)) s.0 ∙ ap (λ o. on_some o by) s.1 in
      let d = on_some_back (resolve size ps f r.parent) (λ d. option_map (λ (x : OwnMethod). x.id) (find_method (classes_of size ps) d r.name (expanded_signature size ps f r.signature))) c (sym here ∙ e) in
      let x = map_back (λ (x : OwnMethod). x.id) (find_method (classes_of size ps) d.0 r.name (expanded_signature size ps f r.signature)) c d.2 in
      let t = method_by (classes_of size ps) d.0 r.name (expanded_signature size ps f r.signature) x.0 x.1 in
      ((d.0, d.1), signature_named size ps f r.signature t.0 t.1)
