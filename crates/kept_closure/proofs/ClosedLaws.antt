-- A closed set of rows holds together, where names resolve.
use Rattle.std.proofs.Common.{◌≡◌, ⊎_elim, ℕ, zero, suc, ◌≤◌, true, List, [], ◌∷◌, Option, Some, None, sym, ap, ◌∙◌, subst, arith}
use Rattle.std.specs.Prelude.{slice_get}
use Rattle.std.proofs.lemmas.Bool.{cases_lt}
use Rattle.machine.specs.Data.{Id}
use Rattle.machine.specs.Throw.{on_some}
use Rattle.assemblies.specs.Rows.{TypeToken, TypeDef, TypeRef, TypeSpec, MemberToken, Own, Reference, Scope, OfAssembly, Inside, Nowhere, RawType, RawSpelt, RawClass, RawValue, RawArray, RawPlace, RawDirect, RawByRef, RawSignature, TypeRefRow, RawOperand, RawNothing, RawNumber, RawTargets, RawTypeOf, RawField, RawMethod, RawText, RawKind, RawCatch, RawFinally, RawOther, RawCode, Assembly}
use Rattle.assemblies.specs.Binding.{type_in, in_scope, resolve_ref}
use Rattle.assemblies.specs.Chosen.{Choice}
use Rattle.assemblies.specs.Closed.{Each, KeptToken, Names, TypeNames, PlaceNames, ResultNames, SignatureNames, OperandNames, MethodNames, FieldNames, OperandHolds, LineHolds, KindNames, ClauseHolds, CodeHolds, Closed}
use Rattle.assemblies.proofs.Binds.{on_some_back}
use Rattle.kept_closure.specs.Named.{Stands, InOption, InType, InPlace, InSignature, InKind, InClause, InOperand, InLine, InCode}
use Rattle.kept_closure.specs.Kept.{IsWithin, HasType, HasScope, HasRow, HasMethod, HasField, HasAll, Keeps, IsClosed, NamesClass, NamesOperand, NamesMethod, NamesField, Resolves, TargetsLead, LineLeads, ClauseLeads, CodeLeads, PlacesLead}

both : {A : Type 0} (P Q R : A → Type 0) → ((x : A) → P x → Q x → R x) → (xs : List A) → Each P xs → Each Q xs → Each R xs
both P Q R f [] p q = tt
both P Q R f (x ∷ xs) p q = (f x p.0 q.0, both P Q R f xs p.1 q.1)

-- with more scopes allowed
more_scopes : (ps : List Assembly) (j l f n : ℕ) (c : Id) → j ≤ l → resolve_ref j ps f n ≡ Some c → resolve_ref l ps f n ≡ Some c
more_scopes ps zero l f n c h e = absurd (cc e)
more_scopes ps (suc j) zero f n c h e = absurd (omega (arith, h))
more_scopes ps (suc j) (suc l) f n c h e =
    let w = on_some_back (slice_get ps f) (λ (p : Assembly). on_some (slice_get p.refs n) (λ r. in_scope ps f (resolve_ref j ps f) r r.scope)) c e in
    let v = on_some_back (slice_get w.0.refs n) (λ r. in_scope ps f (resolve_ref j ps f) r r.scope) c w.2 in
    ap (λ o. on_some o (λ (p : Assembly). on_some (slice_get p.refs n) (λ r. in_scope ps f (resolve_ref l ps f) r r.scope))) w.1
    ∙ ap (λ o. on_some o (λ r. in_scope ps f (resolve_ref l ps f) r r.scope)) v.1
    ∙ scoped v.0 v.0.scope v.2 (λ m o t. more_scopes ps j l f m o (omega (arith, h)) t)
  where
    scoped : (r : TypeRefRow) (s : Scope) → in_scope ps f (resolve_ref j ps f) r s ≡ Some c → ((m : ℕ) (o : Id) → resolve_ref j ps f m ≡ Some o → resolve_ref l ps f m ≡ Some o) → in_scope ps f (resolve_ref l ps f) r s ≡ Some c
    scoped r (OfAssembly b) t ih = t
    scoped r (Inside m) t ih =
        let o = on_some_back (resolve_ref j ps f m) (λ (d : Id). type_in ps d.file (Some d.row) r) c t in
        ap (λ x. on_some x (λ (d : Id). type_in ps d.file (Some d.row) r)) (ih m o.0 o.1) ∙ o.2
    scoped r Nowhere t ih = absurd (cc t)

-- the row of a reference that resolves
pub ref_row : (ps : List Assembly) (j f n : ℕ) (c : Id) → resolve_ref j ps f n ≡ Some c → (p : Assembly) × ((r : TypeRefRow) × Stands ps (λ q. q.refs) f n p r)
ref_row ps zero f n c e = absurd (cc e)
ref_row ps (suc j) f n c e =
    let w = on_some_back (slice_get ps f) (λ (p : Assembly). on_some (slice_get p.refs n) (λ r. in_scope ps f (resolve_ref j ps f) r r.scope)) c e in
    let v = on_some_back (slice_get w.0.refs n) (λ r. in_scope ps f (resolve_ref j ps f) r r.scope) c w.2 in
    (w.0, (v.0, (w.1, v.1)))

module _ (size : ℕ) (ps : List Assembly) (all keep : ℕ → Choice) (has : HasAll ps all) (there : Resolves size ps all) (closed : IsClosed size ps keep) (leads : PlacesLead ps keep) where
  abbrev keeps : Keeps size ps keep
  keeps = closed.keeps

  abbrev within : IsWithin keep all
  within = closed.within all has

  -- ---- a token that is kept and that resolves

  token : (f : ℕ) (t : TypeToken) → HasType (keep f) t → KeptToken size keep ps f t
  token f (TypeDef n) k = k
  token f (TypeRef n) k = k
  token f (TypeSpec n) k = k

  names : (f : ℕ) (t : TypeToken) → HasType (keep f) t → NamesClass size ps f t → Names size keep ps f t
  names f t k r = (token f t k, r)

  type_names : (f : ℕ) (s : RawType) → InType (HasType (keep f)) s → InType (NamesClass size ps f) s → TypeNames size keep ps f s
  type_names f (RawSpelt e) k r = tt
  type_names f (RawClass t) k r = names f t k r
  type_names f (RawValue t) k r = names f t k r
  type_names f (RawArray s) k r = type_names f s k r

  place_names : (f : ℕ) (s : RawPlace) → InPlace (HasType (keep f)) s → InPlace (NamesClass size ps f) s → PlaceNames size keep ps f s
  place_names f (RawDirect s) k r = type_names f s k r
  place_names f (RawByRef s) k r = type_names f s k r

  result_names : (f : ℕ) (s : Option RawType) → InOption (InType (HasType (keep f))) s → InOption (InType (NamesClass size ps f)) s → ResultNames size keep ps f s
  result_names f None k r = tt
  result_names f (Some s) k r = type_names f s k r

  signature_names : (f : ℕ) (s : RawSignature) → InSignature (HasType (keep f)) s → InSignature (NamesClass size ps f) s → SignatureNames size keep ps f s
  signature_names f s k r = (result_names f s.returns k.0 r.0, both (InPlace (HasType (keep f))) (InPlace (NamesClass size ps f)) (PlaceNames size keep ps f) (place_names f) s.parameters k.1 r.1)

  operand_names : (f : ℕ) (t : TypeToken) → HasType (keep f) t → NamesOperand size ps f t → OperandNames size keep ps f t
  operand_names f (TypeDef n) k r = names f (TypeDef n) k r
  operand_names f (TypeRef n) k r = names f (TypeRef n) k r
  operand_names f (TypeSpec n) k r =
      (k, (r.0, (r.1.0, r.1.1.0, r.1.1.1, type_names f r.1.0 (keeps.named.specs f n r.0 r.1.0 r.1.1 k) (there.named.specs f n r.0 r.1.0 r.1.1 (within.specs f n k)))))

  method_names : (f : ℕ) (t : MemberToken) → HasMethod (keep f) t → NamesMethod size ps f t → MethodNames size keep ps f t
  method_names f (Own n) k r = (k, r)
  method_names f (Reference n) k r = (k, r)

  field_names : (f : ℕ) (t : MemberToken) → HasField (keep f) t → NamesField size ps f t → FieldNames size keep ps f t
  field_names f (Own n) k r = (k, r)
  field_names f (Reference n) k r = (k, r)

  -- ---- code

  operand_holds : (f n : ℕ) (o : RawOperand) → InOperand (HasType (keep f)) (HasMethod (keep f)) (HasField (keep f)) o → InOperand (NamesOperand size ps f) (NamesMethod size ps f) (NamesField size ps f) o → TargetsLead keep f n o → OperandHolds size keep ps f n o
  operand_holds f n RawNothing k r l = tt
  operand_holds f n (RawNumber z) k r l = tt
  operand_holds f n (RawTargets to) k r l = l
  operand_holds f n (RawTypeOf t) k r l = operand_names f t k r
  operand_holds f n (RawField t) k r l = field_names f t k r
  operand_holds f n (RawMethod t) k r l = method_names f t k r
  operand_holds f n (RawText units) k r l = tt

  kind_names : (f : ℕ) (c : RawKind) → InKind (HasType (keep f)) c → InKind (NamesClass size ps f) c → KindNames size keep ps f c
  kind_names f (RawCatch t) k r = names f t k r
  kind_names f RawFinally k r = tt
  kind_names f RawOther k r = tt

  code_holds : (f n : ℕ) (c : RawCode) → InCode (HasType (keep f)) (HasType (keep f)) (HasMethod (keep f)) (HasField (keep f)) c → InCode (NamesClass size ps f) (NamesOperand size ps f) (NamesMethod size ps f) (NamesField size ps f) c → CodeLeads keep f n c → CodeHolds size keep ps f n (Some c)
  code_holds f n c k r l = (
    both (InType (HasType (keep f))) (InType (NamesClass size ps f)) (TypeNames size keep ps f) (type_names f) c.locals k.0 r.0,
    both (λ x. InClause (HasType (keep f)) x × InClause (NamesClass size ps f) x) (ClauseLeads keep f n) (ClauseHolds size keep ps f n) (λ x h m. (kind_names f x.kind h.0 h.1, m.0, m.1, m.2, m.3)) c.clauses
        (both (InClause (HasType (keep f))) (InClause (NamesClass size ps f)) (λ x. InClause (HasType (keep f)) x × InClause (NamesClass size ps f) x) (λ x a b. (a, b)) c.clauses k.1 r.1) l.0,
    both (λ x. InLine (HasType (keep f)) (HasMethod (keep f)) (HasField (keep f)) x × InLine (NamesOperand size ps f) (NamesMethod size ps f) (NamesField size ps f) x) (LineLeads keep f n) (LineHolds size keep ps f n) (λ x h m. (m.0, m.1, operand_holds f n x.operand h.0 h.1 m.2)) c.lines
        (both (InLine (HasType (keep f)) (HasMethod (keep f)) (HasField (keep f))) (InLine (NamesOperand size ps f) (NamesMethod size ps f) (NamesField size ps f)) (λ x. InLine (HasType (keep f)) (HasMethod (keep f)) (HasField (keep f)) x × InLine (NamesOperand size ps f) (NamesMethod size ps f) (NamesField size ps f) x) (λ x a b. (a, b)) c.lines k.2 r.2) l.1,
  )

  method_code : (f n : ℕ) (c : Option RawCode) → InOption (InCode (HasType (keep f)) (HasType (keep f)) (HasMethod (keep f)) (HasField (keep f))) c → InOption (InCode (NamesClass size ps f) (NamesOperand size ps f) (NamesMethod size ps f) (NamesField size ps f)) c → InOption (CodeLeads keep f n) c → CodeHolds size keep ps f n c
  method_code f n None k r l = tt
  method_code f n (Some c) k r l = code_holds f n c k r l

  -- ---- definitions of references, with any number of scopes

  defined : (j f n : ℕ) (c : Id) → (keep f).refs n ≡ true → resolve_ref j ps f n ≡ Some c → (keep c.file).types c.row ≡ true
  defined j f n c k e =
      let w = ref_row ps j f n c e in
      let d = there.refs f n w.0 w.1.0 w.1.1 (within.refs f n k) in
      ⊎_elim
      (λ lt. keeps.defined f n c k (more_scopes ps j size f n c (omega (arith, lt)) e))
      (λ le.
      let same : d.0 ≡ c = cc (sym (more_scopes ps size j f n d.0 le d.1) ∙ e) in
      subst (λ (x : Id). (keep x.file).types x.row ≡ true) same (keeps.defined f n d.0 k d.1))
      (cases_lt j size)

  in_some : {A : Type 0} (P : A → Type 0) (o : Option A) (x : A) → o ≡ Some x → InOption P o → P x
  in_some P o x e h = subst (InOption P) e h

  pub closed_law : Closed size keep ps
  closed_law =
      record {
        of_assembly = λ f n p r a at row k s. subst (HasScope (keep f)) s (keeps.named.refs f n p r (at, row) k);
        inside = λ f n p r m at row k s. subst (HasScope (keep f)) s (keeps.named.refs f n p r (at, row) k);
        defined = defined;
        field_ref = λ f n p r at row k.
            let h = keeps.named.field_refs f n p r (at, row) k in
            let g = there.named.field_refs f n p r (at, row) (within.field_refs f n k) in
            (names f r.parent h.0 g.0, type_names f r.signature h.1 g.1);
        method_ref = λ f n p r at row k.
            let h = keeps.named.method_refs f n p r (at, row) k in
            let g = there.named.method_refs f n p r (at, row) (within.method_refs f n k) in
            (names f r.parent h.0 g.0, signature_names f r.signature h.1 g.1);
        field_defined = keeps.field_defined;
        method_defined = keeps.method_defined;
        outer = λ f n p t m at row k e.
            let h = in_some (HasRow (keep f)) t.enclosing m e (keeps.named.types f n p t (at, row) k).0 in
            let g = in_some (λ x. (q : Assembly) × ((u : _) × Stands ps (λ q. q.types) f x q u)) t.enclosing m e (there.named.types f n p t (at, row) (within.types f n k)).0 in
            let same : g.0 ≡ p = cc (sym g.1.1.0 ∙ at) in
            (h, (g.1.0, ap (λ (q : Assembly). slice_get q.types m) (sym same) ∙ g.1.1.1));
        extends = λ f n p t x at row k e. names f x (in_some (HasType (keep f)) t.extends x e (keeps.named.types f n p t (at, row) k).1) (in_some (NamesClass size ps f) t.extends x e (there.named.types f n p t (at, row) (within.types f n k)).1);
        interfaces = λ f n p t at row k. both (HasType (keep f)) (NamesClass size ps f) (Names size keep ps f) (names f) t.interfaces (keeps.named.types f n p t (at, row) k).2 (there.named.types f n p t (at, row) (within.types f n k)).2;
        instance = λ f n i p t x at row. keeps.instance f n i p t x (at, row);
        initialiser = λ f n i p t m at row. keeps.initialiser f n i p t m (at, row);
        field = λ f n p x at row k. type_names f x.signature (keeps.named.fields f n p x (at, row) k) (there.named.fields f n p x (at, row) (within.fields f n k));
        field_type = keeps.field_type;
        method = λ f n p m at row k.
            let h = keeps.named.methods f n p m (at, row) k in
            let g = there.named.methods f n p m (at, row) (within.methods f n k) in
            (signature_names f m.signature h.0 g.0, method_code f n m.code h.1 g.1 (leads f n p m (at, row) k));
        method_type = keeps.method_type;
        entry = λ f n p at e. keeps.roots.entry f n p at e;
      }
