-- All that rows name is among those of a choice, told of each row that is named, or of their list.
use Rattle.std.proofs.Common.{◌≡◌, ℕ, zero, suc, true, List, [], ◌∷◌, ◌++◌, Option, Some, None, refl, ap, ◌∙◌, subst}
use Rattle.std.specs.Prelude.{slice_get, unwrap_or}
use Rattle.std.specs.List.{flat_map}
use Rattle.std.specs.Option.{option_map}
use Rattle.machine.specs.Throw.{on_some}
use Rattle.assemblies.specs.Rows.{TypeToken, TypeDef, TypeRef, TypeSpec, MemberToken, Own, Reference, Scope, OfAssembly, Inside, Nowhere, RawType, RawSpelt, RawClass, RawValue, RawArray, RawPlace, RawDirect, RawByRef, RawSignature, RawOperand, RawNothing, RawNumber, RawTargets, RawTypeOf, RawField, RawMethod, RawText, RawLine, RawKind, RawCatch, RawFinally, RawOther, RawClause, RawCode, MethodRow, Assembly}
use Rattle.assemblies.specs.Chosen.{Choice}
use Rattle.assemblies.specs.Closed.{Each}
use Rattle.kept_closure.specs.Named.{Stands, InOption, InType, InPlace, InSignature, InKind, InClause, InOperand, InLine, InCode}
use Rattle.kept_closure.specs.Kept.{HasType, HasScope, HasRow, HasMethod, HasField, HasNamed}
use Rattle.kept_rules.specs.Row.{Row, AssemblyRefAt, TypeRefAt, FieldRefAt, MethodRefAt, TypeAt, FieldAt, MethodAt, SpecAt, marks, in_option, by_type, by_method, by_field, in_scope, in_type, in_place, in_signature, in_kind, in_operand, in_clause, in_line, in_code, of_ref, of_field_ref, of_method_ref, enclosing_row, token_row, of_type, of_field, of_method, of_row, names_of}

-- each from the other
abbrev pub Same : Type 0 → Type 0 → Type 0
Same A B = (A → B) × (B → A)

module _ (P : Row → Type 0) where
  none : Same (Unit {0}) (Each P [])
  none = ((λ u. tt), (λ u. tt))

  one : {A : Type 0} (r : Row) → Same A (P r) → Same A (Each P (r ∷ []))
  one r s = ((λ a. (s.0 a, tt)), (λ h. s.1 h.0))

  first_rest : {A B : Type 0} (r : Row) (xs : List Row) → Same A (P r) → Same B (Each P xs) → Same (A × B) (Each P (r ∷ xs))
  first_rest r xs s t = ((λ h. (s.0 h.0, t.0 h.1)), (λ h. (s.1 h.0, t.1 h.1)))

  each_join : (xs ys : List Row) → Each P xs → Each P ys → Each P (xs ++ ys)
  each_join [] ys h i = i
  each_join (x ∷ xs) ys h i = (h.0, each_join xs ys h.1 i)

  each_split : (xs ys : List Row) → Each P (xs ++ ys) → Each P xs × Each P ys
  each_split [] ys h = (tt, h)
  each_split (x ∷ xs) ys h = let w = each_split xs ys h.1 in ((h.0, w.0), w.1)

  both : {A B : Type 0} (xs ys : List Row) → Same A (Each P xs) → Same B (Each P ys) → Same (A × B) (Each P (xs ++ ys))
  both xs ys s t = ((λ h. each_join xs ys (s.0 h.0) (t.0 h.1)), (λ h. let w = each_split xs ys h in (s.1 w.0, t.1 w.1)))

  three : {A B C : Type 0} (xs ys zs : List Row) → Same A (Each P xs) → Same B (Each P ys) → Same C (Each P zs) → Same (A × B × C) (Each P (xs ++ (ys ++ zs)))
  three xs ys zs s t u = (
    (λ h. each_join xs (ys ++ zs) (s.0 h.0) (each_join ys zs (t.0 h.1) (u.0 h.2))),
    (λ h. let w = each_split xs (ys ++ zs) h in let v = each_split ys zs w.1 in (s.1 w.0, t.1 v.0, u.1 v.1)),
  )

  option : {A : Type 0} (Q : A → Type 0) (names : A → List Row) → ((x : A) → Same (Q x) (Each P (names x))) → (o : Option A) → Same (InOption Q o) (Each P (in_option names o))
  option Q names same None = none
  option Q names same (Some x) = same x

  all : {A : Type 0} (Q : A → Type 0) (names : A → List Row) → ((x : A) → Same (Q x) (Each P (names x))) → (xs : List A) → Same (Each Q xs) (Each P (flat_map names xs))
  all Q names same [] = none
  all Q names same (x ∷ xs) = both (names x) (flat_map names xs) (same x) (all Q names same xs)

  pub each_at : (xs : List Row) (i : ℕ) (r : Row) → slice_get xs i ≡ Some r → Each P xs → P r
  each_at [] i r e h = absurd (cc e)
  each_at (x ∷ xs) zero r e h = let same : x ≡ r = cc e in subst P same h.0
  each_at (x ∷ xs) (suc i) r e h = each_at xs i r e h.1

  pub each_of : (xs : List Row) → ((i : ℕ) (r : Row) → slice_get xs i ≡ Some r → P r) → Each P xs
  each_of [] h = tt
  each_of (x ∷ xs) h = (h 0 x refl, each_of xs (λ i r e. h (suc i) r e))

  -- of a row that is there, or of none
  pub each_row : {A : Type 0} (ps : List Assembly) (table : Assembly → List A) (names : A → List Row) (f n : ℕ) → ((p : Assembly) (x : A) → Stands ps table f n p x → Each P (names x)) → Each P (of_row ps table names f n)
  each_row {A} ps table names f n h = by (slice_get ps f) refl
    where
      of : (p : Assembly) → slice_get ps f ≡ Some p → (o : Option A) → slice_get (table p) n ≡ o → Each P (unwrap_or (option_map names o) [])
      of p at None e = tt
      of p at (Some x) e = h p x (at, e)

      by : (o : Option Assembly) → slice_get ps f ≡ o → Each P (unwrap_or (option_map names (on_some o (λ p. slice_get (table p) n))) [])
      by None e = tt
      by (Some p) e = of p e (slice_get (table p) n) refl

pub row_is : {A : Type 0} (ps : List Assembly) (table : Assembly → List A) (names : A → List Row) (f n : ℕ) (p : Assembly) (x : A) → Stands ps table f n p x → of_row ps table names f n ≡ names x
row_is ps table names f n p x s =
    ap (λ o. unwrap_or (option_map names (on_some o (λ p. slice_get (table p) n))) []) s.0
    ∙ ap (λ o. unwrap_or (option_map names o) []) s.1

module _ (keep : ℕ → Choice) where
  abbrev pub Kept : Row → Type 0
  Kept r = marks keep r ≡ true

  module _ (f : ℕ) where
    type_token : (t : TypeToken) → Same (HasType (keep f) t) (Kept (by_type f t))
    type_token (TypeDef n) = ((λ h. h), (λ h. h))
    type_token (TypeRef n) = ((λ h. h), (λ h. h))
    type_token (TypeSpec n) = ((λ h. h), (λ h. h))

    method_token : (t : MemberToken) → Same (HasMethod (keep f) t) (Kept (by_method f t))
    method_token (Own n) = ((λ h. h), (λ h. h))
    method_token (Reference n) = ((λ h. h), (λ h. h))

    field_token : (t : MemberToken) → Same (HasField (keep f) t) (Kept (by_field f t))
    field_token (Own n) = ((λ h. h), (λ h. h))
    field_token (Reference n) = ((λ h. h), (λ h. h))

    pub scope : (s : Scope) → Same (HasScope (keep f) s) (Each Kept (in_scope f s))
    scope (OfAssembly n) = one Kept (AssemblyRefAt f n) ((λ h. h), (λ h. h))
    scope (Inside n) = one Kept (TypeRefAt f n) ((λ h. h), (λ h. h))
    scope Nowhere = none Kept

    pub type : (s : RawType) → Same (InType (HasType (keep f)) s) (Each Kept (in_type f s))
    type (RawSpelt e) = none Kept
    type (RawClass t) = one Kept (by_type f t) (type_token t)
    type (RawValue t) = one Kept (by_type f t) (type_token t)
    type (RawArray s) = type s

    place : (s : RawPlace) → Same (InPlace (HasType (keep f)) s) (Each Kept (in_place f s))
    place (RawDirect s) = type s
    place (RawByRef s) = type s

    signature : (s : RawSignature) → Same (InSignature (HasType (keep f)) s) (Each Kept (in_signature f s))
    signature s =
        both Kept (in_option (in_type f) s.returns) (flat_map (in_place f) s.parameters)
        (option Kept (InType (HasType (keep f))) (in_type f) type s.returns)
        (all Kept (InPlace (HasType (keep f))) (in_place f) place s.parameters)

    clause : (c : RawClause) → Same (InClause (HasType (keep f)) c) (Each Kept (in_clause f c))
    clause c = go c.kind
      where
        go : (k : RawKind) → Same (InKind (HasType (keep f)) k) (Each Kept (in_kind f k))
        go (RawCatch t) = one Kept (by_type f t) (type_token t)
        go RawFinally = none Kept
        go RawOther = none Kept

    line : (l : RawLine) → Same (InLine (HasType (keep f)) (HasMethod (keep f)) (HasField (keep f)) l) (Each Kept (in_line f l))
    line l = go l.operand
      where
        go : (o : RawOperand) → Same (InOperand (HasType (keep f)) (HasMethod (keep f)) (HasField (keep f)) o) (Each Kept (in_operand f o))
        go RawNothing = none Kept
        go (RawNumber n) = none Kept
        go (RawTargets to) = none Kept
        go (RawTypeOf t) = one Kept (by_type f t) (type_token t)
        go (RawField t) = one Kept (by_field f t) (field_token t)
        go (RawMethod t) = one Kept (by_method f t) (method_token t)
        go (RawText units) = none Kept

    code : (c : RawCode) → Same (InCode (HasType (keep f)) (HasType (keep f)) (HasMethod (keep f)) (HasField (keep f)) c) (Each Kept (in_code f c))
    code c =
        three Kept (flat_map (in_type f) c.locals) (flat_map (in_clause f) c.clauses) (flat_map (in_line f) c.lines)
        (all Kept (InType (HasType (keep f))) (in_type f) type c.locals)
        (all Kept (InClause (HasType (keep f))) (in_clause f) clause c.clauses)
        (all Kept (InLine (HasType (keep f)) (HasMethod (keep f)) (HasField (keep f))) (in_line f) line c.lines)

    method : (m : MethodRow) → Same (InSignature (HasType (keep f)) m.signature × InOption (InCode (HasType (keep f)) (HasType (keep f)) (HasMethod (keep f)) (HasField (keep f))) m.code) (Each Kept (of_method f m))
    method m =
        both Kept (in_signature f m.signature) (in_option (in_code f) m.code)
        (signature m.signature)
        (option Kept (InCode (HasType (keep f)) (HasType (keep f)) (HasMethod (keep f)) (HasField (keep f))) (in_code f) code m.code)

    enclosing : (n : ℕ) → Same (HasRow (keep f) n) (Each Kept (enclosing_row f n))
    enclosing n = one Kept (TypeAt f n) ((λ h. h), (λ h. h))

    token : (t : TypeToken) → Same (HasType (keep f) t) (Each Kept (token_row f t))
    token t = one Kept (by_type f t) (type_token t)

    type_row : (o : Option ℕ) (x : Option TypeToken) (is : List TypeToken) → Same (InOption (HasRow (keep f)) o × InOption (HasType (keep f)) x × Each (HasType (keep f)) is) (Each Kept (in_option (enclosing_row f) o ++ (in_option (token_row f) x ++ flat_map (token_row f) is)))
    type_row o x is =
        three Kept (in_option (enclosing_row f) o) (in_option (token_row f) x) (flat_map (token_row f) is)
        (option Kept (HasRow (keep f)) (enclosing_row f) enclosing o)
        (option Kept (HasType (keep f)) (token_row f) token x)
        (all Kept (HasType (keep f)) (token_row f) token is)

  module _ (ps : List Assembly) where
    -- of each row that is kept, what it names is
    pub names_kept : HasNamed ps keep → (a : Row) → Kept a → Each Kept (names_of ps a)
    names_kept h (AssemblyRefAt f n) k = tt
    names_kept h (TypeRefAt f n) k = each_row Kept ps (λ p. p.refs) (of_ref f) f n (λ p r s. (scope f r.scope).0 (h.refs f n p r s k))
    names_kept h (FieldRefAt f n) k = each_row Kept ps (λ p. p.field_refs) (of_field_ref f) f n (λ p r s. (first_rest Kept (by_type f r.parent) (in_type f r.signature) (type_token f r.parent) (type f r.signature)).0 (h.field_refs f n p r s k))
    names_kept h (MethodRefAt f n) k = each_row Kept ps (λ p. p.method_refs) (of_method_ref f) f n (λ p r s. (first_rest Kept (by_type f r.parent) (in_signature f r.signature) (type_token f r.parent) (signature f r.signature)).0 (h.method_refs f n p r s k))
    names_kept h (TypeAt f n) k = each_row Kept ps (λ p. p.types) (of_type f) f n (λ p t s. (type_row f t.enclosing t.extends t.interfaces).0 (h.types f n p t s k))
    names_kept h (FieldAt f n) k = each_row Kept ps (λ p. p.fields) (of_field f) f n (λ p x s. (type f x.signature).0 (h.fields f n p x s k))
    names_kept h (MethodAt f n) k = each_row Kept ps (λ p. p.methods) (of_method f) f n (λ p m s. (method f m).0 (h.methods f n p m s k))
    names_kept h (SpecAt f n) k = each_row Kept ps (λ p. p.specs) (in_type f) f n (λ p x s. (type f x).0 (h.specs f n p x s k))

    module _ (h : (a : Row) → Kept a → Each Kept (names_of ps a)) where
      there : {A : Type 0} (table : Assembly → List A) (names : A → List Row) (f n : ℕ) (p : Assembly) (x : A) → Stands ps table f n p x → Each Kept (of_row ps table names f n) → Each Kept (names x)
      there table names f n p x s k = subst (λ xs. Each Kept xs) (row_is ps table names f n p x s) k

      pub has_named : HasNamed ps keep
      has_named = record {
        refs = λ f n p r s k. (scope f r.scope).1 (there (λ p. p.refs) (of_ref f) f n p r s (h (TypeRefAt f n) k));
        field_refs = λ f n p r s k. (first_rest Kept (by_type f r.parent) (in_type f r.signature) (type_token f r.parent) (type f r.signature)).1 (there (λ p. p.field_refs) (of_field_ref f) f n p r s (h (FieldRefAt f n) k));
        method_refs = λ f n p r s k. (first_rest Kept (by_type f r.parent) (in_signature f r.signature) (type_token f r.parent) (signature f r.signature)).1 (there (λ p. p.method_refs) (of_method_ref f) f n p r s (h (MethodRefAt f n) k));
        types = λ f n p t s k. (type_row f t.enclosing t.extends t.interfaces).1 (there (λ p. p.types) (of_type f) f n p t s (h (TypeAt f n) k));
        fields = λ f n p x s k. (type f x.signature).1 (there (λ p. p.fields) (of_field f) f n p x s (h (FieldAt f n) k));
        methods = λ f n p m s k. (method f m).1 (there (λ p. p.methods) (of_method f) f n p m s (h (MethodAt f n) k));
        specs = λ f n p x s k. (type f x).1 (there (λ p. p.specs) (in_type f) f n p x s (h (SpecAt f n) k));
      }
