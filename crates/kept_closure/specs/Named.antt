-- What the rows of assemblies name: something is said of each scope, type, method and field that a row has as scope, parent, superclass,
-- interface or enclosing type, in its signature, or in its code.
use Rattle.std.specs.Prelude.{◌≡◌, ℕ, true, List, Option, Some, None, slice_get}
use Rattle.assemblies.specs.Rows.{TypeToken, MemberToken, Scope, RawType, RawSpelt, RawClass, RawValue, RawArray, RawPlace, RawDirect, RawByRef, RawSignature, TypeRefRow, FieldRefRow, MethodRefRow, TypeRow, FieldRow, RawOperand, RawNothing, RawNumber, RawTargets, RawTypeOf, RawField, RawMethod, RawText, RawLine, RawKind, RawCatch, RawFinally, RawOther, RawClause, RawCode, MethodRow, Assembly}
use Rattle.assemblies.specs.Chosen.{Choice}
use Rattle.assemblies.specs.Closed.{Each}

-- row n of a table of assembly f
abbrev pub Stands : {A : Type 0} → List Assembly → (Assembly → List A) → ℕ → ℕ → Assembly → A → Type 0
Stands ps table f n p x = (slice_get ps f ≡ Some p) × (slice_get (table p) n ≡ Some x)

abbrev pub InOption : {A : Type 0} → (A → Type 0) → Option A → Type 0
InOption P None = Unit {0}
InOption P (Some x) = P x

module _ (T : TypeToken → Type 0) where
  abbrev pub InType : RawType → Type 0
  InType (RawSpelt e) = Unit {0}
  InType (RawClass t) = T t
  InType (RawValue t) = T t
  InType (RawArray s) = InType s

  abbrev pub InPlace : RawPlace → Type 0
  InPlace (RawDirect s) = InType s
  InPlace (RawByRef s) = InType s

  abbrev pub InSignature : RawSignature → Type 0
  InSignature s = InOption InType s.returns × Each InPlace s.parameters

  abbrev pub InKind : RawKind → Type 0
  InKind (RawCatch t) = T t
  InKind RawFinally = Unit {0}
  InKind RawOther = Unit {0}

  abbrev pub InClause : RawClause → Type 0
  InClause c = InKind c.kind

-- of the types that stand as operands apart, since these may be specifications
module _ (O : TypeToken → Type 0) (M F : MemberToken → Type 0) where
  abbrev pub InOperand : RawOperand → Type 0
  InOperand RawNothing = Unit {0}
  InOperand (RawNumber n) = Unit {0}
  InOperand (RawTargets to) = Unit {0}
  InOperand (RawTypeOf t) = O t
  InOperand (RawField t) = F t
  InOperand (RawMethod t) = M t
  InOperand (RawText units) = Unit {0}

  abbrev pub InLine : RawLine → Type 0
  InLine l = InOperand l.operand

-- types of locals and classes of clauses, operands
abbrev pub InCode : (TypeToken → Type 0) → (TypeToken → Type 0) → (MemberToken → Type 0) → (MemberToken → Type 0) → RawCode → Type 0
InCode T O M F c = Each (InType T) c.locals × Each (InClause T) c.clauses × Each (InLine O M F) c.lines

-- of all rows of a choice, by assembly
pub record EachName (ps : List Assembly) (rows : ℕ → Choice) (S : ℕ → Scope → Type 0) (E : ℕ → ℕ → Type 0) (T O : ℕ → TypeToken → Type 0) (M F : ℕ → MemberToken → Type 0) : Type 0 where
  pub refs : (f n : ℕ) (p : Assembly) (r : TypeRefRow) → Stands ps (λ q. q.refs) f n p r → (rows f).refs n ≡ true → S f r.scope
  pub field_refs : (f n : ℕ) (p : Assembly) (r : FieldRefRow) → Stands ps (λ q. q.field_refs) f n p r → (rows f).field_refs n ≡ true → T f r.parent × InType (T f) r.signature
  pub method_refs : (f n : ℕ) (p : Assembly) (r : MethodRefRow) → Stands ps (λ q. q.method_refs) f n p r → (rows f).method_refs n ≡ true → T f r.parent × InSignature (T f) r.signature
  pub types : (f n : ℕ) (p : Assembly) (t : TypeRow) → Stands ps (λ q. q.types) f n p t → (rows f).types n ≡ true → InOption (E f) t.enclosing × InOption (T f) t.extends × Each (T f) t.interfaces
  pub fields : (f n : ℕ) (p : Assembly) (x : FieldRow) → Stands ps (λ q. q.fields) f n p x → (rows f).fields n ≡ true → InType (T f) x.signature
  pub methods : (f n : ℕ) (p : Assembly) (m : MethodRow) → Stands ps (λ q. q.methods) f n p m → (rows f).methods n ≡ true → InSignature (T f) m.signature × InOption (InCode (T f) (O f) (M f) (F f)) m.code
  pub specs : (f n : ℕ) (p : Assembly) (s : RawType) → Stands ps (λ q. q.specs) f n p s → (rows f).specs n ≡ true → InType (T f) s
