-- What a choice of rows has to hold together: what a kept row names is kept, and is there.
use Rattle.std.specs.Prelude.{codes, ◌≡◌, ℕ, pos, ◌+◌, unsigned_abs, ◌&&◌, true, List, [], ◌∷◌, Option, Some, None, slice_get}
use Rattle.std.specs.List.{position}
use Rattle.machine.specs.Data.{Id}
use Rattle.classes.specs.Queries.{is_instance_kind}
use Rattle.assemblies.specs.Rows.{TypeToken, TypeDef, TypeRef, TypeSpec, MemberToken, Own, Reference, OfAssembly, Inside, RawType, RawSpelt, RawClass, RawValue, RawArray, RawPlace, RawDirect, RawByRef, RawSignature, TypeRefRow, FieldRefRow, MethodRefRow, TypeRow, FieldRow, RawOperand, RawNothing, RawNumber, RawTargets, RawTypeOf, RawField, RawMethod, RawText, RawLine, RawKind, RawCatch, RawFinally, RawOther, RawClause, RawCode, MethodRow, Assembly}
use Rattle.assemblies.specs.Binding.{resolve_ref, resolve, resolve_method, resolve_field, holds, range}
use Rattle.machine.specs.Texts.{same_text}
use Rattle.assemblies.specs.Chosen.{Choice}

abbrev pub Each : {A : Type 0} → (A → Type 0) → List A → Type 0
Each P [] = Unit {0}
Each P (x ∷ xs) = P x × Each P xs

module _ (size : ℕ) (keep : ℕ → Choice) (ps : List Assembly) where
  abbrev pub KeptToken : ℕ → TypeToken → Type 0
  KeptToken f (TypeDef n) = (keep f).types n ≡ true
  KeptToken f (TypeRef n) = (keep f).refs n ≡ true
  KeptToken f (TypeSpec n) = (keep f).specs n ≡ true

  -- a token of a class
  abbrev pub Names : ℕ → TypeToken → Type 0
  Names f t = KeptToken f t × ((c : Id) × (resolve size ps f t ≡ Some c))

  abbrev pub TypeNames : ℕ → RawType → Type 0
  TypeNames f (RawSpelt e) = Unit {0}
  TypeNames f (RawClass t) = Names f t
  TypeNames f (RawValue t) = Names f t
  TypeNames f (RawArray s) = TypeNames f s

  abbrev pub PlaceNames : ℕ → RawPlace → Type 0
  PlaceNames f (RawDirect s) = TypeNames f s
  PlaceNames f (RawByRef s) = TypeNames f s

  abbrev pub ResultNames : ℕ → Option RawType → Type 0
  ResultNames f None = Unit {0}
  ResultNames f (Some s) = TypeNames f s

  abbrev pub SignatureNames : ℕ → RawSignature → Type 0
  SignatureNames f s = ResultNames f s.returns × Each (PlaceNames f) s.parameters

  -- a type operand
  abbrev pub OperandNames : ℕ → TypeToken → Type 0
  OperandNames f (TypeDef n) = Names f (TypeDef n)
  OperandNames f (TypeRef n) = Names f (TypeRef n)
  OperandNames f (TypeSpec n) = ((keep f).specs n ≡ true) × ((p : Assembly) × ((s : RawType) × (slice_get ps f ≡ Some p) × (slice_get p.specs n ≡ Some s) × TypeNames f s))

  abbrev pub MethodNames : ℕ → MemberToken → Type 0
  MethodNames f (Own n) = ((keep f).methods n ≡ true) × ((c : Id) × (resolve_method size ps f (Own n) ≡ Some c))
  MethodNames f (Reference n) = ((keep f).method_refs n ≡ true) × ((c : Id) × (resolve_method size ps f (Reference n) ≡ Some c))

  abbrev pub FieldNames : ℕ → MemberToken → Type 0
  FieldNames f (Own n) = ((keep f).fields n ≡ true) × ((c : Id) × (resolve_field size ps f (Own n) ≡ Some c))
  FieldNames f (Reference n) = ((keep f).field_refs n ≡ true) × ((c : Id) × (resolve_field size ps f (Reference n) ≡ Some c))

  -- a place whose way to the image leads back
  abbrev pub Returns : ℕ → ℕ → ℕ → Type 0
  Returns f n at = (keep f).long n ((keep f).short n at) ≡ at

  abbrev pub OperandHolds : ℕ → ℕ → RawOperand → Type 0
  OperandHolds f n RawNothing = Unit {0}
  OperandHolds f n (RawNumber k) = Unit {0}
  OperandHolds f n (RawTargets to) = Each (λ z. Returns f n (unsigned_abs z) × (pos (unsigned_abs z) ≡ z)) to
  OperandHolds f n (RawTypeOf t) = OperandNames f t
  OperandHolds f n (RawField t) = FieldNames f t
  OperandHolds f n (RawMethod t) = MethodNames f t
  OperandHolds f n (RawText units) = Unit {0}

  abbrev pub LineHolds : ℕ → ℕ → RawLine → Type 0
  LineHolds f n l = Returns f n l.at × Returns f n l.next × OperandHolds f n l.operand

  abbrev pub KindNames : ℕ → RawKind → Type 0
  KindNames f (RawCatch t) = Names f t
  KindNames f RawFinally = Unit {0}
  KindNames f RawOther = Unit {0}

  abbrev pub ClauseHolds : ℕ → ℕ → RawClause → Type 0
  ClauseHolds f n c = KindNames f c.kind × Returns f n c.try_start × Returns f n c.try_end × Returns f n c.start × Returns f n c.end

  abbrev pub CodeHolds : ℕ → ℕ → Option RawCode → Type 0
  CodeHolds f n None = Unit {0}
  CodeHolds f n (Some c) = Each (TypeNames f) c.locals × Each (ClauseHolds f n) c.clauses × Each (LineHolds f n) c.lines

  -- of assembly f, and the row n there
  pub record Closed : Type 0 where
    -- references
    pub of_assembly : (f n : ℕ) (p : Assembly) (r : TypeRefRow) (a : ℕ) → slice_get ps f ≡ Some p → slice_get p.refs n ≡ Some r → (keep f).refs n ≡ true → r.scope ≡ OfAssembly a → (keep f).assemblies a ≡ true
    pub inside : (f n : ℕ) (p : Assembly) (r : TypeRefRow) (m : ℕ) → slice_get ps f ≡ Some p → slice_get p.refs n ≡ Some r → (keep f).refs n ≡ true → r.scope ≡ Inside m → (keep f).refs m ≡ true
    pub defined : (j f n : ℕ) (c : Id) → (keep f).refs n ≡ true → resolve_ref j ps f n ≡ Some c → (keep c.file).types c.row ≡ true
    pub field_ref : (f n : ℕ) (p : Assembly) (r : FieldRefRow) → slice_get ps f ≡ Some p → slice_get p.field_refs n ≡ Some r → (keep f).field_refs n ≡ true → Names f r.parent × TypeNames f r.signature
    pub method_ref : (f n : ℕ) (p : Assembly) (r : MethodRefRow) → slice_get ps f ≡ Some p → slice_get p.method_refs n ≡ Some r → (keep f).method_refs n ≡ true → Names f r.parent × SignatureNames f r.signature
    pub field_defined : (f n : ℕ) (c : Id) → (keep f).field_refs n ≡ true → resolve_field size ps f (Reference n) ≡ Some c → (keep c.file).fields c.row ≡ true
    pub method_defined : (f n : ℕ) (c : Id) → (keep f).method_refs n ≡ true → resolve_method size ps f (Reference n) ≡ Some c → (keep c.file).methods c.row ≡ true
    -- types
    pub outer : (f n : ℕ) (p : Assembly) (t : TypeRow) (m : ℕ) → slice_get ps f ≡ Some p → slice_get p.types n ≡ Some t → (keep f).types n ≡ true → t.enclosing ≡ Some m → ((keep f).types m ≡ true) × ((u : TypeRow) × (slice_get p.types m ≡ Some u))
    pub extends : (f n : ℕ) (p : Assembly) (t : TypeRow) (x : TypeToken) → slice_get ps f ≡ Some p → slice_get p.types n ≡ Some t → (keep f).types n ≡ true → t.extends ≡ Some x → Names f x
    pub interfaces : (f n : ℕ) (p : Assembly) (t : TypeRow) → slice_get ps f ≡ Some p → slice_get p.types n ≡ Some t → (keep f).types n ≡ true → Each (Names f) t.interfaces
    -- a type keeps its instance fields and its initialiser
    pub instance : (f n i : ℕ) (p : Assembly) (t : TypeRow) (x : FieldRow) → slice_get ps f ≡ Some p → slice_get p.types n ≡ Some t → (keep f).types n ≡ true → slice_get (range t.first_field t.field_count p.fields) i ≡ Some x → is_instance_kind x.kind ≡ true → (keep f).fields (t.first_field + i) ≡ true
    pub initialiser : (f n i : ℕ) (p : Assembly) (t : TypeRow) (m : MethodRow) → slice_get ps f ≡ Some p → slice_get p.types n ≡ Some t → (keep f).types n ≡ true → slice_get (range t.first_method t.method_count p.methods) i ≡ Some m → (m.is_static && same_text m.name (codes ".cctor")) ≡ true → (keep f).methods (t.first_method + i) ≡ true
    -- members: a kept one keeps its type
    pub field : (f n : ℕ) (p : Assembly) (x : FieldRow) → slice_get ps f ≡ Some p → slice_get p.fields n ≡ Some x → (keep f).fields n ≡ true → TypeNames f x.signature
    pub field_type : (f n k : ℕ) (p : Assembly) → slice_get ps f ≡ Some p → (keep f).fields n ≡ true → position (λ (t : TypeRow). holds t.first_field t.field_count n) p.types ≡ Some k → (keep f).types k ≡ true
    pub method : (f n : ℕ) (p : Assembly) (m : MethodRow) → slice_get ps f ≡ Some p → slice_get p.methods n ≡ Some m → (keep f).methods n ≡ true → SignatureNames f m.signature × CodeHolds f n m.code
    pub method_type : (f n k : ℕ) (p : Assembly) → slice_get ps f ≡ Some p → (keep f).methods n ≡ true → position (λ (t : TypeRow). holds t.first_method t.method_count n) p.types ≡ Some k → (keep f).types k ≡ true
    pub entry : (f n : ℕ) (p : Assembly) → slice_get ps f ≡ Some p → p.entry ≡ Some n → (keep f).methods n ≡ true
