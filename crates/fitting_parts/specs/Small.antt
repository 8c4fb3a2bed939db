-- Rows with small numbers: tokens of rows below 16,384, as the limits of an image's tables want it, and all other numbers of two bytes.
use Rattle.std.specs.Prelude.{ℕ, ◌<◌, length}
use Rattle.assemblies.specs.Rows.{Scope, OfAssembly, Inside, Nowhere, RawSignature, RawKind, RawCatch, RawFinally, RawOther, RawClause, RawCode, FieldRefRow, MethodRefRow, TypeRow, FieldRow, AssemblyRow, TypeRefRow, RawType, MethodRow, Assembly}
use Rattle.assemblies.specs.Closed.{Each}
use Rattle.kept_closure.specs.Named.{InOption, InType, InSignature}
use Rattle.image_form.specs.Form.{Manner}
use Rattle.image_form.specs.Whole.{Methods, interfaces_of, clauses_of, datas_of}
use Rattle.image_form.specs.Limits.{TypeIsSmall}

abbrev pub IsSmall : ℕ → Type 0
IsSmall n = n < 65536

abbrev pub ScopeIsSmall : Scope → Type 0
ScopeIsSmall (OfAssembly n) = n < 16384
ScopeIsSmall (Inside n) = n < 16384
ScopeIsSmall Nowhere = Unit {0}

-- ---- signatures

abbrev pub RawIsSmall : RawType → Type 0
RawIsSmall s = InType TypeIsSmall s

pub record SignatureIsSmall (s : RawSignature) : Type 0 where
  pub tokens : InSignature TypeIsSmall s
  pub parameters : IsSmall (length s.parameters)

-- ---- code

abbrev pub KindIsSmall : RawKind → Type 0
KindIsSmall (RawCatch t) = TypeIsSmall t
KindIsSmall RawFinally = Unit {0}
KindIsSmall RawOther = Unit {0}

pub record ClauseIsSmall (c : RawClause) : Type 0 where
  pub kind : KindIsSmall c.kind
  pub try_start : IsSmall c.try_start
  pub try_end : IsSmall c.try_end
  pub start : IsSmall c.start
  pub end : IsSmall c.end

pub record CodeIsSmall (c : RawCode) : Type 0 where
  pub locals : Each RawIsSmall c.locals
  pub local_count : IsSmall (length c.locals)
  pub max_stack : IsSmall c.max_stack

-- ---- rows

pub record FieldRefIsSmall (r : FieldRefRow) : Type 0 where
  pub parent : TypeIsSmall r.parent
  pub signature : RawIsSmall r.signature

pub record MethodRefIsSmall (r : MethodRefRow) : Type 0 where
  pub parent : TypeIsSmall r.parent
  pub signature : SignatureIsSmall r.signature

pub record TypeRowIsSmall (t : TypeRow) : Type 0 where
  pub enclosing : InOption IsSmall t.enclosing
  pub extends : InOption TypeIsSmall t.extends
  pub first_field : IsSmall t.first_field
  pub field_count : IsSmall t.field_count
  pub first_method : IsSmall t.first_method
  pub method_count : IsSmall t.method_count

pub record MethodIsSmall (m : MethodRow) : Type 0 where
  pub signature : SignatureIsSmall m.signature
  pub code : InOption CodeIsSmall m.code

-- ---- all rows of an assembly; there are few interfaces, clauses and data

pub record HasSmallNumbers (p : Assembly) (ms : Methods) : Type 0 where
  pub version : Each IsSmall p.version
  pub entry : InOption IsSmall p.entry
  pub versions : Each (λ (a : AssemblyRow). Each IsSmall a.version) p.assemblies
  pub refs : Each (λ (r : TypeRefRow). ScopeIsSmall r.scope) p.refs
  pub field_refs : Each FieldRefIsSmall p.field_refs
  pub method_refs : Each MethodRefIsSmall p.method_refs
  pub types : Each TypeRowIsSmall p.types
  pub interfaces : Each TypeIsSmall (interfaces_of p)
  pub interface_count : IsSmall (length (interfaces_of p))
  pub fields : Each (λ (x : FieldRow). RawIsSmall x.signature) p.fields
  pub data_count : IsSmall (length (datas_of p))
  pub methods : Each (λ (x : Manner × MethodRow). MethodIsSmall x.1) ms
  pub clauses : Each ClauseIsSmall (clauses_of ms)
  pub clause_count : IsSmall (length (clauses_of ms))
  pub specs : Each RawIsSmall p.specs
