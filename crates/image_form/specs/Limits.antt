-- What is asked of the rows of an assembly, so that its image is seen as them: the limits, tokens that name rows, texts in UTF-8,
-- signatures of the form, clauses that nest, and code by opcodes of the table.
use Rattle.std.specs.Prelude.{◌≡◌, ℕ, ◌+◌, ◌<◌, ◌≤◌, Bool, true, false, nat_eq, nat_lt, if◌then◌else◌, List, [], ◌∷◌, map, length, Option, Some, None}
use Rattle.std.specs.Str.{is_utf8}
use Rattle.std.specs.Int.{w8, w32, w64}
use Rattle.cil_opcodes.specs.declared.shape.Operand.{Operand}
use Rattle.cil_opcodes.specs.declared.shape.Operand.TheVariants as kinds
use Rattle.cil_opcodes.specs.declared.shape.Row.{Row}
use Rattle.cil_opcodes.specs.Rows.{row_of}
use Rattle.machine.specs.Program.{Body}
use Rattle.image_bytes.specs.Layout.{is_range}
use Rattle.assemblies.specs.Rows.{TypeToken, TypeDef, TypeRef, TypeSpec, MemberToken, Own, Reference, Scope, OfAssembly, Inside, Nowhere, RawType, RawSpelt, RawClass, RawValue, RawArray, RawPlace, RawDirect, RawByRef, RawSignature, AssemblyRow, TypeRefRow, FieldRefRow, MethodRefRow, TypeRow, FieldRow, RawOperand, RawNothing, RawTypeOf, RawField, RawMethod, RawText, RawLine, RawKind, RawCatch, RawFinally, RawOther, RawClause, RawCode, MethodRow, Assembly}
use Rattle.image_form.specs.Signatures.{elem_byte, elem_at, depth}
use Rattle.image_form.specs.Codes.{Length, Words, size, instr_of, short, IsNumber, IsPlainNumber, IsPlace, ArePlaces}
use Rattle.image_form.specs.Form.{only_array, clauses_nest, has_room, Offsets, Manner, words, code_bytes, bytes_in}
use Rattle.image_form.specs.Fits.{KindFits, IsNoLiteral}
use Rattle.image_pools.specs.Pools.{pool, pool_onto}
use Rattle.image_form.specs.Whole.{Methods, signatures_walk, offsets, interfaces_of, clauses_of, datas_of}
use Rattle.assemblies.specs.Closed.{Each}
use Rattle.std.specs.List.{flat_map}

abbrev pub IsUtf8 : List ℕ → Type 0
IsUtf8 n = is_utf8 n ≡ true

-- a token's row that two bytes can name
abbrev pub TypeIsSmall : TypeToken → Type 0
TypeIsSmall (TypeDef n) = n < 16384
TypeIsSmall (TypeRef n) = n < 16384
TypeIsSmall (TypeSpec n) = n < 16384

abbrev pub MemberIsSmall : MemberToken → Type 0
MemberIsSmall (Own n) = n < 16384
MemberIsSmall (Reference n) = n < 16384

-- limits 0 to 10, where tokens rest on them, 12 and 13
pub record Limits (p : Assembly) (ms : Methods) : Type 0 where
  pub assemblies : length p.assemblies < 16384
  pub refs : length p.refs < 16384
  pub types : length p.types < 16384
  pub methods : length ms < 16384
  pub specs : length p.specs < 16384
  pub datas : length (datas_of p) < 16384
  pub signatures : length (pool_onto (pool (signatures_walk p ms)) []) ≤ 65535
  pub code : length (flat_map (λ x. bytes_in (offsets p ms) x.0 x.1.code) ms) ≤ 65535

module _ (p : Assembly) where
  abbrev pub TokenIn : TypeToken → Type 0
  TokenIn (TypeDef n) = n < length p.types
  TokenIn (TypeRef n) = n < length p.refs
  TokenIn (TypeSpec n) = n < length p.specs

  -- in a signature
  abbrev pub PlainIn : TypeToken → Type 0
  PlainIn (TypeDef n) = n < length p.types
  PlainIn (TypeRef n) = n < length p.refs
  PlainIn (TypeSpec n) = ⊥

  abbrev pub ScopeIn : Scope → Type 0
  ScopeIn (OfAssembly n) = n < length p.assemblies
  ScopeIn (Inside n) = n < length p.refs
  ScopeIn Nowhere = ⊥

  abbrev pub NamedIn : RawType → Type 0
  NamedIn (RawSpelt e) = elem_at (elem_byte e) ≡ Some e
  NamedIn (RawClass t) = PlainIn t
  NamedIn (RawValue t) = PlainIn t
  NamedIn (RawArray s) = NamedIn s

  pub record RawIn (s : RawType) : Type 0 where
    pub shallow : nat_lt 255 (depth s) ≡ false
    pub named : NamedIn s

  abbrev pub PlaceIn : RawPlace → Type 0
  PlaceIn (RawDirect s) = RawIn s
  PlaceIn (RawByRef s) = RawIn s

  abbrev pub ResultIn : Option RawType → Type 0
  ResultIn None = Unit {0}
  ResultIn (Some s) = RawIn s

  pub record SignatureIn (s : RawSignature) : Type 0 where
    pub returns : ResultIn s.returns
    pub parameters : Each PlaceIn s.parameters

  pub record RefIn (r : TypeRefRow) : Type 0 where
    pub scope : ScopeIn r.scope
    pub namespace : IsUtf8 r.namespace
    pub name : IsUtf8 r.name

  pub record FieldRefIn (r : FieldRefRow) : Type 0 where
    pub parent : TokenIn r.parent
    pub name : IsUtf8 r.name
    pub signature : RawIn r.signature

  pub record MethodRefIn (r : MethodRefRow) : Type 0 where
    pub parent : TokenIn r.parent
    pub name : IsUtf8 r.name
    pub signature : SignatureIn r.signature

  abbrev pub BelowOrNone : ℕ → Option ℕ → Type 0
  BelowOrNone count None = Unit {0}
  BelowOrNone count (Some n) = n < count

  abbrev pub TokenOrNone : Option TypeToken → Type 0
  TokenOrNone None = Unit {0}
  TokenOrNone (Some t) = TokenIn t

  -- its own ranges lie in the tables, and are from 0 where they are empty
  pub record TypeIn (methods : ℕ) (t : TypeRow) : Type 0 where
    pub namespace : IsUtf8 t.namespace
    pub name : IsUtf8 t.name
    pub enclosing : BelowOrNone (length p.types) t.enclosing
    pub extends : TokenOrNone t.extends
    pub kind : KindFits t.kind
    pub own_fields : is_range (length p.fields) t.first_field t.field_count ≡ true
    pub own_methods : is_range methods t.first_method t.method_count ≡ true

  pub record FieldIn (f : FieldRow) : Type 0 where
    pub name : IsUtf8 f.name
    pub signature : RawIn f.signature
    pub kind : IsNoLiteral f.kind

  pub record SpecIn (s : RawType) : Type 0 where
    pub signature : RawIn s
    pub array : only_array s ≡ Some s

  abbrev pub ClauseKindIn : RawKind → Type 0
  ClauseKindIn (RawCatch t) = TokenIn t
  ClauseKindIn RawFinally = Unit {0}
  ClauseKindIn RawOther = ⊥

  abbrev pub ClauseIn : RawClause → Type 0
  ClauseIn c = ClauseKindIn c.kind

-- ---- code

abbrev pub IsFieldIn : RawOperand → Type 0
IsFieldIn o = (t : MemberToken) × (o ≡ RawField t) × MemberIsSmall t

module _ (l : Length) (w : Words) where
  abbrev pub OperandIn : Operand → ℕ → RawOperand → Type 0
  OperandIn kinds.Nothing next o = o ≡ RawNothing
  OperandIn kinds.Int8 next o = IsNumber w8 o
  OperandIn kinds.UInt8 next o = IsPlainNumber o
  OperandIn kinds.UInt16 next o = IsPlainNumber o
  OperandIn kinds.Int32 next o = IsNumber w32 o
  OperandIn kinds.Int64 next o = IsNumber w64 o
  OperandIn kinds.BranchShort next o = IsPlace w8 next o
  OperandIn kinds.BranchLong next o = IsPlace l.distance next o
  OperandIn kinds.Switch next o = ArePlaces l next o
  OperandIn kinds.TypeToken next o = (t : TypeToken) × (o ≡ RawTypeOf t) × TypeIsSmall t
  OperandIn kinds.FieldToken next o = IsFieldIn o
  OperandIn kinds.MethodToken next o = (t : MemberToken) × (o ≡ RawMethod t) × MemberIsSmall t
  OperandIn kinds.StringToken next o = (units : List ℕ) × (o ≡ RawText units)
  OperandIn kinds.AnyToken next o = IsFieldIn o

  -- the opcode is in the table, and place, length and shape are the instruction's
  pub record LineIn (at : ℕ) (row : Row) (line : RawLine) : Type 0 where
    pub known : row_of row.opcode ≡ Some row
    pub plain : (if nat_lt row.opcode 65024 then nat_eq row.opcode 254 else false) ≡ false
    pub shape : row.shape ≡ line.shape
    pub place : line.at ≡ at
    pub next : line.next ≡ at + size l (instr_of w row line)
    pub operand : OperandIn row.operand line.next line.operand

  abbrev pub LinesIn : ℕ → List Row → List RawLine → Type 0
  LinesIn at [] [] = Unit {0}
  LinesIn at [] (line ∷ lines) = ⊥
  LinesIn at (row ∷ rows) [] = ⊥
  LinesIn at (row ∷ rows) (line ∷ lines) = LineIn at row line × LinesIn (at + size l (instr_of w row line)) rows lines

abbrev pub LocalsIn : Assembly → Bool → List RawType → Type 0
LocalsIn p true ts = Each (RawIn p) ts
LocalsIn p false ts = ts ≡ []

module _ (p : Assembly) (o : Offsets) where
  pub record CodeIn (k : Manner) (c : RawCode) : Type 0 where
    pub some : 0 < length (code_bytes o k c)
    pub locals : LocalsIn p k.has_locals c.locals
    pub nest : clauses_nest (length (code_bytes o k c)) c.clauses ≡ true
    pub room : has_room c.max_stack c.clauses ≡ true
    pub lines : LinesIn short (words o) 0 k.opcodes c.lines

  abbrev pub BodyIn : Manner → Body → Option RawCode → Type 0
  BodyIn k Body.Code (Some c) = CodeIn k c
  BodyIn k Body.Code None = ⊥
  BodyIn k (Body.Native name) None = Unit {0}
  BodyIn k (Body.Native name) (Some c) = ⊥
  BodyIn k Body.Missing None = Unit {0}
  BodyIn k Body.Missing (Some c) = ⊥

  pub record MethodIn (k : Manner) (m : MethodRow) : Type 0 where
    pub name : IsUtf8 m.name
    pub signature : SignatureIn p m.signature
    pub body : BodyIn k m.body m.code

pub record IsSpelt (p : Assembly) (ms : Methods) : Type 0 where
  pub limits : Limits p ms
  pub version : length p.version ≡ 4
  pub name : IsUtf8 p.name
  pub entry : BelowOrNone p (length ms) p.entry
  pub versions : Each (λ (a : AssemblyRow). length a.version ≡ 4) p.assemblies
  pub assemblies : Each (λ (a : AssemblyRow). IsUtf8 a.name) p.assemblies
  pub refs : Each (RefIn p) p.refs
  pub field_refs : Each (FieldRefIn p) p.field_refs
  pub method_refs : Each (MethodRefIn p) p.method_refs
  pub types : Each (TypeIn p (length ms)) p.types
  pub interfaces : Each (TokenIn p) (interfaces_of p)
  pub fields : Each (FieldIn p) p.fields
  pub methods : Each (λ (x : Manner × MethodRow). MethodIn p (offsets p ms) x.0 x.1) ms
  pub clauses : Each (ClauseIn p) (clauses_of ms)
  pub specs : Each (SpecIn p) p.specs
  pub same : map (λ (x : Manner × MethodRow). x.1) ms ≡ p.methods
