-- When the rows of an assembly have a spelling that is read as them.
use Rattle.std.specs.Prelude.{◌≡◌, ℕ, ◌<◌, true, List, [], length, Option, Some, None}
use Rattle.cil_opcodes.specs.Rows.{row_of}
use Rattle.machine.specs.Program.{Body}
use Rattle.classes.specs.Classes.{FieldKind, TypeKind}
use Rattle.image_bytes.specs.Layout.{is_range}
use Rattle.assemblies.specs.Rows.{TypeToken, RawType, RawKind, RawCatch, RawFinally, RawOther, TypeRefRow, FieldRefRow, MethodRefRow, TypeRow, FieldRow, RawClause, RawCode, MethodRow}
use Rattle.image_form.specs.Signatures.{type_word, elem_byte, elem_at}
use Rattle.image_form.specs.Codes.{short, LinesFit}
use Rattle.image_form.specs.Form.{enum_kind, none_or, or_none, clauses_nest, has_room, Held, name_at, raw_at, signature_at, locals_at, only_array, meaning, Offsets, Manner, scope_word, raw_word, signature_word, locals_word, words, code_bytes}

-- an element with a byte of its own, and of an enum one that is read as its number
abbrev pub KindFits : TypeKind → Type 0
KindFits (TypeKind.Builtin e) = elem_at (elem_byte e) ≡ Some e
KindFits (TypeKind.Enumeration e) = enum_kind (elem_at (elem_byte e)) ≡ TypeKind.Enumeration e
KindFits _ = Unit {0}

abbrev pub IsNoLiteral : FieldKind → Type 0
IsNoLiteral FieldKind.LiteralField = ⊥
IsNoLiteral _ = Unit {0}

module _ (h : Held) (o : Offsets) where
  abbrev pub NameHas : List ℕ → Type 0
  NameHas n = name_at h (o.name n) ≡ Some n

  abbrev pub RawHas : RawType → Type 0
  RawHas s = raw_at h (raw_word o s) ≡ Some s

  abbrev pub TokenHas : TypeToken → Type 0
  TokenHas t = h.type (type_word t) ≡ Some t

  pub record RefHas (r : TypeRefRow) : Type 0 where
    pub scope : h.scope (scope_word r.scope) ≡ Some r.scope
    pub namespace : NameHas r.namespace
    pub name : NameHas r.name

  pub record FieldRefHas (r : FieldRefRow) : Type 0 where
    pub parent : TokenHas r.parent
    pub name : NameHas r.name
    pub signature : RawHas r.signature

  pub record MethodRefHas (r : MethodRefRow) : Type 0 where
    pub parent : TokenHas r.parent
    pub name : NameHas r.name
    pub signature : signature_at h (signature_word o r.signature) ≡ Some r.signature

  pub record TypeHas (t : TypeRow) : Type 0 where
    pub namespace : NameHas t.namespace
    pub name : NameHas t.name
    pub enclosing : none_or h.row (or_none (λ n. n) t.enclosing) ≡ Some t.enclosing
    pub extends : none_or h.type (or_none type_word t.extends) ≡ Some t.extends
    pub kind : KindFits t.kind
    pub fields : is_range h.fields t.first_field t.field_count ≡ true
    pub methods : is_range h.methods t.first_method t.method_count ≡ true

  pub record FieldHas (f : FieldRow) : Type 0 where
    pub name : NameHas f.name
    pub signature : RawHas f.signature
    pub kind : IsNoLiteral f.kind

  pub record SpecHas (s : RawType) : Type 0 where
    pub signature : RawHas s
    pub array : only_array s ≡ Some s

  abbrev pub ClauseKindHas : RawKind → Type 0
  ClauseKindHas (RawCatch t) = TokenHas t
  ClauseKindHas RawFinally = Unit {0}
  ClauseKindHas RawOther = ⊥

  abbrev pub ClauseHas : RawClause → Type 0
  ClauseHas c = ClauseKindHas c.kind

  pub record CodeHas (k : Manner) (c : RawCode) : Type 0 where
    pub some : 0 < length (code_bytes o k c)
    pub locals : locals_at h (locals_word o k.has_locals c.locals) ≡ Some c.locals
    pub nest : clauses_nest (length (code_bytes o k c)) c.clauses ≡ true
    pub room : has_room c.max_stack c.clauses ≡ true
    pub lines : LinesFit row_of short (meaning h) (words o) 0 k.opcodes c.lines

  abbrev pub BodyHas : Manner → Body → Option RawCode → Type 0
  BodyHas k Body.Code (Some c) = CodeHas k c
  BodyHas k Body.Code None = ⊥
  BodyHas k (Body.Native name) None = Unit {0}
  BodyHas k (Body.Native name) (Some c) = ⊥
  BodyHas k Body.Missing None = Unit {0}
  BodyHas k Body.Missing (Some c) = ⊥

  pub record MethodHas (k : Manner) (m : MethodRow) : Type 0 where
    pub name : NameHas m.name
    pub signature : signature_at h (signature_word o m.signature) ≡ Some m.signature
    pub body : BodyHas k m.body m.code
