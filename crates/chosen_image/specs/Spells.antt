-- What the kept rows of a file have to be so that an image can spell them, beside that they name kept rows: names in UTF-8, signatures of
-- the form, ranges in their tables, clauses that nest, code by opcodes of the table, and the limits.
use Rattle.std.specs.Prelude.{◌≡◌, ℕ, ℤ, pos, ◌+◌, ◌<◌, ◌≤◌, unsigned_abs, Bool, true, false, nat_lt, List, [], ◌∷◌, map, length, Option, Some, None, slice_get}
use Rattle.std.specs.Int.{w16}
use Rattle.cil_opcodes.specs.declared.shape.Operand.{Operand}
use Rattle.cil_opcodes.specs.declared.shape.Operand.TheVariants as kinds
use Rattle.cil_opcodes.specs.declared.shape.Row.{Row}
use Rattle.cil_opcodes.specs.Rows.{row_of}
use Rattle.machine.specs.Program.{Body}
use Rattle.machine_rename.specs.Places.{Piece}
use Rattle.kept_rows.specs.Select.{select}
use Rattle.assemblies.specs.Rows.{RawType, RawSpelt, RawClass, RawValue, RawArray, RawPlace, RawDirect, RawByRef, RawSignature, TypeRefRow, FieldRefRow, MethodRefRow, TypeRow, FieldRow, RawOperand, RawTargets, RawLine, RawKind, RawCatch, RawFinally, RawOther, RawClause, RawCode, MethodRow, Assembly}
use Rattle.assemblies.specs.Binding.{numbered}
use Rattle.assemblies.specs.Chosen.{Choice, method_row_to, chosen}
use Rattle.assemblies.specs.Closed.{Each}
use Rattle.image_form.specs.Signatures.{elem_byte, elem_at, depth}
use Rattle.image_form.specs.Codes.{Meaning, Words, Instr, AllFit, LinesFit, distance, instrs_to, long}
use Rattle.image_form.specs.Form.{only_array, clauses_nest, has_room, Manner}
use Rattle.image_form.specs.Fits.{KindFits, IsNoLiteral}
use Rattle.image_form.specs.Whole.{Methods}
use Rattle.image_form.specs.Limits.{IsUtf8, Limits}
use Rattle.short_code.specs.Short.{to_short, long_end, IsBound}
use Rattle.short_code.specs.Pieces.{pieces}
use Rattle.kept_closure.specs.Named.{InOption}

-- ---- signatures (II.23.2): each element that stands alone has a byte, and 1D stands at most 255 times

abbrev pub InElems : RawType → Type 0
InElems (RawSpelt e) = elem_at (elem_byte e) ≡ Some e
InElems (RawClass t) = Unit {0}
InElems (RawValue t) = Unit {0}
InElems (RawArray s) = InElems s

pub record TypeSpells (s : RawType) : Type 0 where
  pub shallow : nat_lt 255 (depth s) ≡ false
  pub elements : InElems s

abbrev pub PlaceSpells : RawPlace → Type 0
PlaceSpells (RawDirect s) = TypeSpells s
PlaceSpells (RawByRef s) = TypeSpells s

pub record SignatureSpells (s : RawSignature) : Type 0 where
  pub returns : InOption TypeSpells s.returns
  pub parameters : Each PlaceSpells s.parameters

-- ---- code (II.25.4, II.19)

abbrev pub LocalsSpell : Bool → List RawType → Type 0
LocalsSpell true ts = Each TypeSpells ts
LocalsSpell false ts = ts ≡ []

abbrev pub KindSpells : RawKind → Type 0
KindSpells (RawCatch t) = Unit {0}
KindSpells RawFinally = Unit {0}
KindSpells RawOther = ⊥

module _ (xs : List (Piece Instr)) where
  -- the regions of a clause begin and end with instructions
  pub record ClauseSpells (c : RawClause) : Type 0 where
    pub kind : KindSpells c.kind
    pub try_start : IsBound xs c.try_start
    pub try_end : IsBound xs c.try_end
    pub start : IsBound xs c.start
    pub end : IsBound xs c.end

  abbrev pub TargetsStart : RawOperand → Type 0
  TargetsStart (RawTargets to) = Each (λ z. IsBound xs (unsigned_abs z) × (pos (unsigned_abs z) ≡ z)) to
  TargetsStart _ = Unit {0}

-- limits 15 and 16: the distances of long branches and of switches in the image have two bytes
module _ (place : ℕ → ℕ) where
  abbrev pub targets_in : RawOperand → List ℤ
  targets_in (RawTargets to) = map (λ z. pos (place (unsigned_abs z))) to
  targets_in _ = []

  abbrev pub DistancesFit : Operand → ℕ → RawOperand → Type 0
  DistancesFit kinds.BranchLong next o = AllFit w16 (map (distance (place next)) (targets_in o))
  DistancesFit kinds.Switch next o = AllFit w16 (map (distance (place next)) (targets_in o))
  DistancesFit _ next o = Unit {0}

  abbrev pub AllDistancesFit : List Row → List RawLine → Type 0
  AllDistancesFit [] lines = Unit {0}
  AllDistancesFit (row ∷ rows) [] = Unit {0}
  AllDistancesFit (row ∷ rows) (line ∷ lines) = DistancesFit row.operand line.next line.operand × AllDistancesFit rows lines

-- of a method with its opcodes; places in the image are those of the shortened code
pub record CodeSpells (k : Manner) (place : ℕ → ℕ) (c : RawCode) : Type 0 where
  pub meaning : Meaning
  pub words : Words
  -- the file's code is read as these lines
  pub lines : LinesFit row_of long meaning words 0 k.opcodes c.lines
  pub some : 0 < length c.lines
  pub places : (at : ℕ) → place at ≡ to_short (pieces (instrs_to words k.opcodes c.lines)) at
  pub targets : Each (λ (l : RawLine). TargetsStart (pieces (instrs_to words k.opcodes c.lines)) l.operand) c.lines
  pub distances : AllDistancesFit place k.opcodes c.lines
  pub clauses : Each (ClauseSpells (pieces (instrs_to words k.opcodes c.lines))) c.clauses
  pub nest : clauses_nest (long_end (pieces (instrs_to words k.opcodes c.lines))) c.clauses ≡ true
  pub room : has_room c.max_stack c.clauses ≡ true
  pub locals : LocalsSpell k.has_locals c.locals

abbrev pub BodySpells : Manner → (ℕ → ℕ) → Body → Option RawCode → Type 0
BodySpells k place Body.Code (Some c) = CodeSpells k place c
BodySpells k place Body.Code None = ⊥
BodySpells k place (Body.Native name) None = Unit {0}
BodySpells k place (Body.Native name) (Some c) = ⊥
BodySpells k place Body.Missing None = Unit {0}
BodySpells k place Body.Missing (Some c) = ⊥

-- ---- rows (II.22)

pub record RefSpells (r : TypeRefRow) : Type 0 where
  pub namespace : IsUtf8 r.namespace
  pub name : IsUtf8 r.name

pub record FieldRefSpells (r : FieldRefRow) : Type 0 where
  pub name : IsUtf8 r.name
  pub signature : TypeSpells r.signature

pub record MethodRefSpells (r : MethodRefRow) : Type 0 where
  pub name : IsUtf8 r.name
  pub signature : SignatureSpells r.signature

pub record TypeRowSpells (p : Assembly) (t : TypeRow) : Type 0 where
  pub namespace : IsUtf8 t.namespace
  pub name : IsUtf8 t.name
  pub kind : KindFits t.kind
  pub own_fields : t.first_field + t.field_count ≤ length p.fields
  pub own_methods : t.first_method + t.method_count ≤ length p.methods

pub record FieldSpells (f : FieldRow) : Type 0 where
  pub name : IsUtf8 f.name
  pub signature : TypeSpells f.signature
  pub kind : IsNoLiteral f.kind

pub record SpecSpells (s : RawType) : Type 0 where
  pub signature : TypeSpells s
  pub array : only_array s ≡ Some s

pub record MethodSpells (k : Manner) (place : ℕ → ℕ) (m : MethodRow) : Type 0 where
  pub name : IsUtf8 m.name
  pub signature : SignatureSpells m.signature
  pub body : BodySpells k place m.body m.code

-- of each kept row of a table
abbrev pub OfKept : {A : Type 0} → (ℕ → Bool) → List A → (A → Type 0) → Type 0
OfKept {A} keep xs P = (n : ℕ) (x : A) → slice_get xs n ≡ Some x → keep n ≡ true → P x

pub record Spells (k : Choice) (p : Assembly) (ms : Methods) : Type 0 where
  pub version : length p.version ≡ 4
  pub name : IsUtf8 p.name
  pub versions : OfKept k.assemblies p.assemblies (λ a. length a.version ≡ 4)
  pub assemblies : OfKept k.assemblies p.assemblies (λ a. IsUtf8 a.name)
  pub refs : OfKept k.refs p.refs RefSpells
  pub field_refs : OfKept k.field_refs p.field_refs FieldRefSpells
  pub method_refs : OfKept k.method_refs p.method_refs MethodRefSpells
  pub types : OfKept k.types p.types (TypeRowSpells p)
  pub fields : OfKept k.fields p.fields FieldSpells
  pub specs : OfKept k.specs p.specs SpecSpells
  pub methods : (n : ℕ) (x : Manner × MethodRow) → slice_get ms n ≡ Some x → k.methods n ≡ true → MethodSpells x.0 (k.short n) x.1
  pub same : map (λ (x : Manner × MethodRow). x.1) ms ≡ p.methods

-- ---- the rows of the image

abbrev pub chosen_method : Choice → ℕ → Manner × MethodRow → Manner × MethodRow
chosen_method k n x = (x.0, method_row_to k n x.1)

abbrev pub chosen_methods : Choice → Methods → Methods
chosen_methods k ms = select k.methods (numbered (chosen_method k) 0 ms)

-- limits 0 to 14, as far as what an image is read as rests on them: numbers of rows, and of bytes of signatures and code
pub record KeepsLimits (k : Choice) (p : Assembly) (ms : Methods) : Type 0 where
  pub limits : Limits (chosen k p) (chosen_methods k ms)
  pub fields : length (select k.fields p.fields) < 16384
  pub field_refs : length (select k.field_refs p.field_refs) < 16384
  pub method_refs : length (select k.method_refs p.method_refs) < 16384
