-- Some of the rows of each assembly, with their columns numbered anew, and code with places in another length.
use Rattle.std.specs.Prelude.{ℕ, pos, unsigned_abs, zero, suc, Bool, List, [], ◌∷◌, map, length, slice_get, unwrap_or}
use Rattle.std.specs.Option.{option_map}
use Rattle.machine.specs.Data.{Id}
use Rattle.machine_rename.specs.Places.{row_of}
use Rattle.machine_rename.specs.Rename.{Renaming}
use Rattle.alike.specs.Alike.{Kept}
use Rattle.kept_rows.specs.Select.{select, below, rows, behind}
use Rattle.assemblies.specs.Binding.{id_at, numbered}
use Rattle.assemblies.specs.Rows.{TypeToken, TypeDef, TypeRef, TypeSpec, MemberToken, Own, Reference, Scope, OfAssembly, Inside, Nowhere, RawType, RawSpelt, RawClass, RawValue, RawArray, RawPlace, RawDirect, RawByRef, RawSignature, TypeRefRow, FieldRefRow, MethodRefRow, TypeRow, FieldRow, RawOperand, RawNothing, RawNumber, RawTargets, RawTypeOf, RawField, RawMethod, RawText, RawLine, RawKind, RawCatch, RawFinally, RawOther, RawClause, RawCode, MethodRow, Assembly}

-- which rows of an assembly are kept, and the place in the image of each place in its methods' code
pub record Choice : Type 0 where
  pub assemblies : ℕ → Bool
  pub refs : ℕ → Bool
  pub field_refs : ℕ → Bool
  pub method_refs : ℕ → Bool
  pub types : ℕ → Bool
  pub fields : ℕ → Bool
  pub methods : ℕ → Bool
  pub specs : ℕ → Bool
  pub short : ℕ → ℕ → ℕ
  -- and back
  pub long : ℕ → ℕ → ℕ

-- a range without rows is from 0
abbrev pub first_of : ℕ → ℕ → ℕ
first_of first zero = 0
first_of first (suc n) = first

module _ (k : Choice) where
  abbrev pub token_to : TypeToken → TypeToken
  token_to (TypeDef n) = TypeDef (below k.types n)
  token_to (TypeRef n) = TypeRef (below k.refs n)
  token_to (TypeSpec n) = TypeSpec (below k.specs n)

  abbrev pub method_token_to : MemberToken → MemberToken
  method_token_to (Own n) = Own (below k.methods n)
  method_token_to (Reference n) = Reference (below k.method_refs n)

  abbrev pub field_token_to : MemberToken → MemberToken
  field_token_to (Own n) = Own (below k.fields n)
  field_token_to (Reference n) = Reference (below k.field_refs n)

  abbrev pub scope_to : Scope → Scope
  scope_to (OfAssembly n) = OfAssembly (below k.assemblies n)
  scope_to (Inside n) = Inside (below k.refs n)
  scope_to Nowhere = Nowhere

  abbrev pub raw_to : RawType → RawType
  raw_to (RawSpelt e) = RawSpelt e
  raw_to (RawClass t) = RawClass (token_to t)
  raw_to (RawValue t) = RawValue (token_to t)
  raw_to (RawArray s) = RawArray (raw_to s)

  abbrev pub place_to : RawPlace → RawPlace
  place_to (RawDirect s) = RawDirect (raw_to s)
  place_to (RawByRef s) = RawByRef (raw_to s)

  abbrev pub signature_to : RawSignature → RawSignature
  signature_to s = record { has_this = s.has_this; returns = option_map raw_to s.returns; parameters = map place_to s.parameters }

  abbrev pub ref_to : TypeRefRow → TypeRefRow
  ref_to r = record r { scope = scope_to r.scope }

  abbrev pub field_ref_to : FieldRefRow → FieldRefRow
  field_ref_to r = record r { parent = token_to r.parent; signature = raw_to r.signature }

  abbrev pub method_ref_to : MethodRefRow → MethodRefRow
  method_ref_to r = record r { parent = token_to r.parent; signature = signature_to r.signature }

  abbrev pub type_row_to : TypeRow → TypeRow
  type_row_to t =
      record t {
        enclosing = option_map (below k.types) t.enclosing;
        extends = option_map token_to t.extends;
        interfaces = map token_to t.interfaces;
        first_field = first_of (below k.fields t.first_field) (below (behind t.first_field k.fields) t.field_count);
        field_count = below (behind t.first_field k.fields) t.field_count;
        first_method = first_of (below k.methods t.first_method) (below (behind t.first_method k.methods) t.method_count);
        method_count = below (behind t.first_method k.methods) t.method_count;
      }

  abbrev pub field_row_to : FieldRow → FieldRow
  field_row_to f = record f { signature = raw_to f.signature }

  abbrev pub operand_to : (ℕ → ℕ) → RawOperand → RawOperand
  operand_to short RawNothing = RawNothing
  operand_to short (RawNumber n) = RawNumber n
  operand_to short (RawTargets to) = RawTargets (map (λ z. pos (short (unsigned_abs z))) to)
  operand_to short (RawTypeOf t) = RawTypeOf (token_to t)
  operand_to short (RawField t) = RawField (field_token_to t)
  operand_to short (RawMethod t) = RawMethod (method_token_to t)
  operand_to short (RawText units) = RawText units

  abbrev pub line_to : (ℕ → ℕ) → RawLine → RawLine
  line_to short l = record { at = short l.at; shape = l.shape; operand = operand_to short l.operand; next = short l.next }

  abbrev pub kind_to : RawKind → RawKind
  kind_to (RawCatch t) = RawCatch (token_to t)
  kind_to RawFinally = RawFinally
  kind_to RawOther = RawOther

  abbrev pub clause_to : (ℕ → ℕ) → RawClause → RawClause
  clause_to short c =
      record { kind = kind_to c.kind; try_start = short c.try_start; try_end = short c.try_end; start = short c.start; end = short c.end }

  abbrev pub code_to : (ℕ → ℕ) → RawCode → RawCode
  code_to short c =
      record { locals = map raw_to c.locals; max_stack = c.max_stack; clauses = map (clause_to short) c.clauses; lines = map (line_to short) c.lines }

  -- of the n-th method
  abbrev pub method_row_to : ℕ → MethodRow → MethodRow
  method_row_to n m = record m { signature = signature_to m.signature; code = option_map (code_to (k.short n)) m.code }

  abbrev pub chosen : Assembly → Assembly
  chosen p =
      record {
        name = p.name;
        version = p.version;
        entry = option_map (below k.methods) p.entry;
        assemblies = select k.assemblies p.assemblies;
        refs = map ref_to (select k.refs p.refs);
        field_refs = map field_ref_to (select k.field_refs p.field_refs);
        method_refs = map method_ref_to (select k.method_refs p.method_refs);
        types = map type_row_to (select k.types p.types);
        fields = map field_row_to (select k.fields p.fields);
        methods = select k.methods (numbered method_row_to 0 p.methods);
        specs = map raw_to (select k.specs p.specs);
      }

-- of each assembly of a set
abbrev pub chosen_set : (ℕ → Choice) → List Assembly → List Assembly
chosen_set keep [] = []
chosen_set keep (p ∷ ps) = chosen (keep 0) p ∷ chosen_set (λ f. keep (suc f)) ps

-- the number of a kept type, and the renaming back from the numbers
abbrev pub number : (ℕ → Choice) → Id → Id
number keep c = id_at c.file (below (keep c.file).types c.row)

abbrev pub count_of : {A : Type 0} → (Assembly → List A) → List Assembly → ℕ → ℕ
count_of rows ps f = unwrap_or (option_map (λ p. length (rows p)) (slice_get ps f)) 0

abbrev pub back_to : (ℕ → Bool) → ℕ → ℕ → ℕ
back_to kept count n = row_of (rows kept count) count n

abbrev pub renaming : (ℕ → Choice) → List Assembly → Renaming
renaming keep ps =
    record {
      type = λ c. id_at c.file (back_to (keep c.file).types (count_of (λ p. p.types) ps c.file) c.row);
      method = λ c. id_at c.file (back_to (keep c.file).methods (count_of (λ p. p.methods) ps c.file) c.row);
      field = λ c. id_at c.file (back_to (keep c.file).fields (count_of (λ p. p.fields) ps c.file) c.row);
      place = λ c at. (keep c.file).long (back_to (keep c.file).methods (count_of (λ p. p.methods) ps c.file) c.row) at;
    }

abbrev pub kept_members : (ℕ → Choice) → Kept
kept_members keep = record { method = λ c. (keep c.file).methods c.row; field = λ c. (keep c.file).fields c.row }
