-- An image's rows, the image that is laid for rows, and when it is read as them.
use Rattle.std.specs.Prelude.{◌≡◌, ℕ, ◌-◌, ◌<◌, ◌≤◌, Bool, nat_lt, if◌then◌else◌, List, [], ◌∷◌, ◌++◌, map, length, Option, Some, None, slice_get, unwrap_or}
use Rattle.std.specs.Option.{option_map}
use Rattle.machine.specs.Throw.{on_some}
use Rattle.image_bytes.specs.Layout.{Image, rows_of, view}
use Rattle.image_pools.specs.Pools.{Entry, pool, offset, text_at, texts_of, pool_onto}
use Rattle.assemblies.specs.Rows.{TypeToken, TypeDef, TypeRef, TypeSpec, Scope, OfAssembly, Inside, RawType, AssemblyRow, TypeRefRow, FieldRefRow, MethodRefRow, TypeRow, FieldRow, RawOperand, RawText, RawClause, RawCode, MethodRow, Assembly}
use Rattle.image_form.specs.Signatures.{type_token, raw_onto, signature_onto, locals_onto}
use Rattle.image_form.specs.Form.{on_both, all_some, checked, none_or, or_none, units_onto, Held, name_at, spec_at, assembly_at, ref_at, field_ref_at, method_ref_at, type_at, field_at, interface_at, clause_at, method_at, Offsets, Manner, assembly_row, ref_row, field_ref_row, method_ref_row, type_rows, interface_row, field_rows, clause_row, spec_row, method_rows, bytes_in, clauses_in, data_of, data_rows, data_at}
use Rattle.image_form.specs.Fits.{NameHas, RefHas, FieldRefHas, MethodRefHas, TypeHas, FieldHas, SpecHas, ClauseHas, MethodHas, TokenHas}
use Rattle.assemblies.specs.Closed.{Each}
use Rattle.std.specs.List.{flat_map}

-- ---- reading

abbrev pub table : Image → ℕ → List (List ℕ)
table i k = unwrap_or (slice_get i.tables k) []

abbrev pub bytes_at : Image → ℕ → List ℕ
bytes_at i k = unwrap_or (slice_get i.pools k) []

-- the texts of a pool; each has two bytes at least
abbrev pub texts_in : List ℕ → Option (List (List ℕ))
texts_in bytes = texts_of (length bytes) bytes

abbrev pub has_row : Image → TypeToken → Bool
has_row i (TypeDef n) = nat_lt n (rows_of i 4)
has_row i (TypeRef n) = nat_lt n (rows_of i 1)
has_row i (TypeSpec n) = nat_lt n (rows_of i 9)

abbrev pub token_in : Image → ℕ → Option TypeToken
token_in i w = checked (has_row i (type_token w)) (type_token w)

abbrev pub scope_in : Image → ℕ → Option Scope
scope_in i w = if nat_lt w 16384 then checked (nat_lt w (rows_of i 0)) (OfAssembly w) else checked (nat_lt (w - 16384) (rows_of i 1)) (Inside (w - 16384))

abbrev pub row_in : Image → ℕ → ℕ → Option ℕ
row_in i k w = checked (nat_lt w (rows_of i k)) w

module _ (i : Image) (strings signatures : List (List ℕ)) where
  abbrev pub held : List TypeToken → List RawClause → List (List ℕ) → Held
  held interfaces clauses datas =
      record {
        text = text_at strings;
        signature = text_at signatures;
        type = token_in i;
        scope = scope_in i;
        row = row_in i 4;
        interfaces = interfaces;
        clauses = clauses;
        datas = datas;
        code = bytes_at i 2;
        fields = rows_of i 6;
        methods = rows_of i 7;
      }

  abbrev pub make_assembly : List ℕ → Option ℕ → List AssemblyRow → List TypeRefRow → List FieldRefRow → List MethodRefRow → List TypeRow → List FieldRow → List MethodRow → List RawType → Assembly
  make_assembly name entry assemblies refs field_refs method_refs types fields methods specs =
      record {
        name = name;
        version = i.version;
        entry = entry;
        assemblies = assemblies;
        refs = refs;
        field_refs = field_refs;
        method_refs = method_refs;
        types = types;
        fields = fields;
        methods = methods;
        specs = specs;
      }

  abbrev pub rows_held : Held → Option Assembly
  rows_held h =
      on_both (on_both (on_both (on_both (on_both (on_both (on_both (on_both (on_both (option_map make_assembly
      (name_at h i.name))
      (none_or (row_in i 7) i.entry))
      (all_some (assembly_at h) (table i 0)))
      (all_some (ref_at h) (table i 1)))
      (all_some (field_ref_at h) (table i 2)))
      (all_some (method_ref_at h) (table i 3)))
      (all_some (type_at h) (table i 4)))
      (all_some (field_at h) (table i 6)))
      (all_some (method_at h) (table i 7)))
      (all_some (spec_at h) (table i 9))

  abbrev pub nothing_held : Held
  nothing_held = held [] [] []

  abbrev pub with_datas : List TypeToken → List RawClause → List (List ℕ) → Option Assembly
  with_datas interfaces clauses datas = rows_held (held interfaces clauses datas)

  abbrev pub with_clauses : List TypeToken → List RawClause → Option Assembly
  with_clauses interfaces clauses = on_some (all_some (data_at (bytes_at i 3)) (table i 10)) (with_datas interfaces clauses)

  abbrev pub with_interfaces : List TypeToken → Option Assembly
  with_interfaces interfaces = on_some (all_some (clause_at nothing_held) (table i 8)) (with_clauses interfaces)

  abbrev pub rows_with : Option Assembly
  rows_with = on_some (all_some (interface_at nothing_held) (table i 5)) with_interfaces

-- the rows, where each number, text and signature is in its table, pool and form, and clauses nest
abbrev pub image_rows : Image → Option Assembly
image_rows i = on_some (texts_in (bytes_at i 0)) (λ strings. on_some (texts_in (bytes_at i 1)) (rows_with i strings))

-- ---- spelling: the walks, by table, row and column, and then the literals by method and place

abbrev pub name_entry : List ℕ → Entry
name_entry n = record { kind = 0; bytes = n }

abbrev pub literal_entry : List ℕ → Entry
literal_entry us = record { kind = 1; bytes = units_onto us }

abbrev pub signature_entry : List ℕ → Entry
signature_entry b = record { kind = 2; bytes = b }

abbrev pub literals : RawOperand → List Entry
literals (RawText units) = literal_entry units ∷ []
literals _ = []

abbrev pub literals_in : Option RawCode → List Entry
literals_in None = []
literals_in (Some c) = flat_map (λ l. literals l.operand) c.lines

abbrev pub locals_entry : Manner → Option RawCode → List Entry
locals_entry k None = []
locals_entry k (Some c) = if k.has_locals then signature_entry (locals_onto c.locals []) ∷ [] else []

abbrev pub Methods : Type 0
Methods = List (Manner × MethodRow)

module _ (p : Assembly) (ms : Methods) where
  abbrev pub strings_walk : List Entry
  strings_walk =
      (name_entry p.name ∷ [])
      ++ (map (λ a. name_entry a.name) p.assemblies
      ++ (flat_map (λ r. name_entry r.namespace ∷ name_entry r.name ∷ []) p.refs
      ++ (map (λ r. name_entry r.name) p.field_refs
      ++ (map (λ r. name_entry r.name) p.method_refs
      ++ (flat_map (λ t. name_entry t.namespace ∷ name_entry t.name ∷ []) p.types
      ++ (map (λ f. name_entry f.name) p.fields
      ++ (map (λ x. name_entry x.1.name) ms
      ++ flat_map (λ x. literals_in x.1.code) ms)))))))

  abbrev pub signatures_walk : List Entry
  signatures_walk =
      map (λ r. signature_entry (raw_onto r.signature [])) p.field_refs
      ++ (map (λ r. signature_entry (signature_onto r.signature [])) p.method_refs
      ++ (map (λ f. signature_entry (raw_onto f.signature [])) p.fields
      ++ (flat_map (λ x. signature_entry (signature_onto x.1.signature []) ∷ locals_entry x.0 x.1.code) ms
      ++ map (λ s. signature_entry (raw_onto s [])) p.specs)))

  abbrev pub offsets : Offsets
  offsets =
      record {
        name = λ n. offset (pool strings_walk) (name_entry n);
        literal = λ us. offset (pool strings_walk) (literal_entry us);
        signature = λ b. offset (pool signatures_walk) (signature_entry b);
      }

abbrev pub interfaces_of : Assembly → List TypeToken
interfaces_of p = flat_map (λ t. t.interfaces) p.types

abbrev pub clauses_of : Methods → List RawClause
clauses_of ms = flat_map (λ x. clauses_in x.1.code) ms

abbrev pub datas_of : Assembly → List (List ℕ)
datas_of p = flat_map (λ f. data_of f.kind) p.fields

-- an image lies so for rows, whose texts have these offsets
pub record Lies (i : Image) (o : Offsets) (p : Assembly) (ms : Methods) (strings signatures : List (List ℕ)) : Type 0 where
  pub version : i.version ≡ p.version
  pub name : i.name ≡ o.name p.name
  pub entry : i.entry ≡ or_none (λ n. n) p.entry
  pub assemblies : table i 0 ≡ map (assembly_row o) p.assemblies
  pub refs : table i 1 ≡ map (ref_row o) p.refs
  pub field_refs : table i 2 ≡ map (field_ref_row o) p.field_refs
  pub method_refs : table i 3 ≡ map (method_ref_row o) p.method_refs
  pub types : table i 4 ≡ type_rows o 0 p.types
  pub interfaces : table i 5 ≡ map (interface_row o) (interfaces_of p)
  pub fields : table i 6 ≡ field_rows o 0 p.fields
  pub methods : table i 7 ≡ method_rows o 0 0 ms
  pub clauses : table i 8 ≡ map (clause_row o) (clauses_of ms)
  pub specs : table i 9 ≡ map (spec_row o) p.specs
  pub data_table : table i 10 ≡ data_rows 0 (datas_of p)
  pub string_texts : texts_in (bytes_at i 0) ≡ Some strings
  pub signature_texts : texts_in (bytes_at i 1) ≡ Some signatures
  pub code : bytes_at i 2 ≡ flat_map (λ x. bytes_in o x.0 x.1.code) ms
  pub data_bytes : bytes_at i 3 ≡ flat_map (λ d. d) (datas_of p)

-- everything in the rows has a spelling that is read as it
pub record Has (i : Image) (h : Held) (o : Offsets) (p : Assembly) (ms : Methods) : Type 0 where
  pub name : NameHas h o p.name
  pub entry : none_or (row_in i 7) (or_none (λ n. n) p.entry) ≡ Some p.entry
  pub assemblies : Each (λ (a : AssemblyRow). NameHas h o a.name) p.assemblies
  pub refs : Each (RefHas h o) p.refs
  pub field_refs : Each (FieldRefHas h o) p.field_refs
  pub method_refs : Each (MethodRefHas h o) p.method_refs
  pub types : Each (TypeHas h o) p.types
  pub interfaces : Each (TokenHas h o) (interfaces_of p)
  pub fields : Each (FieldHas h o) p.fields
  pub methods : Each (λ (x : Manner × MethodRow). MethodHas h o x.0 x.1) ms
  pub clauses : Each (ClauseHas h o) (clauses_of ms)
  pub specs : Each (SpecHas h o) p.specs
  pub same : map (λ (x : Manner × MethodRow). x.1) ms ≡ p.methods
  pub code_fits : length h.code ≤ 65535
  pub datas_fit : length h.datas < 65535

-- ---- the image of rows

abbrev pub laid : Assembly → Methods → Image
laid p ms =
    let o = offsets p ms in
    record {
      version = p.version;
      name = o.name p.name;
      entry = or_none (λ n. n) p.entry;
      tables =
          map (assembly_row o) p.assemblies
          ∷ map (ref_row o) p.refs
          ∷ map (field_ref_row o) p.field_refs
          ∷ map (method_ref_row o) p.method_refs
          ∷ type_rows o 0 p.types
          ∷ map (interface_row o) (interfaces_of p)
          ∷ field_rows o 0 p.fields
          ∷ method_rows o 0 0 ms
          ∷ map (clause_row o) (clauses_of ms)
          ∷ map (spec_row o) p.specs
          ∷ data_rows 0 (datas_of p)
          ∷ [];
      pools =
          pool_onto (pool (strings_walk p ms)) []
          ∷ pool_onto (pool (signatures_walk p ms)) []
          ∷ flat_map (λ x. bytes_in o x.0 x.1.code) ms
          ∷ flat_map (λ d. d) (datas_of p)
          ∷ [];
    }

-- the image that begins there, with its rows: none where no image stands
abbrev pub seen : List ℕ → Option (Image × Assembly)
seen bytes = on_some (view bytes) (λ i. option_map (λ p. (i, p)) (image_rows i))
