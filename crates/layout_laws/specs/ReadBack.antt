-- What a reader finds of what was asked for, in the reader's own words: the numbers of a row mean texts, blobs and tokens.
use Rattle.std.specs.Prelude.{◌≡◌, ◌≢◌, ℕ, ◌+◌, ◌<◌, ◌==◌, List, [], ◌∷◌, ◌++◌, length, take, Option, Some, fold, slice_index, if◌then◌else◌, Ok}
use Rattle.std.specs.Option.{option_map}
use Rattle.std.specs.List.{flat_map}
use Rattle.cil_layout.specs.declared.rows.Row.{Row}
use Rattle.cil_layout.specs.declared.rows.Row.TheVariants.{TypeDef, Field, MethodDef, AssemblyRef, TypeRef, MemberRef, TypeSpec, Locals, InterfaceImpl, NestedClass, ClassLayout, Literal}
use Rattle.cil_layout.specs.declared.rows.MethodRow.{MethodRow}
use Rattle.cil_layout.specs.declared.rows.FieldRow.{FieldRow}
use Rattle.cil_layout.specs.declared.rows.TheConstants.{MODULE, TYPE_DEF, FIELD_RVA, ASSEMBLY}
use Rattle.cil_layout.specs.declared.fixed.TheConstants.{CONTENT_RVA, HASH_ALGORITHM, MODULE_TYPE}
use Rattle.cil_layout.specs.declared.places.Places.{Places}
use Rattle.cil_layout.specs.Asked.{Asked, rows_of, table_of, token_of}
use Rattle.cil_layout.specs.Askable.{IsAskable}
use Rattle.cil_layout.specs.Numbers.{first_places, after, body_rva}
use Rattle.cil_layout.specs.Text.{text_end, unit_bytes}
use Rattle.cil_layout.specs.Layout.{built}
use Rattle.file_tables.specs.declared.schema.Column.{Column}
use Rattle.file_tables.specs.declared.schema.Column.TheVariants.{Two, Four, Strings, Guid, Blob, RowOf, ListOf, Token, TokenOrNone}
use Rattle.file_tables.specs.Schema.{columns_of}
use Rattle.file_tables.specs.Heaps.{string_at, blob_at, user_string_at}
use Rattle.file_tables.specs.Pe.{at_rva, tail}
use Rattle.file_tables.specs.Metadata.{MetadataPart, row_of, row_count, token_table, token_row}
use Rattle.file_tables.specs.File.{FilePart, file_of}
use Rattle.layout_laws.specs.Parts.{parts_of}

-- what the number in a column stands for
pub data Meaning : Type 0 where
  Number : ℕ → Meaning
  Text : Option (List ℕ) → Meaning
  Bytes : Option (List ℕ) → Meaning
  Named : ℕ → Meaning

unfoldable pub meaning_of : MetadataPart → Column → ℕ → Meaning
meaning_of m Two n = Number n
meaning_of m Four n = Number n
meaning_of m Strings n = Text (string_at m.strings n)
meaning_of m Guid n = Number n
meaning_of m Blob n = Bytes (blob_at m.blobs n)
meaning_of m (RowOf table) n = Named (token_of table n)
meaning_of m (ListOf table) n = Number n
meaning_of m (Token coded) n = Named (token_of (token_table coded n) (token_row coded n))
meaning_of m (TokenOrNone coded) n = Named (token_of (token_table coded n) (token_row coded n))

unfoldable pub meanings_by : MetadataPart → List Column → List ℕ → List Meaning
meanings_by m [] numbers = []
meanings_by m (c ∷ cs) [] = []
meanings_by m (c ∷ cs) (n ∷ ns) = meaning_of m c n ∷ meanings_by m cs ns

-- the meanings of a row's numbers
abbrev pub meanings : MetadataPart → ℕ → List ℕ → List Meaning
meanings m table numbers = meanings_by m (columns_of table) numbers

-- how far heaps, data and tables have come behind these rows
abbrev pub places_behind : List ℕ → List Row → Places
places_behind name rows = fold after (first_places name) rows

-- no superclass is row 0 of TypeDef
abbrev pub token_or_none : ℕ → ℕ
token_or_none token = if token == 0 then token_of TYPE_DEF 0 else token

-- what is asked for, where the parts before have come so far
abbrev pub asked_meanings : Places → Row → List Meaning
asked_meanings p (TypeDef t) = Number t.flags ∷ Text (Some t.name) ∷ Text (Some t.namespace) ∷ Named (token_or_none t.extends) ∷ Number (p.fields + 1) ∷ Number (p.methods + 1) ∷ []
asked_meanings p (Field f) = Number f.flags ∷ Text (Some f.name) ∷ Bytes (Some f.signature) ∷ []
asked_meanings p (MethodDef m) = Number (body_rva p.content m.body) ∷ Number m.impl_flags ∷ Number m.flags ∷ Text (Some m.name) ∷ Bytes (Some m.signature) ∷ Number 1 ∷ []
asked_meanings p (AssemblyRef a) = Number (slice_index a.version 0) ∷ Number (slice_index a.version 1) ∷ Number (slice_index a.version 2) ∷ Number (slice_index a.version 3) ∷ Number 0 ∷ Bytes (Some []) ∷ Text (Some a.name) ∷ Text (Some []) ∷ Bytes (Some []) ∷ []
asked_meanings p (TypeRef t) = Named t.scope ∷ Text (Some t.name) ∷ Text (Some t.namespace) ∷ []
asked_meanings p (MemberRef m) = Named m.parent ∷ Text (Some m.name) ∷ Bytes (Some m.signature) ∷ []
asked_meanings p (TypeSpec signature) = Bytes (Some signature) ∷ []
asked_meanings p (Locals signature) = Bytes (Some signature) ∷ []
asked_meanings p (InterfaceImpl i) = Named i.class ∷ Named i.interface ∷ []
asked_meanings p (NestedClass n) = Named n.nested ∷ Named n.enclosing ∷ []
asked_meanings p (ClassLayout l) = Number 0 ∷ Number l.size ∷ Named l.class ∷ []
asked_meanings p (Literal units) = []

-- the rows that nobody asks for: the module, the type `<Module>`, and the assembly with its name and version
abbrev pub module_meanings : Asked → List Meaning
module_meanings r = Number 0 ∷ Text (Some r.name) ∷ Number 1 ∷ Number 0 ∷ Number 0 ∷ []

abbrev pub module_type_meanings : List Meaning
module_type_meanings = Number 0 ∷ Text (Some (take 8 MODULE_TYPE)) ∷ Text (Some []) ∷ Named (token_of TYPE_DEF 0) ∷ Number 1 ∷ Number 1 ∷ []

abbrev pub assembly_meanings : Asked → List Meaning
assembly_meanings r =
    Number HASH_ALGORITHM ∷ Number (slice_index r.version 0) ∷ Number (slice_index r.version 1) ∷ Number (slice_index r.version 2) ∷ Number (slice_index r.version 3)
    ∷ Number 0 ∷ Bytes (Some []) ∷ Text (Some r.name) ∷ Text (Some []) ∷ []

-- the rows asked before, and the next row of a table behind them
abbrev pub only : Asked → List Row → Asked
only r rows = record r { rows = rows }

abbrev pub next_row : Asked → List Row → ℕ → ℕ
next_row r before table = rows_of (only r before) table + 1

-- A row that was asked for behind others: its own row says it, and body, data and literal stand where the file says.
pub record IsRowRead (f : FilePart) (r : Asked) (before : List Row) (row : Row) : Type 0 where
  pub says : table_of row < 64 → meanings f.metadata (table_of row) (row_of f.metadata (table_of row) (next_row r before (table_of row))) ≡ asked_meanings (places_behind r.name before) row
  pub has_body : (m : MethodRow) → row ≡ MethodDef m → m.body ≢ []
      → option_map (take (length m.body)) (tail f.pe (CONTENT_RVA + (places_behind r.name before).content)) ≡ Some m.body
  pub has_data : (d : FieldRow) → row ≡ Field d → d.bytes ≢ []
      → (row_of f.metadata FIELD_RVA (next_row r before FIELD_RVA) ≡ (CONTENT_RVA + (places_behind r.name before).content) ∷ ((places_behind r.name before).fields + 1) ∷ [])
      × (at_rva f.pe (CONTENT_RVA + (places_behind r.name before).content) (length d.bytes) ≡ Some d.bytes)
  pub has_text : (units : List ℕ) → row ≡ Literal units → user_string_at f.metadata.user_strings (text_end before) ≡ Some (flat_map unit_bytes units)

-- The parts of a file say all that was asked for, in order, and nothing else.
pub record IsReadBack (f : FilePart) (r : Asked) : Type 0 where
  pub entry : f.pe.entry ≡ r.entry
  pub counts : (table : ℕ) → table < 64 → row_count f.metadata table ≡ rows_of r table
  pub module_row : meanings f.metadata MODULE (row_of f.metadata MODULE 1) ≡ module_meanings r
  pub module_type_row : meanings f.metadata TYPE_DEF (row_of f.metadata TYPE_DEF 1) ≡ module_type_meanings
  pub assembly_row : meanings f.metadata ASSEMBLY (row_of f.metadata ASSEMBLY 1) ≡ assembly_meanings r
  pub rows : (before : List Row) (row : Row) (behind : List Row) → r.rows ≡ before ++ row ∷ behind → IsRowRead f r before row

-- What may be asked for is built as a file that breaks none of rules 1 to 13 and says what was asked.
abbrev pub BuiltIsRead : Type 0
BuiltIsRead = (r : Asked) → IsAskable r → (file_of (built r) ≡ Ok (parts_of r)) × IsReadBack (parts_of r) r
