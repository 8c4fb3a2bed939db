-- What the parts of one assembly are written as: its pools, its image, and the first limit that they pass.
use Rattle.std.specs.Prelude.{ℕ, ◌+◌, nat_eq, nat_lt, if◌then◌else◌, List, [], ◌∷◌, ◌++◌, map, length, drop, Option, Some, None, slice_get, unwrap_or}
use Rattle.std.specs.List.{flat_map, list_any}
use Rattle.plain_types.specs.declared.fault.Limit.{Limit}
use Rattle.image_bytes.specs.Layout.{Image, counts_of, lengths_of}
use Rattle.image_pools.specs.Pools.{Entry, same_entry, pool, offset, pool_onto}
use Rattle.image_form.specs.Whole.{name_entry, signature_entry}
use Rattle.msspot_write.specs.declared.parts.Column.{Column}
use Rattle.msspot_write.specs.declared.parts.Column.TheVariants.{Number, Name, Signature, Data, Code}
use Rattle.msspot_write.specs.declared.parts.PartRow.{PartRow}
use Rattle.msspot_write.specs.declared.parts.PartLiteral.{PartLiteral}
use Rattle.msspot_write.specs.declared.parts.Parts.{Parts}

-- a table that is missing has no rows
abbrev pub rows_of : Parts → ℕ → List PartRow
rows_of p table = unwrap_or (slice_get p.tables table) []

abbrev pub tables : List ℕ
tables = 0 ∷ 1 ∷ 2 ∷ 3 ∷ 4 ∷ 5 ∷ 6 ∷ 7 ∷ 8 ∷ 9 ∷ 10 ∷ []

-- ---- the walks: what columns give, by table, row and column

module _ {A : Type 0} (pick : Column → List A) where
  abbrev pub in_row : PartRow → List A
  in_row row = flat_map pick row.columns

  abbrev pub in_rows : List PartRow → List A
  in_rows rows = flat_map in_row rows

  abbrev pub in_tables : Parts → List ℕ → List A
  in_tables p ts = flat_map (λ t. in_rows (rows_of p t)) ts

abbrev pub names : Column → List Entry
names (Name text) = name_entry text ∷ []
names _ = []

abbrev pub signatures : Column → List Entry
signatures (Signature bytes) = signature_entry bytes ∷ []
signatures _ = []

abbrev pub data_bytes : Column → List ℕ
data_bytes (Data bytes) = bytes
data_bytes _ = []

abbrev pub literal_of : List ℕ → Entry
literal_of text = record { kind = 1; bytes = text }

-- the header's name, the tables' names, and then the literals
abbrev pub strings_walk_of : Parts → List Entry
strings_walk_of p = name_entry p.name ∷ (in_tables names p tables ++ map (λ (l : PartLiteral). literal_of l.text) p.literals)

abbrev pub signatures_walk_of : Parts → List Entry
signatures_walk_of p = in_tables signatures p tables

-- ---- the pools that the parts have of themselves: two of entries, once each, and the data

pub record PoolsOf : Type 0 where
  pub strings : List Entry
  pub signatures : List Entry
  pub data_pool : List ℕ

abbrev pub pools_of : Parts → PoolsOf
pools_of p = record { strings = pool (strings_walk_of p); signatures = pool (signatures_walk_of p); data_pool = in_tables data_bytes p tables }

-- where an entry is, if it is there
abbrev pub found : List Entry → Entry → Option ℕ
found entries e = if list_any (same_entry e) entries then Some (offset entries e) else None

-- ---- the image

-- the code of the next row; a row past the codes has none
abbrev pub next_code : List (List ℕ) → List ℕ
next_code [] = []
next_code (c ∷ cs) = c

module _ (ps : PoolsOf) where
  -- the code starts there and has so many bytes, and the column has this number; the next data starts at a place
  abbrev pub column_words : ℕ → ℕ → ℕ → ℕ → Column → List ℕ
  column_words start count number at (Number n) = n ∷ []
  column_words start count number at (Name text) = offset ps.strings (name_entry text) ∷ []
  column_words start count number at (Signature bytes) = offset ps.signatures (signature_entry bytes) ∷ []
  column_words start count number at (Data bytes) = at ∷ length bytes ∷ []
  column_words start count number at Code = (if nat_eq number 4 then count else start) ∷ []

  abbrev pub row_words : ℕ → ℕ → ℕ → ℕ → List Column → List ℕ
  row_words start count number at [] = []
  row_words start count number at (c ∷ cs) = column_words start count number at c ++ row_words start count (number + 1) (at + length (data_bytes c)) cs

  -- codes lie in the order of the rows without gaps, and so do data
  abbrev pub table_words : List (List ℕ) → ℕ → ℕ → List PartRow → List (List ℕ)
  table_words codes start at [] = []
  table_words codes start at (r ∷ rs) =
      row_words start (length (next_code codes)) 0 at r.columns
      ∷ table_words (drop 1 codes) (start + length (next_code codes)) (at + length (in_row data_bytes r)) rs

  abbrev pub tables_words : Parts → List (List ℕ) → ℕ → List ℕ → List (List (List ℕ))
  tables_words p codes at [] = []
  tables_words p codes at (t ∷ ts) = table_words codes 0 at (rows_of p t) ∷ tables_words p codes (at + length (in_rows data_bytes (rows_of p t))) ts

abbrev pub image_of_parts : Parts → List (List ℕ) → Image
image_of_parts p codes =
    let ps = pools_of p in
    record {
      version = p.version;
      name = offset ps.strings (name_entry p.name);
      entry = p.entry;
      tables = tables_words ps p codes 0 tables;
      pools = pool_onto ps.strings [] ∷ pool_onto ps.signatures [] ∷ flat_map (λ c. c) codes ∷ ps.data_pool ∷ [];
    }

-- ---- limits 0 to 14: rows of the tables, and bytes of the pools

abbrev pub most : ℕ → ℕ
most limit = if nat_lt limit 11 then 16383 else 65535

-- the first that is passed of those from a number on; the assembly's number is the caller's
abbrev pub first_over : ℕ → List ℕ → Option Limit
first_over limit [] = None
first_over limit (n ∷ ns) = if nat_lt (most limit) n then Some (record { number = limit; count = n; assembly = 0 }) else first_over (limit + 1) ns

abbrev pub counted : Image → List ℕ
counted i = counts_of i ++ lengths_of i

abbrev pub over_of_parts : Parts → List (List ℕ) → Option Limit
over_of_parts p codes = first_over 0 (counted (image_of_parts p codes))
