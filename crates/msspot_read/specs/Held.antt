-- What the rows of an image are read by, and which of them are read.
use Rattle.std.specs.Prelude.{ℕ, ◌+◌, Bool, true, ◌&&◌, ◌||◌, is_some, nat_eq, nat_lt, nat_le, slice_index, slice_index_or, if◌then◌else◌, List, [], ◌∷◌, map, drop, length, unwrap_or}
use Rattle.std.specs.List.{list_all}
use Rattle.image_bytes.specs.Layout.{Image, is_range, rows_of}
use Rattle.assemblies.specs.Rows.{RawKind, RawCatch, RawFinally, RawOther, RawClause}
use Rattle.image_form.specs.Signatures.{type_token}
use Rattle.image_form.specs.Form.{Held, part, bit, clauses_nest, has_room, make_clause, name_at, raw_at, signature_at, spec_at, assembly_at, ref_at, field_ref_at, method_ref_at, type_at, field_at, interface_at, clause_at, method_at, data_at, body_at}
use Rattle.image_form.specs.Whole.{table, bytes_at, texts_in, token_in, scope_in, held}
use Rattle.msspot_read.specs.declared.columns.Column.{Column}
use Rattle.msspot_read.specs.declared.columns.Column.TheVariants as columns

-- the texts of a pool that falls into entries
abbrev pub texts : Image → ℕ → List (List ℕ)
texts i k = unwrap_or (texts_in (bytes_at i k)) []

abbrev pub raw_kind : ℕ → ℕ → RawKind
raw_kind k w = if nat_eq k 2 then RawFinally else (if nat_eq k 0 then RawCatch (type_token w) else RawOther)

-- what a clause's row is read as where it is read
abbrev pub clause_of : List ℕ → RawClause
clause_of r = make_clause (slice_index r 2) (slice_index r 3) (slice_index r 4) (slice_index r 5) (raw_kind (slice_index r 0) (slice_index r 1))

abbrev pub clauses : Image → List RawClause
clauses i = map clause_of (table i 8)

-- what the rows of an image are read by where its interfaces, clauses and data are read
abbrev pub held_of : Image → Held
held_of i =
    held i (texts i 0) (texts i 1) (map (λ r. type_token (slice_index r 0)) (table i 5)) (clauses i)
    (map (λ r. part (slice_index r 0) (slice_index r 1) (bytes_at i 3)) (table i 10))

-- whether a row of a table is read
abbrev pub readers : Image → List (List ℕ → Bool)
readers i =
    (λ r. is_some (assembly_at (held_of i) r))
    ∷ (λ r. is_some (ref_at (held_of i) r))
    ∷ (λ r. is_some (field_ref_at (held_of i) r))
    ∷ (λ r. is_some (method_ref_at (held_of i) r))
    ∷ (λ r. is_some (type_at (held_of i) r))
    ∷ (λ r. is_some (interface_at (held_of i) r))
    ∷ (λ r. is_some (field_at (held_of i) r))
    ∷ (λ r. is_some (method_at (held_of i) r))
    ∷ (λ r. is_some (clause_at (held_of i) r))
    ∷ (λ r. is_some (spec_at (held_of i) r))
    ∷ (λ r. is_some (data_at (bytes_at i 3) r))
    ∷ []

abbrev pub reads : Image → ℕ → List ℕ → Bool
reads i t r = slice_index_or (readers i) t (λ r. true) r

-- a column's number, with the one behind it
abbrev pub stands : Image → Column → ℕ → ℕ → Bool
stands i columns.Number w n = true
stands i columns.Name w n = is_some (name_at (held_of i) w)
stands i columns.Type w n = is_some (raw_at (held_of i) w)
stands i columns.Method w n = is_some (signature_at (held_of i) w)
stands i columns.Array w n = is_some (spec_at (held_of i) (w ∷ []))
stands i columns.Scope w n = is_some (scope_in i w)
stands i columns.Token w n = is_some (token_in i w)
stands i columns.TokenOrNone w n = nat_eq w 65535 || is_some (token_in i w)
stands i columns.TypeOrNone w n = nat_eq w 65535 || nat_lt w (rows_of i 4)
stands i columns.DataOrNone w n = nat_eq w 65535 || nat_lt w (rows_of i 10)
stands i columns.Interfaces w n = is_range (rows_of i 5) w n
stands i columns.Fields w n = is_range (rows_of i 6) w n
stands i columns.Methods w n = is_range (rows_of i 7) w n
stands i columns.Kind w n = if nat_eq w 2 then nat_eq n 65535 else is_some (token_in i n)
stands i columns.Bytes w n = nat_le (w + n) (length (bytes_at i 3))

abbrev pub all_stand : Image → List Column → List ℕ → Bool
all_stand i [] r = true
all_stand i (c ∷ cs) r = stands i c (slice_index r 0) (slice_index r 1) && all_stand i cs (drop 1 r)

-- a method's code, locals and clauses
abbrev pub body_stands : Image → List ℕ → Bool
body_stands i r = is_some (body_at (held_of i) (slice_index r 2) (slice_index r 3) (slice_index r 4) (slice_index r 5) (slice_index r 6) (slice_index r 7) (slice_index r 8))

-- each row of each table is read
abbrev pub tables_read : Image → Bool
tables_read i = list_all (λ t. list_all (reads i t) (table i t)) (0 ∷ 1 ∷ 2 ∷ 3 ∷ 4 ∷ 5 ∷ 6 ∷ 7 ∷ 8 ∷ 9 ∷ 10 ∷ [])

abbrev pub range_of : Image → ℕ → ℕ → List RawClause
range_of i first count = part first count (clauses i)

-- what is asked of a method behind its locals and the range of its clauses
abbrev pub code_asked : Image → ℕ → ℕ → ℕ → ℕ → ℕ → ℕ → Bool
code_asked i flags start size max_stack first count =
    if bit 16 flags then nat_eq size 0 && clauses_nest 0 (range_of i first count)
    else (if nat_eq start 65535 then nat_eq size 0 && clauses_nest 0 (range_of i first count)
    else nat_le (start + size) (length (bytes_at i 2)) && clauses_nest size (range_of i first count) && has_room max_stack (range_of i first count))
