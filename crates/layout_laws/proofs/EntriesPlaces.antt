-- Where the entries of a row stand in the heaps and in the content.
use Rattle.std.proofs.Common.{◌≡◌, ℕ, ◌+◌, ◌*◌, ◌-◌, List, [], ◌∷◌, ◌++◌, length, drop, replicate, sum_by, fold, refl, ap, ◌∙◌, arith, length-append, append_assoc, cond, ltb}
use Rattle.std.specs.List.{flat_map}
use Rattle.std.proofs.lemmas.List.{drop_at}
use Rattle.std.proofs.lemmas.List.Concat.{flat_map-append}
use Rattle.std.proofs.lemmas.List.Sums.{sum_by-cons}
use Rattle.std.proofs.lemmas.Bool.Decides.{nat_tests}
use Rattle.cil_layout.specs.declared.rows.Row.{Row}
use Rattle.cil_layout.specs.declared.rows.Row.TheVariants.{Literal}
use Rattle.cil_layout.specs.declared.fixed.TheConstants.{MODULE_TYPE}
use Rattle.cil_layout.specs.declared.places.Places.{Places}
use Rattle.cil_layout.specs.Asked.{Asked, padded_length}
use Rattle.cil_layout.specs.Text.{text_end, literal_size, compressed, text_bytes}
use Rattle.cil_layout.specs.Heaps.{padded, name_entry, strings_of, blobs_of, texts_of, content_of, strings_heap, blobs_heap, texts_heap, content}
use Rattle.cil_layout.specs.Numbers.{after, first_places, is_field, is_method}
use Rattle.cil_layout.proofs.Sizes.{length-text_bytes}
use Rattle.layout_laws.specs.ReadBack.{places_behind}

-- how far rows bring the places
pub record IsBehind (p : Places) (rows : List Row) (q : Places) : Type 0 where
  pub strings : q.strings ≡ p.strings + length (flat_map strings_of rows)
  pub blobs : q.blobs ≡ p.blobs + length (flat_map blobs_of rows)
  pub content : q.content ≡ p.content + length (flat_map content_of rows)
  pub fields : q.fields ≡ p.fields + sum_by is_field rows
  pub methods : q.methods ≡ p.methods + sum_by is_method rows

-- the fold of the rows brings them so far
pub all_behind : (p : Places) (rows : List Row) → IsBehind p rows (fold after p rows)
all_behind p [] = record { strings = omega arith; blobs = omega arith; content = omega arith; fields = omega arith; methods = omega arith }
all_behind p (row ∷ rows) =
    let rest : IsBehind (after p row) rows (fold after (after p row) rows) = all_behind (after p row) rows in
    record {
      strings = omega (arith, rest.strings, length-append (strings_of row) (flat_map strings_of rows));
      blobs = omega (arith, rest.blobs, length-append (blobs_of row) (flat_map blobs_of rows));
      content = omega (arith, rest.content, length-append (content_of row) (flat_map content_of rows));
      fields = omega (arith, rest.fields, sum_by-cons is_field row rows);
      methods = omega (arith, rest.methods, sum_by-cons is_method row rows);
    }

-- a literal's entry has its size
text_sized : (row : Row) → literal_size row ≡ length (texts_of row)
text_sized (Literal units) = omega (arith, length-append (compressed (2 * length units + 1)) (text_bytes units), length-text_bytes units, sized (2 * length units + 1)) where
  sized : (n : ℕ) → length (compressed n) ≡ cond (ltb n 128) 1 (cond (ltb n 16384) 2 4)
  sized n = grind (arith, nat_tests)
text_sized _ = refl

-- and so have those of all rows
texts_sized : (rows : List Row) → sum_by literal_size rows ≡ length (flat_map texts_of rows)
texts_sized [] = refl
texts_sized (row ∷ rows) = omega (arith, texts_sized rows, text_sized row, sum_by-cons literal_size row rows, length-append (texts_of row) (flat_map texts_of rows))

-- what a row adds stands behind what the rows before it add
split_at : (start pad : List ℕ) (f : Row → List ℕ) (before : List Row) (row : Row) (behind : List Row) (at : ℕ) → length start + length (flat_map f before) ≡ at
    → drop at ((start ++ flat_map f (before ++ row ∷ behind)) ++ pad) ≡ f row ++ (flat_map f behind ++ pad)
split_at start pad f before row behind at e =
    ap (drop at) (simp (flat_map-append, append_assoc)) ∙ drop_at (start ++ flat_map f before) (f row ++ (flat_map f behind ++ pad)) at (length-append start (flat_map f before) ∙ e)

-- so each heap has a row's entries at the places behind the rows before it
pub record IsSplit (r : Asked) (before : List Row) (row : Row) : Type 0 where
  pub strings : (rest : List ℕ) × (drop (places_behind r.name before).strings (strings_heap r) ≡ strings_of row ++ rest)
  pub blobs : (rest : List ℕ) × (drop (places_behind r.name before).blobs (blobs_heap r) ≡ blobs_of row ++ rest)
  pub texts : (rest : List ℕ) × (drop (text_end before) (texts_heap r) ≡ texts_of row ++ rest)
  pub content : (rest : List ℕ) × (drop (places_behind r.name before).content (content r) ≡ content_of row ++ rest)

-- the zeros behind a heap
abbrev pub zeros_behind : List ℕ → List ℕ
zeros_behind bytes = replicate (padded_length (length bytes) - length bytes) 0

-- the same in a heap with its zeros
padded_split : (start : List ℕ) (f : Row → List ℕ) (rows before : List Row) (row : Row) (behind : List Row) (at : ℕ) → rows ≡ before ++ row ∷ behind → length start + length (flat_map f before) ≡ at
    → (rest : List ℕ) × (drop at (padded (start ++ flat_map f rows)) ≡ f row ++ rest)
padded_split start f rows before row behind at e n =
    let pad : List ℕ = zeros_behind (start ++ flat_map f rows) in
    (flat_map f behind ++ pad, ap (λ rs. drop at ((start ++ flat_map f rs) ++ pad)) e ∙ split_at start pad f before row behind at n)

-- for each row that was asked for
pub split_of : (r : Asked) (before : List Row) (row : Row) (behind : List Row) → r.rows ≡ before ++ row ∷ behind → IsSplit r before row
unfolding strings_heap blobs_heap texts_heap content text_end
split_of r before row behind e =
    let b : IsBehind (first_places r.name) before (places_behind r.name before) = all_behind (first_places r.name) before in
    record {
      strings = padded_split (0 ∷ MODULE_TYPE ++ name_entry r.name) strings_of r.rows before row behind _ e (omega (arith, b.strings));
      blobs = padded_split (0 ∷ []) blobs_of r.rows before row behind _ e (omega (arith, b.blobs));
      texts = padded_split (0 ∷ []) texts_of r.rows before row behind _ e (omega (arith, texts_sized before));
      content = (flat_map content_of behind, ap (λ rs. drop (places_behind r.name before).content (flat_map content_of rs)) e ∙ ap (drop (places_behind r.name before).content) (flat_map-append content_of before (row ∷ behind)) ∙ drop_at (flat_map content_of before) (content_of row ++ flat_map content_of behind) _ (omega (arith, b.content)));
    }

-- each heap begins with a zero, and `#Strings` with the names that nobody asks for
pub strings_begin : (r : Asked) → (rest : List ℕ) × (strings_heap r ≡ 0 ∷ MODULE_TYPE ++ (name_entry r.name ++ rest))
unfolding strings_heap
strings_begin r =
    let pad : List ℕ = zeros_behind (0 ∷ MODULE_TYPE ++ name_entry r.name ++ flat_map strings_of r.rows) in
    (flat_map strings_of r.rows ++ pad, ap (λ xs. 0 ∷ MODULE_TYPE ++ xs) (append_assoc (name_entry r.name) (flat_map strings_of r.rows) pad))

-- `#Blob` begins with a zero
pub blobs_begin : (r : Asked) → (rest : List ℕ) × (blobs_heap r ≡ 0 ∷ rest)
unfolding blobs_heap
blobs_begin r = (flat_map blobs_of r.rows ++ zeros_behind (0 ∷ flat_map blobs_of r.rows), refl)
