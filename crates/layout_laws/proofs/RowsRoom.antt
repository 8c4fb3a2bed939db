-- The places of a row lie inside the heaps, the data and the tables.
use Rattle.std.proofs.Common.{◌≡◌, ◌+◌, ◌≤◌, List, ◌∷◌, ◌++◌, length, sum_by, refl, arith, length-append}
use Rattle.std.specs.List.{flat_map}
use Rattle.std.proofs.lemmas.List.Sums.{sum_by-cons}
use Rattle.cil_layout.specs.declared.rows.Row.{Row}
use Rattle.cil_layout.specs.declared.rows.Row.TheVariants.{Field, MethodDef}
use Rattle.cil_layout.specs.declared.places.Places.{Places}
use Rattle.cil_layout.specs.declared.fixed.TheConstants.{MODULE_TYPE}
use Rattle.cil_layout.specs.Asked.{Asked, rows_of, count_in}
use Rattle.cil_layout.specs.Askable.{IsAskable}
use Rattle.cil_layout.specs.Heaps.{name_entry, strings_of, blobs_of, content_of, strings_heap, blobs_heap, content}
use Rattle.cil_layout.specs.Numbers.{first_places, after, is_field, is_method}
use Rattle.cil_layout.proofs.Sizes.{length-padded}
use Rattle.cil_layout.proofs.Stream.{parts_le}

-- the heaps and the data are small
pub record AreSmall (r : Asked) : Type 0 where
  pub strings : length (strings_heap r) ≤ 4194304
  pub blobs : length (blobs_heap r) ≤ 4194304
  pub content : length (content r) ≤ 4194304

pub are_small : (r : Asked) → IsAskable r → AreSmall r
are_small r askable = record {
  strings = omega (arith, askable.light, parts_le r (rows_of r) 0 0);
  blobs = omega (arith, askable.light, parts_le r (rows_of r) 0 0);
  content = omega (arith, askable.light, parts_le r (rows_of r) 0 0);
}

-- what stands before a place and what the rows behind it add is no more than there is
pub record HasRoom (r : Asked) (p : Places) (rows : List Row) : Type 0 where
  pub strings : p.strings + length (flat_map strings_of rows) ≤ length (strings_heap r)
  pub blobs : p.blobs + length (flat_map blobs_of rows) ≤ length (blobs_heap r)
  pub content : p.content + length (flat_map content_of rows) ≤ length (content r)
  pub fields : p.fields + sum_by (count_in 4) rows ≤ 65534
  pub methods : p.methods + sum_by (count_in 6) rows ≤ 65534

-- the module's name stands behind the first entry
pub name_room : (r : Asked) → 10 + length (name_entry r.name) + length (flat_map strings_of r.rows) ≤ length (strings_heap r)
unfolding strings_heap
name_room r = omega (
  arith,
  length-padded (0 ∷ MODULE_TYPE ++ name_entry r.name ++ flat_map strings_of r.rows),
  length-append (name_entry r.name) (flat_map strings_of r.rows),
)

pub first_room : (r : Asked) → IsAskable r → HasRoom r (first_places r.name) r.rows
unfolding blobs_heap content rows_of
first_room r askable = record {
  strings = name_room r;
  blobs = omega (arith, length-padded (0 ∷ flat_map blobs_of r.rows));
  content = omega arith;
  fields = omega (arith, askable.few 4 (omega arith));
  methods = omega (arith, askable.few 6 (omega arith));
}

field_count : (row : Row) → is_field row ≡ count_in 4 row
field_count (Field f) = refl
field_count _ = refl

method_count : (row : Row) → is_method row ≡ count_in 6 row
method_count (MethodDef m) = refl
method_count _ = refl

-- behind a row
pub next_room : (r : Asked) (p : Places) (row : Row) (rows : List Row) → HasRoom r p (row ∷ rows) → HasRoom r (after p row) rows
next_room r p row rows room = record {
  strings = omega (arith, room.strings, length-append (strings_of row) (flat_map strings_of rows));
  blobs = omega (arith, room.blobs, length-append (blobs_of row) (flat_map blobs_of rows));
  content = omega (arith, room.content, length-append (content_of row) (flat_map content_of rows));
  fields = omega (arith, room.fields, field_count row, sum_by-cons (count_in 4) row rows);
  methods = omega (arith, room.methods, method_count row, sum_by-cons (count_in 6) row rows);
}

-- the row's own entries
pub record RowRoom (r : Asked) (p : Places) (row : Row) : Type 0 where
  pub strings : p.strings + length (strings_of row) ≤ length (strings_heap r)
  pub blobs : p.blobs + length (blobs_of row) ≤ length (blobs_heap r)
  pub content : p.content ≤ length (content r)
  pub fields : p.fields ≤ 65534
  pub methods : p.methods ≤ 65534

pub row_room : (r : Asked) (p : Places) (row : Row) (rows : List Row) → HasRoom r p (row ∷ rows) → RowRoom r p row
row_room r p row rows room = record {
  strings = omega (arith, room.strings, length-append (strings_of row) (flat_map strings_of rows));
  blobs = omega (arith, room.blobs, length-append (blobs_of row) (flat_map blobs_of rows));
  content = omega (arith, room.content);
  fields = omega (arith, room.fields);
  methods = omega (arith, room.methods);
}
