-- The reader finds each column as wide as the builder makes it.
use Rattle.std.proofs.Common.{◌≡◌, ℕ, ◌+◌, ◌*◌, ◌<◌, ◌≤◌, Bool, true, false, ◌||◌, refl, ap, arith}
use Rattle.std.specs.Prelude.{nat_le}
use Rattle.std.specs.List.{AllByRecursion}
use Rattle.std.proofs.lemmas.Bool.{lt-leb}
use Rattle.cil_layout.specs.declared.rows.TheConstants.{TABLES}
use Rattle.cil_layout.specs.declared.places.Widths.{Widths}
use Rattle.cil_layout.specs.Asked.{one_if}
use Rattle.cil_layout.specs.Layout.{widths_by, heap_sizes, is_long, column_widths}
use Rattle.file_tables.specs.declared.schema.Column.TheVariants.{Two, Four, Strings, Guid, Blob, RowOf, ListOf, Token, TokenOrNone}
use Rattle.file_tables.specs.declared.schema.Coded.TheVariants.{TypeDefOrRef, MemberRefParent, ResolutionScope}
use Rattle.file_tables.specs.Bytes.{has_bit}
use Rattle.file_tables.specs.Schema.{columns_of, tables_of, tag_bits_of}
use Rattle.file_tables.specs.Tables.{Shape, count_of, width_if, width_of, is_wide_token, widths_of}
use Rattle.layout_laws.proofs.RowsHeader.{valid, for_tables}

-- HeapSizes and counts of what is asked
pub record IsShape (shape : Shape) (count : ℕ → ℕ) (strings blobs : ℕ) : Type 0 where
  pub heaps : shape.heap_sizes ≡ heap_sizes strings blobs
  pub counts : (table : ℕ) → table < 64 → count_of shape table ≡ count table
  pub few : (table : ℕ) → table < 64 → count table ≤ 65534
  pub none : (table : ℕ) → table < 64 → has_bit valid table ≡ false → count table ≡ 0
  pub one_module : count 0 ≡ 1

-- the bits of HeapSizes
heap_bits : (strings blobs : Bool) → (has_bit (one_if strings + 4 * one_if blobs) 0 ≡ strings) × (has_bit (one_if strings + 4 * one_if blobs) 1 ≡ false) × (has_bit (one_if strings + 4 * one_if blobs) 2 ≡ blobs)
heap_bits true true = (refl, refl, refl)
heap_bits true false = (refl, refl, refl)
heap_bits false true = (refl, refl, refl)
heap_bits false false = (refl, refl, refl)

-- how the tests of several tables are joined
two : (a b : Bool) → (a || (b || false)) ≡ (a || b)
two true b = refl
two false true = refl
two false false = refl

three : (a b c : Bool) → (a || (b || (c || false))) ≡ (a || b || c)
three true b c = refl
three false b c = two b c

four : (a b c d : Bool) → (a || (b || (c || (d || false)))) ≡ (a || b || c || d)
four true b c d = refl
four false b c d = three b c d

-- each kind of column that the builder makes
record HasColumns (shape : Shape) (w : Widths) : Type 0 where
  two : width_of shape Two ≡ 2
  four : width_of shape Four ≡ 4
  strings : width_of shape Strings ≡ w.strings
  guid : width_of shape Guid ≡ 2
  blobs : width_of shape Blob ≡ w.blobs
  types : width_of shape (Token TypeDefOrRef) ≡ w.types
  types_or_none : width_of shape (TokenOrNone TypeDefOrRef) ≡ w.types
  parents : width_of shape (Token MemberRefParent) ≡ w.parents
  scopes : width_of shape (Token ResolutionScope) ≡ w.scopes
  type_row : width_of shape (RowOf 2) ≡ 2
  field_row : width_of shape (RowOf 4) ≡ 2
  fields : width_of shape (ListOf 4) ≡ 2
  methods : width_of shape (ListOf 6) ≡ 2
  params : width_of shape (ListOf 8) ≡ 2

module _ (shape : Shape) (count : ℕ → ℕ) (strings blobs : ℕ) (is : IsShape shape count strings blobs) where
  strings_width : width_of shape Strings ≡ (widths_by count strings blobs).strings
  unfolding width_of
  strings_width = rw is.heaps (ap width_if (heap_bits (is_long strings) (is_long blobs)).0)

  guid_width : width_of shape Guid ≡ 2
  unfolding width_of
  guid_width = rw is.heaps (ap width_if (heap_bits (is_long strings) (is_long blobs)).1)

  blobs_width : width_of shape Blob ≡ (widths_by count strings blobs).blobs
  unfolding width_of
  blobs_width = rw is.heaps (ap width_if (heap_bits (is_long strings) (is_long blobs)).2)

  -- no table has so many rows that an index into it is wide
  narrow : (table : ℕ) → table < 64 → width_if (nat_le 65536 (count_of shape table)) ≡ 2
  narrow table below = ap width_if (lt-leb 65536 (count_of shape table) (omega (arith, is.counts table below, is.few table below)))

  types_width : width_if (is_wide_token shape TypeDefOrRef) ≡ (widths_by count strings blobs).types
  unfolding is_wide_token tables_of tag_bits_of
  types_width = rw (is.counts 2 (omega arith), is.counts 1 (omega arith), is.counts 27 (omega arith)) (ap width_if (three (nat_le 16384 (count 2)) (nat_le 16384 (count 1)) (nat_le 16384 (count 27))))

  parents_width : width_if (is_wide_token shape MemberRefParent) ≡ (widths_by count strings blobs).parents
  unfolding is_wide_token tables_of tag_bits_of
  parents_width =
      rw (is.counts 2 (omega arith), is.counts 1 (omega arith), is.counts 26 (omega arith), is.none 26 (omega arith) refl, is.counts 6 (omega arith), is.counts 27 (omega arith))
      (ap width_if (four (nat_le 8192 (count 2)) (nat_le 8192 (count 1)) (nat_le 8192 (count 6)) (nat_le 8192 (count 27))))

  scopes_width : width_if (is_wide_token shape ResolutionScope) ≡ (widths_by count strings blobs).scopes
  unfolding is_wide_token tables_of tag_bits_of
  scopes_width =
      rw (is.counts 0 (omega arith), is.one_module, is.counts 26 (omega arith), is.none 26 (omega arith) refl, is.counts 35 (omega arith), is.counts 1 (omega arith))
      (ap width_if (two (nat_le 16384 (count 35)) (nat_le 16384 (count 1))))

  column_kinds : HasColumns shape (widths_by count strings blobs)
  unfolding width_of
  column_kinds = record {
    two = refl;
    four = refl;
    strings = strings_width;
    guid = guid_width;
    blobs = blobs_width;
    types = types_width;
    types_or_none = types_width;
    parents = parents_width;
    scopes = scopes_width;
    type_row = narrow 2 (omega arith);
    field_row = narrow 4 (omega arith);
    fields = narrow 4 (omega arith);
    methods = narrow 6 (omega arith);
    params = narrow 8 (omega arith);
  }

-- the columns of each table
each_width : (shape : Shape) (w : Widths) → HasColumns shape w → AllByRecursion (λ table. widths_of shape table ≡ column_widths w table) TABLES
unfolding widths_of columns_of
each_width shape w has = (cc, (cc, (cc, (cc, (cc, (cc, (cc, (cc, (cc, (cc, (cc, (cc, (cc, (cc, tt))))))))))))))

pub widths_are : (shape : Shape) (count : ℕ → ℕ) (strings blobs : ℕ) → IsShape shape count strings blobs → (table : ℕ) → table < 64 → has_bit valid table ≡ true
    → widths_of shape table ≡ column_widths (widths_by count strings blobs) table
widths_are shape count strings blobs is table below there =
    for_tables (λ t. widths_of shape t ≡ column_widths (widths_by count strings blobs) t) (each_width shape (widths_by count strings blobs) (column_kinds shape count strings blobs is)) table below there
