-- The header of the tables' stream.
use Rattle.std.proofs.Common.{◌≡◌, ℕ, ◌+◌, ◌*◌, true, false, cond, ◌&&◌, List, [], ◌∷◌, map, Some, None, refl, sym}
use Rattle.std.specs.Prelude.{is_some, nat_le, slice_index}
use Rattle.std.specs.Option.{option_map}
use Rattle.std.specs.List.{range_with_len, list_all}
use Rattle.file_tables.specs.Bytes.{u64_at}
use Rattle.file_tables.specs.Rules.{rule_at, first_broken}
use Rattle.file_tables.specs.Streams as streams
use Rattle.file_tables.specs.Tables as tables
use Rattle.file_tables.specs.Metadata as metadata
use Rattle.cil_tables.specs.Place.{place_of}
use Rattle.cil_tables.specs.Layout.{count_behind, layout_rules, TablesAt}
use Rattle.cil_tables.specs.declared.root.Stream.{Stream}
use Rattle.cil_tables.proofs.StreamLaws.{named_inside}

pub tables_at : (region : List ℕ) (s : Stream) → first_broken (streams.rules_of_streams region [] (streams.streams_of region)) ≡ None → Some s ≡ option_map place_of (streams.stream_named region metadata.tables_name) → TablesAt region s
unfolding metadata.has_tables metadata.tables_begin metadata.tables_end
tables_at region s kept e =
    elim (streams.stream_named region metadata.tables_name) as (λ o. streams.stream_named region metadata.tables_name ≡ o → Some s ≡ option_map place_of o → TablesAt region s) [
      | None ↦ λ f h. absurd cc
      | Some x ↦ λ f h.
          let same : s ≡ place_of x = cc in
          record {
            is_there = rw f refl;
            begin = rw (f, same) refl;
            end = rw (f, same) refl;
            inside = rw same (named_inside region metadata.tables_name x kept f);
          }
    ] refl e

pub no_tables : (region : List ℕ) → None ≡ option_map place_of (streams.stream_named region metadata.tables_name) → first_broken (layout_rules region) ≡ Some (rule_at 9 0 false).fault
unfolding metadata.has_tables
no_tables region e =
    elim (streams.stream_named region metadata.tables_name) as (λ o. None ≡ option_map place_of o → cond (is_some o) (first_broken (rule_at 10 (metadata.tables_begin region) (metadata.is_tables_header region) ∷ rule_at 11 (metadata.tables_end region) (metadata.has_rows region) ∷ [])) (Some (rule_at 9 0 false).fault) ≡ Some (rule_at 9 0 false).fault) [
      | None ↦ λ h. refl
      | Some x ↦ λ h. absurd cc
    ] e

-- the header's parts, behind the offset where it begins
pub record ReadAt (region : List ℕ) (begin valid heap_sizes first : ℕ) (counts : List ℕ) : Type 0 where
  pub begin_is : metadata.tables_begin region ≡ begin
  pub valid_is : valid ≡ u64_at region (begin + 8)
  pub heap_sizes_is : heap_sizes ≡ slice_index region (begin + 6)
  pub counts_are : counts ≡ map (count_behind region begin valid) (range_with_len 0 64)
  pub first_is : first ≡ begin + 24 + 4 * metadata.present_before valid 64

pub valid_is : (region : List ℕ) (begin valid heap_sizes first : ℕ) (counts : List ℕ) → ReadAt region begin valid heap_sizes first counts → metadata.valid_bits region ≡ valid
unfolding metadata.valid_bits
valid_is region begin valid heap_sizes first counts r = rw r.begin_is (sym r.valid_is)

pub shape_is : (region : List ℕ) (begin valid heap_sizes first : ℕ) (counts : List ℕ) → ReadAt region begin valid heap_sizes first counts → record { heap_sizes = heap_sizes; counts = counts } ≡ metadata.shape_of region
unfolding metadata.shape_of metadata.count_in
shape_is region begin valid heap_sizes first counts r =
    rw (r.begin_is, valid_is region begin valid heap_sizes first counts r, r.heap_sizes_is, r.counts_are) refl

pub first_is : (region : List ℕ) (begin valid heap_sizes first : ℕ) (counts : List ℕ) → ReadAt region begin valid heap_sizes first counts → first ≡ metadata.first_row region
unfolding metadata.first_row
first_is region begin valid heap_sizes first counts r =
    rw (r.begin_is, valid_is region begin valid heap_sizes first counts r, r.first_is) refl

pub header_is : (region : List ℕ) (begin valid heap_sizes first : ℕ) (counts : List ℕ) (end : ℕ) → ReadAt region begin valid heap_sizes first counts → metadata.tables_end region ≡ end → metadata.is_tables_header region ≡ (nat_le (begin + 24) end && nat_le heap_sizes 7 && list_all (metadata.is_known_table valid) (range_with_len 0 64) && nat_le first end)
unfolding metadata.is_tables_header
header_is region begin valid heap_sizes first counts end r e =
    rw (← first_is region begin valid heap_sizes first counts r, e, r.begin_is, valid_is region begin valid heap_sizes first counts r, r.heap_sizes_is) refl

-- rule 10 is broken
pub broken_header : (region : List ℕ) (s : Stream) → TablesAt region s → metadata.is_tables_header region ≡ false → first_broken (layout_rules region) ≡ Some (rule_at 10 s.offset false).fault
broken_header region s t h = rw (t.is_there, h, t.begin) refl

-- rule 11 is broken, or none
pub rows_test : (region : List ℕ) (first end : ℕ) (shape : tables.Shape) → shape ≡ metadata.shape_of region → first ≡ metadata.first_row region → metadata.has_rows region ≡ nat_le (first + tables.sizes_before shape 64) (metadata.tables_end region)
unfolding metadata.has_rows metadata.rows_end
rows_test region first end shape e f = rw (e, f) refl

pub broken_rows : (region : List ℕ) (s : Stream) → TablesAt region s → metadata.is_tables_header region ≡ true → metadata.has_rows region ≡ false → first_broken (layout_rules region) ≡ Some (rule_at 11 (s.offset + s.size) false).fault
broken_rows region s t h r = rw (t.is_there, h, r, t.end) refl

pub kept_layout : (region : List ℕ) (s : Stream) → TablesAt region s → metadata.is_tables_header region ≡ true → metadata.has_rows region ≡ true → first_broken (layout_rules region) ≡ None
kept_layout region s t h r = rw (t.is_there, h, r) refl
