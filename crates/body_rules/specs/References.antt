-- How many references to fields stand before a row of MemberRef (II.22.25).
use Rattle.std.specs.Prelude.{ℕ, suc, List, map, take, count_by}
use Rattle.std.specs.List.{range_with_len}
use Rattle.file_tables.specs.Metadata.{MetadataPart, rows_of, row_count}
use Rattle.world_rows.specs.Tokens.{member_refs, is_field_ref}

-- among the first n rows
abbrev pub fields_before : MetadataPart → ℕ → ℕ
fields_before m n = count_by (is_field_ref m) (take n (rows_of m member_refs))

-- for each number of rows, up to all of them
abbrev pub all_before : MetadataPart → List ℕ
all_before m = map (fields_before m) (range_with_len 0 (suc (row_count m member_refs)))
