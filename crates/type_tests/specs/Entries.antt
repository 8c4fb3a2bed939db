-- The entries of a world's files.
use Rattle.std.specs.Prelude.{◌≡◌, ℕ, ◌+◌, Bool, List, drop, slice_get, slice_index, Option}
use Rattle.std.specs.List.{position}
use Rattle.std.specs.Option.{option_map}
use Rattle.file_tables.specs.Bytes.{has_bit}
use Rattle.file_tables.specs.Metadata.{MetadataPart, rows_of}
use Rattle.file_tables.specs.File.{FilePart}
use Rattle.world_rows.specs.Tokens.{methods}
use Rattle.world_rows.specs.World.{ecma_sources}
use Rattle.member_keys.specs.Seen.{class_seen}
use Rattle.class_rules.specs.Rules.{holds_some}
use Rattle.verdict_rules.specs.Types.{has_entry}
use Rattle.type_tests.specs.declared.entries.Entries.{Entries}

-- the first file from a number on that has an entry
abbrev pub entry_after : List FilePart → ℕ → Option ℕ
entry_after files n = option_map (λ k. n + k) (position has_entry (drop n files))

-- there is a method of a row, and it is static
abbrev pub is_static_row : MetadataPart → ℕ → Bool
is_static_row m row = holds_some (slice_get (rows_of m methods) row) (λ r. has_bit (slice_index r 2) 4)

pub record AreEntries (files : List FilePart) (e : Entries) : Type 0 where
  pub first : e.first ≡ entry_after files 2
  pub entry : option_map class_seen e.entry ≡ (ecma_sources files).entry
