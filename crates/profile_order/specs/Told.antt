-- What is told of a world's files, from one row to a phase.
use Rattle.std.specs.Prelude.{◌≡◌, ℕ, suc, ◌+◌, ◌<◌, ◌^◌, List, length, slice_get, Option, Some, None}
use Rattle.std.specs.Option.{option_map_or}
use Rattle.plain_types.specs.declared.fault.Fault.{Fault}
use Rattle.plain_types.specs.declared.fault.TheConstants.{WHOLE_FILE}
use Rattle.file_tables.specs.Metadata.{rows_of, row_count}
use Rattle.file_tables.specs.File.{FilePart}
use Rattle.machine.specs.Throw.{on_some}
use Rattle.verdict_rules.specs.Order.{first_fault, each, table_fault, file_fault, phase_fault}
use Rattle.verdict_rules.specs.World.{world_of}
use Rattle.profile_subject.specs.Faults.{row_fault}
use Rattle.profile_order.specs.declared.tables.ProfileTable.{ProfileTable}
use Rattle.profile_order.specs.declared.tables.Phase.{Phase}
use Rattle.profile_order.specs.Tables.{number_of, rules_of, whole_tests, phase_rules}

-- how many rows a table of a file has
unfoldable pub rows_in : List FilePart → ℕ → ProfileTable → ℕ
rows_in files file table = option_map_or (λ x. row_count x.metadata (number_of table)) (slice_get files file) 0

-- of a row that counts from 0
unfoldable pub row_told : List FilePart → ℕ → ProfileTable → ℕ → Option Fault
row_told files file table n = on_some (slice_get files file) (λ x. row_fault file x.metadata (rules_of (world_of files) file x table) n)

unfoldable pub table_told : List FilePart → ℕ → ProfileTable → Option Fault
table_told files file table = on_some (slice_get files file) (λ x. table_fault file x.metadata (rules_of (world_of files) file x table))

unfoldable pub tables_told : List FilePart → ℕ → List ProfileTable → Option Fault
tables_told files file tables = each (λ _ table. table_told files file table) 0 tables

-- of the file itself
unfoldable pub whole_told : List FilePart → ℕ → Phase → Option Fault
whole_told files file phase = on_some (slice_get files file) (λ x. first_fault file WHOLE_FILE 0 (whole_tests (world_of files) file x phase))

unfoldable pub file_told : List FilePart → ℕ → Phase → Option Fault
file_told files file phase = on_some (slice_get files file) (λ x. file_fault file x (phase_rules (world_of files) phase file x))

unfoldable pub phase_told : List FilePart → Phase → Option Fault
phase_told files phase = phase_fault (phase_rules (world_of files) phase) files

-- a row that is there
pub record IsRow (files : List FilePart) (file : ℕ) (table : ProfileTable) (n : ℕ) : Type 0 where
  pub file_there : file < length files
  pub row_there : n < rows_in files file table
  pub few : n + 1 < 2 ^ 32
