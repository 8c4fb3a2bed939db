-- What one row of a file is told.
use Rattle.std.specs.Prelude.{ℕ, suc, List, Option, None, slice_get, unwrap_or}
use Rattle.std.specs.Option.{option_map}
use Rattle.plain_types.specs.declared.fault.Fault.{Fault}
use Rattle.file_tables.specs.Metadata.{MetadataPart, rows_of}
use Rattle.file_tables.specs.File.{FilePart}
use Rattle.machine.specs.Throw.{on_some}
use Rattle.verdict_rules.specs.Order.{TableRules, first_fault}

-- the columns of a row that counts from 0, where the file and the row are there
abbrev pub row_at : List FilePart → ℕ → ℕ → ℕ → Option (List ℕ)
row_at files file table n = on_some (slice_get files file) (λ x. slice_get (rows_of x.metadata table) n)

-- the first of its table's tests that a row fails
abbrev pub row_fault : ℕ → MetadataPart → TableRules → ℕ → Option Fault
row_fault file m rules n = on_some (slice_get (rows_of m rules.table) n) (λ row. first_fault file rules.table (suc n) (rules.tests n row))
