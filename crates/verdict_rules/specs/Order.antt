-- The order in which rules are looked at: files, in each its tables, in each its rows, and for each row its rules.
use Rattle.std.specs.Prelude.{ℕ, suc, Bool, true, false, cond, List, [], ◌∷◌, Option, Some, None}
use Rattle.plain_types.specs.declared.fault.Fault.{Fault}
use Rattle.plain_types.specs.declared.fault.TheConstants.{WHOLE_FILE}
use Rattle.file_tables.specs.Metadata.{MetadataPart, rows_of}
use Rattle.file_tables.specs.File.{FilePart}

-- a numbered rule of refusal, whether it is kept, and the offset that it names where it isn't
pub record Test : Type 0 where
  pub rule : ℕ
  pub offset : ℕ
  pub is_kept : Bool

abbrev pub test : ℕ → Bool → Test
test rule is_kept = record { rule = rule; offset = 0; is_kept = is_kept }

abbrev pub test_at : ℕ → ℕ → Bool → Test
test_at rule offset is_kept = record { rule = rule; offset = offset; is_kept = is_kept }

-- broken at an offset, if there is one
abbrev pub unless_at : ℕ → Option ℕ → Test
unless_at rule None = test rule true
unless_at rule (Some offset) = test_at rule offset false

abbrev pub fault_of : ℕ → ℕ → ℕ → Test → Fault
fault_of file table row t = record { rule = t.rule; place = record { file = file; table = table; row = row; offset = t.offset } }

-- the first of the tests that fails, told at a place
abbrev pub first_fault : ℕ → ℕ → ℕ → List Test → Option Fault
first_fault file table row [] = None
first_fault file table row (t ∷ ts) = cond t.is_kept (first_fault file table row ts) (Some (fault_of file table row t))

-- the first fault of numbered things
abbrev pub each : {A : Type 0} → (ℕ → A → Option Fault) → ℕ → List A → Option Fault
each fault n [] = None
each fault n (x ∷ xs) = elim (fault n x) [ None ↦ each fault (suc n) xs | Some found ↦ Some found ]

-- what is asked of the rows of a table: of each by its number from 0 and its columns
pub record TableRules : Type 0 where
  pub table : ℕ
  pub tests : ℕ → List ℕ → List Test

-- what is asked of a file: of its tables, and at last of the file itself
pub record FileRules : Type 0 where
  pub tables : List TableRules
  pub whole : List Test

abbrev pub table_fault : ℕ → MetadataPart → TableRules → Option Fault
table_fault file m t = each (λ n row. first_fault file t.table (suc n) (t.tests n row)) 0 (rows_of m t.table)

abbrev pub file_fault : ℕ → FilePart → FileRules → Option Fault
file_fault file x r =
    elim (each (λ _ t. table_fault file x.metadata t) 0 r.tables) [ None ↦ first_fault file WHOLE_FILE 0 r.whole | Some found ↦ Some found ]

-- a phase goes over all files
abbrev pub phase_fault : (ℕ → FilePart → FileRules) → List FilePart → Option Fault
phase_fault rules files = each (λ file x. file_fault file x (rules file x)) 0 files
