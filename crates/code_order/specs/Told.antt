-- What is told of the code of a method, of a file and of all files.
use Rattle.std.specs.Prelude.{◌≡◌, ℕ, suc, Bool, true, List, Option, Some, None, slice_get}
use Rattle.std.specs.Option.{option_map_or}
use Rattle.plain_types.specs.declared.fault.Fault.{Fault}
use Rattle.file_tables.specs.Metadata.{rows_of, row_count}
use Rattle.file_tables.specs.File.{FilePart}
use Rattle.cil_code.specs.Bodies.{BodyPart}
use Rattle.machine.specs.Program.{Method}
use Rattle.machine.specs.Throw.{on_some}
use Rattle.class_rules.specs.Rules.{holds_some}
use Rattle.world_rows.specs.Tokens.{methods}
use Rattle.verdict_rules.specs.Order.{TableRules, first_fault, file_fault}
use Rattle.verdict_rules.specs.World.{World, world_of}
use Rattle.verdict_rules.specs.Code.{method_here, is_code, body_of, body_tests, code_tests, code_rules}
use Rattle.profile_subject.specs.Faults.{row_fault}
use Rattle.code_tests.specs.Tests.{first_broken, tests_before}
use Rattle.judged_classes.specs.Judged.{IsJudged}

abbrev pub method_rules : World → ℕ → FilePart → TableRules
method_rules w file x = record { table = methods; tests = code_tests w file x }

-- how many methods a file has
unfoldable pub methods_in : List FilePart → ℕ → ℕ
methods_in files file = option_map_or (λ (x : FilePart). row_count x.metadata methods) (slice_get files file) 0

-- of a row that counts from 0
unfoldable pub row_told : List FilePart → ℕ → ℕ → Option Fault
row_told files file n = on_some (slice_get files file) (λ x. row_fault file x.metadata (method_rules (world_of files) file x) n)

unfoldable pub file_told : List FilePart → ℕ → Option Fault
file_told files file = on_some (slice_get files file) (λ x. file_fault file x (code_rules (world_of files) file x))

-- ---- a method

-- it has a signature, and its body is code
abbrev pub has_code : World → ℕ → FilePart → ℕ → Bool
has_code w file x n = holds_some (method_here w file x n) (λ m. is_code m.body)

-- the row of a method with code
pub record IsCoded (files : List FilePart) (file n : ℕ) (x : FilePart) (columns : List ℕ) (m : Method) : Type 0 where
  pub file_is : slice_get files file ≡ Some x
  pub row_is : slice_get (rows_of x.metadata methods) n ≡ Some columns
  pub method_is : method_here (world_of files) file x n ≡ Some m
  pub coded : is_code m.body ≡ true

-- what is told of a method with code, whose files keep the rules before
abbrev pub CodeTold : List FilePart → ℕ → ℕ → Option Fault → Type 0
CodeTold files file n fault =
    IsJudged files → (x : FilePart) (columns : List ℕ) (m : Method) → IsCoded files file n x columns m → fault ≡ first_fault file methods (suc n) (body_tests (world_of files) file x m (body_of x columns))

-- the same of one with a sound body
abbrev pub BodyTold : List FilePart → ℕ → ℕ → BodyPart → Option Fault → Type 0
BodyTold files file n body fault =
    IsJudged files → (x : FilePart) (columns : List ℕ) (m : Method) → IsCoded files file n x columns m → body_of x columns ≡ Some body → fault ≡ first_fault file methods (suc n) (body_tests (world_of files) file x m (Some body))

-- and whose code keeps the rules before the forward pass
abbrev pub PassTold : List FilePart → ℕ → ℕ → BodyPart → Option Fault → Type 0
PassTold files file n body fault =
    IsJudged files → (x : FilePart) (columns : List ℕ) (m : Method) → IsCoded files file n x columns m → body_of x columns ≡ Some body → first_broken (tests_before (world_of files) file x m body) ≡ None → fault ≡ first_fault file methods (suc n) (body_tests (world_of files) file x m (Some body))
