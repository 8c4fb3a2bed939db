-- The rows of each file of a world that marks keep, and where the places of their code come to lie.
use Rattle.std.specs.Prelude.{ℕ, Bool, List, [], slice_get, unwrap_or}
use Rattle.file_tables.specs.File.{FilePart}
use Rattle.machine.specs.Throw.{on_some}
use Rattle.machine_rename.specs.Places.{to_long}
use Rattle.short_code.specs.Short.{to_short}
use Rattle.code_shrink.specs.Shrunk.{pieces_of}
use Rattle.world_rows.specs.World.{assemblies_of}
use Rattle.assemblies.specs.Chosen.{Choice}
use Rattle.row_numbers.specs.declared.table.Table.{Table}
use Rattle.kept_marks.specs.Kept.{is_kept}
use Rattle.kept_marks.specs.Masks.{choice_with}
use Rattle.converted.specs.Bodies.{codes_of}

module _ (files : List FilePart) (marks : List Bool) (f : ℕ) where
  -- a row is there and is kept
  abbrev pub keeps : Table → ℕ → Bool
  keeps t = is_kept (assemblies_of files) marks t f

  -- the code of a method
  abbrev pub code_at : ℕ → List ℕ
  code_at n = unwrap_or (on_some (slice_get files f) (λ x. slice_get (codes_of x) n)) []

  abbrev pub choice_of : Choice
  choice_of = choice_with keeps (λ n at. to_short (pieces_of (code_at n)) at) (λ n at. to_long (pieces_of (code_at n)) at)
