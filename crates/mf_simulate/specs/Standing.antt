-- When a set of images stands for files.
use Rattle.std.specs.Prelude.{◌≡◌, ℕ, List}
use Rattle.file_tables.specs.File.{FilePart}
use Rattle.assemblies.specs.Chosen.{Choice, chosen_set}
use Rattle.world_rows.specs.World.{size_of, rows_alone, assemblies_of}
use Rattle.base_rows.specs.Facts.{base}
use Rattle.kept_closure.specs.Kept.{IsClosed, PlacesLead}
use Rattle.kept_joined.specs.Judged.{PlacesRise}
use Rattle.rows_resolved.specs.Resolved.{IsAccepted}
use Rattle.deploy_model.specs.Banks.{Image}
use Rattle.board_program.specs.Parts.{set_parts, rows_of_parts}
use Rattle.board_program.specs.Listed.{AreWhole}

-- the files are accepted behind the base library, and the images are whole and have a closed choice of the files' rows, with code
-- whose places come in the same order
pub record StandsFor (xs : List FilePart) (keep : ℕ → Choice) (images : List Image) : Type 0 where
  pub accepted : IsAccepted (base xs)
  pub closed : IsClosed (size_of (rows_alone (base xs))) (assemblies_of (base xs)) keep
  pub leads : PlacesLead (assemblies_of (base xs)) keep
  pub rises : PlacesRise keep
  pub whole : AreWhole (set_parts images)
  pub rows : rows_of_parts (set_parts images) ≡ chosen_set keep (assemblies_of (base xs))
