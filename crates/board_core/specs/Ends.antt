-- What the contents of a flash come to when they are booted and run.
use Rattle.std.specs.Prelude.{ℕ, List}
use Rattle.deploy_model.specs.Board as model
use Rattle.deploy_model.specs.Board.{Parts}
use Rattle.boot_scan.specs.Images.{FORMAT}
use Rattle.board_core.specs.declared.runs.Ended.{Ended}

-- by a content, the most steps, and the cells of memory
abbrev pub Ends : Type 0
Ends = List ℕ → ℕ → ℕ → model.Ended

abbrev pub ended_view : Ended → model.Ended
ended_view e = record { kind = e.kind; a = e.first; b = e.second; c = e.third; text = e.text }

-- a board that reads images by their form and runs contents so
abbrev pub parts_with : Ends → Parts
parts_with ends = record { format = FORMAT; runs = ends }
