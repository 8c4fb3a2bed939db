-- The set of images of the kept rows of a world's files, as it is found again.
use Rattle.std.specs.Prelude.{◌≡◌, ℕ, suc, ◌+◌, Bool, is_some, if◌then◌else◌, List, [], ◌∷◌, map, None, Some, slice_get}
use Rattle.file_tables.specs.File.{FilePart}
use Rattle.assemblies.specs.Rows.{Assembly}
use Rattle.kept_closure.specs.Kept.{IsClosed}
use Rattle.image_bytes.specs.Layout.{Image, onto}
use Rattle.deploy_model.specs.Banks as banks
use Rattle.world_rows.specs.World.{size_of, rows_alone, assemblies_of}
use Rattle.rows_resolved.specs.Resolved.{IsAccepted}
use Rattle.chosen_image.specs.Spells.{Spells}
use Rattle.converted.specs.Bodies.{methods_of}
use Rattle.converted.specs.Choosing.{choice_of}
use Rattle.converted.specs.Images.{images_of}
use Rattle.converted.specs.Over.{over_set}

-- how many assemblies of a set have an entry
abbrev pub entry_count : List Assembly → ℕ
entry_count [] = 0
entry_count (p ∷ ps) = if is_some p.entry then suc (entry_count ps) else entry_count ps

module _ (files : List FilePart) (marks : List Bool) where
  -- the kept rows of each file have a spelling
  abbrev pub AllSpell : Type 0
  AllSpell = (f : ℕ) (x : FilePart) (p : Assembly) → slice_get files f ≡ Some x → slice_get (assemblies_of files) f ≡ Some p → Spells (choice_of files marks f) p (methods_of x p)

  -- the bytes of each image
  abbrev pub image_bytes : List (List ℕ)
  image_bytes = map (λ (i : Image). onto i []) (images_of files marks)

  -- as they are found in a bank
  abbrev pub images_in : ℕ → List banks.Image
  images_in bank = banks.images_at (banks.base bank + banks.BODY) image_bytes

  -- accepted files, of which a closed set of rows is kept that has a spelling and passes no limit
  pub record IsKeptSet : Type 0 where
    pub accepted : IsAccepted files
    pub closed : IsClosed (size_of (rows_alone files)) (assemblies_of files) (choice_of files marks)
    pub spells : AllSpell
    pub within : over_set files marks ≡ None
