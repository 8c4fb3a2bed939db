-- What accepted files are converted into: the set of the images of the rows that are needed, or the first limit that they pass.
use Rattle.std.specs.Prelude.{◌≡◌, ℕ, Bool, List, Result}
use Rattle.plain_types.specs.declared.fault.Limit.{Limit}
use Rattle.file_tables.specs.File.{FilePart}
use Rattle.world_rows.specs.World.{assemblies_of, rows_alone, size_of}
use Rattle.kept_closure.specs.Kept.{IsNeeded}
use Rattle.converted.specs.Choosing.{choice_of}
use Rattle.converted.specs.Images.{set_bytes}
use Rattle.converted.specs.Over.{over_files, over_set}
use Rattle.convert_kept.specs.Conversion.{unless_over}

module _ (files : List FilePart) (marks : List Bool) where
  -- the rows that are marked are the least closed set of rows
  abbrev pub MarkNeeded : Type 0
  MarkNeeded = IsNeeded (size_of (rows_alone files)) (assemblies_of files) (choice_of files marks)

  -- the bytes of the images one after the other, or the first limit
  abbrev pub conversion_of : Result (List ℕ) Limit
  conversion_of = unless_over (over_set files marks) (set_bytes files marks)

  -- by the limits of single files alone
  abbrev pub images_within : Result (List ℕ) Limit
  images_within = unless_over (over_files files marks) (set_bytes files marks)

-- Files come to this bytes, or to this limit. They come to nothing else, since there is one least closed set of rows.
pub record Converts (files : List FilePart) (found : Result (List ℕ) Limit) : Type 0 where
  pub marks : List Bool
  pub needed : MarkNeeded files marks
  pub told : found ≡ conversion_of files marks
