-- The first limit of the image format that the kept rows of a world's files and their shortened code pass.
use Rattle.std.specs.Prelude.{ℕ, unsigned_abs, Bool, nat_lt, if◌then◌else◌, List, length, Option, Some, None}
use Rattle.std.specs.List.{zip}
use Rattle.std.specs.Option.{option_map, option_or}
use Rattle.plain_types.specs.declared.fault.Limit.{Limit}
use Rattle.file_tables.specs.File.{FilePart}
use Rattle.world_rows.specs.World.{assemblies_of}
use Rattle.classes.specs.Queries.{first_some}
use Rattle.kept_rows.specs.Select.{select}
use Rattle.assemblies.specs.Rows.{Assembly}
use Rattle.assemblies.specs.Binding.{numbered}
use Rattle.image_bytes.specs.Layout.{Image}
use Rattle.msspot_write.specs.Parts.{first_over, counted}
use Rattle.code_shrink.specs.Limits.{far_in, wide_in}
use Rattle.converted.specs.Bodies.{codes_of}
use Rattle.converted.specs.Choosing.{choice_of}
use Rattle.converted.specs.Images.{image_at, set_bytes}

abbrev pub limit_in : ℕ → ℕ → ℕ → Limit
limit_in f number count = record { number = number; count = count; assembly = f }

-- ---- of one file

-- 0 to 14: rows of the tables, and bytes of the pools
abbrev pub over_counts : ℕ → Image → Option Limit
over_counts f i = option_map (λ (l : Limit). limit_in f l.number l.count) (first_over 0 (counted i))

-- 15: a distance outside -32,768 to 32,767, the first by method and offset; and then 16: a switch of more than 255 targets
abbrev pub over_distances : ℕ → List (List ℕ) → Option Limit
over_distances f codes = option_map (λ z. limit_in f 15 (unsigned_abs z)) (first_some far_in codes)

abbrev pub over_switches : ℕ → List (List ℕ) → Option Limit
over_switches f codes = option_map (limit_in f 16) (first_some wide_in codes)

abbrev pub over_file : ℕ → Image → List (List ℕ) → Option Limit
over_file f i codes = option_or (over_counts f i) (option_or (over_distances f codes) (over_switches f codes))

-- ---- of a set: more than 32 assemblies; then file by file; then more bytes than a bank of the flash has room for

abbrev pub most_assemblies : ℕ
most_assemblies = 32

abbrev pub most_bytes : ℕ
most_bytes = 122864

module _ (files : List FilePart) (marks : List Bool) where
  -- the codes of the methods that are kept
  abbrev pub kept_codes : ℕ → FilePart → List (List ℕ)
  kept_codes f x = select (choice_of files marks f).methods (codes_of x)

  abbrev pub over_at : ℕ → FilePart × Assembly → Option Limit
  over_at f x = over_file f (image_at files marks f x) (kept_codes f x.0)

  abbrev pub over_files : Option Limit
  over_files = first_some (λ o. o) (numbered over_at 0 (zip files (assemblies_of files)))

  abbrev pub over_size : Option Limit
  over_size = if nat_lt most_bytes (length (set_bytes files marks)) then Some (limit_in 0 17 (length (set_bytes files marks))) else None

  abbrev pub over_set : Option Limit
  over_set =
      if nat_lt most_assemblies (length files) then Some (limit_in 0 18 (length files)) else option_or over_files over_size
