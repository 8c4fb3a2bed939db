-- What is written for the kept rows of each file: its parts, its codes and its image; and the set, the images one after the other.
use Rattle.std.specs.Prelude.{ℕ, ◌<◌, Bool, List, [], map}
use Rattle.std.specs.List.{flat_map, zip}
use Rattle.file_tables.specs.File.{FilePart}
use Rattle.world_rows.specs.World.{assemblies_of}
use Rattle.assemblies.specs.Rows.{Assembly}
use Rattle.assemblies.specs.Binding.{numbered}
use Rattle.assemblies.specs.Chosen.{Choice, chosen}
use Rattle.assemblies.specs.Closed.{Each}
use Rattle.image_bytes.specs.Layout.{Image, onto}
use Rattle.image_form.specs.Whole.{Methods, laid}
use Rattle.chosen_image.specs.Spells.{chosen_methods}
use Rattle.msspot_write.specs.declared.parts.Column.{Column}
use Rattle.msspot_write.specs.declared.parts.Column.TheVariants.{Number, Name, Signature, Data, Code}
use Rattle.msspot_write.specs.declared.parts.PartRow.{PartRow}
use Rattle.msspot_write.specs.declared.parts.Parts.{Parts}
use Rattle.msspot_write.specs.Spelt.{parts_for, codes_for}
use Rattle.converted.specs.Cut.{two_bytes, bytes_cut}
use Rattle.converted.specs.Bodies.{methods_of}
use Rattle.converted.specs.Choosing.{choice_of}

-- ---- of the rows that a choice keeps

module _ (k : Choice) (p : Assembly) (ms : Methods) where
  abbrev pub parts_of : Parts
  parts_of = parts_for (chosen k p) (chosen_methods k ms)

  abbrev pub codes_for_kept : List (List ℕ)
  codes_for_kept = codes_for (chosen k p) (chosen_methods k ms)

  abbrev pub image_of : Image
  image_of = laid (chosen k p) (chosen_methods k ms)

-- ---- numbers of two bytes: within the limits each number has two, and past them what is left of it

abbrev pub column_cut : Column → Column
column_cut (Number n) = Number (two_bytes n)
column_cut (Name text) = Name text
column_cut (Signature bytes) = Signature (bytes_cut bytes)
column_cut (Data bytes) = Data bytes
column_cut Code = Code

abbrev pub row_cut : PartRow → PartRow
row_cut r = record { columns = map column_cut r.columns }

abbrev pub parts_cut : Parts → Parts
parts_cut p =
    record {
      version = map two_bytes p.version;
      name = p.name;
      entry = two_bytes p.entry;
      tables = map (map row_cut) p.tables;
      literals = p.literals;
    }

-- each number, and each byte of a signature, is there whole
abbrev pub ColumnFits : Column → Type 0
ColumnFits (Number n) = n < 65536
ColumnFits (Signature bytes) = Each (λ b. b < 256) bytes
ColumnFits _ = Unit {0}

pub record NumbersFit (p : Parts) : Type 0 where
  pub version : Each (λ n. n < 65536) p.version
  pub entry : p.entry < 65536
  pub tables : Each (λ (rows : List PartRow). Each (λ (r : PartRow). Each ColumnFits r.columns) rows) p.tables

-- ---- of the files of a world

module _ (files : List FilePart) (marks : List Bool) where
  abbrev pub parts_at : ℕ → FilePart → Assembly → Parts
  parts_at f x p = parts_of (choice_of files marks f) p (methods_of x p)

  abbrev pub image_at : ℕ → FilePart × Assembly → Image
  image_at f x = image_of (choice_of files marks f) x.1 (methods_of x.0 x.1)

  abbrev pub images_of : List Image
  images_of = numbered image_at 0 (zip files (assemblies_of files))

  abbrev pub set_bytes : List ℕ
  set_bytes = flat_map (λ i. onto i []) images_of
