-- When parts are those of a file's kept rows, and which limit is told of them.
use Rattle.std.specs.Prelude.{◌≡◌, ℕ, ◌<◌, Bool, List, Option, Some, None, slice_get}
use Rattle.std.specs.Option.{option_map}
use Rattle.plain_types.specs.declared.fault.Limit.{Limit}
use Rattle.file_tables.specs.File.{FilePart}
use Rattle.assemblies.specs.Rows.{Assembly}
use Rattle.assemblies.specs.Closed.{Each}
use Rattle.kept_closure.specs.Kept.{HasNamed}
use Rattle.world_rows.specs.World.{assemblies_of}
use Rattle.rows_resolved.specs.Resolved.{IsAccepted}
use Rattle.row_numbers.specs.Tables.{AreCounts}
use Rattle.kept_marks.specs.Masks.{InFile}
use Rattle.msspot_write.specs.declared.parts.Column.{Column}
use Rattle.msspot_write.specs.declared.parts.Column.TheVariants.{Signature}
use Rattle.msspot_write.specs.declared.parts.PartRow.{PartRow}
use Rattle.msspot_write.specs.declared.parts.Parts.{Parts}
use Rattle.msspot_write.specs.Parts.{over_of_parts}
use Rattle.converted.specs.Choosing.{choice_of}
use Rattle.converted.specs.Images.{parts_at, parts_cut, image_at, NumbersFit}
use Rattle.converted.specs.Over.{limit_in, over_counts}
use Rattle.image_codes.specs.Bytes.{HasBytes}
use Rattle.kept_image.specs.declared.refusal.ImageRefusal.{ImageRefusal}
use Rattle.kept_image.specs.declared.refusal.ImageRefusal.TheVariants as refusals

-- each byte of a signature is there whole
abbrev pub SignatureFits : Column → Type 0
SignatureFits (Signature bytes) = Each (λ b. b < 256) bytes
SignatureFits _ = Unit {0}

abbrev pub SignaturesFit : Parts → Type 0
SignaturesFit p = Each (λ (rows : List PartRow). Each (λ (r : PartRow). Each SignatureFits r.columns) rows) p.tables

-- where numbers are cut no limit changes, and within the limits 0 to 14 of the image none is cut
pub record CutsOnlyPastLimits (files : List FilePart) (marks : List Bool) (f : ℕ) (x : FilePart) (p : Assembly) : Type 0 where
  pub limits : (codes : List (List ℕ)) → over_of_parts (parts_cut (parts_at files marks f x p)) codes ≡ over_of_parts (parts_at files marks f x p) codes
  pub numbers : over_counts f (image_at files marks f (x, p)) ≡ None → NumbersFit (parts_at files marks f x p)

-- a file of an accepted world whose kept rows have what they name, with what is kept of it and the parts of its kept rows
pub record IsKeptFile (files : List FilePart) (marks : List Bool) (f : ℕ) (x : FilePart) (p : Assembly) (kept : InFile) (parts : Parts) : Type 0 where
  pub accepted : IsAccepted files
  pub named : HasNamed (assemblies_of files) (choice_of files marks)
  pub has_bytes : HasBytes x
  pub is_there : slice_get files f ≡ Some x
  pub has_rows : slice_get (assemblies_of files) f ≡ Some p
  pub counted : AreCounts (assemblies_of files) kept.kept.counts
  pub are_marks : kept.kept.marks ≡ marks
  pub is_file : kept.file ≡ f
  pub are_parts : parts ≡ parts_cut (parts_at files marks f x p)
  pub cuts : CutsOnlyPastLimits files marks f x p

-- a limit of the writer as one of assembly f
abbrev pub of_file : ℕ → Option Limit → Option Limit
of_file f o = option_map (λ (l : Limit). limit_in f l.number l.count) o

-- a limit is told only where it is the first that is passed; want of memory is free
abbrev pub Refuses : Option Limit → ImageRefusal → Type 0
Refuses over (refusals.Limit l) = over ≡ Some l
Refuses over refusals.NoMemory = Unit {0}
