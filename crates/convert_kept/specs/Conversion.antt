-- What the kept rows of one file are converted into: the bytes of its image, or the first limit that they pass.
use Rattle.std.specs.Prelude.{◌≡◌, ℕ, Bool, List, [], Option, Some, None, slice_get, Result, Ok, Err}
use Rattle.plain_types.specs.declared.fault.Limit.{Limit}
use Rattle.file_tables.specs.File.{FilePart, file_of}
use Rattle.assemblies.specs.Rows.{Assembly}
use Rattle.image_bytes.specs.Layout.{onto}
use Rattle.code_shrink.specs.Lines.{AreBytes}
use Rattle.converted.specs.Images.{image_at}
use Rattle.converted.specs.Over.{over_at}
use Rattle.convert_kept.specs.declared.refusal.ConvertRefusal.{ConvertRefusal}
use Rattle.convert_kept.specs.declared.refusal.ConvertRefusal.TheVariants as refusal

-- files that were read from bytes, which keep the rules 1 to 13
abbrev pub AreOpened : List FilePart → Type 0
AreOpened files = (f : ℕ) (x : FilePart) → slice_get files f ≡ Some x → (bytes : List ℕ) × (AreBytes bytes × (file_of bytes ≡ Ok x))

-- bytes, where no limit is passed
abbrev pub unless_over : Option Limit → List ℕ → Result (List ℕ) Limit
unless_over None bytes = Ok bytes
unless_over (Some limit) bytes = Err limit

module _ (files : List FilePart) (marks : List Bool) where
  -- of the file of a number
  abbrev pub conversion_at : ℕ → FilePart × Assembly → Result (List ℕ) Limit
  conversion_at f x = unless_over (over_at files marks f x) (onto (image_at files marks f x) [])

-- this holds of the bytes or the limit that a call answers; of want of memory nothing is said
abbrev pub Gives : {A : Type 0} → (A → List ℕ) → Result A ConvertRefusal → (Result (List ℕ) Limit → Type 0) → Type 0
Gives view (Ok x) Holds = Holds (Ok (view x))
Gives view (Err (refusal.Limit limit)) Holds = Holds (Err limit)
Gives view (Err refusal.NoMemory) Holds = Unit {0}
