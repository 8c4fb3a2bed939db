-- When the numbers that the tokens of a kept method's code get are those of the image's rows and literals.
use Rattle.std.specs.Prelude.{◌≡◌, ℕ, true, List, Some, slice_get}
use Rattle.cil_code.specs.Bodies.{BodyPart}
use Rattle.file_tables.specs.Metadata.{MetadataPart, rows_of}
use Rattle.file_tables.specs.File.{FilePart}
use Rattle.world_rows.specs.Tokens.{methods}
use Rattle.assemblies.specs.Chosen.{Choice}
use Rattle.image_form.specs.Codes.{Words}
use Rattle.code_shrink.specs.FileLines.{file_meaning}
use Rattle.code_shrink.specs.Lines.{AreBytes, AllNumbered}
use Rattle.code_shrink.specs.Shrunk.{CanShrink, instrs_in}
use Rattle.converted.specs.Bodies.{body_of}

-- code that can be shortened, each of whose tokens gets the image's word for the row that it named, or for its literal
pub record GetsNumbers (k : Choice) (m : MetadataPart) (words : Words) (token : ℕ → ℕ) (code : List ℕ) : Type 0 where
  pub bytes : AreBytes code
  pub sound : CanShrink code
  pub numbered : AllNumbered k (file_meaning m) words token (instrs_in code)

-- of each kept method of a file
abbrev pub AllGetNumbers : Choice → FilePart → Words → (ℕ → ℕ) → Type 0
AllGetNumbers k x words token =
    (n : ℕ) (row : List ℕ) (b : BodyPart) → slice_get (rows_of x.metadata methods) n ≡ Some row → k.methods n ≡ true → body_of x row ≡ Some b → GetsNumbers k x.metadata words token b.code
