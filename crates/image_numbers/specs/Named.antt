-- When the tokens of a file's kept code name kept rows and literals that are there, and when numbers are those of a file's image.
use Rattle.std.specs.Prelude.{◌≡◌, ℕ, true, unsigned_abs, Bool, List, Some, slice_get}
use Rattle.cil_opcodes.specs.declared.shape.Operand.{Operand}
use Rattle.cil_opcodes.specs.declared.shape.Operand.TheVariants as kinds
use Rattle.cil_code.specs.Bodies.{BodyPart}
use Rattle.file_tables.specs.Metadata.{MetadataPart, rows_of}
use Rattle.file_tables.specs.File.{FilePart}
use Rattle.assemblies.specs.Rows.{Assembly}
use Rattle.assemblies.specs.Chosen.{Choice}
use Rattle.assemblies.specs.Closed.{Each}
use Rattle.image_form.specs.Codes.{Meaning, Instr, number_of}
use Rattle.kept_closure.specs.Kept.{HasType, HasMethod, HasField}
use Rattle.world_rows.specs.Tokens.{methods}
use Rattle.world_rows.specs.World.{assemblies_of}
use Rattle.msspot_write.specs.Parts.{pools_of}
use Rattle.row_numbers.specs.Tables.{AreCounts}
use Rattle.code_shrink.specs.FileLines.{file_meaning}
use Rattle.code_shrink.specs.Lines.{AreBytes}
use Rattle.code_shrink.specs.Shrunk.{CanShrink, instrs_in}
use Rattle.converted.specs.Bodies.{body_of}
use Rattle.converted.specs.Images.{parts_at}
use Rattle.image_numbers.specs.Numbers.{InImage}

module _ (k : Choice) (m : Meaning) where
  abbrev pub IsNamed : Operand → ℕ → Type 0
  IsNamed kinds.TypeToken n = HasType k (m.type n)
  IsNamed kinds.FieldToken n = HasField k (m.field n)
  IsNamed kinds.MethodToken n = HasMethod k (m.method n)
  IsNamed kinds.StringToken n = (units : List ℕ) × (m.text n ≡ Some units)
  IsNamed kinds.AnyToken n = HasField k (m.field n)
  IsNamed _ n = Unit {0}

  abbrev pub AllNamed : List Instr → Type 0
  AllNamed is = Each (λ i. IsNamed i.row.operand (unsigned_abs (number_of i.operand))) is

-- code that can be shortened, and that names only what is kept
pub record NamesKept (k : Choice) (m : MetadataPart) (code : List ℕ) : Type 0 where
  pub bytes : AreBytes code
  pub sound : CanShrink code
  pub named : AllNamed k (file_meaning m) (instrs_in code)

-- of each kept method of a file
abbrev pub AllNameKept : Choice → FilePart → Type 0
AllNameKept k x =
    (n : ℕ) (row : List ℕ) (b : BodyPart) → slice_get (rows_of x.metadata methods) n ≡ Some row → k.methods n ≡ true → body_of x row ≡ Some b → NamesKept k x.metadata b.code

-- numbers of the rows that marks keep of a world's file, and of the literals in the strings of its image's parts
pub record AreNumbersOf (files : List FilePart) (marks : List Bool) (f : ℕ) (x : FilePart) (p : Assembly) (i : InImage) : Type 0 where
  pub counted : AreCounts (assemblies_of files) i.kept.kept.counts
  pub are_marks : i.kept.kept.marks ≡ marks
  pub is_file : i.kept.file ≡ f
  pub is_metadata : i.metadata ≡ x.metadata
  pub are_strings : i.strings ≡ (pools_of (parts_at files marks f x p)).strings
