-- The literals that code loads (ECMA-335 III.4.16), each with the method's number and its place in the shortened code.
use Rattle.std.specs.Prelude.{ℕ, ◌+◌, unsigned_abs, List, [], ◌∷◌, ◌++◌, Option}
use Rattle.std.specs.List.{flat_map}
use Rattle.std.specs.Option.{option_map_or}
use Rattle.cil_opcodes.specs.declared.shape.Operand.{Operand}
use Rattle.cil_opcodes.specs.declared.shape.Operand.TheVariants.{StringToken}
use Rattle.cil_opcodes.specs.Rows.{row_of}
use Rattle.cil_code.specs.declared.instructions.Instr.{Instr}
use Rattle.cil_code.specs.Walk.{Placed}
use Rattle.cil_code.specs.Bodies.{BodyPart}
use Rattle.file_tables.specs.Metadata.{MetadataPart}
use Rattle.file_tables.specs.File.{FilePart}
use Rattle.assemblies.specs.Rows.{RawOperand, RawNothing}
use Rattle.world_rows.specs.Lines.{literal}
use Rattle.msspot_write.specs.declared.parts.PartLiteral.{PartLiteral}
use Rattle.msspot_write.specs.Spelt.{operand_parts, code_parts}
use Rattle.kept_marks.specs.Masks.{Masks}
use Rattle.converted.specs.Bodies.{body_of}
use Rattle.kept_bodies.specs.Kept.{code_kept, kept_methods}

module _ (m : MetadataPart) where
  abbrev pub loaded_as : Operand → ℕ → RawOperand
  loaded_as StringToken n = literal m n
  loaded_as _ n = RawNothing

  -- the literal that an instruction loads, or nothing
  abbrev pub loaded_by : Instr → RawOperand
  loaded_by i = option_map_or (λ row. loaded_as row.operand (unsigned_abs i.operand)) (row_of i.op) RawNothing

  -- in the list of the image
  abbrev pub literals_of : ℕ → (ℕ → ℕ) → List Placed → List PartLiteral
  literals_of method short is = flat_map (λ i. operand_parts method (short i.at) (loaded_by i.instr)) is

-- ---- of the kept methods of a file, by their numbers among those that are kept

abbrev pub literals_made : Masks → MetadataPart → ℕ → Option BodyPart → List PartLiteral
literals_made kept m number b = code_parts number (code_kept kept m b)

module _ (kept : Masks) (x : FilePart) where
  abbrev pub literals_from : ℕ → List (List ℕ) → List PartLiteral
  literals_from number [] = []
  literals_from number (row ∷ rows) = literals_made kept x.metadata number (body_of x row) ++ literals_from (number + 1) rows

  abbrev pub literal_rows : List PartLiteral
  literal_rows = literals_from 0 (kept_methods kept x)
