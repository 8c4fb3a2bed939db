-- The methods of a file that are kept, with their bodies (ECMA-335 II.22.26, II.25.4).
use Rattle.std.specs.Prelude.{ℕ, List, [], slice_index_or, Option}
use Rattle.std.specs.Option.{option_map}
use Rattle.file_tables.specs.Metadata.{MetadataPart, rows_of}
use Rattle.file_tables.specs.File.{FilePart}
use Rattle.cil_code.specs.Bodies.{BodyPart}
use Rattle.kept_rows.specs.Select.{select}
use Rattle.short_code.specs.Short.{to_short}
use Rattle.code_shrink.specs.Shrunk.{pieces_of}
use Rattle.assemblies.specs.Rows.{RawCode}
use Rattle.assemblies.specs.Chosen.{code_to}
use Rattle.world_rows.specs.Tokens.{methods}
use Rattle.world_rows.specs.Lines.{raw_code}
use Rattle.row_numbers.specs.declared.table.Table.TheVariants as table
use Rattle.kept_marks.specs.Masks.{Masks, choice_of_rows}
use Rattle.converted.specs.Bodies.{body_of}

-- the row of a method, from 0, and its body
abbrev pub row_at : MetadataPart → ℕ → List ℕ
row_at m n = slice_index_or (rows_of m methods) n []

abbrev pub body_at : FilePart → ℕ → Option BodyPart
body_at x n = body_of x (row_at x.metadata n)

-- the code of a body, with the rows that are kept, and with places in the shortened code
abbrev pub kept_code : Masks → MetadataPart → BodyPart → RawCode
kept_code kept m b = code_to (choice_of_rows kept) (to_short (pieces_of b.code)) (raw_code m b)

abbrev pub code_kept : Masks → MetadataPart → Option BodyPart → Option RawCode
code_kept kept m b = option_map (kept_code kept m) b

-- the rows of those that are kept
abbrev pub kept_methods : Masks → FilePart → List (List ℕ)
kept_methods kept x = select (kept table.MethodDef) (rows_of x.metadata methods)
