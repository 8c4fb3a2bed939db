-- The methods of a file, each with its code and with what its row doesn't tell of it (II.22.26, II.25.4).
use Rattle.std.specs.Prelude.{ℕ, ◌==◌, false, not, if◌then◌else◌, List, [], map, slice_index, Option, Some, None}
use Rattle.std.specs.List.{zip}
use Rattle.cil_code.specs.Bodies.{BodyPart}
use Rattle.file_tables.specs.Metadata.{rows_of}
use Rattle.file_tables.specs.File.{FilePart}
use Rattle.world_rows.specs.Tokens.{methods}
use Rattle.world_rows.specs.Lines.{body_part}
use Rattle.world_rows.specs.Rows.{is_internal}
use Rattle.assemblies.specs.Rows.{Assembly}
use Rattle.image_form.specs.Form.{Manner}
use Rattle.image_form.specs.Whole.{Methods}
use Rattle.code_shrink.specs.Lines.{rows_in}

-- an internal call has none
abbrev pub body_of : FilePart → List ℕ → Option BodyPart
body_of f row = if is_internal row then None else body_part f (slice_index row 0)

-- a method without a body has no code
abbrev pub code_in : Option BodyPart → List ℕ
code_in None = []
code_in (Some b) = b.code

abbrev pub codes_of : FilePart → List (List ℕ)
codes_of f = map (λ row. code_in (body_of f row)) (rows_of f.metadata methods)

-- the opcodes of its code, and whether its locals have a signature
abbrev pub manner_in : Option BodyPart → Manner
manner_in None = record { opcodes = []; has_locals = false }
manner_in (Some b) = record { opcodes = rows_in b.code; has_locals = not (b.locals_token == 0) }

abbrev pub manners_of : FilePart → List Manner
manners_of f = map (λ row. manner_in (body_of f row)) (rows_of f.metadata methods)

-- the methods of a file, whose rows are those of an assembly
abbrev pub methods_of : FilePart → Assembly → Methods
methods_of f p = zip (manners_of f) p.methods
