-- Bodies and their code, with operands as rows (II.25.4, III.1.9).
use Rattle.std.specs.Prelude.{ℕ, ℤ, pos, ◌+ℤ◌, unsigned_abs, ◌+◌, ◌*◌, ◌%◌, ◌==◌, ◌&&◌, ◌||◌, Bool, nat_le, if◌then◌else◌, List, [], ◌∷◌, map, slice_index, Option, Some, None}
use Rattle.std.specs.List.{range_with_len, filter_map}
use Rattle.std.specs.Option.{option_map}
use Rattle.cil_opcodes.specs.declared.shape.Operand.{Operand}
use Rattle.cil_opcodes.specs.declared.shape.Operand.TheVariants.{Nothing, Int8, UInt8, UInt16, Int32, Int64, BranchShort, BranchLong, Switch, TypeToken, FieldToken, MethodToken, StringToken, AnyToken}
use Rattle.cil_opcodes.specs.declared.shape.Row.{Row}
use Rattle.cil_opcodes.specs.Rows.{row_of}
use Rattle.cil_code.specs.declared.clause.Clause.{Clause}
use Rattle.cil_code.specs.Instructions.{target_at}
use Rattle.cil_code.specs.Walk.{Placed, instructions_of}
use Rattle.cil_code.specs.Bodies.{BodyPart, body_at}
use Rattle.file_tables.specs.Heaps.{user_string_at}
use Rattle.file_tables.specs.Pe.{tail}
use Rattle.file_tables.specs.Metadata.{MetadataPart, row_count, column_of}
use Rattle.file_tables.specs.File.{FilePart}
use Rattle.machine.specs.Throw.{on_some}
use Rattle.assemblies.specs.Rows.{RawOperand, RawNothing, RawNumber, RawTargets, RawTypeOf, RawField, RawMethod, RawText, RawLine, RawKind, RawCatch, RawFinally, RawOther, RawClause, RawCode, RawType}
use Rattle.world_rows.specs.Tokens.{table_of, number_of, literals, locals_signatures, bytes_at, type_named, method_named, field_named}
use Rattle.world_rows.specs.Signatures.{locals_signature}

-- UTF-16, the lowest byte first
abbrev pub units_from : List ℕ → List ℕ
units_from [] = []
units_from (low ∷ []) = []
units_from (low ∷ high ∷ rest) = (low + 256 * high) ∷ units_from rest

abbrev pub raw_text : Option (List ℕ) → RawOperand
raw_text (Some bytes) = RawText (units_from bytes)
raw_text None = RawNothing

abbrev pub literal : MetadataPart → ℕ → RawOperand
literal m token = if table_of token == literals then raw_text (user_string_at m.user_strings (number_of token)) else RawNothing

-- the targets of a switch, from the place behind it
abbrev pub switch_targets : List ℕ → ℕ → ℕ → ℕ → List ℤ
switch_targets code at next count = map (λ k. pos next +ℤ target_at code at k) (range_with_len 0 count)

-- the operand of the instruction that ends at next
abbrev pub raw_operand : MetadataPart → List ℕ → ℕ → ℕ → Operand → ℤ → RawOperand
raw_operand m code at next Nothing n = RawNothing
raw_operand m code at next Int8 n = RawNumber n
raw_operand m code at next UInt8 n = RawNumber n
raw_operand m code at next UInt16 n = RawNumber n
raw_operand m code at next Int32 n = RawNumber n
raw_operand m code at next Int64 n = RawNumber n
raw_operand m code at next BranchShort n = RawTargets ((pos next +ℤ n) ∷ [])
raw_operand m code at next BranchLong n = RawTargets ((pos next +ℤ n) ∷ [])
raw_operand m code at next Switch n = RawTargets (switch_targets code at next (unsigned_abs n))
raw_operand m code at next TypeToken n = RawTypeOf (type_named m (unsigned_abs n))
raw_operand m code at next FieldToken n = RawField (field_named m (unsigned_abs n))
raw_operand m code at next MethodToken n = RawMethod (method_named m (unsigned_abs n))
raw_operand m code at next StringToken n = literal m (unsigned_abs n)
-- of `ldtoken`, which takes a field
raw_operand m code at next AnyToken n = RawField (field_named m (unsigned_abs n))

abbrev pub line_by : MetadataPart → List ℕ → Placed → Row → RawLine
line_by m code i row =
    record {
      at = i.at;
      shape = row.shape;
      operand = raw_operand m code i.at (i.at + i.instr.length) row.operand i.instr.operand;
      next = i.at + i.instr.length;
    }

abbrev pub raw_line : MetadataPart → List ℕ → Placed → Option RawLine
raw_line m code i = option_map (line_by m code i) (row_of i.instr.op)

-- the instructions that the walk from the first byte meets
unfoldable pub lines_of : MetadataPart → List ℕ → List RawLine
lines_of m code = filter_map (raw_line m code) (instructions_of code)

-- ---- clauses

abbrev pub raw_kind : MetadataPart → ℕ → ℕ → RawKind
raw_kind m kind token = if kind == 0 then RawCatch (type_named m token) else if kind == 2 then RawFinally else RawOther

abbrev pub raw_clause : MetadataPart → Clause → RawClause
raw_clause m c = record { kind = raw_kind m c.kind c.token; try_start = c.try_start; try_end = c.try_end; start = c.start; end = c.end }

-- ---- bodies

-- the token of locals is 0, or names a signature
abbrev pub is_locals_token : MetadataPart → ℕ → Bool
is_locals_token m token =
    (token == 0) || ((table_of token == locals_signatures) && nat_le 1 (number_of token) && nat_le (number_of token) (row_count m locals_signatures))

abbrev pub locals_of : MetadataPart → ℕ → List RawType
locals_of m token = if token == 0 then [] else locals_signature m (bytes_at m (column_of m locals_signatures (number_of token) 0))

-- a fat header begins at a multiple of four
abbrev pub is_aligned : ℕ → List ℕ → Bool
is_aligned rva bytes = (slice_index bytes 0 % 4 == 2) || (rva % 4 == 0)

abbrev pub if_sound : MetadataPart → ℕ → List ℕ → BodyPart → Option BodyPart
if_sound m rva bytes b = if is_aligned rva bytes && is_locals_token m b.locals_token then Some b else None

abbrev pub body_in : MetadataPart → ℕ → List ℕ → Option BodyPart
body_in m rva bytes = on_some (body_at bytes) (if_sound m rva bytes)

-- the body of a method with an RVA, where the rule of bodies is kept
unfoldable pub body_part : FilePart → ℕ → Option BodyPart
body_part f rva = if rva == 0 then None else on_some (tail f.pe rva) (body_in f.metadata rva)

abbrev pub raw_code : MetadataPart → BodyPart → RawCode
raw_code m b = record { locals = locals_of m b.locals_token; max_stack = b.max_stack; clauses = map (raw_clause m) b.clauses; lines = lines_of m b.code }

abbrev pub code_at : FilePart → ℕ → Option RawCode
code_at f rva = option_map (raw_code f.metadata) (body_part f rva)
