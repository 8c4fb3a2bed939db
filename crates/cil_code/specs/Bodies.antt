-- Bodies of methods (ECMA-335 II.25.4).
use Rattle.std.specs.Prelude.{ℕ, ◌+◌, ◌*◌, ◌/◌, ◌%◌, ◌^◌, ◌==◌, ◌&&◌, nat_lt, nat_le, if◌then◌else◌, List, [], length, take, drop, slice_index, Option, Some, None, option_map, Result}
use Rattle.std.specs.Option.{ok_or}
use Rattle.file_tables.specs.Bytes.{u16_at, u32_at, has_bit}
use Rattle.cil_code.specs.declared.clause.Clause.{Clause}
use Rattle.cil_code.specs.declared.fault.CodeFault.{CodeFault}
use Rattle.cil_code.specs.declared.fault.TheConstants.{FAULTY_BODY}
use Rattle.cil_code.specs.Sections.{sections_of}

-- what a body holds
pub record BodyPart : Type 0 where
  pub max_stack : ℕ
  pub locals_token : ℕ
  pub code : List ℕ
  pub clauses : List Clause

-- a body with a header of one byte (II.25.4.2)
unfoldable pub tiny_body : List ℕ → Option BodyPart
tiny_body bytes =
    let size = slice_index bytes 0 / 4 in
    if nat_lt size (length bytes) then Some (record { max_stack = 8; locals_token = 0; code = take size (drop 1 bytes); clauses = [] }) else None

-- the next multiple of four
abbrev pub aligned : ℕ → ℕ
aligned n = (n + 3) / 4 * 4

-- the clauses behind code that ends at this offset, if the flag 0x8 says that sections follow
unfoldable pub clauses_behind : List ℕ → ℕ → Option (List Clause)
clauses_behind bytes end = if has_bit (u16_at bytes 0) 3 then sections_of (drop (aligned end) bytes) else Some []

-- a body with a header of twelve bytes (II.25.4.3), which says in its highest four bits that it has three times four
unfoldable pub fat_body : List ℕ → Option BodyPart
fat_body bytes =
    let size = u32_at bytes 4 in
    if nat_le 12 (length bytes) && (u16_at bytes 0 / 2 ^ 12 == 3) && nat_le (12 + size) (length bytes) then
    option_map (λ clauses. record { max_stack = u16_at bytes 2; locals_token = u32_at bytes 8; code = take size (drop 12 bytes); clauses = clauses }) (clauses_behind bytes (12 + size))
    else None

-- The two lowest bits of the first byte tell the header.
unfoldable pub body_at : List ℕ → Option BodyPart
body_at bytes =
    if slice_index bytes 0 % 4 == 2 then tiny_body bytes
    else if slice_index bytes 0 % 4 == 3 then fat_body bytes
    else None

-- the body, or the one rule that a faulty body breaks
unfoldable pub body_of : List ℕ → Result BodyPart CodeFault
body_of bytes = ok_or (body_at bytes) (record { rule = FAULTY_BODY; offset = 0 })
