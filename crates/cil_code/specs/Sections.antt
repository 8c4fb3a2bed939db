-- The sections of exception clauses behind a fat body's code (ECMA-335 II.25.4.5, II.25.4.6).
use Rattle.std.specs.Prelude.{ℕ, zero, suc, ◌+◌, ◌-◌, ◌*◌, ◌/◌, ◌%◌, ◌^◌, ◌==◌, ◌&&◌, nat_le, min, if◌then◌else◌, List, [], ◌++◌, length, drop, map, slice_index, Option, Some, None, option_map, option_and_then, unwrap_or}
use Rattle.std.specs.List.{range_with_len}
use Rattle.file_tables.specs.Bytes.{u16_at, u32_at}
use Rattle.cil_code.specs.declared.clause.Clause.{Clause}
use Rattle.cil_code.specs.declared.clause.Form.{Form}
use Rattle.cil_code.specs.declared.clause.Form.TheVariants.{Small, Fat}
use Rattle.cil_code.specs.declared.sections.Section.{Section}

-- the bytes of a clause
abbrev pub clause_len : Form → ℕ
clause_len Small = 12
clause_len Fat = 24

-- an end in a field of four bytes; the greatest number stands for each that doesn't fit, and is past the end of any code
abbrev pub region_end : ℕ → ℕ → ℕ
region_end start len = min (start + len) (2 ^ 32 - 1)

-- the clause at an offset; the greatest kind stands for each that doesn't fit in two bytes
unfoldable pub clause_at : Form → List ℕ → ℕ → Clause
clause_at Small bytes at = record {
  kind = u16_at bytes at;
  try_start = u16_at bytes (at + 2);
  try_end = u16_at bytes (at + 2) + slice_index bytes (at + 4);
  start = u16_at bytes (at + 5);
  end = u16_at bytes (at + 5) + slice_index bytes (at + 7);
  token = u32_at bytes (at + 8);
}
clause_at Fat bytes at = record {
  kind = min (u32_at bytes at) (2 ^ 16 - 1);
  try_start = u32_at bytes (at + 4);
  try_end = region_end (u32_at bytes (at + 4)) (u32_at bytes (at + 8));
  start = u32_at bytes (at + 12);
  end = region_end (u32_at bytes (at + 12)) (u32_at bytes (at + 16));
  token = u32_at bytes (at + 20);
}

-- what the first byte says, but for its highest bit
abbrev pub form_of : ℕ → Option Form
form_of kind = if kind % 0x80 == 0x01 then Some Small else if kind % 0x80 == 0x41 then Some Fat else None

-- the bytes of a section by its head of four bytes
abbrev pub section_len : Form → List ℕ → ℕ
section_len Small bytes = slice_index bytes 1
section_len Fat bytes = u32_at bytes 0 / 2 ^ 8

-- a whole section of this form at the front: its head and clauses, and nothing else
abbrev pub formed_section : List ℕ → Form → Option Section
formed_section bytes form =
    let len = section_len form bytes in
    if nat_le 4 len && nat_le len (length bytes) && ((len - 4) % clause_len form == 0) then
    Some (record { form = form; count = (len - 4) / clause_len form; size = len; goes_on = nat_le 0x80 (slice_index bytes 0) })
    else None

-- the section at the front, if one stands there whole
unfoldable pub section_at : List ℕ → Option Section
section_at bytes = option_and_then (formed_section bytes) (form_of (slice_index bytes 0))

-- the clauses of the section at the front
abbrev pub clauses_of : Section → List ℕ → List Clause
clauses_of section bytes = map (λ k. clause_at section.form bytes (4 + clause_len section.form * k)) (range_with_len 0 section.count)

-- the clauses of a section and of those behind it
abbrev pub followed : Section → List ℕ → Option (List Clause) → Option (List Clause)
followed section bytes later =
    if section.goes_on then option_map (λ clauses. clauses_of section bytes ++ clauses) later else Some (clauses_of section bytes)

-- the clauses of at most so many sections from the front on
unfoldable pub sections_within : ℕ → List ℕ → Option (List Clause)
sections_within zero bytes = None
sections_within (suc most) bytes =
    option_and_then (λ section. followed section bytes (sections_within most (drop section.size bytes))) (section_at bytes)

-- The clauses of the sections from the front on, if the last one stands there whole. Bytes may follow it.
-- Each section has four bytes at least, so there are fewer sections than bytes.
unfoldable pub sections_of : List ℕ → Option (List Clause)
sections_of bytes = sections_within (length bytes) bytes

-- the clauses of the sections, where they stand whole, else none
abbrev pub clauses_in : List ℕ → List Clause
clauses_in bytes = unwrap_or (sections_of bytes) []
