-- The PE part of a file (II.25): sections, CLI header and the metadata's range, and rules 1 to 7.
-- The functions of the bytes have a meaning only where the rules before those that read them are kept.
use Rattle.std.specs.Prelude.{ℕ, ◌+◌, ◌-◌, ◌*◌, ◌==◌, Bool, not, ◌&&◌, List, [], ◌∷◌, map, length, slice_index, nat_le, Option, is_some, Result, unwrap_or}
use Rattle.std.specs.Option.{option_map}
use Rattle.std.specs.List.{find, range_with_len}
use Rattle.plain_types.specs.declared.fault.Fault.{Fault}
use Rattle.file_tables.specs.Bytes.{u16_at, u32_at, range_of, has_bit}
use Rattle.file_tables.specs.Rules.{Rule, rule_at, first_broken, unless_broken}
use Rattle.file_tables.specs.declared.TheConstants.{MOST_FILE_BYTES}

-- of a section header (II.25.3): VirtualAddress, SizeOfRawData, PointerToRawData
pub record Section : Type 0 where
  pub address : ℕ
  pub size : ℕ
  pub pointer : ℕ

-- what the rest of the reader needs of the PE part
pub record PePart : Type 0 where
  pub bytes : List ℕ
  pub sections : List Section
  -- the entry token of the CLI header
  pub entry : ℕ
  -- the bytes of the metadata
  pub region : List ℕ

-- the section holds len bytes from rva on, all of them in its raw data and in the file
unfoldable pub holds : ℕ → ℕ → ℕ → Section → Bool
holds file_length rva len s = nat_le s.address rva && nat_le (rva + len) (s.address + s.size) && nat_le (s.pointer + (rva - s.address) + len) file_length

-- the first section that holds the range
unfoldable pub section_of : ℕ → List Section → ℕ → ℕ → Option Section
section_of file_length sections rva len = find (holds file_length rva len) sections

-- where the byte at rva stands in the file
abbrev pub place_in : Section → ℕ → ℕ
place_in s rva = s.pointer + (rva - s.address)

-- where the range stands in the file
unfoldable pub place_of : ℕ → List Section → ℕ → ℕ → Option ℕ
place_of file_length sections rva len = option_map (λ s. place_in s rva) (section_of file_length sections rva len)

-- the bytes of a range of RVAs
abbrev pub at_rva : PePart → ℕ → ℕ → Option (List ℕ)
at_rva pe rva len = option_map (λ place. range_of pe.bytes place len) (place_of (length pe.bytes) pe.sections rva len)

-- from the byte at rva to the last byte of its section that is in the file
abbrev pub tail_of : PePart → ℕ → Section → List ℕ
tail_of pe rva s = range_of pe.bytes (place_in s rva) (s.size - (rva - s.address))

abbrev pub tail : PePart → ℕ → Option (List ℕ)
tail pe rva = option_map (tail_of pe rva) (section_of (length pe.bytes) pe.sections rva 1)

-- the PE signature with the COFF header of 20 bytes behind it (II.25.2.2), and the optional header (II.25.2.3)
unfoldable pub pe_header : List ℕ → ℕ
pe_header file = u32_at file 60

unfoldable pub optional_header : List ℕ → ℕ
optional_header file = pe_header file + 24

unfoldable pub optional_size : List ℕ → ℕ
optional_size file = u16_at file (pe_header file + 20)

unfoldable pub section_count : List ℕ → ℕ
section_count file = u16_at file (pe_header file + 6)

unfoldable pub section_headers : List ℕ → ℕ
section_headers file = optional_header file + optional_size file

-- the section whose header of 40 bytes begins at an offset
abbrev pub section_at : List ℕ → ℕ → Section
section_at file at = record { address = u32_at file (at + 12); size = u32_at file (at + 16); pointer = u32_at file (at + 20) }

unfoldable pub sections_of : List ℕ → List Section
sections_of file = map (λ k. section_at file (section_headers file + 40 * k)) (range_with_len 0 (section_count file))

-- where a range that the file itself names stands, or 0
unfoldable pub file_place : List ℕ → ℕ → ℕ → Option ℕ
file_place file rva len = place_of (length file) (sections_of file) rva len

-- directory 14 names the CLI header of 72 bytes (II.25.3.3): RVA and size
unfoldable pub cli_directory : List ℕ → ℕ
cli_directory file = optional_header file + 208

unfoldable pub cli_place : List ℕ → Option ℕ
cli_place file = file_place file (u32_at file (cli_directory file)) 72

unfoldable pub cli_header : List ℕ → ℕ
cli_header file = unwrap_or (cli_place file) 0

-- the metadata's RVA and size stand at 8 and 12 of the CLI header
unfoldable pub region_size : List ℕ → ℕ
region_size file = u32_at file (cli_header file + 12)

unfoldable pub region_place : List ℕ → Option ℕ
region_place file = file_place file (u32_at file (cli_header file + 8)) (region_size file)

-- rules 1 to 7, each with its offset in the file
unfoldable pub is_dos : List ℕ → Bool
is_dos file = nat_le 64 (length file) && nat_le (length file) MOST_FILE_BYTES && slice_index file 0 == 0x4D && slice_index file 1 == 0x5A

unfoldable pub is_pe : List ℕ → Bool
is_pe file = nat_le (pe_header file + 24) (length file) && u32_at file (pe_header file) == 0x4550

unfoldable pub has_optional_header : List ℕ → Bool
has_optional_header file = nat_le 216 (optional_size file) && nat_le (section_headers file) (length file) && u16_at file (optional_header file) == 0x10B

unfoldable pub has_section_headers : List ℕ → Bool
has_section_headers file = nat_le (section_headers file + 40 * section_count file) (length file)

unfoldable pub has_cli_header : List ℕ → Bool
has_cli_header file = nat_le 72 (u32_at file (cli_directory file + 4)) && is_some (cli_place file)

-- IL only, and no native entry point
unfoldable pub is_il_only : List ℕ → Bool
is_il_only file = has_bit (u32_at file (cli_header file + 16)) 0 && not (has_bit (u32_at file (cli_header file + 16)) 4)

unfoldable pub has_region : List ℕ → Bool
has_region file = is_some (region_place file)

unfoldable pub pe_rules : List ℕ → List Rule
pe_rules file =
    rule_at 1 0 (is_dos file)
    ∷ rule_at 2 60 (is_pe file)
    ∷ rule_at 3 (optional_header file) (has_optional_header file)
    ∷ rule_at 4 (section_headers file) (has_section_headers file)
    ∷ rule_at 5 (cli_directory file) (has_cli_header file)
    ∷ rule_at 6 (cli_header file + 16) (is_il_only file)
    ∷ rule_at 7 (cli_header file + 8) (has_region file)
    ∷ []

-- the PE part of a file that keeps the rules
unfoldable pub pe_part : List ℕ → PePart
pe_part file = record {
  bytes = file;
  sections = sections_of file;
  entry = u32_at file (cli_header file + 20);
  region = range_of file (unwrap_or (region_place file) 0) (region_size file);
}

-- the first broken rule of 1 to 7, or the parts
unfoldable pub pe_of : List ℕ → Result PePart Fault
pe_of file = unless_broken (first_broken (pe_rules file)) (pe_part file)
