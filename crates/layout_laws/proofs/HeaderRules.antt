-- What the headers say, in the words of the reader, and that they keep rules 1 to 7.
use Rattle.std.proofs.Common.{◌≡◌, ℕ, ◌+◌, ◌≤◌, true, List, [], ◌∷◌, length, Some, None, refl, arith}
use Rattle.std.proofs.lemmas.Bool.Decides.{nat_tests}
use Rattle.cil_layout.specs.declared.fixed.TheConstants.{CONTENT_RVA}
use Rattle.file_tables.specs.Bytes.{u32_at}
use Rattle.file_tables.specs.Rules.{first_broken}
use Rattle.file_tables.specs.Pe as pe
use Rattle.layout_laws.proofs.FileNumbers.{HasHeaders}
use Rattle.layout_laws.proofs.Sections.{section_with, place_found}

module _ (file : List ℕ) (raw before len token : ℕ) (h : HasHeaders file raw before len token) (whole : length file ≡ 512 + raw) (fits : 72 + before + len ≤ raw) (small : 512 + raw ≤ 4194304) where
  -- the places of the headers, and the numbers in them
  pe_header_is : pe.pe_header file ≡ 128
  unfolding pe.pe_header
  pe_header_is = h.pe_place

  optional_header_is : pe.optional_header file ≡ 152
  unfolding pe.optional_header
  optional_header_is = rw pe_header_is refl

  optional_size_is : pe.optional_size file ≡ 224
  unfolding pe.optional_size
  optional_size_is = rw pe_header_is h.optional_size

  section_count_is : pe.section_count file ≡ 1
  unfolding pe.section_count
  section_count_is = rw pe_header_is h.count

  section_headers_is : pe.section_headers file ≡ 376
  unfolding pe.section_headers
  section_headers_is = rw (optional_header_is, optional_size_is) refl

  cli_directory_is : pe.cli_directory file ≡ 360
  unfolding pe.cli_directory
  cli_directory_is = rw optional_header_is refl

  -- there is one section
  pub sections_are : pe.sections_of file ≡ section_with raw ∷ []
  unfolding pe.sections_of
  sections_are = rw (section_count_is, section_headers_is, h.address, h.size, h.pointer) refl

  -- a range of the section stands in the file behind the first 512 bytes
  place_is : (at n : ℕ) → at + n ≤ raw → pe.file_place file (0x2000 + at) n ≡ Some (512 + at)
  unfolding pe.file_place
  place_is at n inside = rw (whole, sections_are) (place_found raw at n inside)

  -- the CLI header stands at its front, and says where the metadata stands
  cli_place_is : pe.cli_place file ≡ Some 512
  unfolding pe.cli_place
  cli_place_is = rw (cli_directory_is, h.cli_address) (place_is 0 72 (omega arith))

  cli_header_is : pe.cli_header file ≡ 512
  unfolding pe.cli_header
  cli_header_is = rw cli_place_is refl

  pub region_size_is : pe.region_size file ≡ len
  unfolding pe.region_size
  region_size_is = rw cli_header_is h.region_size

  pub region_place_is : pe.region_place file ≡ Some (512 + (72 + before))
  unfolding pe.region_place
  region_place_is =
      let same : CONTENT_RVA + before ≡ 0x2000 + (72 + before) = omega arith in
      rw (region_size_is, cli_header_is, h.region_address, same) (place_is (72 + before) len (omega arith))

  -- each rule is kept
  rule_1 : pe.is_dos file ≡ true
  unfolding pe.is_dos
  rule_1 = rw (h.first, h.second, whole) (grind (arith, nat_tests))

  rule_2 : pe.is_pe file ≡ true
  unfolding pe.is_pe
  rule_2 = rw (pe_header_is, h.signature, whole) (grind (arith, nat_tests))

  rule_3 : pe.has_optional_header file ≡ true
  unfolding pe.has_optional_header
  rule_3 = rw (optional_size_is, section_headers_is, optional_header_is, h.magic, whole) (grind (arith, nat_tests))

  rule_4 : pe.has_section_headers file ≡ true
  unfolding pe.has_section_headers
  rule_4 = rw (section_headers_is, section_count_is, whole) (grind (arith, nat_tests))

  rule_5 : pe.has_cli_header file ≡ true
  unfolding pe.has_cli_header
  rule_5 = rw (cli_directory_is, h.cli_size, cli_place_is) refl

  rule_6 : pe.is_il_only file ≡ true
  unfolding pe.is_il_only
  rule_6 = rw (cli_header_is, h.flags) refl

  rule_7 : pe.has_region file ≡ true
  unfolding pe.has_region
  rule_7 = rw region_place_is refl

  pub rules_kept : first_broken (pe.pe_rules file) ≡ None
  unfolding pe.pe_rules
  rules_kept = rw (rule_1, rule_2, rule_3, rule_4, rule_5, rule_6, rule_7) refl

  -- the entry token
  pub entry_is : u32_at file (pe.cli_header file + 20) ≡ token
  entry_is = rw cli_header_is h.entry
