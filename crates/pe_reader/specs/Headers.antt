-- What is known of a file that keeps the rules on its headers.
use Rattle.std.specs.Prelude.{◌≡◌, ℕ, ◌+◌, ◌*◌, ◌≤◌, List, length, true}
use Rattle.file_tables.specs.Pe as pe
use Rattle.pe_reader.specs.declared.header.Headers.{Headers}

-- rules 1 to 4 are kept, and the headers stand there
pub record HasHeaders (file : List ℕ) (h : Headers) : Type 0 where
  pub dos : pe.is_dos file ≡ true
  pub signature : pe.is_pe file ≡ true
  pub directories : pe.has_optional_header file ≡ true
  pub headers : pe.has_section_headers file ≡ true
  pub optional : h.optional ≡ pe.optional_header file
  pub sections : h.sections ≡ pe.section_headers file
  pub count : h.count ≡ pe.section_count file
  pub small : length file ≤ 4194304
  pub directories_fit : h.optional + 216 ≤ length file
  pub headers_fit : h.sections + 40 * h.count ≤ length file

-- rules 5 and 6 are kept too, and the CLI header stands there
pub record HasCliHeader (file : List ℕ) (at : ℕ) : Type 0 where
  pub directory : pe.has_cli_header file ≡ true
  pub flags : pe.is_il_only file ≡ true
  pub place : pe.cli_header file ≡ at
  pub fits : at + 72 ≤ length file
