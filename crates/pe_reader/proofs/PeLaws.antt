-- Whole answers of the reader from the rules.
use Rattle.std.proofs.Common.{◌≡◌, ℕ, ◌+◌, ◌-◌, ◌<◌, ◌≤◌, min, List, length, length-drop, take, drop, true, false, Some, None, Ok, Err, refl, ap, sym, ◌∙◌, ⊎_elim, arith}
use Rattle.std.proofs.lemmas.Bool.{cases_lt}
use Rattle.std.proofs.lemmas.List.{take_all}
use Rattle.std.specs.Option.{option_map}
use Rattle.pe_reader.specs.Seen.{sections_from}
use Rattle.pe_reader.specs.Headers.{HasHeaders, HasCliHeader}
use Rattle.pe_reader.specs.declared.header.Headers.{Headers}
use Rattle.std.specs.Prelude.{is_some}
use Rattle.file_tables.specs.Bytes.{u32_at}
use Rattle.file_tables.specs.Pe.{place_of, file_place, region_place, region_size, Section, section_headers, section_count, section_of, sections_of, tail, tail_of, cli_header, pe_rules, pe_part, pe_of, is_dos, is_pe, has_optional_header, has_section_headers, has_cli_header, is_il_only, has_region}
use Rattle.file_tables.specs.Rules.{rule_at, first_broken}

pub refused : (file : List ℕ) (fault : _) → first_broken (pe_rules file) ≡ Some fault → pe_of file ≡ Err fault
unfolding pe_of
refused file fault e = rw e refl

pub accepted : (file : List ℕ) → is_dos file ≡ true → is_pe file ≡ true → has_optional_header file ≡ true → has_section_headers file ≡ true → has_cli_header file ≡ true → is_il_only file ≡ true → has_region file ≡ true → pe_of file ≡ Ok (pe_part file)
unfolding pe_of pe_rules
accepted file e1 e2 e3 e4 e5 e6 e7 = rw (e1, e2, e3, e4, e5, e6, e7) refl

pub without_region : (file : List ℕ) → is_dos file ≡ true → is_pe file ≡ true → has_optional_header file ≡ true → has_section_headers file ≡ true → has_cli_header file ≡ true → is_il_only file ≡ true → has_region file ≡ false → first_broken (pe_rules file) ≡ Some (rule_at 7 (cli_header file + 8) false).fault
unfolding pe_rules
without_region file e1 e2 e3 e4 e5 e6 e7 = rw (e1, e2, e3, e4, e5, e6, e7) refl

-- a range that ends at the list's end at the latest
pub take_within : (xs : List ℕ) (at k : ℕ) → take (min (length xs) (at + k) - at) (drop at xs) ≡ take k (drop at xs)
take_within xs at k =
    let rest : length (drop at xs) ≡ length xs - at = length-drop at xs in
    ⊎_elim
    (λ (short : length xs < at + k).
    let n : min (length xs) (at + k) - at ≡ length xs - at = omega arith in
    rw n
    (take_all (length xs - at) (drop at xs) (omega arith) ∙ sym (take_all k (drop at xs) (omega arith))))
    (λ (whole : at + k ≤ length xs).
    let n : min (length xs) (at + k) - at ≡ k = omega arith in
    rw n refl)
    (cases_lt (length xs) (at + k))

-- the answer of `tail` from the first section that holds the byte
pub tail_found : (file : List ℕ) (headers count rva : ℕ) (s : Section) → headers ≡ section_headers file → count ≡ section_count file → Some s ≡ section_of (length file) (sections_from file headers count) rva 1 → tail (pe_part file) rva ≡ Some (tail_of (pe_part file) rva s)
unfolding pe_part sections_of
tail_found file headers count rva s e1 e2 first =
    let found : section_of (length file) (sections_from file (section_headers file) (section_count file)) rva 1 ≡ Some s = rw (← e1, ← e2) (sym first) in
    ap (option_map (tail_of (pe_part file) rva)) found

-- the answer where no section holds the metadata
pub no_region : (file : List ℕ) (h : Headers) (cli : ℕ) → HasHeaders file h → HasCliHeader file cli → None ≡ place_of (length file) (sections_from file h.sections h.count) (u32_at file (cli + 8)) (u32_at file (cli + 12)) → pe_of file ≡ Err (rule_at 7 (cli + 8) false).fault
unfolding sections_of file_place region_place region_size has_region
no_region file h cli headers header e =
    let none : region_place file ≡ None = rw (header.place, ← headers.sections, ← headers.count) (sym e) in
    let absent : has_region file ≡ false = ap is_some none in
    refused file _
    (without_region file headers.dos headers.signature headers.directories headers.headers header.directory header.flags absent
    ∙ ap (λ at. Some (rule_at 7 (at + 8) false).fault) header.place)
