-- The parts of a file that is built.
use Rattle.std.specs.Prelude.{[], ◌∷◌, map}
use Rattle.std.specs.List.{range_with_len}
use Rattle.cil_layout.specs.declared.fixed.TheConstants.{MODULE_GUID}
use Rattle.cil_layout.specs.Asked.{Asked}
use Rattle.cil_layout.specs.Heaps.{strings_heap, blobs_heap, texts_heap, content}
use Rattle.cil_layout.specs.Numbers.{table_rows}
use Rattle.cil_layout.specs.Layout.{built, metadata, section_size, round_up}
use Rattle.file_tables.specs.Pe.{Section, PePart}
use Rattle.file_tables.specs.Metadata.{MetadataPart}
use Rattle.file_tables.specs.File.{FilePart}

-- the one section
abbrev pub section : Asked → Section
section r = record { address = 0x2000; size = round_up 512 (section_size (metadata r) (content r)); pointer = 512 }

abbrev pub pe_part : Asked → PePart
pe_part r = record { bytes = built r; sections = section r ∷ []; entry = r.entry; region = metadata r }

abbrev pub metadata_part_of : Asked → MetadataPart
metadata_part_of r = record {
  tables = map (table_rows r.name r.version r.rows) (range_with_len 0 64);
  strings = strings_heap r;
  guids = MODULE_GUID;
  blobs = blobs_heap r;
  user_strings = texts_heap r;
}

abbrev pub parts_of : Asked → FilePart
parts_of r = record { pe = pe_part r; metadata = metadata_part_of r }
