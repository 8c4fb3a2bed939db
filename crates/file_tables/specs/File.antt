-- All parts of a file, over which everything above is defined.
use Rattle.std.specs.Prelude.{ℕ, List, Result, Ok, Err}
use Rattle.plain_types.specs.declared.fault.Fault.{Fault}
use Rattle.file_tables.specs.Pe.{PePart, pe_of}
use Rattle.file_tables.specs.Metadata.{MetadataPart, metadata_of}

pub record FilePart : Type 0 where
  pub pe : PePart
  pub metadata : MetadataPart

-- the parts with the tables of the metadata range, or the first rule that this breaks
unfoldable pub with_metadata : PePart → Result MetadataPart Fault → Result FilePart Fault
with_metadata pe (Ok metadata) = Ok (record { pe = pe; metadata = metadata })
with_metadata pe (Err fault) = Err fault

unfoldable pub after_pe : Result PePart Fault → Result FilePart Fault
after_pe (Ok pe) = with_metadata pe (metadata_of pe.region)
after_pe (Err fault) = Err fault

-- the first broken rule of 1 to 13, or the parts
unfoldable pub file_of : List ℕ → Result FilePart Fault
file_of bytes = after_pe (pe_of bytes)
