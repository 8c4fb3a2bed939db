-- The files of a world.
use Rattle.std.specs.Prelude.{◌≡◌, ℕ, List, map, Result, Ok, Err}
use Rattle.plain_types.specs.declared.fault.Fault.{Fault}
use Rattle.file_tables.specs.File.{FilePart, file_of}
use Rattle.type_names.specs.declared.file.File.{File}

-- the parts of a file
abbrev pub part_of : File → FilePart
part_of f = record { pe = f.pe; metadata = f.metadata }

abbrev pub parts_of : List File → List FilePart
parts_of files = map part_of files

abbrev pub OpensFile : List ℕ → Result File Fault → Type 0
OpensFile bytes (Ok f) = file_of bytes ≡ Ok (part_of f)
OpensFile bytes (Err fault) = file_of bytes ≡ Err fault

-- the same fault of a file of a number
abbrev pub fault_in : ℕ → Fault → Fault
fault_in n fault = record { rule = fault.rule; place = record { file = n; table = fault.place.table; row = fault.place.row; offset = fault.place.offset } }
