use Rattle.std.proofs.Common.{◌≡◌, map, take}
use Rattle.type_names.specs.Files.{parts_of}
use Rattle.type_names.specs.Names.{assembly_seen, assembly_row}
use Rattle.type_names.proofs.names.assembly_keys.Given as goal

abbrev pub invariant-loop-file : goal.invariant-loop-file
invariant-loop-file l = map assembly_seen l.keys.items ≡ map assembly_row (parts_of (take l.file-index l.files))
