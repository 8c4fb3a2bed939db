use Rattle.std.proofs.Common.{◌≡◌, option_map, take}
use Rattle.mf_types.specs.Files.{bytes_under}
use Rattle.outside_in_memory.proofs.memory_store.last_of.Given as goal

-- what was found is the last one so far
abbrev pub invariant-loop-file : goal.invariant-loop-file
invariant-loop-file l = option_map (λ file. file.now.bytes) l.found ≡ bytes_under (take l.file-index l.files) l.name
