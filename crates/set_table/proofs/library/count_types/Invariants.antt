use Rattle.std.proofs.Common.{◌≡◌, ◌≤◌, ◌*◌, ◌^◌, take}
use Rattle.world_rows.specs.World.{size_of}
use Rattle.set_names.specs.Names.{seen_all}
use Rattle.set_table.proofs.library.count_types.Given as goal

abbrev pub invariant-loop-file : goal.invariant-loop-file
invariant-loop-file l = record {
  size : l.size ≡ size_of (take l.file (seen_all l.names));
  few : l.size ≤ l.file * 2 ^ 18;
}
