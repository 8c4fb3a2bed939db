use Rattle.std.proofs.Common.{take}
use Rattle.std.specs.List.{flat_map}
use Rattle.row_rules.specs.Links.{row_at, keeps_each, Adds}
use Rattle.row_rules.specs.Named.{in_sig}
use Rattle.row_rules.proofs.signature.keep_types.Given as goal

abbrev pub invariant-loop-of : goal.invariant-loop-of
invariant-loop-of l = Adds (keeps_each (row_at l.place) (flat_map (in_sig l.place.file l.tables) (take l.of-index l.types))) l.fn.rules l.rules
