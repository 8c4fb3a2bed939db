use Rattle.std.proofs.Common.{◌≡◌, [], take, drop}
use Rattle.base_tables.specs.Shape.{items_of}
use Rattle.base_lib.specs.Keys.{token_from}
use Rattle.base_lib.proofs.keys.token_for.Given as goal

abbrev pub invariant-loop-i : goal.invariant-loop-i
invariant-loop-i l = token_from (items_of (take l.i l.items)) (items_of (drop l.i l.items)) l.key ≡ token_from [] (items_of l.items) l.key
