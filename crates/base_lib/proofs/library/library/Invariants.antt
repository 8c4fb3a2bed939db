use Rattle.std.proofs.Common.{◌≡◌, take, fold}
use Rattle.base_tables.specs.declared.library.TheConstants.{VERSION}
use Rattle.base_tables.specs.Shape.{items_of}
use Rattle.cil_layout.specs.Asked.{asked_first}
use Rattle.base_lib.specs.Files.{with_item}
use Rattle.base_lib.proofs.library.library.Given as goal

abbrev pub invariant-loop-item : goal.invariant-loop-item
invariant-loop-item l = l.build ≡ fold (with_item (items_of l.items)) (asked_first l.name VERSION) (items_of (take l.item-index l.items))
