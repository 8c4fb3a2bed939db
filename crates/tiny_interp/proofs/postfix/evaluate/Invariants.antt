use Rattle.std.proofs.Common.{◌≡◌, ◌-◌, length}
use Rattle.tiny_interp.specs.Postfix.{items_within, first_value, first_count}
use Rattle.tiny_interp.proofs.PostfixLemmas.{value_from, count_from}
use Rattle.tiny_interp.proofs.postfix.evaluate.Given as goal

-- what is left of the code makes of the stack what the whole code makes of the empty one
abbrev pub invariant-loop-index : goal.invariant-loop-index
invariant-loop-index l = record {
  value : value_from (items_within (length l.code - l.index) l.rest) l.stack ≡ first_value l.code;
  count : count_from (items_within (length l.code - l.index) l.rest) l.index ≡ first_count l.code;
}
