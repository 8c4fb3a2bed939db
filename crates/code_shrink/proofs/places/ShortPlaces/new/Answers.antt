use Rattle.std.proofs.Common.{sym, ap, ◌∙◌, subst}
use Rattle.code_shrink.specs.Starts.{way, TellWay}
use Rattle.code_shrink.proofs.Ways.{tells, way_in}
use Rattle.code_shrink.proofs.places.ShortPlaces.new.Goals as goal

pub invariant_of-result : goal.invariant_of-result
invariant_of-result c = subst TellWay (sym (c.in_ok-starts.ensures {u = tt})) (tells c.args.code.now)

pub returns : goal.returns
returns c = ap way (c.in_ok-starts.ensures {u = tt}) ∙ way_in c.args.code.now
