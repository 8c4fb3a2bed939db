use Rattle.std.proofs.Common.{ap, ◌∙◌}
use Rattle.code_places.specs.Places.{end_of}
use Rattle.code_places.proofs.WalkLaws.{new_starts, new_targets}
use Rattle.code_places.proofs.listing.Listing.new.Goals as goal

pub invariant_of-result : goal.invariant_of-result
invariant_of-result c = record {
  clauses = c.into_vec-clauses.ensures ∙ c.in_ok-clauses.ensures;
  starts = new_starts c.args.body.code c.code-code.result.now c.in_ok-starts.starts c.mark_places-end.new.starts c.code-code.ensures c.in_ok-starts.ensures c.mark_places-end.ensures.starts;
  targets = new_targets c.args.body.code c.code-code.result.now c.in_ok-targets.targets c.mark_places-end.new.targets c.code-code.ensures c.in_ok-targets.ensures c.mark_places-end.ensures.targets;
  end = c.mark_places-end.ensures.end ∙ ap end_of c.code-code.ensures;
}
