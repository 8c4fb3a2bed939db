use Rattle.std.proofs.Common.{ap, ◌∙◌, map}
use Rattle.verdict_rules.specs.World.{world_of}
use Rattle.code_tests.specs.Tests.{handles_well}
use Rattle.catch_tests.proofs.method.first_broken.Goals as goal

pub returns : goal.returns
returns c =
    λ x m here.
    c.first_broken.ensures (world_of c.args.subject.now.world.now) c.args.file x m
    (c.deref.ensures.value ∙ c.in_ok-handled.ensures x here ∙ ap (map (handles_well (world_of c.args.subject.now.world.now) c.args.file x)) c.clauses.ensures)
