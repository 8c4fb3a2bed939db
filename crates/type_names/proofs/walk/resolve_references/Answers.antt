use Rattle.std.proofs.Common.{arith}
use Rattle.world_rows.specs.World.{rows_alone, size_of}
use Rattle.type_names.proofs.Walks.{begun}
use Rattle.type_names.proofs.Steps.{past_count, few_references}
use Rattle.type_names.proofs.walk.resolve_references.Goals as goal

pub expand_all-requires-clause-walked : goal.expand_all-requires-clause-walked
expand_all-requires-clause-walked c =
    begun c.args.names.now c.args.file c.begin_all.new.walk.resolved.items c.begin_all.new.walk.found.items
    (λ n h. past_count c.args.names.now c.args.file n (omega (arith, h, c.in_ok-begin_all.ensures.size, c.in_ok-unresolved.ensures.size, c.count-count.ensures)))
    c.in_ok-begin_all.ensures.started

pub expand_all-requires-clause-whole : goal.expand_all-requires-clause-whole
expand_all-requires-clause-whole c = λ n h. past_count c.args.names.now c.args.file n (omega (arith, h, c.in_ok-begin_all.ensures.size, c.in_ok-unresolved.ensures.size, c.count-count.ensures))

pub returns : goal.returns
returns c =
    λ n. c.in_ok-expand_all.ensures.resolved (size_of (rows_alone c.args.names.now)) n
    (omega (arith, c.in_ok-expand_all.ensures.size, c.in_ok-begin_all.ensures.size, c.in_ok-unresolved.ensures.size, c.count-count.ensures, few_references c.args.names.now c.args.file))
