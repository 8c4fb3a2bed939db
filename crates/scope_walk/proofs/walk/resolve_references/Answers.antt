use Rattle.std.proofs.Common.{arith}
use Rattle.scope_walk.proofs.Walks.{begun}
use Rattle.scope_walk.proofs.Steps.{past_count}
use Rattle.scope_walk.proofs.walk.resolve_references.Goals as goal

pub expand_all-requires-clause-walked : goal.expand_all-requires-clause-walked
expand_all-requires-clause-walked g c =
    begun (g.R.References.rows c.args.references.now) c.args.file c.begin_all.new.walk.resolved.items c.begin_all.new.walk.found.items
    (λ n h. past_count (g.R.References.rows c.args.references.now) c.args.file n (omega (arith, h, c.in_ok-begin_all.ensures.size, c.in_ok-unresolved.ensures.size, c.count-count.ensures)))
    c.in_ok-begin_all.ensures.started

pub expand_all-requires-clause-whole : goal.expand_all-requires-clause-whole
expand_all-requires-clause-whole g c = λ n h. past_count (g.R.References.rows c.args.references.now) c.args.file n (omega (arith, h, c.in_ok-begin_all.ensures.size, c.in_ok-unresolved.ensures.size, c.count-count.ensures))

pub returns-clause-types : goal.returns-clause-types
returns-clause-types g c =
    λ most n few. c.in_ok-expand_all.ensures.resolved most n
    (omega (arith, few, c.in_ok-expand_all.ensures.size, c.in_ok-begin_all.ensures.size, c.in_ok-unresolved.ensures.size, c.count-count.ensures))
