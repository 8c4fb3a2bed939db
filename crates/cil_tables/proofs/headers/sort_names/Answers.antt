use Rattle.std.proofs.Common.{◌≡◌, rules}
use Rattle.std.specs.Ordering.{is_lt}
use Rattle.std.proofs.lemmas.Fn.{always_returns_same}
use Rattle.std.proofs.lemmas.List.Sorted.{ranks_by}
use Rattle.cil_tables.specs.Headers.{header_order}
use Rattle.cil_tables.proofs.HeaderLaws.{order_total}
use Rattle.cil_tables.proofs.headers.sort_names.Goals as goal

pub returns-clause-sorted : goal.returns-clause-sorted
returns-clause-sorted c =
    c.sort_unstable_by.ensures.sorted (λ a b. is_lt (header_order c.args.region.now a b)) (ranks_by (order_total c.args.region.now) (λ x. x))
    (always_returns_same _ (λ a r. is_lt r ≡ is_lt (header_order c.args.region.now a.0.now a.1.0.now)) _ (λ a r f' k. search rules))
