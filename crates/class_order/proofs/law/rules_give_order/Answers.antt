use Rattle.std.proofs.Common.{◌≤◌, arith}
use Rattle.classes.specs.Queries.{above}
use Rattle.class_rules.proofs.Kept.{chain_ends, ends_more, interfaces_only, no_super}
use Rattle.class_order.proofs.law.rules_give_order.Goals as goal

pub returns : goal.returns
returns c =
    λ n cs r b k.
    let room : n ≤ cs.size = omega (arith, r.room) in
    record {
      ends_above = λ d. ends_more (above cs) n cs.size d (chain_ends n cs r b k d) room;
      no_super = λ d i. no_super n cs r b k d i;
      interfaces_only = λ d e i h. interfaces_only n cs r b k d e i h;
    }
