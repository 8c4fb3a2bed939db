use Rattle.std.proofs.Common.{◌≡◌, ◌+◌, ap, ◌∙◌, map, take, drop, arith}
use Rattle.std.specs.List.{filter_map}
use Rattle.member_keys.specs.Seen.{class_seen}
use Rattle.tiny_members.specs.Rows.{interfaces_seen}
use Rattle.set_table.specs.Subject.{class_in}
use Rattle.set_table.proofs.SubjectLaws.{named_more}
use Rattle.set_table.proofs.types.read_interfaces.Goals as goal

pub loop-k-preserved : goal.loop-k-preserved
loop-k-preserved c =
    let place : c.args.range.first + c.loop-k.k ≡ c.from-first.result + c.from.result = omega (arith, c.from-first.ensures, c.from.ensures) in
    named_more c.args.subject.now (map class_seen c.loop-k.found.items) _ c.args.range.first c.loop-k.k _ c.loop-k.invariant place c.in_ok-add_interface.ensures

pub returns : goal.returns
returns c =
    let all : c.loop-k.k ≡ c.args.range.count = omega arith in
    c.loop-k.invariant ∙ ap (λ k. filter_map (class_in c.args.subject.now) (take k (drop c.args.range.first (interfaces_seen c.args.subject.now.image.now)))) all
