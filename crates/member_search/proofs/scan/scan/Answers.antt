use Rattle.std.proofs.Common.{◌≡◌, ◌+◌, ◌<◌, ◌≤◌, length, min, sym, ◌∙◌, arith}
use Rattle.member_search.specs.Shown.{key_shown, is_shown, members_in}
use Rattle.member_search.proofs.ScanLaws.{rest_begins, rest_hits, rest_fails, rest_ends, there}
use Rattle.member_search.proofs.scan.scan.Goals as goal

pub loop-n-init : goal.loop-n-init
loop-n-init c =
    let end : c.min-end.result ≡ min (c.args.first + c.args.count) (length (members_in c.args.sort c.args.file.now)) = omega (arith, c.count_members.ensures) in
    record {
      low = omega arith;
      told = rest_begins (is_shown (key_shown c.args.wanted.now)) c.args.first c.args.count c.min-end.result (members_in c.args.sort c.args.file.now) end;
    }

pub returns-then-is_member : goal.returns-then-is_member
returns-then-is_member c =
    let ms = members_in c.args.sort c.args.file.now in
    let below : c.loop-n.n < c.min-end.result = omega arith in
    let within : c.loop-n.n < length ms = omega (arith, c.count_members.ensures) in
    let m = there ms c.loop-n.n within in
    sym (c.loop-n.invariant.told ∙ rest_hits (is_shown (key_shown c.args.wanted.now)) c.args.first c.min-end.result ms c.loop-n.n m.0 below m.1 (sym (c.is_member.ensures m.0 m.1) ∙ c.if-is_member.true))

pub loop-n-preserved : goal.loop-n-preserved
loop-n-preserved c =
    let ms = members_in c.args.sort c.args.file.now in
    let below : c.loop-n.n < c.min-end.result = omega arith in
    let within : c.loop-n.n < length ms = omega (arith, c.count_members.ensures) in
    let m = there ms c.loop-n.n within in
    record {
      low = omega (arith, c.loop-n.invariant.low);
      told = c.loop-n.invariant.told ∙ rest_fails (is_shown (key_shown c.args.wanted.now)) c.args.first c.min-end.result ms c.loop-n.n m.0 below m.1 c.loop-n.invariant.low (sym (c.is_member.ensures m.0 m.1) ∙ c.if-is_member.false);
    }

pub returns : goal.returns
returns c =
    let over : c.min-end.result ≤ c.loop-n.n = omega arith in
    sym (c.loop-n.invariant.told ∙ rest_ends (is_shown (key_shown c.args.wanted.now)) c.args.first c.min-end.result (members_in c.args.sort c.args.file.now) c.loop-n.n over)
