use Rattle.std.proofs.Common.{◌≡◌, ◌+◌, ◌-◌, ◌<◌, ◌≤◌, ◌++◌, length, map, take, drop, min, sym, ap, ◌∙◌, arith}
use Rattle.member_search.specs.Shown.{key_shown, members_in}
use Rattle.member_search.proofs.KeyRanges.{range_begins, range_step, range_ends, few_keys}
use Rattle.member_search.proofs.keys.member_keys.Goals as goal

pub loop-n-init : goal.loop-n-init
loop-n-init c =
    let end : c.min-end.result ≡ min (c.args.first + c.args.count) (length (members_in c.args.sort c.args.file.now)) = omega (arith, c.count_members.ensures) in
    range_begins c.args.first c.args.count c.min-end.result (members_in c.args.sort c.args.file.now) end
    ∙ ap (λ ks. map key_shown ks ++ take (c.min-end.result - c.args.first) (drop c.args.first (members_in c.args.sort c.args.file.now))) (sym c.new-keys.ensures.items)

pub loop-n-preserved : goal.loop-n-preserved
loop-n-preserved c =
    let ms = members_in c.args.sort c.args.file.now in
    let below : c.loop-n.n < c.min-end.result = omega arith in
    c.loop-n.invariant
    ∙ range_step key_shown c.loop-n.keys.items c.in_ok-member_key.field-0 c.loop-n.n c.min-end.result ms below c.in_ok-member_key.ensures
    ∙ ap (λ ks. map key_shown ks ++ take (c.min-end.result - (c.loop-n.n + 1)) (drop (c.loop-n.n + 1) ms)) (sym c.in_ok-push.ensures.items)

pub returns-clause-keys : goal.returns-clause-keys
returns-clause-keys c =
    let ms = members_in c.args.sort c.args.file.now in
    let over : c.min-end.result ≤ c.loop-n.n = omega arith in
    sym (c.loop-n.invariant ∙ range_ends key_shown c.loop-n.keys.items c.loop-n.n c.min-end.result ms over)

pub returns-clause-few : goal.returns-clause-few
returns-clause-few c =
    let ms = members_in c.args.sort c.args.file.now in
    let over : c.min-end.result ≤ c.loop-n.n = omega arith in
    few_keys key_shown c.loop-n.keys.items c.args.first c.args.count ms (sym (c.loop-n.invariant ∙ range_ends key_shown c.loop-n.keys.items c.loop-n.n c.min-end.result ms over))
