use Rattle.std.proofs.Common.{ℕ, ◌≤◌, ◌<◌, Bool, sym, ◌∙◌, arith}
use Rattle.std.specs.List.{list_any}
use Rattle.class_table.specs.declared.rows.MethodRow.{MethodRow}
use Rattle.class_table.specs.Seen.{body_seen}
use Rattle.library_tests.specs.Methods.{is_number}
use Rattle.library_tests.proofs.ListLaws.{range_more, range_not, range_all}
use Rattle.library_tests.proofs.methods.has_range.Goals as goal

pub loop-number-preserved : goal.loop-number-preserved
loop-number-preserved c =
    let has : ℕ → Bool = λ number. list_any (λ (row : MethodRow). is_number number (body_seen row.body)) c.args.rows.now in
    let low : c.args.first ≤ c.loop-number.number = omega arith in
    let high : c.loop-number.number < c.args.end = omega arith in
    range_more has c.args.first c.args.end c.loop-number.number low high c.loop-number.invariant (sym c.has_native.ensures ∙ c.if-not-has_native.false)

pub returns-then-not-has_native : goal.returns-then-not-has_native
returns-then-not-has_native c =
    let has : ℕ → Bool = λ number. list_any (λ (row : MethodRow). is_number number (body_seen row.body)) c.args.rows.now in
    let low : c.args.first ≤ c.loop-number.number = omega arith in
    let high : c.loop-number.number < c.args.end = omega arith in
    range_not has c.args.first c.args.end c.loop-number.number low high (sym c.has_native.ensures ∙ c.if-not-has_native.true)

pub returns : goal.returns
returns c =
    let has : ℕ → Bool = λ number. list_any (λ (row : MethodRow). is_number number (body_seen row.body)) c.args.rows.now in
    let past : c.args.end ≤ c.loop-number.number = omega arith in
    range_all has c.args.first c.args.end c.loop-number.number past c.loop-number.invariant
