use Rattle.std.proofs.Common.{◌++◌, subst}
use Rattle.std.proofs.lemmas.Result.{on_ok_weaker}
use Rattle.class_table.specs.Seen.{native_seen}
use Rattle.row_rules.specs.Links.{row_at, row_if, keeps_each, Adds}
use Rattle.row_rules.proofs.LinkLaws.{keeps_after}
use Rattle.member_rules.specs.Members.{rows_where}
use Rattle.member_rules.proofs.NativeLaws.{thrown_is}
use Rattle.member_rules.proofs.natives.keep_native.Goals as goal

pub returns : goal.returns
returns c =
    λ cs is.
    let r = row_at c.args.place in
    let t = c.args.thrown.now in
    let e = c.exceptions_of-throws.result in
    let first = rows_where e.argument (row_if t.argument) in
    let second = rows_where e.argument_null (row_if t.argument_null) in
    let third = rows_where e.argument_out_of_range (row_if t.argument_out_of_range) in
    on_ok_weaker c.keep_class-3.result
    (λ adds.
    subst (λ rows. Adds (keeps_each r rows) c.args.rules.now c.keep_class-3.new.rules) (thrown_is cs t e (native_seen c.args.native) is c.exceptions_of-throws.ensures)
    (keeps_after r first (second ++ third) c.args.rules.now c.keep_class.new.rules c.keep_class-3.new.rules c.in_ok-keep_class.ensures
    (keeps_after r second third c.keep_class.new.rules c.keep_class-2.new.rules c.keep_class-3.new.rules c.in_ok-keep_class-2.ensures adds)))
    c.keep_class-3.ensures
