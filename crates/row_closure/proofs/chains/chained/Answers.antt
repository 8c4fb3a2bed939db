use Rattle.std.proofs.Common.{◌<◌, length, arith}
use Rattle.std.proofs.lemmas.Option.{slice_get-get_or}
use Rattle.row_closure.proofs.ChainLaws.{row_within, one_more}
use Rattle.row_closure.proofs.chains.chained.Goals as goal

pub add-requires-clause-inside : goal.add-requires-clause-inside
add-requires-clause-inside c =
    let inside : c.loop-number.number < length c.args.rules.now = omega (arith, c.loop-number-test.true, c.in-Ok.ensures) in
    let there = slice_get-get_or c.args.rules.now c.loop-number.number (record { first = 0; second = 0; then = 0 }) inside in
    let within = row_within c.args.premise c.args.rows c.args.rules.now c.requires c.loop-number.number _ there in
    let named = c.named.ensures _ there in
    omega (arith, within, named, c.loop-number.invariant.chains.rows)

pub loop-number-preserved : goal.loop-number-preserved
loop-number-preserved c =
    let inside : c.loop-number.number < length c.args.rules.now = omega (arith, c.loop-number-test.true, c.in-Ok.ensures) in
    let there = slice_get-get_or c.args.rules.now c.loop-number.number (record { first = 0; second = 0; then = 0 }) inside in
    let within = row_within c.args.premise c.args.rows c.args.rules.now c.requires c.loop-number.number _ there in
    let named = c.named.ensures _ there in
    record {
      chains = one_more c.args.premise c.args.rules.now c.args.rows c.loop-number.number c.loop-number.chains c.add.new.chains _ c.named.result c.loop-number.invariant.chains there named (omega (arith, within, named)) c.in_ok-add.ensures.last c.in_ok-add.ensures.before;
    }
