use Rattle.std.proofs.Common.{Ok, ap, arith}
use Rattle.cil_sig.specs.Reading.{whole_field}
use Rattle.cil_sig.proofs.Near.{field_near}
use Rattle.cil_sig.proofs.Wholes.{field_takes, field_again}
use Rattle.cil_sig.proofs.Calls.{at_fault, not_both, same_value}
use Rattle.cil_sig.proofs.signatures.field_sig.Goals as goal

pub bad-requires-clause-inside : goal.bad-requires-clause-inside
bad-requires-clause-inside c =
    let blob = c.args.blob.now in
    (at_fault 261 blob (whole_field blob) c.in-Err.no_case.left c.in-Err.ensures (field_near blob)).0

pub bad-requires-clause-near : goal.bad-requires-clause-near
bad-requires-clause-near c =
    let blob = c.args.blob.now in
    omega (arith, (at_fault 261 blob (whole_field blob) c.in-Err.no_case.left c.in-Err.ensures (field_near blob)).1)

pub returns-in-Ok-clause-found : goal.returns-in-Ok-clause-found
returns-in-Ok-clause-found c = field_takes c.args.blob.now c.in-Ok.of c.in-Ok.ensures

pub returns-in-Ok-clause-only : goal.returns-in-Ok-clause-only
returns-in-Ok-clause-only c =
    let blob = c.args.blob.now in
    λ of is. ap (λ x. Ok x) (same_value (whole_field blob) c.in-Ok.of of c.in-Ok.ensures (field_again blob of is))

pub returns-in-Err-clause-only : goal.returns-in-Err-clause-only
returns-in-Err-clause-only c =
    let blob = c.args.blob.now in
    λ of is. not_both (whole_field blob) of c.in-Err.no_case.left (field_again blob of is) c.in-Err.ensures
