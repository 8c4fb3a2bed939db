use Rattle.std.proofs.Common.{Ok, ap, ◌^◌, arith}
use Rattle.cil_sig.specs.Reading.{whole_locals}
use Rattle.cil_sig.proofs.Near.{locals_near}
use Rattle.cil_sig.proofs.Wholes.{locals_take, locals_again}
use Rattle.cil_sig.proofs.Calls.{at_fault, not_both, same_value}
use Rattle.cil_sig.proofs.signatures.locals_sig.Goals as goal

pub bad-requires-clause-inside : goal.bad-requires-clause-inside
bad-requires-clause-inside c =
    let blob = c.args.blob.now in
    (at_fault (2 ^ 25) blob (whole_locals blob) c.in-Err-NoCase.no_case.left (rw c.in-Err-NoCase.field-0-is at c.in-Err-NoCase.ensures) (locals_near blob)).0

pub bad-requires-clause-near : goal.bad-requires-clause-near
bad-requires-clause-near c =
    let blob = c.args.blob.now in
    omega (arith, (at_fault (2 ^ 25) blob (whole_locals blob) c.in-Err-NoCase.no_case.left (rw c.in-Err-NoCase.field-0-is at c.in-Err-NoCase.ensures) (locals_near blob)).1)

pub returns-in-Ok-clause-found : goal.returns-in-Ok-clause-found
returns-in-Ok-clause-found c = locals_take c.args.blob.now c.in-Ok.types c.in-Ok.ensures

pub returns-in-Ok-clause-only : goal.returns-in-Ok-clause-only
returns-in-Ok-clause-only c =
    let blob = c.args.blob.now in
    λ types is. ap (λ x. Ok x) (same_value (whole_locals blob) c.in-Ok.types types c.in-Ok.ensures (locals_again blob types is))

pub returns-in-Err-NoCase-clause-only : goal.returns-in-Err-NoCase-clause-only
returns-in-Err-NoCase-clause-only c =
    let blob = c.args.blob.now in
    λ types is. not_both (whole_locals blob) types c.in-Err-NoCase.no_case.left (locals_again blob types is) (rw c.in-Err-NoCase.field-0-is at c.in-Err-NoCase.ensures)
