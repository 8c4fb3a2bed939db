use Rattle.std.proofs.Common.{◌≤◌, ◌≢◌, length, sym, ◌∙◌, arith}
use Rattle.std.proofs.lemmas.Bool.{eqb-false}
use Rattle.cil_sig.proofs.Suffixes.{element_inside}
use Rattle.cil_sig.proofs.places.element_place.Goals as goal

pub overflow_sub-result : goal.overflow_sub-result
overflow_sub-result c = rw c.from_element-element.ensures (element_inside c.args.position c.args.blob.now c.in-Ok.front.now c.in-Ok.ensures)

pub returns-clause-inside : goal.returns-clause-inside
returns-clause-inside c =
    let inside : length c.from_element-element.result.now ≤ length c.args.blob.now = rw c.from_element-element.ensures (element_inside c.args.position c.args.blob.now c.in-Ok.front.now c.in-Ok.ensures) in
    let some : length c.from_element-element.result.now ≢ 0 = eqb-false _ _ (sym c.is_empty.ensures ∙ c.if-is_empty.false) in
    omega arith
