use Rattle.std.proofs.Common.{◌≡◌, Option, Some, None, refl, sym, ap, ◌∙◌}
use Rattle.board_types.specs.declared.value.Value.{Value as RamValue}
use Rattle.machine.specs.Throw.{on_some}
use Rattle.tiny_ram.specs.Memory.{RamFrame, top_value, popped}
use Rattle.kept_values.specs.declared.keeping.PlaceKind.{PlaceKind}
use Rattle.step_return.specs.Returns.{whole_result, result_held}
use Rattle.step_return.proofs.returning.take_result.Goals as goal

-- what was popped decides
taken : (returns : Option PlaceKind) (kind : PlaceKind) (f : RamFrame) (o q : Option RamValue) → returns ≡ Some kind → o ≡ top_value f → o ≡ q → result_held returns f ≡ on_some q (whole_result kind)
taken returns kind f o q e t d = ap (λ z. result_held z f) e ∙ ap (λ (z : Option RamValue). on_some z (whole_result kind)) (sym t ∙ d)

pub returns-in_default-pop-clause-value : goal.returns-in_default-pop-clause-value
returns-in_default-pop-clause-value c = λ m f fs k e.
    sym (taken c.args.returns c.in-Some.kind f c.pop.result None c.in-Some.is (c.pop.ensures.value m f fs k e) c.in_default-pop.is)

pub returns-in_default-pop-clause-left : goal.returns-in_default-pop-clause-left
returns-in_default-pop-clause-left c = λ m f fs k e. record { frame = popped f; initialiser = refl; keeps = c.pop.ensures.popped m f fs k e }

pub returns-clause-value : goal.returns-clause-value
returns-clause-value c = λ m f fs k e.
    c.as_result.ensures ∙ sym (taken c.args.returns c.in-Some.kind f c.pop.result (Some c.in-Some-pop.value) c.in-Some.is (c.pop.ensures.value m f fs k e) c.in-Some-pop.is)

pub returns-clause-left : goal.returns-clause-left
returns-clause-left c = λ m f fs k e. record { frame = popped f; initialiser = refl; keeps = c.pop.ensures.popped m f fs k e }
