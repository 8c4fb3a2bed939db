use Rattle.std.proofs.Common.{sym, ap, ◌∙◌}
use Rattle.board_types.specs.declared.value.Shape.{Shape}
use Rattle.tiny_except.proofs.unwinding.Thrown.class.Goals as goal
use Rattle.tiny_except.specs.Unwinding.{thrown_class}
use Rattle.tiny_except.proofs.Catches.{class_of}

pub returns-in-Object : goal.returns-in-Object
returns-in-Object c = λ m class k e.
    let h = class_of m c.in-Object.object class (sym (ap (thrown_class m) c.in-Object.is) ∙ e) in
    ap (λ (z : Shape). z.of.of) (c.shape.ensures.thing m h.entry k h.there) ∙ h.is
