use Rattle.std.proofs.Common.{◌≡◌, ◌∷◌, sym, ap, ◌∙◌, w32}
use Rattle.std.specs.Prelude.{ℤ}
use Rattle.std.specs.Int.{cast_signed, cast_unsigned}
use Rattle.machine.specs.Data.{Int}
use Rattle.machine.specs.Throw.{goes}
use Rattle.machine.specs.Natives.{texts_compared}
use Rattle.tiny_ops.specs.Operators.{stack_value}
use Rattle.tiny_native.specs.Copies.{NamesText}
use Rattle.tiny_native.specs.Ends.{Same}
use Rattle.tiny_native.proofs.Orders.{texts_back}
use Rattle.tiny_native.proofs.Outcomes.{compare_texts, compare_first, compare_second}
use Rattle.tiny_native.proofs.strings.compare.Goals as goal

pub returns-in_default : goal.returns-in_default
returns-in_default c s more h na nb = (h.keeps, compare_first s.program s.state s.frame s.callers s.next s.rest more (stack_value s.leads c.args.a) (stack_value s.leads c.args.b) (c.in_default.ensures s h.keeps na))

pub returns-in_default-text : goal.returns-in_default-text
returns-in_default-text c s more h na nb =
    let x : NamesText s c.args.a c.in-Some.x = c.in-Some.ensures s h.keeps na in
    (h.keeps, compare_second s.program s.state s.frame s.callers s.next s.rest more (stack_value s.leads c.args.a) (stack_value s.leads c.args.b) x.text x.at (c.in_default-text.ensures s h.keeps nb))

pub returns : goal.returns
returns c s more h na nb =
    let x : NamesText s c.args.a c.in-Some.x = c.in-Some.ensures s h.keeps na in
    let y : NamesText s c.args.b c.in-Some-text.y = c.in-Some-text.ensures s h.keeps nb in
    let order : c.texts_order.result ≡ texts_compared x.text y.text = c.texts_order.ensures s.memory x.text y.text h.keeps x.is y.is in
    let value : texts_compared x.text y.text ≡ cast_signed w32 (cast_unsigned w32 c.texts_order.result) = sym (ap (λ z. cast_signed w32 (cast_unsigned w32 z)) order ∙ texts_back x.text y.text) in
    record {
      change = Same;
      keeps = h.keeps;
      outcome =
          compare_texts s.program s.state s.frame s.callers s.next s.rest more (stack_value s.leads c.args.a) (stack_value s.leads c.args.b) x.text y.text x.at y.at
          ∙ ap (λ (z : ℤ). goes s.program s.state s.frame s.callers s.next (Int z ∷ s.rest)) value;
    }
