use Rattle.std.proofs.Common.{◌≡◌, ◌∷◌, true, false, sym, ap, ◌∙◌, w32}
use Rattle.std.specs.Int.{cast_signed, cast_unsigned}
use Rattle.machine.specs.Numbers.{of_bool}
use Rattle.machine.specs.Throw.{goes}
use Rattle.machine.specs.Natives.{texts_equal, texts_compared}
use Rattle.tiny_ops.specs.Operators.{stack_value}
use Rattle.tiny_native.specs.Copies.{NamesText}
use Rattle.tiny_native.specs.Ends.{Same}
use Rattle.tiny_native.proofs.Orders.{is_none_first, none_first, equal_compared, texts_back}
use Rattle.tiny_native.proofs.Outcomes.{equals_texts, equals_first, equals_second}
use Rattle.tiny_native.proofs.strings.equals.Goals as goal

pub returns-in_default : goal.returns-in_default
returns-in_default c s more h na nb = (h.keeps, equals_first s.program s.state s.frame s.callers s.next s.rest more (stack_value s.leads c.args.a) (stack_value s.leads c.args.b) (c.in_default.ensures s h.keeps na))

pub returns-in_default-text : goal.returns-in_default-text
returns-in_default-text c s more h na nb =
    let x : NamesText s c.args.a c.in-Some.x = c.in-Some.ensures s h.keeps na in
    (h.keeps, equals_second s.program s.state s.frame s.callers s.next s.rest more (stack_value s.leads c.args.a) (stack_value s.leads c.args.b) x.text x.at (c.in_default-text.ensures s h.keeps nb))

pub returns-then-texts_order-eq0 : goal.returns-then-texts_order-eq0
returns-then-texts_order-eq0 c s more h na nb =
    let x : NamesText s c.args.a c.in-Some.x = c.in-Some.ensures s h.keeps na in
    let y : NamesText s c.args.b c.in-Some-text.y = c.in-Some-text.ensures s h.keeps nb in
    let order : c.texts_order.result ≡ texts_compared x.text y.text = c.texts_order.ensures s.memory x.text y.text h.keeps x.is y.is in
    let value : texts_equal x.text y.text ≡ true = equal_compared x.text y.text ∙ ap is_none_first (sym (texts_back x.text y.text) ∙ ap (cast_signed w32) (ap (cast_unsigned w32) (sym order) ∙ c.if-texts_order-eq0.true)) in
    record {
      change = Same;
      keeps = h.keeps;
      outcome =
          equals_texts s.program s.state s.frame s.callers s.next s.rest more (stack_value s.leads c.args.a) (stack_value s.leads c.args.b) x.text y.text x.at y.at
          ∙ ap (λ b. goes s.program s.state s.frame s.callers s.next (of_bool b ∷ s.rest)) value;
    }

pub returns-else-texts_order-eq0 : goal.returns-else-texts_order-eq0
returns-else-texts_order-eq0 c s more h na nb =
    let x : NamesText s c.args.a c.in-Some.x = c.in-Some.ensures s h.keeps na in
    let y : NamesText s c.args.b c.in-Some-text.y = c.in-Some-text.ensures s h.keeps nb in
    let order : c.texts_order.result ≡ texts_compared x.text y.text = c.texts_order.ensures s.memory x.text y.text h.keeps x.is y.is in
    let value : texts_equal x.text y.text ≡ false = equal_compared x.text y.text ∙ none_first (texts_compared x.text y.text) (λ e. c.if-texts_order-eq0.false (ap (cast_unsigned w32) (order ∙ e))) in
    record {
      change = Same;
      keeps = h.keeps;
      outcome =
          equals_texts s.program s.state s.frame s.callers s.next s.rest more (stack_value s.leads c.args.a) (stack_value s.leads c.args.b) x.text y.text x.at y.at
          ∙ ap (λ b. goes s.program s.state s.frame s.callers s.next (of_bool b ∷ s.rest)) value;
    }
