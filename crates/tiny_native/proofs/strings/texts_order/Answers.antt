use Rattle.std.proofs.Common.{Some, None, w32, ap, ◌∙◌}
use Rattle.std.specs.Int.{cast_signed, cast_unsigned}
use Rattle.tiny_native.proofs.Orders.{texts_back}
use Rattle.tiny_native.proofs.strings.texts_order.Goals as goal

pub returns : goal.returns
returns c m (Some xs) (Some ys) keeps x y = ap (λ z. cast_signed w32 (cast_unsigned w32 z)) (c.units_order.ensures m xs ys keeps x.2 y.2 x.1 y.1) ∙ texts_back (Some xs) (Some ys)
returns c m None b keeps x y = absurd (c.if-x-eq0.false x.0)
returns c m (Some xs) None keeps x y = absurd (c.if-y-eq0.false y.0)
