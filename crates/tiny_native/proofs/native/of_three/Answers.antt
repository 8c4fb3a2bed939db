use Rattle.std.proofs.Common.{◌∷◌, sym, subst}
use Rattle.tiny_ops.specs.Operators.{stack_value}
use Rattle.tiny_native.specs.Ends.{Meets, native_by}
use Rattle.tiny_native.specs.Names.{three_name}
use Rattle.tiny_native.proofs.native.of_three.Goals as goal

pub returns-in-StringSubstring : goal.returns-in-StringSubstring
returns-in-StringSubstring c s more h na =
    subst (λ n. Meets s c.substring.new.ram (native_by s (three_name n) (stack_value s.leads c.args.a ∷ stack_value s.leads c.args.b ∷ stack_value s.leads c.args.d ∷ more)) c.substring.result) (sym c.in-StringSubstring.is) (c.substring.ensures s more h na)

pub returns-in-StringFromChars : goal.returns-in-StringFromChars
returns-in-StringFromChars c s more h na =
    subst (λ n. Meets s c.from_chars.new.ram (native_by s (three_name n) (stack_value s.leads c.args.a ∷ stack_value s.leads c.args.b ∷ stack_value s.leads c.args.d ∷ more)) c.from_chars.result) (sym c.in-StringFromChars.is) (c.from_chars.ensures s more h na)
