use Rattle.std.proofs.Common.{◌≡◌, ap, sym, ◌∙◌, subst, rules, w32, w64}
use Rattle.std.specs.Prelude.{decimal}
use Rattle.std.specs.Int.{cast_signed, cast_unsigned}
use Rattle.machine.specs.Numbers.{int_meant}
use Rattle.machine.specs.Texts.{decimal_text}
use Rattle.tiny_native.specs.Texts.{MadeText}
use Rattle.tiny_native.proofs.Enums.{int_means, wider}
use Rattle.tiny_native.proofs.objects.int_text.Goals as goal

pub returns-in-U4 : goal.returns-in-U4
returns-in-U4 c m keeps =
    let bits : c.cast_unsigned.result ≡ cast_unsigned w32 c.args.n = search rules in
    let means : decimal c.cast_unsigned.result ≡ decimal_text (int_meant c.args.integer c.args.n) = ap decimal bits ∙ sym (ap (λ i. decimal_text (int_meant i c.args.n)) c.in-U4.is) in
    subst (λ us. MadeText c.unsigned_text.new.ram m us c.unsigned_text.result) means (c.unsigned_text.ensures m keeps)

pub returns-in_default : goal.returns-in_default
returns-in_default c m keeps =
    let back : cast_signed w32 (cast_unsigned w32 c.args.n) ≡ c.args.n = search rules in
    let means : c.args.n ≡ int_meant c.args.integer c.args.n = sym (int_means c.args.integer c.args.n c.in_default.not-U4) in
    let made = c.signed_text.ensures m keeps in
    subst (λ z. MadeText c.signed_text.new.ram m (decimal_text z) c.signed_text.result) means (subst (λ z. MadeText c.signed_text.new.ram m (decimal_text z) c.signed_text.result) (ap (λ z. cast_signed w64 (cast_unsigned w64 z)) back ∙ wider c.args.n c.ranges.n) made)
