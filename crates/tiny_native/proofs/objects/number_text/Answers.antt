use Rattle.std.proofs.Common.{◌≡◌, List, ℕ, Some, ap, ◌∙◌, subst, rules, w32, w64}
use Rattle.std.specs.Prelude.{ℤ}
use Rattle.std.specs.Int.{cast_signed, cast_unsigned}
use Rattle.std.specs.Option.{option_map}
use Rattle.machine.specs.Data.{Bits}
use Rattle.machine.specs.Numbers.{int_meant, long_meant}
use Rattle.machine.specs.Texts.{decimal_text}
use Rattle.ram_words.specs.Elements.{cell_in}
use Rattle.tiny_ops.specs.Operators.{stack_value}
use Rattle.tiny_native.specs.Texts.{MadeText}
use Rattle.tiny_native.specs.Copies.{number_in_text}
use Rattle.tiny_native.proofs.Made.{text_meets}
use Rattle.tiny_native.proofs.objects.number_text.Goals as goal

pub returns-in-Int : goal.returns-in-Int
returns-in-Int c s h =
    let n : ℤ = c.in-Int.n in
    let back : cast_signed w32 (cast_unsigned w32 n) ≡ n = search rules in
    let units : List ℕ = decimal_text (int_meant c.in-Number.integer n) in
    text_meets s c.int_text.new.ram units (number_in_text s (option_map cell_in c.args.kind) (stack_value s.leads c.args.value)) c.int_text.result h.cells
    (ap (λ k. number_in_text s (option_map cell_in k) (stack_value s.leads c.args.value)) c.in-Some.is
    ∙ ap (λ k. number_in_text s (Some (cell_in k)) (stack_value s.leads c.args.value)) c.in-Number.is
    ∙ ap (λ v. number_in_text s (Some (Bits c.in-Number.integer)) (stack_value s.leads v)) c.in-Int.is)
    (subst (λ z. MadeText c.int_text.new.ram s.memory (decimal_text (int_meant c.in-Number.integer z)) c.int_text.result) back (c.int_text.ensures s.memory h.keeps))

pub returns-in-Long : goal.returns-in-Long
returns-in-Long c s h =
    let n : ℤ = c.in-Long.n in
    let back : cast_signed w64 (cast_unsigned w64 n) ≡ n = search rules in
    let units : List ℕ = decimal_text (long_meant c.in-Number.integer n) in
    text_meets s c.long_text.new.ram units (number_in_text s (option_map cell_in c.args.kind) (stack_value s.leads c.args.value)) c.long_text.result h.cells
    (ap (λ k. number_in_text s (option_map cell_in k) (stack_value s.leads c.args.value)) c.in-Some.is
    ∙ ap (λ k. number_in_text s (Some (cell_in k)) (stack_value s.leads c.args.value)) c.in-Number.is
    ∙ ap (λ v. number_in_text s (Some (Bits c.in-Number.integer)) (stack_value s.leads v)) c.in-Long.is)
    (subst (λ z. MadeText c.long_text.new.ram s.memory (decimal_text (long_meant c.in-Number.integer z)) c.long_text.result) back (c.long_text.ensures s.memory h.keeps))
