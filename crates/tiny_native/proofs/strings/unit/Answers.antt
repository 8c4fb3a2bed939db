use Rattle.std.proofs.Common.{◌≡◌, ℕ, ◌%◌, ◌^◌, ◌<◌, ap, ◌∙◌, arith, get_or, w32}
use Rattle.std.specs.Int.{cast_signed, cast_unsigned}
use Rattle.std.proofs.lemmas.Int.{of_z-to_z}
use Rattle.std.proofs.lemmas.List.{length-map}
use Rattle.board_types.specs.declared.value.Value.{Value}
use Rattle.board_types.specs.declared.value.Value.TheVariants.{Int}
use Rattle.tiny_native.specs.Seen.{text_entry, unit_place}
use Rattle.tiny_native.proofs.Writes.{unit_shown}
use Rattle.tiny_native.proofs.Joined.{small_units}
use Rattle.tiny_native.proofs.strings.unit.Goals as goal

abbrev bits_of : Value → ℕ
bits_of (Int n) = cast_unsigned w32 (cast_signed w32 (cast_unsigned w32 n))
bits_of _ = 0

pub returns-in-Int : goal.returns-in-Int
returns-in-Int c m units keeps is l =
    let u : ℕ = get_or units c.args.index 0 in
    let small : u % 2 ^ 16 ≡ u = small_units c.args.ram.now m c.args.thing units keeps is c.args.index l in
    let low : u < 2 ^ 32 = omega (arith, small) in
    c.cast_unsigned.ensures ∙ ap bits_of (c.in-Int.ensures m (text_entry units) keeps is (omega (arith, l, length-map units unit_place)) ∙ unit_shown units c.args.index l) ∙ of_z-to_z w32 u low

pub returns-in_default : goal.returns-in_default
returns-in_default c m units keeps is l =
    let h = c.read.ensures m (text_entry units) keeps is (omega (arith, l, length-map units unit_place)) ∙ unit_shown units c.args.index l in
    absurd (c.in_default.not-Int _ h)
