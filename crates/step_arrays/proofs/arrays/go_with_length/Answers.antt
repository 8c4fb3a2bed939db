use Rattle.std.proofs.Common.{◌≡◌, ℤ, ◌%◌, ◌^◌, sym, ap, ◌∙◌, arith, w32}
use Rattle.std.specs.Int.{cast_signed, cast_unsigned}
use Rattle.std.proofs.lemmas.Int.{of_z-to_z}
use Rattle.machine.specs.Rows.{length_value}
use Rattle.step_arrays.proofs.arrays.go_with_length.Goals as goal

pub returns : goal.returns
returns c =
    λ p outer m s fs gs h g rest b.
    let n = c.args.count in
    let fits = c.ranges.count.fits in
    let whole : n % 2 ^ 32 ≡ n = omega (arith, fits) in
    c.go_with.ensures p outer m s fs gs h g rest (length_value n) b (ap (λ (z : ℤ). cast_signed w32 (cast_unsigned w32 z)) c.cast_signed.ensures ∙ ap (cast_signed w32) (of_z-to_z w32 n fits) ∙ ap (cast_signed w32) (sym whole))
