use Rattle.std.proofs.Common.{length, arith, ap, ◌∙◌, Err}
use Rattle.cil_layout.specs.declared.rows.Row.TheVariants.{Literal}
use Rattle.cil_layout.proofs.Counts.{weight_of-with_row}
use Rattle.base_lib.proofs.rows.add_literal.Goals as goal

-- a short literal is light
pub unreachable-requires : goal.unreachable-requires
unreachable-requires c =
    let heavy = c.user_text.ensures.full.0 (c.in-Err-Full.is ∙ ap Err c.in-Err-Full.field-0-is) in
    omega (arith, heavy, weight_of-with_row c.args.build.now (Literal c.as_slice.result.now), ap length c.as_slice.ensures.value, ap length (c.in_ok-units.ensures {u = tt}), c.requires.light, c.requires.short)
