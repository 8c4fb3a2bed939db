use Rattle.std.proofs.Common.{◌≡◌, ◌+◌, min, length, arith, subst, sym, ap}
use Rattle.cil_build.specs.Build.{asked_of}
use Rattle.cil_layout.specs.Asked.{Asked, with_row, weight_of}
use Rattle.cil_layout.specs.declared.rows.Row.TheVariants.{Literal}
use Rattle.cil_layout.proofs.Counts.{counted_literal, weight_of-with_row, text_size_le}
use Rattle.cil_build.proofs.build.Build.push_literal.Goals as goal

pub text_len-requires : goal.text_len-requires
text_len-requires c = omega (arith, c.requires.heavier, weight_of-with_row c.args.self.now (Literal c.args.units.now))

pub overflow_add-next : goal.overflow_add-next
overflow_add-next c = omega (arith, c.requires.heavier, weight_of-with_row c.args.self.now (Literal c.args.units.now), text_size_le (length c.args.units.now), c.text_len.ensures, c.self.invariant.text_fits)

pub invariant_of-self-2 : goal.invariant_of-self-2
invariant_of-self-2 c =
    rw (c.in_ok-push.ensures.items, c.from_vec-copy.ensures, c.in_ok-from_slice.ensures.items)
    (counted_literal (asked_of c.self.inside) c.args.units.now c.self.inside.counts c.self.inside.weight c.args.weight c.self.inside.text_place _ c.self.invariant
    (subst (λ (r : Asked). c.args.weight ≡ min (weight_of (with_row r (Literal c.args.units.now))) 4194305) (sym c.self.view_is) c.requires.heavier)
    c.requires.light
    (ap (λ n. c.self.inside.text_place + n) c.text_len.ensures))
