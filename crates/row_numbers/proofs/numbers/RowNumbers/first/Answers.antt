use Rattle.std.proofs.Common.{◌≡◌, length, Some, refl, sym, ap, ◌∙◌, subst}
use Rattle.std.specs.Prelude.{slice_get}
use Rattle.std.proofs.lemmas.Option.{slice_get_read}
use Rattle.row_numbers.specs.Tables.{AreCounts}
use Rattle.row_numbers.proofs.NumberLaws.{first_is}
use Rattle.row_numbers.proofs.numbers.RowNumbers.first.Goals as goal

pub returns : goal.returns
returns c ps are =
    let look = c.in_ok-first.ensures.lookup in
    let firsts : slice_get c.self.inside.firsts.items c.args.file ≡ Some c.in_ok-first.first.now = subst (λ xs. slice_get xs c.args.file ≡ Some c.in_ok-first.first.now) c.deref.ensures.value (slice_get_read c.deref.result.now (length c.deref.result.now) c.args.file c.in_ok-first.first.now refl look.3.0 look.1) in
    ap Some c.of.ensures ∙ first_is ps c.self.inside.counts.items c.self.inside.firsts.items (subst (λ cs. AreCounts ps cs) (sym c.self.view_is) are) c.self.invariant c.args.file c.args.table c.in_ok-first.first.now firsts
