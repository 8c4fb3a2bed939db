use Rattle.std.proofs.Common.{◌≡◌, ◌+◌, ◌<◌, length, Some, refl, sym, ap, ◌∙◌, arith, subst}
use Rattle.std.specs.Prelude.{slice_get}
use Rattle.std.proofs.lemmas.Option.{slice_get_read}
use Rattle.row_numbers.specs.Tables.{AreCounts}
use Rattle.row_numbers.proofs.NumberLaws.{row_is, number_fits}
use Rattle.row_numbers.proofs.numbers.RowNumbers.number.Goals as goal

pub overflow_add-result : goal.overflow_add-result
overflow_add-result c =
    let look = c.in_ok-counts.ensures.lookup in
    let counts : slice_get c.self.inside.counts.items c.args.file ≡ Some c.in_ok-counts.counts.now = subst (λ xs. slice_get xs c.args.file ≡ Some c.in_ok-counts.counts.now) c.deref.ensures.value (slice_get_read c.deref.result.now (length c.deref.result.now) c.args.file c.in_ok-counts.counts.now refl look.3.0 look.1) in
    let inside : c.args.file < length c.self.inside.firsts.items = let same = ap length c.deref.ensures.value in omega (arith, look.3.0, same, c.self.invariant.files) in
    let firsts = slice_get_read c.self.inside.firsts.items (length c.self.inside.firsts.items) c.args.file c.index.result.now refl inside c.index.ensures in
    let fits = number_fits c.self.inside.counts.items c.self.inside.firsts.items c.args.file c.index.result.now c.in_ok-counts.counts.now c.args.table c.args.row c.self.invariant firsts counts (omega (arith, c.if-row-of.false, c.of.ensures)) in
    omega (arith, fits, c.of-2.ensures)

pub returns : goal.returns
returns c ps are =
    let look = c.in_ok-counts.ensures.lookup in
    let counts : slice_get c.self.inside.counts.items c.args.file ≡ Some c.in_ok-counts.counts.now = subst (λ xs. slice_get xs c.args.file ≡ Some c.in_ok-counts.counts.now) c.deref.ensures.value (slice_get_read c.deref.result.now (length c.deref.result.now) c.args.file c.in_ok-counts.counts.now refl look.3.0 look.1) in
    let inside : c.args.file < length c.self.inside.firsts.items = let same = ap length c.deref.ensures.value in omega (arith, look.3.0, same, c.self.invariant.files) in
    let firsts = slice_get_read c.self.inside.firsts.items (length c.self.inside.firsts.items) c.args.file c.index.result.now refl inside c.index.ensures in
    ap (λ k. Some (k + c.args.row)) c.of-2.ensures
    ∙ row_is ps c.self.inside.counts.items c.self.inside.firsts.items (subst (λ cs. AreCounts ps cs) (sym c.self.view_is) are) c.self.invariant c.args.file c.args.table c.args.row c.in_ok-counts.counts.now counts c.index.result.now firsts (omega (arith, c.if-row-of.false, c.of.ensures))
