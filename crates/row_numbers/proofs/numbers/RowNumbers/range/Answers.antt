use Rattle.std.proofs.Common.{◌≡◌, ◌<◌, length, Some, refl, ap, arith, subst}
use Rattle.std.specs.Prelude.{slice_get}
use Rattle.std.proofs.lemmas.Option.{slice_get_read}
use Rattle.row_numbers.proofs.RangeLaws.{range_fits}
use Rattle.row_numbers.proofs.numbers.RowNumbers.range.Goals as goal

pub returns-clause-fits : goal.returns-clause-fits
returns-clause-fits c =
    let look = c.in-Some.ensures.lookup in
    let counts : slice_get c.self.inside.counts.items c.args.file ≡ Some c.in-Some.counts.now = subst (λ xs. slice_get xs c.args.file ≡ Some c.in-Some.counts.now) c.deref.ensures.value (slice_get_read c.deref.result.now (length c.deref.result.now) c.args.file c.in-Some.counts.now refl look.3.0 look.1) in
    let inside : c.args.file < length c.self.inside.firsts.items = let same = ap length c.deref.ensures.value in omega (arith, look.3.0, same, c.self.invariant.files) in
    let firsts = slice_get_read c.self.inside.firsts.items (length c.self.inside.firsts.items) c.args.file c.index.result.now refl inside c.index.ensures in
    range_fits c.self.inside.counts.items c.self.inside.firsts.items c.self.invariant c.args.file c.index.result.now c.in-Some.counts.now c.args.table firsts counts c.of.result c.of-2.result c.of.ensures c.of-2.ensures
