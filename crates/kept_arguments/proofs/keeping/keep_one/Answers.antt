use Rattle.std.proofs.Common.{Some, sym, ap, ◌∙◌}
use Rattle.std.specs.Prelude.{slice_set}
use Rattle.kept_values.specs.Keeping.{kept_as}
use Rattle.tiny_except.proofs.Tops.{top_is, put_top}
use Rattle.kept_arguments.proofs.keeping.keep_one.Goals as goal

pub returns-in-None : goal.returns-in-None
returns-in-None c = λ m f fs k e to l. sym (c.in-None.ensures.value ∙ ap (kept_as c.args.kind) (c.place.ensures m f k (top_is m c.args.frame f fs e to) l))

pub returns-in-Some : goal.returns-in-Some
returns-in-Some c = λ m f fs k e to l.
    let is = top_is m c.args.frame f fs e to in
    record {
      kept = record { value = c.in-Some.kept; is = sym (c.in-Some.ensures.value ∙ ap (kept_as c.args.kind) (c.place.ensures m f k is l)) };
      keeps = put_top c.put_place.new.ram m c.args.frame f (record f { places = slice_set f.places c.args.at (Some c.in-Some.kept) }) fs e to (c.put_place.ensures m f k is l);
    }
