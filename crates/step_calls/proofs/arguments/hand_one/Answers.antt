use Rattle.std.proofs.Common.{Some, sym}
use Rattle.std.specs.Prelude.{slice_set}
use Rattle.tiny_except.proofs.Tops.{top_is, put_top}
use Rattle.step_calls.proofs.arguments.hand_one.Goals as goal

pub returns-in-None : goal.returns-in-None
returns-in-None c = λ m y ys k e to j. sym c.in-None.ensures.value

pub returns-in-Some : goal.returns-in-Some
returns-in-Some c = λ m y ys k e to j.
    record {
      kept = record { value = c.in-Some.kept; is = sym c.in-Some.ensures.value };
      keeps = put_top c.put_place.new.ram m c.args.to y (record y { places = slice_set y.places c.args.i (Some c.in-Some.kept) }) ys e to (c.put_place.ensures m y k (top_is m c.args.to y ys e to) j);
    }
