use Rattle.std.proofs.Common.{ℕ, ◌+◌, ◌*◌, ◌<◌, ◌≤◌, List, [], length, Some, inr, sym, ap, ◌∙◌, arith, get_or}
use Rattle.std.proofs.lemmas.List.{length-replicate}
use Rattle.tiny_ram.specs.Things.{layout_of, fresh_place, cells_in}
use Rattle.tiny_ram.proofs.Elsewhere.{Agree, some_cells}
use Rattle.tiny_ram.proofs.Fresh.{fresh_at, tagless, made_shape, replicated}
use Rattle.tiny_ram.proofs.making.put_thing.Goals as goal

pub returns-clause-lies : goal.returns-clause-lies
returns-clause-lies c =
    let at : ℕ = c.args.at in
    let us : List ℕ = c.put_shape.new.words in
    let n : ℕ = c.args.shape.count in
    let some : 1 ≤ cells_in (layout_of c.args.shape) n = some_cells (layout_of c.args.shape) n in
    let room : at + 3 ≤ length c.zero.new.words = omega (arith, c.requires.end, c.requires.inside, c.zero.ensures.outside.size, some) in
    let zeros : Agree (at + 3) (at + 3 * cells_in (layout_of c.args.shape) n) [] us = record {
      at = λ j l h. c.put_shape.ensures.outside.at j (inr l) ∙ c.zero.ensures.here j (omega arith) (omega (arith, h, c.requires.end));
    } in
    record {
      shape = c.put_shape.ensures.here room ∙ made_shape c.args.shape c.requires.made;
      count = length-replicate n (fresh_place (layout_of c.args.shape));
      places = λ i l.
          let inner : i < n = omega (arith, l, length-replicate n (fresh_place (layout_of c.args.shape))) in
          replicated n i (fresh_place (layout_of c.args.shape)) inner
          ∙ sym (ap Some (fresh_at (layout_of c.args.shape) us at n i inner zeros (tagless c.args.shape (get_or us at 0) c.requires.made (c.put_shape.ensures.ranks room))));
    }
