use Rattle.std.proofs.Common.{ℕ, ◌+◌, ◌*◌, ◌/◌, ◌%◌, ◌^◌, ◌<◌, ◌≤◌, List, [], length, Option, None, Some, inr, sym, ap, ◌∙◌, arith, get_or}
use Rattle.std.specs.Prelude.{sum}
use Rattle.std.specs.Int.{w32, cast_signed}
use Rattle.std.proofs.lemmas.List.{length-replicate}
use Rattle.board_types.specs.declared.value.Value.{Value}
use Rattle.ram_words.specs.Cells.{kept_at}
use Rattle.ram_words.specs.Frames.{placed, hot_at}
use Rattle.tiny_ram.proofs.Elsewhere.{Agree, part, kept_at-same}
use Rattle.tiny_ram.proofs.Fresh.{replicated}
use Rattle.tiny_ram.proofs.frames.put_frame.Goals as goal

pub returns-clause-stands : goal.returns-clause-stands
unfolding hot_at kept_at
returns-clause-stands c =
    let base : ℕ = c.args.base in
    let us : List ℕ = c.put_header.new.words in
    let n : ℕ = sum c.args.sizes in
    let room : base + 6 ≤ length c.zero.new.words = omega (arith, c.requires.end, c.requires.inside, c.zero.ensures.outside.size) in
    let zeros : Agree (base + 6) (base + 6 + 3 * n) [] us = record {
      at = λ j l h. c.put_header.ensures.outside.at j (inr l) ∙ c.zero.ensures.here j (omega arith) (omega (arith, h, c.requires.end));
    } in
    let none : Option Value = None in
    record {
      sizes = c.put_header.ensures.sizes room;
      method = c.put_header.ensures.method room;
      initialiser = ap (λ w. w / 2 ^ 22) (c.put_header.ensures.depth room);
      hot =
          ap (λ z. placed base z (get_or us base 0 % 2 ^ 22) (get_or us (base + 2) 0)) (c.put_header.ensures.sizes room)
          ∙ ap (λ w. placed base c.args.sizes (w % 2 ^ 22) (get_or us (base + 2) 0)) (c.put_header.ensures.depth room);
      place = sym (ap (cast_signed w32) (c.put_header.ensures.place room));
      depth = omega arith;
      count = length-replicate n none;
      places = λ i l.
          let inner : i < n = omega (arith, l, length-replicate n none) in
          replicated n i none inner ∙ sym (ap Some (kept_at-same [] us (base + 6 + 3 * i) (part (base + 6) (base + 6 + 3 * n) (base + 6 + 3 * i) (base + 6 + 3 * i + 3) [] us zeros (omega arith) (omega (arith, inner)))));
    }
