use Rattle.std.proofs.Common.{◌+◌, ◌%◌, ℕ, List, refl, ap, ◌∙◌, arith}
use Rattle.std.specs.Prelude.{slice_index}
use Rattle.tiny_except.proofs.Walks.{small}
use Rattle.tiny_except.proofs.Tops.{four_sizes, no_wrap}
use Rattle.tiny_except.proofs.frames.slot_place.Goals as goal

pub returns : goal.returns
returns c = record {
  index = λ m f k e l.
      let least = small c.args.ram.now m c.args.frame f k e in
      let four = four_sizes f.sizes in
      ap (λ (z : List ℕ). (((slice_index z 0 + slice_index z 1) % 4294967296 + slice_index z 2) % 4294967296 + c.args.number) % 4294967296) (c.sizes.ensures m f k e)
      ∙ no_wrap (slice_index f.sizes 0) (slice_index f.sizes 1) (slice_index f.sizes 2) c.args.number (omega (arith, least, four, l));
  thing = refl;
  elem = refl;
}
