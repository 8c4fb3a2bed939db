-- What an index of texts holds.
use Rattle.std.specs.Prelude.{◌*◌, ◌/◌, ◌^◌, ◌<◌, ◌≤◌, length}
use Rattle.cil_tables.specs.Texts.{KnowsFrom}
use Rattle.cil_tables.specs.declared.text_index.TheConstants.{MOST_PLACES, SHORTEST}
use Rattle.cil_tables.specs.declared.text_index.TextIndex.TheInside.{Inside}

pub record IsIndex (t : Inside) : Type 0 where
  pub small : length t.heap.now < 2 ^ 32
  pub size : SHORTEST ≤ t.block
  pub bound : t.block ≤ 2 ^ 32
  pub most : length t.known.now ≤ MOST_PLACES
  pub covers : length t.heap.now < length t.known.now / 4 * t.block
  pub knows : KnowsFrom t.heap.now t.block t.known.now 0
