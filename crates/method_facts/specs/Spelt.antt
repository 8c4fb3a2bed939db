-- Places whose types have a spelling.
use Rattle.std.specs.Prelude.{Bool, true, Option, Some, None}
use Rattle.machine.specs.Data.{CliType, PlaceType, Plain, To}
use Rattle.cil_types.specs.Spelt.{type_spelt}

abbrev pub place_spelt : PlaceType → Bool
place_spelt (Plain type) = type_spelt type
place_spelt (To type) = type_spelt type

abbrev pub result_spelt : Option CliType → Bool
result_spelt None = true
result_spelt (Some type) = type_spelt type
