-- The operation of what is asked.
use Rattle.flash_trait.specs.Flash as flash
use Rattle.flash_trait.specs.Flash.{Operation}
use Rattle.board_core.specs.declared.operating.Asked.{Asked}
use Rattle.board_core.specs.declared.operating.Asked.TheVariants.{Program, Erase}

abbrev pub operation_of : Asked → Operation
operation_of (Program at bytes) = flash.Program at bytes.now
operation_of (Erase sector) = flash.Erase sector
