-- The operation of a change, and that of an entry of the record.
use Rattle.flash_trait.specs.Flash as flash
use Rattle.flash_trait.specs.Flash.{Operation}
use Rattle.block_flash.specs.declared.change.Change.{Change}
use Rattle.block_flash.specs.declared.change.Change.TheVariants as change
use Rattle.block_flash.specs.declared.change.Logged.{Logged}
use Rattle.block_flash.specs.declared.change.Logged.TheVariants as logged

abbrev pub operation_of : Change → Operation
operation_of (change.Program at bytes) = flash.Program at bytes.now
operation_of (change.Erase sector) = flash.Erase sector

abbrev pub logged_of : Logged → Operation
logged_of (logged.Program at bytes) = flash.Program at bytes.items
logged_of (logged.Erase sector) = flash.Erase sector
