use Rattle.ecma_effects.proofs.Ruled.{field_known, method_known}
use Rattle.classes.specs.Classes.{Classes}
use Rattle.world_rows.specs.World.{ecma_sources, rows_alone, type_count}
use Rattle.operand_laws.proofs.KnownLaws.{operands_known}
use Rattle.operand_laws.proofs.law.operands_are_known.Goals as goal

pub returns : goal.returns
returns c = λ files types kept read keeps spelt tabled.
    let cs : Classes = (ecma_sources files).classes in
    let n = type_count (rows_alone files) in
    operands_known files n read keeps spelt tabled.entry (field_known n cs read keeps tabled) (method_known n cs read keeps tabled)
