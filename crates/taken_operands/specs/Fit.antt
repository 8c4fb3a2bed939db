-- When the operands of all code are of the kind that their instructions take.
use Rattle.std.specs.Prelude.{◌≡◌, true, Some}
use Rattle.std.specs.List.{list_all}
use Rattle.machine.specs.Data.{Id}
use Rattle.classes.specs.Code.{CodeLine, MethodCode, Sources}
use Rattle.code_rules.specs.Verdict.{operand_fits}

-- of each instruction of each method that has code (rule 46)
abbrev pub OperandsFit : Sources → Type 0
OperandsFit x = (m : Id) (code : MethodCode) → x.code m ≡ Some code → list_all (λ (l : CodeLine). operand_fits x.classes l.shape l.operand) code.lines ≡ true
