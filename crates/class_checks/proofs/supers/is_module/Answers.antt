use Rattle.std.proofs.Common.{◌∙◌}
use Rattle.class_checks.proofs.SuperLaws.{module_top, module_nested}
use Rattle.class_checks.proofs.supers.is_module.Goals as goal

pub returns-in-Some : goal.returns-in-Some
returns-in-Some c = λ file f. module_nested file f c.args.row.now _ c.in-Some.is

pub returns-in-None : goal.returns-in-None
returns-in-None c = λ file f. c.is_module_name.ensures ∙ module_top file f c.args.row.now c.in-None.is
