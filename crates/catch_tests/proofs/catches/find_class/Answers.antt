use Rattle.std.proofs.Common.{ap, sym, ◌∙◌}
use Rattle.std.specs.Result.{result_ok}
use Rattle.catch_tests.proofs.CatchLaws.{found, lost}
use Rattle.catch_tests.proofs.catches.find_class.Goals as goal

pub returns-in-Ok : goal.returns-in-Ok
returns-in-Ok c = found _ c.in-Ok.id c.class_of.result (sym (ap result_ok c.in-Ok.is) ∙ c.resolve_type.ensures) c.class_of.ensures

pub returns-in-Err : goal.returns-in-Err
returns-in-Err c = lost _ (sym (ap result_ok c.in-Err.is) ∙ c.resolve_type.ensures)
