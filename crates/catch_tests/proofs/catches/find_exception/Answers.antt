use Rattle.catch_tests.proofs.CatchLaws.{exception_there, no_exception}
use Rattle.catch_tests.proofs.catches.find_exception.Goals as goal

pub returns-in-Some : goal.returns-in-Some
returns-in-Some c = λ files table. exception_there files c.args.table.now table c.library_class.result c.in-Some.class c.library_class.ensures c.in-Some.is

pub returns-in-None : goal.returns-in-None
returns-in-None c = λ files table. no_exception files c.args.table.now table c.library_class.result c.library_class.ensures c.in-None.is
