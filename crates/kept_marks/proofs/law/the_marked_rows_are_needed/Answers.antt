use Rattle.kept_marks.proofs.NeededLaws.{marked_are_needed}
use Rattle.kept_marks.proofs.law.the_marked_rows_are_needed.Goals as goal

pub returns : goal.returns
returns c size ps base keep rules roots bits has stand made closes is = marked_are_needed size ps base keep rules roots bits has stand made closes is
