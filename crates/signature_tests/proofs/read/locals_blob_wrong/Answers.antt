use Rattle.signature_tests.proofs.Lengths.{locals_short}
use Rattle.signature_tests.proofs.read.locals_blob_wrong.Goals as goal

pub list_wrong-requires-clause-short : goal.list_wrong-requires-clause-short
list_wrong-requires-clause-short c = locals_short _ _ c.in-Ok.ensures.found
