use Rattle.signature_tests.proofs.Lengths.{method_short}
use Rattle.signature_tests.proofs.read.method_blob_wrong.Goals as goal

pub method_types_wrong-requires-clause-short : goal.method_types_wrong-requires-clause-short
method_types_wrong-requires-clause-short c = method_short _ _ c.in-Ok.ensures.found
