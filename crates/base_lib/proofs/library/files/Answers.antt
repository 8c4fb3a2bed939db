-- The tables' items fit.
use Rattle.std.proofs.Common.{ap, ◌∙◌}
use Rattle.base_tables.specs.Shape.{items_of}
use Rattle.base_lib.specs.Fits.{all_fit}
use Rattle.base_lib.proofs.Fitting.{mscorlib_fits, native_fits}
use Rattle.base_lib.proofs.library.files.Goals as goal

pub file-requires-clause-fit : goal.file-requires-clause-fit
file-requires-clause-fit c = ap all_fit (ap items_of c.as_slice.ensures.value ∙ c.in_ok-items.ensures {u = tt}) ∙ mscorlib_fits

pub file-requires-2-clause-fit : goal.file-requires-2-clause-fit
file-requires-2-clause-fit c = ap all_fit c.natives.ensures ∙ native_fits
