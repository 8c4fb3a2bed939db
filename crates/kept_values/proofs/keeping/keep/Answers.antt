use Rattle.std.proofs.Common.{Option, sym, subst}
use Rattle.board_types.specs.declared.value.Value.{Value as RamValue}
use Rattle.machine.specs.Numbers.{kept}
use Rattle.kept_values.specs.Keeping.{KeptAlike}
use Rattle.kept_values.proofs.Keeps.{keeps_alike}
use Rattle.kept_values.proofs.keeping.keep.Goals as goal

pub returns-clause-alike : goal.returns-clause-alike
returns-clause-alike c = λ room fs type v e h.
    subst (λ (o : Option RamValue). KeptAlike room fs o (kept type v)) (sym c.keep_by.ensures) (keeps_alike room fs c.args.kind type c.args.value v e h)
