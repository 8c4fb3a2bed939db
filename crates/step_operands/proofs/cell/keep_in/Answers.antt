use Rattle.std.proofs.Common.{[], Option, sym, subst}
use Rattle.board_types.specs.declared.value.Value.{Value as RamValue}
use Rattle.machine.specs.Numbers.{kept_in}
use Rattle.ram_words.specs.Elements.{cell_in}
use Rattle.kept_values.specs.declared.keeping.PlaceKind.TheVariants.{Holds}
use Rattle.kept_values.specs.Keeping.{kept_as, KeptAlike}
use Rattle.kept_values.proofs.Keeps.{by_kind}
use Rattle.step_operands.proofs.Places.{kept_apart, cell_plain}
use Rattle.step_operands.proofs.cell.keep_in.Goals as goal

pub returns : goal.returns
returns c =
    λ room fs v h.
    let kind = c.args.kind in
    let r = c.args.value in
    subst (λ (o : Option RamValue). KeptAlike room [] o (kept_in (cell_in kind) v)) (sym c.keep.ensures.value)
    (kept_apart room fs (kept_as (Holds kind) r) (kept_in (cell_in kind) v) (cell_plain room fs (cell_in kind) r) (by_kind room fs (Holds kind) r v h))
