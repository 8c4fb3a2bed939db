use Rattle.std.proofs.Common.{[], Option, sym, ◌∙◌, subst}
use Rattle.board_types.specs.declared.value.Value.{Value as RamValue}
use Rattle.machine.specs.Data.{Plain}
use Rattle.machine.specs.Numbers.{kept}
use Rattle.kept_values.specs.Keeping.{kept_as, KeptAlike}
use Rattle.step_operands.proofs.Places.{elem_apart}
use Rattle.step_operands.proofs.held.keep_elem.Goals as goal

pub returns : goal.returns
returns c =
    λ room fs type v e h.
    let kind = c.place_kind.result in
    let seen = c.place_kind.ensures in
    let alike = subst (λ (o : Option RamValue). KeptAlike room fs o (kept (Plain type) v)) c.keep.ensures.value (c.keep.ensures.alike room fs (Plain type) v (seen ∙ sym e) h) in
    subst (λ (o : Option RamValue). KeptAlike room [] o (kept (Plain type) v)) (sym c.keep.ensures.value) (elem_apart room fs kind c.args.value c.args.elem (kept (Plain type) v) seen alike)
