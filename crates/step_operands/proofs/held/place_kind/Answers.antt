use Rattle.std.proofs.Common.{◌≡◌, Option, Some, None, sym, ap, ◌∙◌}
use Rattle.std.specs.Option.{option_map}
use Rattle.machine.specs.Data.{Cell}
use Rattle.machine.specs.Numbers.{Holds}
use Rattle.ram_words.specs.Elements.{cell_in, elem_held}
use Rattle.step_operands.proofs.Places.{no_value}
use Rattle.step_operands.proofs.held.place_kind.Goals as goal

pub returns-in_default-Some : goal.returns-in_default-Some
returns-in_default-Some c =
    let held : option_map cell_in (Some c.in_default-Some.kind) ≡ elem_held c.args.elem = c.in_default-Some.ensures in
    ap (λ (o : Option Cell). option_map Holds o) held ∙ sym (no_value c.args.elem c.in_default-Some.not-Value-0)

pub returns-in_default-None : goal.returns-in_default-None
returns-in_default-None c =
    let none : (let o : Option Cell = None in o) ≡ elem_held c.args.elem = c.in_default-None.ensures in
    ap (λ (o : Option Cell). option_map Holds o) none ∙ sym (no_value c.args.elem c.in_default-None.not-Value-0)
