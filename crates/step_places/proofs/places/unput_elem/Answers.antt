use Rattle.std.proofs.Common.{ap, ◌∙◌}
use Rattle.ram_words.specs.Elements.{cell_in}
use Rattle.kept_values.specs.Keeping.{kind_seen}
use Rattle.step_places.proofs.Zeros.{plain_unput, pointer_unput, handle_unput, nothing_unput}
use Rattle.step_places.proofs.places.unput_elem.Goals as goal

pub returns-in-Holds : goal.returns-in-Holds
returns-in-Holds c = λ type room fs k. plain_unput room fs type (cell_in c.in-Holds.kind) c.elem_of.result c.elem_of.ensures (k ∙ ap kind_seen c.in-Holds.is)

pub returns-in-HoldsPointer : goal.returns-in-HoldsPointer
returns-in-HoldsPointer c = λ type room fs k. pointer_unput room fs type (cell_in c.in-HoldsPointer.field-0) (k ∙ ap kind_seen c.in-HoldsPointer.is)

pub returns-in-HoldsHandle : goal.returns-in-HoldsHandle
returns-in-HoldsHandle c = λ type room fs k. handle_unput room fs type (k ∙ ap kind_seen c.in-HoldsHandle.is)

pub returns-in-Nothing : goal.returns-in-Nothing
returns-in-Nothing c = λ type room fs k. nothing_unput room fs type (k ∙ ap kind_seen c.in-Nothing.is)
