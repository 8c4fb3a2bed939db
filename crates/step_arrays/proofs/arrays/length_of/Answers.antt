use Rattle.std.proofs.Common.{◌∷◌, ℕ, List, Option, length, sym, ap, ◌∙◌}
use Rattle.machine.specs.Data.{CliType, Value, State}
use Rattle.machine.specs.Throw.{goes}
use Rattle.machine.specs.Rows.{on_elements, length_value}
use Rattle.machine.specs.Data.{Thing}
use Rattle.tiny_ram.specs.Memory.{with_frames}
use Rattle.step_operands.proofs.Changing.{find, there_over}
use Rattle.step_operands.proofs.Ending.{moves_so}
use Rattle.step_arrays.proofs.Lengths.{elements_are, no_elements}
use Rattle.step_arrays.proofs.arrays.length_of.Goals as goal

pub returns-in_default : goal.returns-in_default
returns-in_default c =
    λ p outer m s fs gs h g rest n x b t at.
    let found = find p outer m s b.things n c.args.thing x t at in
    let none = c.in_default.ensures (with_frames m (h ∷ fs)) found.entry b.keeps (there_over m (h ∷ fs) c.args.thing found.entry found.there) in
    no_elements p m.room found.entry x found.is none (λ element values. goes p s g gs c.args.next (length_value (length values) ∷ rest))

pub returns : goal.returns
returns c =
    λ p outer m s fs gs h g rest n x b t at.
    let found = find p outer m s b.things n c.args.thing x t at in
    let a = elements_are p m.room found.entry x found.is c.in-Some.array (c.in-Some.ensures (with_frames m (h ∷ fs)) found.entry b.keeps (there_over m (h ∷ fs) c.args.thing found.entry found.there)) in
    let go : CliType → List Value → Option State = λ element values. goes p s g gs c.args.next (length_value (length values) ∷ rest) in
    moves_so p outer s c.go_with_length.new.ram m.room (goes p s g gs c.args.next (length_value c.in-Some.array.count ∷ rest)) (on_elements x go) c.go_with_length.result
    (ap (λ (k : ℕ). goes p s g gs c.args.next (length_value k ∷ rest)) a.count ∙ sym (ap (λ (y : Thing). on_elements y go) a.is))
    (c.go_with_length.ensures p outer m s fs gs h g rest b)
