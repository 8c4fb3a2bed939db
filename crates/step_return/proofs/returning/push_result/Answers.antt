use Rattle.std.proofs.Common.{Option, sym, ap, ◌∙◌, subst}
use Rattle.board_types.specs.declared.value.Value.{Value as RamValue}
use Rattle.tiny_ram.specs.Region.{Done}
use Rattle.step_return.specs.Returns.{pushed_result, has_room}
use Rattle.step_return.proofs.returning.push_result.Goals as goal

pub returns-in-Some-clause-done : goal.returns-in-Some-clause-done
returns-in-Some-clause-done c = λ m f fs k e.
    subst (λ (o : Option RamValue). Done c.args.ram.now c.push.new.self m (pushed_result f o) fs c.push.result) (sym c.in-Some.is) (c.push.ensures.done m f fs k e)

pub returns-in-Some-clause-room : goal.returns-in-Some-clause-room
returns-in-Some-clause-room c = λ m f fs k e. c.push.ensures.room m f fs k e ∙ ap (has_room f) (sym c.in-Some.is)
