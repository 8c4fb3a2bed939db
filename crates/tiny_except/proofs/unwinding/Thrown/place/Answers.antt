use Rattle.std.proofs.Common.{sym, subst}
use Rattle.tiny_except.proofs.unwinding.Thrown.place.Goals as goal
use Rattle.tiny_except.specs.declared.unwinding.Thrown.{Thrown}
use Rattle.tiny_ram.specs.Things.{fresh, object_shape}
use Rattle.tiny_except.specs.Unwinding.{thrown_object, with_thrown}
use Rattle.tiny_except.specs.Searches.{Placed}
use Rattle.tiny_except.proofs.Catches.{placed}

pub returns-in-Made : goal.returns-in-Made
returns-in-Made c = λ m k.
    subst (λ (z : Thrown). Placed c.object.new.self c.object.result (thrown_object m z) (with_thrown m z)) (sym c.in-Made.is)
    (placed c.args.ram.now c.object.new.self m (fresh (object_shape c.in-Made.class c.in-Made.fields)) c.object.result (c.object.ensures m k))
