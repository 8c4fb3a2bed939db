-- Methods with bodies.
use Rattle.std.specs.Prelude.{◌≡◌, ℕ, Bool, not, Some, slice_get}
use Rattle.machine.specs.Data.{Id}
use Rattle.machine_typed.specs.Typing.{has_body}
use Rattle.classes.specs.Classes.{Class, Classes, OwnMethod}
use Rattle.classes.specs.Queries.{method_at}
use Rattle.class_rules.specs.Rules.{holds_some}

-- each method has a body unless it is abstract: rule 29
abbrev pub AreBodied : Classes → Type 0
AreBodied cs = (c : Id) (k : Class) (i : ℕ) (x : OwnMethod) → cs.class c ≡ Some k → slice_get k.methods i ≡ Some x → has_body x.body ≡ not x.is_abstract

-- a class has the method, and it has a body
abbrev pub is_bodied : Classes → Id → Bool
is_bodied cs id = holds_some (method_at cs id) (λ x. has_body x.body)
