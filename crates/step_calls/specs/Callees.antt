-- What is read of a method is the program's.
use Rattle.std.specs.Prelude.{◌≡◌, ℕ, Bool, true, false, [], ◌∷◌, length, Some, is_some, slice_get}
use Rattle.machine.specs.Data.{Id, PlaceType}
use Rattle.machine.specs.Program.{Program, Method, Body, Code, Missing}
use Rattle.machine.specs.Numbers.{kind_of}
use Rattle.kept_values.specs.declared.keeping.PlaceKind.{PlaceKind}
use Rattle.kept_values.specs.Keeping.{kind_seen}
use Rattle.memory_states.specs.Values.{id_of}
use Rattle.step_calls.specs.declared.callee.Callee.{Callee}

-- CIL, or no body
abbrev pub body_of : Bool → Body
body_of true = Code
body_of false = Missing

pub record IsCallee (p : Program) (id : Id) (c : Callee) : Type 0 where
  pub of : Method
  pub is : p.method id ≡ Some of
  pub method : id_of c.method ≡ id
  pub sizes : c.sizes ≡ length of.arguments ∷ length of.locals ∷ of.max_stack ∷ length of.clauses ∷ []
  pub gives : c.gives ≡ is_some of.returns
  pub body : of.body ≡ body_of c.has_code

-- how the places of the method's arguments keep values
pub record HasPlaces (p : Program) (id : Id) (kinds : ℕ → PlaceKind) : Type 0 where
  pub each : (of : Method) (n : ℕ) (type : PlaceType) → p.method id ≡ Some of → slice_get of.arguments n ≡ Some type → kind_seen (kinds n) ≡ kind_of type
