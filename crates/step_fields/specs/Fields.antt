-- Fields of objects, as the program has them.
use Rattle.std.specs.Prelude.{◌≡◌, ℕ, Bool, true, ◌&&◌, ◌==◌, List, Some, slice_get}
use Rattle.board_types.specs.declared.board.TypeAt.{TypeAt}
use Rattle.board_types.specs.declared.value.Shape.{Shape}
use Rattle.machine.specs.Data.{Id, CliType}
use Rattle.machine.specs.Program.{Program}
use Rattle.memory_states.specs.Values.{id_of}
use Rattle.step_operands.specs.Held.{IsElem}
use Rattle.step_fields.specs.declared.fields.Field.{Field}

-- the field is one of its owner's, of this number and of a type of its element; of classes below the owner it is the same one. `sub`
-- tells which class is the owner or below it
pub record IsField (sub : TypeAt → TypeAt → Bool) (field : Field) (p : Program) : Type 0 where
  pub types : List CliType
  pub fields : p.fields (id_of field.owner) ≡ Some types
  pub type : CliType
  pub is : slice_get types field.number ≡ Some type
  pub held : IsElem field.elem type
  pub inherits : (class : Id) (own : List CliType) → p.is_sub class (id_of field.owner) ≡ true → p.fields class ≡ Some own → slice_get own field.number ≡ Some type
  pub subs : (a : TypeAt) → p.is_sub (id_of a) (id_of field.owner) ≡ sub a field.owner

-- a thing of this shape is an object of the class or of one below it
abbrev pub is_of : (TypeAt → TypeAt → Bool) → TypeAt → Shape → Bool
is_of sub owner shape = (shape.what == 0) && sub shape.of.of owner
