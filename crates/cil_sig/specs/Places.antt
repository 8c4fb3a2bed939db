-- Where in a blob the code of a type's element stands.
use Rattle.std.specs.Prelude.{ℕ, zero, suc, ◌-◌, ◌==◌, if◌then◌else◌, List, [], ◌∷◌, length, drop, Option, Some, None, Ok, Err}
use Rattle.cil_sig.specs.declared.elements.TheConstants.{POINTER, FIELD, LOCALS}
use Rattle.cil_sig.specs.declared.reading.Slot.{Slot}
use Rattle.cil_sig.specs.declared.reading.Slot.TheVariants.{Parameter, Local}
use Rattle.cil_sig.specs.declared.places.Position.{Position}
use Rattle.cil_sig.specs.declared.places.Position.TheVariants as positions
use Rattle.cil_sig.specs.Reading.{◌>>=◌, Part, count_at, result_at, slot_at, brackets, behind, this_at}

-- the bytes behind so many types
unfoldable pub behind_slots : Slot → ℕ → List ℕ → Part (List ℕ)
behind_slots slot zero bytes = Ok bytes
behind_slots slot (suc n) bytes = do
  first ← slot_at slot bytes
  behind_slots slot n first.1

-- the bytes from the result of a method on
unfoldable pub result_front : List ℕ → Part (List ℕ)
result_front blob = do
  this ← this_at blob
  count ← count_at this.1
  Ok count.1

-- the bytes from the parameter of a number on
unfoldable pub parameter_front : ℕ → List ℕ → Part (List ℕ)
parameter_front k blob = do
  front ← result_front blob
  returns ← result_at front
  behind_slots Parameter k returns.1

-- the bytes from the local of a number on
unfoldable pub local_front : ℕ → List ℕ → Part (List ℕ)
local_front k blob = do
  rest ← behind LOCALS blob
  count ← count_at rest
  behind_slots Local k count.1

-- the bytes from the type of a position on
abbrev pub front_of : Position → List ℕ → Part (List ℕ)
front_of positions.Field blob = behind FIELD blob
front_of positions.Spec blob = Ok blob
front_of positions.Returned blob = result_front blob
front_of (positions.Parameter k) blob = parameter_front k blob
front_of (positions.Local k) blob = local_front k blob

-- the bytes of a type without the mark of a pointer
abbrev pub pointed_to : List ℕ → List ℕ
pointed_to [] = []
pointed_to (code ∷ rest) = if code == POINTER then rest else code ∷ rest

-- the bytes from the code of a type's element on
unfoldable pub element_front : List ℕ → List ℕ
element_front bytes = drop (brackets (pointed_to bytes)) (pointed_to bytes)

-- the offset in the blob of these bytes, which end with it
abbrev pub offset_of : List ℕ → List ℕ → Option ℕ
offset_of blob [] = None
offset_of blob (b ∷ rest) = Some (length blob - length (b ∷ rest))

abbrev pub place_from : List ℕ → Part (List ℕ) → Option ℕ
place_from blob (Ok front) = offset_of blob (element_front front)
place_from blob (Err left) = None

-- the offset of the code of the element at a position, where reading up to it meets no fault and the blob doesn't end there
unfoldable pub place_of : Position → List ℕ → Option ℕ
place_of position blob = place_from blob (front_of position blob)
