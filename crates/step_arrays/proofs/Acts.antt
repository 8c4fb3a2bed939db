-- The machine's acts on arrays, step by step.
use Rattle.std.proofs.Common.{◌≡◌, ℕ, ℤ, List, [], ◌∷◌, ◌++◌, length, replicate, Option, Some, None, refl, ap, ◌∙◌}
use Rattle.std.specs.Prelude.{unsigned_abs, if◌then◌else◌}
use Rattle.board_types.specs.declared.board.Known.TheVariants.{Overflow}
use Rattle.machine.specs.Data.{CliType, Cell, cell_of, end_of, Value, Object, Thing, Elements, Frame, State}
use Rattle.std.specs.Int.{w32, cast_unsigned}
use Rattle.std.specs.Option.{option_map}
use Rattle.machine.specs.Program.{Program, Access, access_cell}
use Rattle.machine.specs.Numbers.{is_negative, as_int, zero_of}
use Rattle.machine.specs.Throw.{on_some, goes, raise}
use Rattle.machine.specs.Rows.{on_top, on_two, on_thing, on_elements, length_value, index_of}
use Rattle.machine.specs.Objects.{new_array, load_length, load_element}
use Rattle.step_arrays.specs.Elements.{on_element}
use Rattle.step_operands.specs.Changed.{with_thing}

module _ (p : Program) (s : State) (g : Frame) (gs : List Frame) (next : ℕ) where
  abbrev pub lengths : List Value → ℕ → Thing → Option State
  lengths rest object thing = on_elements thing (λ element values. goes p s g gs next (length_value (length values) ∷ rest))

  abbrev pub length_go : Value → List Value → Option State
  length_go this rest = on_thing p s this (lengths rest)

  pub length_is : load_length p s g gs next ≡ on_top g.stack length_go
  unfolding load_length
  length_is = refl

  module _ (element : CliType) where
    abbrev pub made : ℤ → Thing
    made n = Elements element (replicate (unsigned_abs n) (zero_of element))

    abbrev pub counted : List Value → ℤ → Option State
    counted rest n = if is_negative n then raise p s Overflow else goes p (with_thing s (made n)) g gs next (Object (end_of s.heap) ∷ rest)

    abbrev pub array_go : Value → List Value → Option State
    array_go v rest = on_some (as_int v) (counted rest)

    pub array_is : (o : Option Cell) → cell_of element ≡ o → new_array p s g gs next element ≡ on_some o (λ cell. on_top g.stack array_go)
    unfolding new_array
    array_is o e = ap (λ (o : Option Cell). on_some o (λ cell. on_top g.stack array_go)) e

  -- an element, as a load by the cell sees it
  abbrev pub element_at : Cell → List Value → ℕ → ℕ → Thing → Option State
  element_at wide rest i object thing = on_element p s thing i wide (λ w. goes p s g gs next (w ∷ rest))

  abbrev pub element_go : Cell → Value → Value → List Value → Option State
  element_go wide this index rest = on_some (as_int index) (λ i. on_thing p s this (element_at wide rest (index_of i)))

  pub element_is : (access : Access) (o : Option Cell) → access_cell access ≡ o → load_element p s g gs next access ≡ on_some o (λ wide. on_two g.stack (element_go wide))
  unfolding load_element
  element_is access o e = ap (λ (o : Option Cell). on_some o (λ wide. on_two g.stack (element_go wide))) e

  by_index : (o : Option ℤ) (go : ℕ → Option State) → on_some o (λ i. go (index_of i)) ≡ on_some (option_map (cast_unsigned w32) o) go
  by_index None go = refl
  by_index (Some i) go = refl

  -- the operands of a load
  pub element_steps : (access : Access) (wide : Cell) → access_cell access ≡ Some wide → (this index : Value) (rest : List Value) (r : Option ℕ) → on_two g.stack (element_go wide) ≡ element_go wide this index rest → option_map (cast_unsigned w32) (as_int index) ≡ r
      → load_element p s g gs next access ≡ on_some r (λ i. on_thing p s this (element_at wide rest i))
  element_steps access wide a this index rest r on e =
      element_is access (Some wide) a ∙ on ∙ by_index (as_int index) (λ i. on_thing p s this (element_at wide rest i)) ∙ ap (λ (o : Option ℕ). on_some o (λ i. on_thing p s this (element_at wide rest i))) e
