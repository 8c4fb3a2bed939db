-- A new array, beside the machine's.
use Rattle.std.proofs.Common.{◌≡◌, ℕ, zero, suc, List, [], ◌∷◌, length, replicate, Option, Some, None, refl, sym, ap, ◌∙◌, subst}
use Rattle.std.proofs.lemmas.List.{length-replicate}
use Rattle.board_types.specs.declared.board.BoardType.{BoardType}
use Rattle.board_types.specs.declared.value.Value.{Value as RamValue}
use Rattle.machine.specs.Data.{Cell, cell_of, Value, Thing, Elements}
use Rattle.machine.specs.Program.{Program}
use Rattle.machine.specs.Numbers.{zero_of}
use Rattle.ram_words.specs.Elements.{type_held}
use Rattle.tiny_ram.specs.Things.{packed_by, fresh_place, fresh, array_shape}
use Rattle.memory_states.specs.Values.{cli_type, IsHeld, AllHeld, IsThing}
use Rattle.memory_states.proofs.Heaps.{type_is_held}
use Rattle.step_operands.proofs.Places.{zero_held}

all_fresh : (room : ℕ) (unput : Value) (o : Option RamValue) → IsHeld room [] unput o unput → (n : ℕ) → AllHeld room [] unput (replicate n o) (replicate n unput)
all_fresh room unput o h zero = tt
all_fresh room unput o h (suc n) = (h, all_fresh room unput o h n)

pub made_is : (p : Program) (room : ℕ) (of : BoardType) (cell : Cell) (n : ℕ) → type_held of ≡ Some cell → IsThing p room (fresh (array_shape of n)) (Elements (cli_type of) (replicate n (zero_of (cli_type of))))
made_is p room of cell n e =
    let unput = zero_of (cli_type of) in
    let held : IsHeld room [] unput (fresh_place (packed_by (type_held of))) unput =
    subst (λ (o : Option Cell). IsHeld room [] unput (fresh_place (packed_by o)) unput) (sym e) (zero_held room [] (Some cell) (cli_type of) (sym (type_is_held of) ∙ e)) in
    record {
      of = of;
      element_is = refl;
      shape = ap (array_shape of) (sym (length-replicate n unput));
      places = all_fresh room unput (fresh_place (packed_by (type_held of))) held n;
    }
