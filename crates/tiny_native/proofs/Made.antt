-- A native that makes a string meets the machine's.
use Rattle.std.proofs.Common.{◌≡◌, ℕ, ◌-◌, List, [], ◌∷◌, ◌++◌, Option, Some, None, sym, ap, ◌∙◌, arith}
use Rattle.board_types.specs.declared.value.Value.TheVariants as board
use Rattle.machine.specs.Data.{end_of, Value, Object, Text, State}
use Rattle.machine.specs.Throw.{goes}
use Rattle.machine.specs.Natives.{new_text}
use Rattle.tiny_ops.specs.Operators.{reference}
use Rattle.tiny_ram.specs.declared.memory.Ram.{Ram}
use Rattle.tiny_ram.specs.Memory.{heap_cells}
use Rattle.tiny_native.specs.Seen.{Scene}
use Rattle.tiny_native.specs.Texts.{MadeText}
use Rattle.tiny_native.specs.Ends.{Meets, NewText}
use Rattle.tiny_native.specs.declared.ending.NativeEnd.{NativeEnd}
use Rattle.tiny_native.specs.declared.ending.NativeEnd.TheVariants.{Gives, Prints, Throws, Spent, NoCase}
use Rattle.tiny_native.proofs.ThingKinds.{object_of}

pub text_meets : (s : Scene) (u : Ram) (units : List ℕ) (outcome : Option State) (r : NativeEnd) → end_of s.state.heap ≡ heap_cells s.memory.heap → outcome ≡ new_text s.program s.state s.frame s.callers s.next s.rest units → MadeText u s.memory units r → Meets s u outcome r
unfolding new_text
text_meets s u units outcome (Gives (Some (board.Ref thing))) cells e h =
    let number : thing - 1 ≡ end_of s.state.heap = omega (arith, h.0, cells) in
    let value : reference thing ≡ Object (end_of s.state.heap) = object_of thing (omega (arith, h.0)) ∙ ap Object number in
    record {
      change = NewText units;
      keeps = h.1;
      outcome = e ∙ sym (ap (λ (v : Value). goes s.program (record s.state { heap = s.state.heap ++ Text units ∷ [] }) s.frame s.callers s.next (v ∷ s.rest)) value);
    }
text_meets s u units outcome Spent cells e h = record { units = units; cells = h.0; keeps = h.1; outcome = e }
text_meets s u units outcome (Gives None) cells e h = absurd h
text_meets s u units outcome (Gives (Some (board.Int n))) cells e h = absurd h
text_meets s u units outcome (Gives (Some (board.Long n))) cells e h = absurd h
text_meets s u units outcome (Gives (Some (board.Pointer at))) cells e h = absurd h
text_meets s u units outcome (Gives (Some (board.Handle f))) cells e h = absurd h
text_meets s u units outcome (Prints thing) cells e h = absurd h
text_meets s u units outcome (Throws known) cells e h = absurd h
text_meets s u units outcome NoCase cells e h = absurd h
