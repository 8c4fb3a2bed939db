-- A new frame, beside the machine's.
use Rattle.std.proofs.Common.{◌≡◌, ℕ, zero, suc, ◌+◌, Bool, List, [], ◌∷◌, length, replicate, Option, Some, None, refl, sym, ap, ◌∙◌, subst, arith}
use Rattle.std.specs.Prelude.{sum, slice_get, unwrap_or}
use Rattle.std.specs.Option.{option_map}
use Rattle.std.proofs.lemmas.List.{length-replicate}
use Rattle.machine_rename.proofs.Base.{length-map_lem}
use Rattle.std.proofs.lemmas.Option.{slice_get-map}
use Rattle.board_types.specs.declared.board.TypeAt.{TypeAt}
use Rattle.board_types.specs.declared.value.Value.{Value as RamValue}
use Rattle.machine.specs.Data.{Id, Thing, Slot, Nothing, Frame}
use Rattle.machine.specs.Program.{Program, Method}
use Rattle.machine.specs.Numbers.{zero_place}
use Rattle.machine.specs.Calls.{start_frame}
use Rattle.tiny_ram.specs.Memory.{RamFrame, fresh_frame}
use Rattle.memory_states.specs.Values.{id_of, IsHeld}
use Rattle.memory_states.specs.States.{place_held, IsSlot, IsMachineFrame}

some_same : {A : Type 0} (x y : A) → Some x ≡ Some y → x ≡ y
some_same x y e = cc e

abbrev pub sizes_of : Method → List ℕ
sizes_of m = length m.arguments ∷ length m.locals ∷ m.max_stack ∷ length m.clauses ∷ []

nothing_put : (n i : ℕ) → unwrap_or (slice_get (replicate n (let r : Option RamValue = None in r)) i) None ≡ None
nothing_put zero i = refl
nothing_put (suc n) zero = refl
nothing_put (suc n) (suc i) = nothing_put n i

nothing_left : (n k : ℕ) (slot : Slot) → slice_get (replicate n Nothing) k ≡ Some slot → slot ≡ Nothing
nothing_left zero k slot e = absurd (cc e)
nothing_left (suc n) zero slot e = some_same slot Nothing (sym e)
nothing_left (suc n) (suc k) slot e = nothing_left n k slot e

module _ (p : Program) (outer : Id → ℕ → ℕ → Bool) (heap : List Thing) (room : ℕ) where
  pub start_is : (method : TypeAt) (m : Method) (initialiser : Bool) (fs : List RamFrame) (gs : List Frame) → p.method (id_of method) ≡ Some m → m.arguments ≡ [] → IsMachineFrame p outer heap room (record (fresh_frame method (sizes_of m)) { initialiser = initialiser }) fs (start_frame initialiser (id_of method) m []) gs
  start_is method m initialiser fs gs is none = record {
    of = m;
    is = is;
    method = refl;
    initialiser = refl;
    place = refl;
    place_fits = omega arith;
    sizes = refl;
    count = length-replicate (sum (sizes_of m)) None ∙ (omega arith);
    argument_count = ap length (sym none);
    local_count = length-map_lem zero_place m.locals;
    slot_count = length-replicate (length m.clauses) Nothing;
    depth = refl;
    most = omega arith;
    arguments = λ i type v a b. absurd (cc b);
    locals = λ i type v a b.
        let same : v ≡ zero_place type = some_same v (zero_place type) (sym b ∙ slice_get-map zero_place m.locals i ∙ ap (option_map zero_place) a) in
        subst (λ (r : Option RamValue). IsHeld room (record (fresh_frame method (sizes_of m)) { initialiser = initialiser } ∷ fs) (zero_place type) r v) (sym (nothing_put (sum (sizes_of m)) (length m.arguments + i))) same;
    stack = λ i v e. absurd (cc e);
    slots = λ k slot e.
        subst (λ (x : Slot). IsSlot p outer heap m (id_of method) initialiser gs k (place_held (fresh_frame method (sizes_of m)) (length m.arguments + length m.locals + m.max_stack + k)) x) (sym (nothing_left (length m.clauses) k slot e))
        (nothing_put (sum (sizes_of m)) (length m.arguments + length m.locals + m.max_stack + k));
  }
