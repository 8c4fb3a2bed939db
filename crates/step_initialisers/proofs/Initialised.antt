-- A frame of an initialiser.
use Rattle.std.proofs.Common.{◌≡◌, ◌≢◌, ℕ, ◌+◌, ◌<◌, Bool, true, false, List, [], ◌∷◌, length, Some, None, refl, sym, ap, ◌∙◌, subst, arith}
use Rattle.std.specs.Prelude.{slice_index}
use Rattle.machine.specs.Data.{Id, PlaceType, State}
use Rattle.machine.specs.Program.{Program, Initialiser}
use Rattle.machine.specs.Throw.{on_some}
use Rattle.machine.specs.Rows.{method_cells}
use Rattle.machine.specs.Calls.{start_frame, if_none, start_code, start_class}
use Rattle.tiny_ram.specs.Memory.{Memory, fresh_frame, frame_cells, used, with_frames}
use Rattle.tiny_ram.specs.Region.{Keeps}
use Rattle.tiny_ram.specs.declared.memory.Ram.{Ram}
use Rattle.memory_states.specs.Values.{id_of}
use Rattle.memory_states.specs.States.{IsMachineFrame, StandsFor}
use Rattle.memory_states.proofs.Starts.{start_is}
use Rattle.memory_states.proofs.Heaps.{used_is}
use Rattle.step_ends.specs.Ends.{GoesOn, LacksCells}
use Rattle.step_calls.specs.declared.callee.Callee.{Callee}
use Rattle.step_calls.specs.Callees.{body_of, IsCallee}

none_of : {A : Type 0} (xs : List A) → length xs ≡ 0 → xs ≡ []
none_of [] e = refl
none_of (x ∷ xs) e = absurd (omega (arith, e))

module _ (p : Program) (s : State) (i : Initialiser) (c : Callee) (k : IsCallee p i.method c) where
  started : start_class p s i ≡ start_code p s i k.of k.of.body
  unfolding start_class
  started = ap (λ o. on_some o (λ m. start_code p s i m m.body)) k.is

  pub no_code : c.has_code ≡ false → start_class p s i ≡ None
  no_code e = started ∙ ap (start_code p s i k.of) (k.body ∙ ap body_of e)

  first_size : slice_index c.sizes 0 ≡ length k.of.arguments
  first_size = ap (λ (z : List ℕ). slice_index z 0) k.sizes

  pub takes_some : c.has_code ≡ true → slice_index c.sizes 0 ≢ 0 → start_class p s i ≡ None
  takes_some e d = started ∙ ap (start_code p s i k.of) (k.body ∙ ap body_of e) ∙ by k.of.arguments first_size
    where
      by : (xs : List PlaceType) → slice_index c.sizes 0 ≡ length xs → if_none xs (Some (let t : State = record s { started = i.class ∷ s.started; frames = start_frame true i.method k.of [] ∷ s.frames } in t)) ≡ None
      by [] q = absurd (d q)
      by (x ∷ xs) q = refl

  after : State
  after = record s { started = i.class ∷ s.started; frames = start_frame true i.method k.of [] ∷ s.frames }

  nothing : slice_index c.sizes 0 ≡ 0 → k.of.arguments ≡ []
  nothing e = none_of k.of.arguments (sym first_size ∙ e)

  goes : c.has_code ≡ true → slice_index c.sizes 0 ≡ 0 → start_class p s i ≡ Some after
  unfolding after
  goes e z = started ∙ ap (start_code p s i k.of) (k.body ∙ ap body_of e)
      ∙ ap (λ xs. if_none xs (Some (let t : State = record s { started = i.class ∷ s.started; frames = start_frame true i.method k.of [] ∷ s.frames } in t))) (nothing z)

  module _ (outer : Id → ℕ → ℕ → Bool) (m : Memory) (h : StandsFor p outer m s) (e : c.has_code ≡ true) (z : slice_index c.sizes 0 ≡ 0) where
    size : frame_cells (fresh_frame c.method c.sizes) ≡ method_cells (p.method i.method)
    size = let sizes = ap (λ (x : List ℕ). frame_cells (fresh_frame c.method x)) k.sizes in sizes ∙ (omega arith) ∙ sym (ap method_cells k.is)

    pub spent : m.room < used m + frame_cells (fresh_frame c.method c.sizes) → LacksCells p outer m.room (start_class p s i)
    unfolding after
    spent l =
        let in_use = used_is p outer m s h in
        let same = size in
        record { state = after; is = goes e z; more = omega (arith, l, in_use, same) }

    pub starts : (u : Ram) → Keeps u (with_frames m (record (fresh_frame c.method c.sizes) { initialiser = true } ∷ m.frames)) → GoesOn p outer s u m.room (start_class p s i)
    unfolding after
    starts u kept =
        let made : IsMachineFrame p outer s.heap m.room (record (fresh_frame c.method (length k.of.arguments ∷ length k.of.locals ∷ k.of.max_stack ∷ length k.of.clauses ∷ [])) { initialiser = true }) m.frames (start_frame true (id_of c.method) k.of []) s.frames =
        start_is p outer s.heap m.room c.method k.of true m.frames s.frames (ap p.method k.method ∙ k.is) (nothing z) in
        let named = subst (λ (id : Id). IsMachineFrame p outer s.heap m.room (record (fresh_frame c.method (length k.of.arguments ∷ length k.of.locals ∷ k.of.max_stack ∷ length k.of.clauses ∷ [])) { initialiser = true }) m.frames (start_frame true id k.of []) s.frames) k.method made in
        let sized = subst (λ (x : List ℕ). IsMachineFrame p outer s.heap m.room (record (fresh_frame c.method x) { initialiser = true }) m.frames (start_frame true i.method k.of []) s.frames) (sym k.sizes) named in
        record {
          state = after;
          is = goes e z;
          end = refl;
          memory = with_frames m (record (fresh_frame c.method c.sizes) { initialiser = true } ∷ m.frames);
          kept = kept;
          alike = record { heap = h.heap; frames = (sized, h.frames) };
          same_room = refl;
        }
