-- The acts at locals, beside the machine's.
use Rattle.std.proofs.Common.{◌≡◌, ℕ, ◌+◌, ◌-◌, ◌<◌, Bool, List, [], ◌∷◌, length, Option, Some, None, sym, ap, ◌∙◌, subst, arith}
use Rattle.std.specs.Prelude.{slice_get, slice_set, slice_index}
use Rattle.std.specs.Option.{option_map}
use Rattle.plain_types.specs.declared.elem.Elem.{Elem}
use Rattle.board_types.specs.declared.value.RamPlace.{RamPlace}
use Rattle.board_types.specs.declared.value.Value.{Value as RamValue}
use Rattle.board_types.specs.declared.value.Value.TheVariants as ram
use Rattle.machine.specs.Data.{Id, PlaceType, Cell, InLocal, Value, Pointer, Frame, State}
use Rattle.machine.specs.Program.{Program, Method, StoreLocal, LoadLocalAddress}
use Rattle.machine.specs.Numbers.{PlaceKind, kind_of, kept, zero_place}
use Rattle.machine.specs.Throw.{on_some, goes}
use Rattle.machine.specs.Rows.{on_top, frames_cells}
use Rattle.machine.specs.Step.{act, place_cell}
use Rattle.ram_words.specs.Elements.{elem_held, zero_by}
use Rattle.tiny_ram.specs.Memory.{RamFrame, Memory, innermost, frame_at, variables, shown}
use Rattle.tiny_ram.specs.Memory.{frames_cells as ram_cells}
use Rattle.tiny_ram.specs.Region.{Keeps}
use Rattle.tiny_ram.specs.declared.memory.Ram.{Ram}
use Rattle.tiny_except.proofs.Tops.{top_is}
use Rattle.memory_states.specs.Values.{IsValue}
use Rattle.memory_states.specs.States.{place_held, local_held, IsMachineFrame, AreFrames}
use Rattle.memory_states.proofs.Frames.{variables_are}
use Rattle.memory_states.proofs.Heaps.{frames_size}
use Rattle.kept_values.specs.declared.keeping.PlaceKind.{PlaceKind as BoardKind}
use Rattle.kept_values.specs.Keeping.{kind_seen}
use Rattle.step_places.specs.Places.{cell_seen}
use Rattle.step_places.proofs.Rooms.{frames_fit}
use Rattle.step_places.proofs.Zeros.{kind_cell, type_cell, seen_cell, shown_is}
use Rattle.step_places.proofs.Told.{Place, told, no_type, no_value}

some_same : {A : Type 0} (x y : A) → Some x ≡ Some y → x ≡ y
some_same x y e = cc e

module _ (p : Program) (outer : Id → ℕ → ℕ → Bool) (m : Memory) (s : State) (f : RamFrame) (fs : List RamFrame) (g : Frame) (gs : List Frame) (k : IsMachineFrame p outer s.heap m.room f fs g gs) (n : ℕ) where
  module _ (of : Method) (is : p.method g.method ≡ Some of) (place : Option BoardKind) (e : option_map kind_of (slice_get of.locals n) ≡ option_map kind_seen place) where
    own : option_map kind_of (slice_get k.of.locals n) ≡ option_map kind_seen place
    own = ap (λ (x : Method). option_map kind_of (slice_get x.locals n)) (some_same k.of of (sym k.is ∙ is)) ∙ e

    pub local_there : (kind : BoardKind) → place ≡ Some kind → Place k.of.locals g.locals n (kind_seen kind)
    local_there kind q = told k.of.locals g.locals n (kind_seen kind) k.local_count (own ∙ ap (option_map kind_seen) q)

    pub no_local_type : place ≡ None → slice_get k.of.locals n ≡ None
    no_local_type q = no_type k.of.locals n (own ∙ ap (option_map kind_seen) q)

    pub no_local : place ≡ None → slice_get g.locals n ≡ None
    no_local q = no_value k.of.locals g.locals n k.local_count (own ∙ ap (option_map kind_seen) q)

    -- the address is pushed, where a pointer can lead to the place
    abbrev pub pointed : ℕ → Cell → Option State
    pointed next cell = goes p s g gs next (Pointer cell (InLocal (frames_cells p (g ∷ gs)) n) ∷ g.stack)

    pub address_is : (next : ℕ) → act p s g gs next (LoadLocalAddress n) ≡ on_some (cell_seen place) (pointed next)
    address_is next =
        ap (λ (o : Option Method). on_some o (λ x. on_some (slice_get x.locals n) (λ type. on_some (place_cell type) (pointed next)))) k.is
        ∙ by place own
      where
        typed : (o : Option PlaceType) (kind : BoardKind) → option_map kind_of o ≡ Some (kind_seen kind) → on_some o (λ type. on_some (place_cell type) (pointed next)) ≡ on_some (cell_seen (Some kind)) (pointed next)
        typed None kind q = absurd (cc q)
        typed (Some type) kind q = ap (λ (o : Option Cell). on_some o (pointed next)) (type_cell type ∙ ap kind_cell (some_same (kind_of type) (kind_seen kind) q) ∙ seen_cell kind)

        by : (o : Option BoardKind) → option_map kind_of (slice_get k.of.locals n) ≡ option_map kind_seen o → on_some (slice_get k.of.locals n) (λ type. on_some (place_cell type) (pointed next)) ≡ on_some (cell_seen o) (pointed next)
        by None q = ap (λ (o : Option PlaceType). on_some o (λ type. on_some (place_cell type) (pointed next))) (no_type k.of.locals n q)
        by (Some kind) q = typed (slice_get k.of.locals n) kind q

  -- where the place lies among all variables
  abbrev pub index_of : ℕ
  index_of = slice_index f.sizes 0 + n

  module _ (kind : Option PlaceKind) (there : Place k.of.locals g.locals n kind) where
    pub local_below : index_of < variables f
    local_below =
        let all = variables_are p outer s.heap m.room f fs g gs k in
        let first : slice_index f.sizes 0 ≡ length k.of.arguments = ap (λ (z : List ℕ). slice_index z 0) k.sizes in
        let within = there.within in
        omega (arith, all, first, within)

    pub local_value : (unput : Elem) (r : RamValue) → IsValue m.room (f ∷ fs) (zero_by (elem_held unput)) (zero_place there.type) → r ≡ shown unput (place_held f index_of) → IsValue m.room (f ∷ fs) r there.value
    local_value unput r z q =
        subst (λ (x : RamValue). IsValue m.room (f ∷ fs) x there.value) (sym q)
        (shown_is m.room (f ∷ fs) (zero_place there.type) there.value unput (local_held f n) (k.locals n there.type there.value there.typed there.there) z)

  abbrev pub stored : ℕ → List Value → Value → Option State
  stored next rest w = goes p s (record g { locals = slice_set g.locals n w }) gs next rest

  abbrev pub by_stack : ℕ → PlaceType → List Value → Option State
  by_stack next type stack = on_top stack (λ v rest. on_some (kept type v) (stored next rest))

  typed_store : (next : ℕ) (type : PlaceType) → slice_get k.of.locals n ≡ Some type → act p s g gs next (StoreLocal n) ≡ by_stack next type g.stack
  typed_store next type e =
      ap (λ (o : Option Method). on_some o (λ x. on_some (slice_get x.locals n) (λ type. by_stack next type g.stack))) k.is
      ∙ ap (λ (o : Option PlaceType). on_some o (λ type. by_stack next type g.stack)) e

  pub no_type_stores : (next : ℕ) → slice_get k.of.locals n ≡ None → act p s g gs next (StoreLocal n) ≡ None
  no_type_stores next e =
      ap (λ (o : Option Method). on_some o (λ x. on_some (slice_get x.locals n) (λ type. by_stack next type g.stack))) k.is
      ∙ ap (λ (o : Option PlaceType). on_some o (λ type. by_stack next type g.stack)) e

  pub empty_stores : (next : ℕ) (type : PlaceType) → slice_get k.of.locals n ≡ Some type → g.stack ≡ [] → act p s g gs next (StoreLocal n) ≡ None
  empty_stores next type e q = typed_store next type e ∙ ap (by_stack next type) q

  pub stores : (next : ℕ) (type : PlaceType) → slice_get k.of.locals n ≡ Some type → (v : Value) (rest : List Value) → g.stack ≡ v ∷ rest → (o : Option Value) → kept type v ≡ o → act p s g gs next (StoreLocal n) ≡ on_some o (stored next rest)
  stores next type e v rest q o w = typed_store next type e ∙ ap (by_stack next type) q ∙ ap (λ (x : Option Value). on_some x (stored next rest)) w

  -- the place's address is the machine's
  pub address : (r : Ram) (callers : AreFrames p outer s.heap m.room fs gs) → Keeps r m → m.frames ≡ f ∷ fs → (at : RamPlace) → at.thing ≡ innermost m.room m.frames → at.index ≡ index_of → (cell : Cell) → elem_held at.elem ≡ Some cell → IsValue m.room (f ∷ fs) (ram.Pointer at) (Pointer cell (InLocal (frames_cells p (g ∷ gs)) n))
  address r callers keeps e at top index cell holds =
      let fit = frames_fit r m f fs keeps e in
      let size = frames_size p outer s.heap m.room (f ∷ fs) (g ∷ gs) (k, callers) in
      let first : at.thing ≡ 1 + (m.room - ram_cells (f ∷ fs)) = top ∙ ap (innermost m.room) e in
      let depth : at.thing + frames_cells p (g ∷ gs) ≡ 1 + m.room = omega (arith, fit, size, first) in
      (holds, (depth, record { frame = f; there = subst (λ (z : List RamFrame). frame_at m.room z at.thing ≡ Some f) e (top_is m at.thing f fs e top); index = index }))
