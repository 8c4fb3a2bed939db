-- Things that change or are made, beside the machine's.
use Rattle.std.proofs.Common.{◌≡◌, ℕ, suc, ◌+◌, ◌-◌, ◌<◌, Bool, true, false, ◌==◌, List, [], ◌∷◌, ◌++◌, length, Option, Some, None, refl, sym, ap, ◌∙◌, subst, arith}
use Rattle.std.specs.Prelude.{if◌then◌else◌, nat_lt, slice_get}
use Rattle.board_types.specs.declared.value.Value.{Value as RamValue}
use Rattle.machine.specs.Data.{Id, Value, Thing, thing_size, thing_at, put_thing, Slot, Nothing, Caught, Throwing, Leaving, Frame, State}
use Rattle.machine.specs.Program.{Program, Method}
use Rattle.machine.specs.Throw.{on_some, thrown_class}
use Rattle.tiny_ram.specs.Things.{Entry, entry_cells}
use Rattle.tiny_ram.specs.Memory.{RamFrame, Memory, entry_at, put_entry, IsEntry, put_in, with_entry, with_frames}
use Rattle.tiny_ram.specs.Region.{Keeps}
use Rattle.tiny_ram.specs.declared.memory.Ram.{Ram}
use Rattle.memory_states.specs.Values.{IsThing, AreThings}
use Rattle.memory_states.specs.States.{slot_held, IsThrown, IsSlot, IsMachineFrame, AreFrames}
use Rattle.memory_states.proofs.Heaps.{size_is, entry_is, things_more, frame_more, frames_more}
use Rattle.step_operands.specs.Below.{Below}
use Rattle.step_operands.specs.Changed.{put_heap, with_thing}

-- ---- a thing in a heap

-- a thing that gives way to one of its size and of its class
module _ (y : Thing) where
  pub class_kept : (xs : List Thing) (n : ℕ) (x : Thing) → thing_at xs n ≡ Some x → thing_size y ≡ thing_size x → thrown_class y ≡ thrown_class x → (k : ℕ) → on_some (thing_at (put_thing xs n y) k) thrown_class ≡ on_some (thing_at xs k) thrown_class
  class_kept [] n x e z q k = refl
  class_kept (w ∷ xs) n x e z q k = by (n == 0) (nat_lt n (thing_size w)) e (λ d. class_kept xs (n - thing_size w) x d z q (k - thing_size w))
    where
      by : (a b : Bool) → (if a then Some w else (if b then None else thing_at xs (n - thing_size w))) ≡ Some x
          → (thing_at xs (n - thing_size w) ≡ Some x → on_some (thing_at (put_thing xs (n - thing_size w) y) (k - thing_size w)) thrown_class ≡ on_some (thing_at xs (k - thing_size w)) thrown_class)
          → on_some (thing_at (if a then y ∷ xs else (if b then w ∷ xs else w ∷ put_thing xs (n - thing_size w) y)) k) thrown_class ≡ on_some (thing_at (w ∷ xs) k) thrown_class
      by true b d ih =
          let is : w ≡ x = cc d in
          let size : thing_size y ≡ thing_size w = z ∙ sym (ap thing_size is) in
          let class : thrown_class y ≡ thrown_class w = q ∙ sym (ap thrown_class is) in
          ap (λ j. on_some (if k == 0 then Some y else (if nat_lt k j then None else thing_at xs (k - j))) thrown_class) size ∙ first (k == 0) class
        where
          first : (c : Bool) → thrown_class y ≡ thrown_class w → on_some (if c then Some y else (if nat_lt k (thing_size w) then None else thing_at xs (k - thing_size w))) thrown_class ≡ on_some (if c then Some w else (if nat_lt k (thing_size w) then None else thing_at xs (k - thing_size w))) thrown_class
          first true h = h
          first false h = refl
      by false true d ih = absurd (cc d)
      by false false d ih = later (k == 0) (nat_lt k (thing_size w)) (ih d)
        where
          later : (a b : Bool) → on_some (thing_at (put_thing xs (n - thing_size w) y) (k - thing_size w)) thrown_class ≡ on_some (thing_at xs (k - thing_size w)) thrown_class
              → on_some (if a then Some w else (if b then None else thing_at (put_thing xs (n - thing_size w) y) (k - thing_size w))) thrown_class ≡ on_some (if a then Some w else (if b then None else thing_at xs (k - thing_size w))) thrown_class
          later true b h = refl
          later false true h = refl
          later false false h = h

module _ (p : Program) (room : ℕ) where
  -- a thing that gives way to one of its size, in the memory and in the state
  pub things_put : (es : List Entry) (xs : List Thing) → AreThings p room es xs → (n : ℕ) (x y : Thing) (e : Entry) → thing_at xs n ≡ Some x → IsThing p room e y → AreThings p room (put_entry es n e) (put_thing xs n y)
  things_put [] [] h n x y e d k = tt
  things_put [] (w ∷ xs) h n x y e d k = absurd h
  things_put (v ∷ es) [] h n x y e d k = absurd h
  things_put (v ∷ es) (w ∷ xs) h n x y e d k = by (n == 0) (nat_lt n (thing_size w)) refl d (λ c. things_put es xs h.1 (n - thing_size w) x y e c k)
    where
      same : entry_cells v ≡ thing_size w
      same = size_is p room v w h.0

      by : (a b : Bool) → nat_lt n (thing_size w) ≡ b → (if a then Some w else (if b then None else thing_at xs (n - thing_size w))) ≡ Some x
          → (thing_at xs (n - thing_size w) ≡ Some x → AreThings p room (put_entry es (n - thing_size w) e) (put_thing xs (n - thing_size w) y))
          → AreThings p room (if a then e ∷ es else (if nat_lt n (entry_cells v) then v ∷ es else v ∷ put_entry es (n - entry_cells v) e)) (if a then y ∷ xs else (if b then w ∷ xs else w ∷ put_thing xs (n - thing_size w) y))
      by true b t c ih = (k, h.1)
      by false true t c ih = absurd (cc c)
      by false false t c ih =
          subst (λ (rest : List Entry). AreThings p room rest (w ∷ put_thing xs (n - thing_size w) y))
          (sym (ap (λ j. if nat_lt n j then v ∷ es else v ∷ put_entry es (n - j) e) same ∙ ap (λ (b : Bool). if b then v ∷ es else v ∷ put_entry es (n - thing_size w) e) t))
          (h.0, ih c)

module _ (p : Program) (outer : Id → ℕ → ℕ → Bool) (heap other : List Thing) (same : (k : ℕ) → on_some (thing_at other k) thrown_class ≡ on_some (thing_at heap k) thrown_class) where
  thrown_same : (object : ℕ) (class : Id) → IsThrown p outer heap object class → IsThrown p outer other object class
  thrown_same object class h = record { is = same object ∙ h.is }

  slot_same : (m : Method) (id : Id) (initialiser : Bool) (gs : List Frame) (k : ℕ) (held : Option RamValue) (slot : Slot) → IsSlot p outer heap m id initialiser gs k held slot → IsSlot p outer other m id initialiser gs k held slot
  slot_same m id initialiser gs k held Nothing h = h
  slot_same m id initialiser gs k held (Caught object) h = (h.0, h.1, (h.2.0, thrown_same object h.2.0 h.2.1))
  slot_same m id initialiser gs k held (Throwing turns catch object) h = (h.0, h.1, record { class = h.2.class; thrown = thrown_same object h.2.class h.2.thrown; rest = h.2.rest })
  slot_same m id initialiser gs k held (Leaving finals target) h = h

  pub frame_same : (room : ℕ) (f : RamFrame) (fs : List RamFrame) (g : Frame) (gs : List Frame) → IsMachineFrame p outer heap room f fs g gs → IsMachineFrame p outer other room f fs g gs
  frame_same room f fs g gs k = record {
    of = k.of;
    is = k.is;
    method = k.method;
    initialiser = k.initialiser;
    place = k.place;
    place_fits = k.place_fits;
    sizes = k.sizes;
    count = k.count;
    argument_count = k.argument_count;
    local_count = k.local_count;
    slot_count = k.slot_count;
    depth = k.depth;
    most = k.most;
    arguments = k.arguments;
    locals = k.locals;
    stack = k.stack;
    slots = λ j slot e. slot_same k.of g.method g.initialiser gs j (slot_held f j) slot (k.slots j slot e);
  }

  pub frames_same : (room : ℕ) (fs : List RamFrame) (gs : List Frame) → AreFrames p outer heap room fs gs → AreFrames p outer other room fs gs
  frames_same room [] [] h = tt
  frames_same room (f ∷ fs) (g ∷ gs) h = (frame_same room f fs g gs h.0, frames_same room fs gs h.1)
  frames_same room [] (g ∷ gs) h = absurd h
  frames_same room (f ∷ fs) [] h = absurd h

-- ---- the region

-- a thing of the machine as the memory has it
pub record Found (p : Program) (m : Memory) (thing : ℕ) (x : Thing) : Type 0 where
  pub entry : Entry
  pub there : IsEntry m thing entry
  pub is : IsThing p m.room entry x

pub there_over : (m : Memory) (fs : List RamFrame) (thing : ℕ) (e : Entry) → IsEntry m thing e → IsEntry (with_frames m fs) thing e
there_over m fs thing e h = record { some = h.some; there = h.there }

module _ (p : Program) (outer : Id → ℕ → ℕ → Bool) (m : Memory) (s : State) where
  pub find : AreThings p m.room m.heap s.heap → (n thing : ℕ) (x : Thing) → thing ≡ 1 + n → thing_at s.heap n ≡ Some x → Found p m thing x
  find h n thing x t e =
      let found = entry_is p m.room m.heap s.heap h n x e in
      let at : n ≡ thing - 1 = omega (arith, t) in
      record {
        entry = found.0;
        there = record { some = omega (arith, t); there = ap (entry_at m.heap) (sym at) ∙ found.1 };
        is = found.2;
      }

  module _ (fs : List RamFrame) (gs : List Frame) (h : RamFrame) (k : Frame) where
    pub put_below : (v u : Ram) → Below p outer v m s fs gs h k → (n thing : ℕ) (x y : Thing) (e : Entry) → thing ≡ 1 + n → thing_at s.heap n ≡ Some x → thing_size y ≡ thing_size x → thrown_class y ≡ thrown_class x → IsThing p m.room e y → Keeps u (put_in (with_frames m (h ∷ fs)) thing e) → Below p outer u (put_in m thing e) (put_heap s n y) fs gs h k
    put_below v u b n thing x y e t at size class is kept =
        let same = class_kept y s.heap n x at size class in
        let place : n ≡ thing - 1 = omega (arith, t) in
        record {
          keeps = kept;
          things = subst (λ (j : ℕ). AreThings p m.room (put_entry m.heap j e) (put_thing s.heap n y)) place (things_put p m.room m.heap s.heap b.things n x y e at is);
          frame = frame_same p outer s.heap (put_thing s.heap n y) same m.room h fs k gs b.frame;
          callers = frames_same p outer s.heap (put_thing s.heap n y) same m.room fs gs b.callers;
        }

    pub made_below : (v u : Ram) → Below p outer v m s fs gs h k → (x : Thing) (e : Entry) → IsThing p m.room e x → Keeps u (with_entry (with_frames m (h ∷ fs)) e) → Below p outer u (with_entry m e) (with_thing s x) fs gs h k
    made_below v u b x e is kept = record {
      keeps = kept;
      things = things_more p m.room m.heap s.heap e x b.things is;
      frame = frame_more p outer s.heap (x ∷ []) m.room h fs k gs b.frame;
      callers = frames_more p outer s.heap (x ∷ []) m.room fs gs b.callers;
    }
