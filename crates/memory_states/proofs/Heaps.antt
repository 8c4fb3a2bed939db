-- Objects of a memory and the machine's, side by side.
use Rattle.std.proofs.Common.{◌≡◌, ◌≢◌, inl, inr, ℕ, zero, suc, ◌+◌, ◌-◌, ◌*◌, ◌/◌, Bool, true, false, ◌==◌, List, [], ◌∷◌, ◌++◌, map, length, replicate, Option, Some, None, refl, sym, ap, ◌∙◌, subst, arith}
use Rattle.std.specs.Prelude.{◌⊎◌, nat_eq, if◌then◌else◌, nat_lt, sum}
use Rattle.std.proofs.lemmas.Bool.Decides.{eqb_tells}
use Rattle.plain_types.specs.declared.elem.Elem.{Elem}
use Rattle.plain_types.specs.declared.elem.Elem.TheVariants as elem
use Rattle.board_types.specs.declared.board.TypeAt.{TypeAt}
use Rattle.board_types.specs.declared.board.BoardType.{BoardType}
use Rattle.board_ids.specs.Ids.{is_no_row}
use Rattle.board_types.specs.declared.value.Shape.{Shape}
use Rattle.machine.specs.Data.{Id, CliType, Basic, EnumOf, Cell, Refers, cell_of, elem_cell, element_bytes, thing_size, end_of, thing_at, Thing, Instance, Text, Elements, Boxed, StaticCell, Slot, Nothing, Caught, Throwing, Leaving, Frame, State}
use Rattle.machine.specs.Program.{Program, Method}
use Rattle.machine.specs.Numbers.{zero_of}
use Rattle.machine.specs.Throw.{on_some, thrown_class}
use Rattle.machine.specs.Rows.{method_cells, frames_cells}
use Rattle.machine.specs.Trace.{cells}
use Rattle.ram_words.specs.Elements.{elem_held, type_held}
use Rattle.tiny_ram.specs.Things.{Entry, entry_cells, layout_of, packed_by, cells_in, fresh, object_shape}
use Rattle.board_types.specs.declared.value.Value.{Value as RamValue}
use Rattle.tiny_ram.specs.Memory.{RamFrame, Memory, frame_cells, entry_at, heap_cells, used}
use Rattle.tiny_ram.specs.Memory.{frames_cells as ram_cells}
use Rattle.memory_states.specs.Values.{id_of, plain_type, in_brackets, cli_type, FieldsHeld, IsThing, AreThings}
use Rattle.memory_states.specs.States.{slot_held, IsThrown, IsSlot, IsMachineFrame, AreFrames, StandsFor}

not_zero : (n : ℕ) → (suc n == 0) ≡ false
not_zero n = by (eqb_tells (suc n) 0)
  where
    by : ((nat_eq (suc n) 0 ≡ true) × (suc n ≡ 0)) ⊎ ((nat_eq (suc n) 0 ≡ false) × (suc n ≢ 0)) → (suc n == 0) ≡ false
    by (inl q) = absurd (omega (arith, q.1))
    by (inr q) = q.0

number_held : (e : Elem) (of : TypeAt) (b : Bool) → cell_of (if b then Basic e else EnumOf e (id_of of)) ≡ elem_cell e
number_held e of true = refl
number_held e of false = refl

plain_held : (e : Elem) (of : TypeAt) → cell_of (plain_type e of) ≡ elem_held e
plain_held elem.Class of = refl
plain_held elem.Value of = refl
plain_held elem.Void of = number_held elem.Void of (is_no_row of)
plain_held elem.Bool of = number_held elem.Bool of (is_no_row of)
plain_held elem.Char of = number_held elem.Char of (is_no_row of)
plain_held elem.I1 of = number_held elem.I1 of (is_no_row of)
plain_held elem.U1 of = number_held elem.U1 of (is_no_row of)
plain_held elem.I2 of = number_held elem.I2 of (is_no_row of)
plain_held elem.U2 of = number_held elem.U2 of (is_no_row of)
plain_held elem.I4 of = number_held elem.I4 of (is_no_row of)
plain_held elem.U4 of = number_held elem.U4 of (is_no_row of)
plain_held elem.I8 of = number_held elem.I8 of (is_no_row of)
plain_held elem.U8 of = number_held elem.U8 of (is_no_row of)
plain_held elem.String of = number_held elem.String of (is_no_row of)
plain_held elem.Object of = number_held elem.Object of (is_no_row of)

pub type_is_held : (of : BoardType) → type_held of ≡ cell_of (cli_type of)
type_is_held of = by of.ranks
  where
    by : (n : ℕ) → (if n == 0 then elem_held of.elem else Some Refers) ≡ cell_of (in_brackets n (plain_type of.elem of.of))
    by zero = sym (plain_held of.elem of.of)
    by (suc n) = ap (λ (b : Bool). if b then elem_held of.elem else Some Refers) (not_zero n)

shape_cells : Shape → ℕ
shape_cells shape = cells_in (layout_of shape) shape.count

packed_size : (o : Option Cell) (n : ℕ) → cells_in (packed_by o) n ≡ 1 + (n * element_bytes o + 11) / 12
packed_size None n = omega arith
packed_size (Some cell) n = refl

module _ (p : Program) (room : ℕ) where
  pub size_is : (e : Entry) (x : Thing) → IsThing p room e x → entry_cells e ≡ thing_size x
  unfolding shape_cells
  size_is e (Instance class vs) h = ap shape_cells h.shape
  size_is e (Text units) h = ap shape_cells h.0 ∙ (let n : ℕ = length units in omega arith)
  size_is e (Elements element vs) h = ap shape_cells h.shape ∙ packed_size (type_held h.of) (length vs) ∙ ap (λ o. 1 + (length vs * element_bytes o + 11) / 12) (type_is_held h.of ∙ ap cell_of h.element_is)
  size_is e (Boxed type v) h = ap shape_cells h.shape
  size_is e (StaticCell type v) h = ap shape_cells h.0

  pub sizes_are : (es : List Entry) (xs : List Thing) → AreThings p room es xs → heap_cells es ≡ end_of xs
  sizes_are [] [] h = refl
  sizes_are (e ∷ es) (x ∷ xs) h = let one = size_is e x h.0 in let rest = sizes_are es xs h.1 in omega (arith, one, rest)
  sizes_are [] (x ∷ xs) h = absurd h
  sizes_are (e ∷ es) [] h = absurd h

  pub entry_is : (es : List Entry) (xs : List Thing) → AreThings p room es xs → (n : ℕ) (x : Thing) → thing_at xs n ≡ Some x → (e : Entry) × (entry_at es n ≡ Some e) × IsThing p room e x
  entry_is [] [] h n x q = absurd (cc q)
  entry_is [] (y ∷ xs) h n x q = absurd h
  entry_is (e ∷ es) [] h n x q = absurd h
  entry_is (e ∷ es) (y ∷ xs) h n x q = by (n == 0) (nat_lt n (thing_size y)) refl (λ z. entry_is es xs h.1 (n - thing_size y) x z) q
    where
      same : entry_cells e ≡ thing_size y
      same = size_is e y h.0

      by : (a b : Bool) → nat_lt n (thing_size y) ≡ b → (thing_at xs (n - thing_size y) ≡ Some x → (d : Entry) × (entry_at es (n - thing_size y) ≡ Some d) × IsThing p room d x) → (if a then Some y else (if b then None else thing_at xs (n - thing_size y))) ≡ Some x → (d : Entry) × ((if a then Some e else (if nat_lt n (entry_cells e) then None else entry_at es (n - entry_cells e))) ≡ Some d) × IsThing p room d x
      by true b t ih z = let is : y ≡ x = cc z in (e, refl, subst (λ (w : Thing). IsThing p room e w) is h.0)
      by false true t ih z = absurd (cc z)
      by false false t ih z =
          let rest = ih z in (
            rest.0,
            ap (λ k. if nat_lt n k then None else entry_at es (n - k)) same ∙ ap (λ (b : Bool). if b then None else entry_at es (n - thing_size y)) t ∙ rest.1,
            rest.2,
          )

  pub things_more : (es : List Entry) (xs : List Thing) (e : Entry) (x : Thing) → AreThings p room es xs → IsThing p room e x → AreThings p room (es ++ e ∷ []) (xs ++ x ∷ [])
  things_more [] [] e x h k = (k, tt)
  things_more (d ∷ es) (y ∷ xs) e x h k = (h.0, things_more es xs e x h.1 k)
  things_more [] (y ∷ xs) e x h k = absurd h
  things_more (d ∷ es) [] e x h k = absurd h

  fields_fresh : (types : List CliType) → FieldsHeld room [] types (replicate (length types) None) (map zero_of types)
  fields_fresh [] = tt
  fields_fresh (k ∷ ks) = (refl, fields_fresh ks)

  map_count : (types : List CliType) → length (map zero_of types) ≡ length types
  map_count [] = refl
  map_count (k ∷ ks) = ap suc (map_count ks)

  pub made_is : (class : TypeAt) (types : List CliType) → p.fields (id_of class) ≡ Some types → IsThing p room (fresh (object_shape class (length types))) (Instance (id_of class) (map zero_of types))
  made_is class types q = record {
    of = class;
    class_is = refl;
    shape = ap (object_shape class) (sym (map_count types));
    types = types;
    fields = q;
    places = fields_fresh types;
  }

pub thing_more : (xs ys : List Thing) (n : ℕ) (x : Thing) → thing_at xs n ≡ Some x → thing_at (xs ++ ys) n ≡ Some x
thing_more [] ys n x q = absurd (cc q)
thing_more (z ∷ xs) ys n x q = by (n == 0) (nat_lt n (thing_size z)) (λ w. thing_more xs ys (n - thing_size z) x w) q
  where
    by : (a b : Bool) → (thing_at xs (n - thing_size z) ≡ Some x → thing_at (xs ++ ys) (n - thing_size z) ≡ Some x) → (if a then Some z else (if b then None else thing_at xs (n - thing_size z))) ≡ Some x → (if a then Some z else (if b then None else thing_at (xs ++ ys) (n - thing_size z))) ≡ Some x
    by true b ih w = w
    by false true ih w = absurd (cc w)
    by false false ih w = ih w

module _ (p : Program) (outer : Id → ℕ → ℕ → Bool) (heap more : List Thing) where
  pub thrown_more : (object : ℕ) (class : Id) → IsThrown p outer heap object class → IsThrown p outer (heap ++ more) object class
  thrown_more object class h = record { is = by (thing_at heap object) refl h.is }
    where
      by : (o : Option Thing) → thing_at heap object ≡ o → on_some o thrown_class ≡ Some class → on_some (thing_at (heap ++ more) object) thrown_class ≡ Some class
      by None q e = absurd (cc e)
      by (Some x) q e = ap (λ o. on_some o thrown_class) (thing_more heap more object x q) ∙ e

  slot_more : (m : Method) (id : Id) (initialiser : Bool) (gs : List Frame) (k : ℕ) (held : Option RamValue) (slot : Slot) → IsSlot p outer heap m id initialiser gs k held slot → IsSlot p outer (heap ++ more) m id initialiser gs k held slot
  slot_more m id initialiser gs k held Nothing h = h
  slot_more m id initialiser gs k held (Caught object) h = (h.0, h.1, (h.2.0, thrown_more object h.2.0 h.2.1))
  slot_more m id initialiser gs k held (Throwing turns catch object) h = (h.0, h.1, record { class = h.2.class; thrown = thrown_more object h.2.class h.2.thrown; rest = h.2.rest })
  slot_more m id initialiser gs k held (Leaving finals target) h = h

  pub frame_more : (room : ℕ) (f : RamFrame) (fs : List RamFrame) (g : Frame) (gs : List Frame) → IsMachineFrame p outer heap room f fs g gs → IsMachineFrame p outer (heap ++ more) room f fs g gs
  frame_more room f fs g gs k = record {
    of = k.of;
    is = k.is;
    method = k.method;
    initialiser = k.initialiser;
    place = k.place;
    place_fits = k.place_fits;
    sizes = k.sizes;
    count = k.count;
    argument_count = k.argument_count;
    local_count = k.local_count;
    slot_count = k.slot_count;
    depth = k.depth;
    most = k.most;
    arguments = k.arguments;
    locals = k.locals;
    stack = k.stack;
    slots = λ j slot e. slot_more k.of g.method g.initialiser gs j (slot_held f j) slot (k.slots j slot e);
  }

  pub frames_more : (room : ℕ) (fs : List RamFrame) (gs : List Frame) → AreFrames p outer heap room fs gs → AreFrames p outer (heap ++ more) room fs gs
  frames_more room [] [] h = tt
  frames_more room (f ∷ fs) (g ∷ gs) h = (frame_more room f fs g gs h.0, frames_more room fs gs h.1)
  frames_more room [] (g ∷ gs) h = absurd h
  frames_more room (f ∷ fs) [] h = absurd h

module _ (p : Program) (outer : Id → ℕ → ℕ → Bool) where
  pub frame_size : (heap : List Thing) (room : ℕ) (f : RamFrame) (fs : List RamFrame) (g : Frame) (gs : List Frame) → IsMachineFrame p outer heap room f fs g gs → frame_cells f ≡ method_cells (p.method g.method)
  frame_size heap room f fs g gs k = ap (λ (z : List ℕ). 2 + sum z) k.sizes ∙ (omega arith) ∙ sym (ap method_cells k.is)

  pub frames_size : (heap : List Thing) (room : ℕ) (fs : List RamFrame) (gs : List Frame) → AreFrames p outer heap room fs gs → ram_cells fs ≡ frames_cells p gs
  frames_size heap room [] [] h = refl
  frames_size heap room (f ∷ fs) (g ∷ gs) h = let one = frame_size heap room f fs g gs h.0 in let rest = frames_size heap room fs gs h.1 in omega (arith, one, rest)
  frames_size heap room [] (g ∷ gs) h = absurd h
  frames_size heap room (f ∷ fs) [] h = absurd h

  -- the cells in use are the machine's
  pub used_is : (m : Memory) (s : State) → StandsFor p outer m s → used m ≡ cells p s
  used_is m s h = let objects = sizes_are p m.room m.heap s.heap h.heap in let frames = frames_size s.heap m.room m.frames s.frames h.frames in omega (arith, objects, frames)
