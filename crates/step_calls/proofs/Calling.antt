-- The machine's call, beside the frame that starts.
use Rattle.std.proofs.Common.{◌≡◌, ℕ, suc, ◌+◌, ◌-◌, ◌<◌, ◌≤◌, Bool, true, false, List, [], ◌∷◌, length, replicate, Option, Some, None, refl, sym, ap, ◌∙◌, subst, arith}
use Rattle.std.specs.Prelude.{if◌then◌else◌, nat_le, nat_lt, sum, slice_get, slice_index, unwrap_or, is_some}
use Rattle.std.proofs.lemmas.Bool.{le-leb, lt-leb, leb-true, leb-false}
use Rattle.std.proofs.lemmas.Option.{slice_get_within}
use Rattle.board_types.specs.declared.value.Value.{Value as RamValue}
use Rattle.board_types.specs.declared.value.Value.TheVariants.{Ref}
use Rattle.machine.specs.Data.{Id, PlaceType, Value, Thing, Frame, State}
use Rattle.machine.specs.Program.{Program, Method, Code, Missing}
use Rattle.machine.specs.Numbers.{kept}
use Rattle.machine.specs.Throw.{on_some, goes}
use Rattle.machine.specs.Rows.{Taken, take_arguments, keep_all, method_cells, frames_cells}
use Rattle.machine.specs.Calls.{start_frame, if_room, starts, enter, invoke, call}
use Rattle.kept_values.specs.declared.keeping.PlaceKind.{PlaceKind}
use Rattle.kept_values.specs.Keeping.{kept_as, KeptAlike}
use Rattle.kept_values.proofs.Keeps.{keeps_alike}
use Rattle.tiny_ram.specs.Memory.{RamFrame, Memory, variables, fresh_frame, frame_cells, used, with_frames}
use Rattle.tiny_ram.specs.Memory as ram
use Rattle.tiny_ram.specs.declared.memory.Ram.{Ram}
use Rattle.memory_states.specs.Values.{id_of, IsValue}
use Rattle.memory_states.specs.States.{place_held, AreFrames, IsMachineFrame, StandsFor}
use Rattle.memory_states.proofs.Frames.{value_over, stack_size}
use Rattle.memory_states.proofs.Heaps.{used_is}
use Rattle.memory_states.proofs.Starts.{sizes_of}
use Rattle.step_ends.specs.Ends.{GoesOn, LacksCells, Ends}
use Rattle.step_ends.specs.declared.acted.Acted.{Acted}
use Rattle.step_ends.specs.declared.acted.Acted.TheVariants as acted
use Rattle.step_calls.specs.declared.callee.Callee.{Callee}
use Rattle.step_calls.specs.declared.arguments.Given.{Given}
use Rattle.step_calls.specs.Callees.{body_of, IsCallee, HasPlaces}
use Rattle.step_calls.specs.Arguments.{held_at, value_in, value_of, IsHanded, LacksKind, AllKept, IsGiven}
use Rattle.step_calls.specs.Starts.{lacks_room_in, IsStarted, LacksFrame, Starts}
use Rattle.step_calls.proofs.Taking.{some_same, get_some, Taking, taking, too_few, KeptAll, kept_all, not_kept}
use Rattle.step_calls.proofs.Starting.{value_under, PutAs, started_is, rest_is}

-- what a frame's place keeps of an argument, beside the machine's
module _ (room : ℕ) (fs : List RamFrame) (type : PlaceType) (v : Value) where
  pub kept_so : (a : Option RamValue) (w : RamValue) → a ≡ Some w → KeptAlike room fs a (kept type v) → (x : Value) × (kept type v ≡ Some x) × IsValue room fs w x
  kept_so a w e h = by (kept type v) refl (subst (λ (o : Option RamValue). KeptAlike room fs o (kept type v)) e h)
    where
      by : (o : Option Value) → kept type v ≡ o → KeptAlike room fs (Some w) o → (x : Value) × (kept type v ≡ Some x) × IsValue room fs w x
      by None q k = absurd k
      by (Some x) q k = (x, q, k)

  pub not_kept_so : (a : Option RamValue) → a ≡ None → KeptAlike room fs a (kept type v) → kept type v ≡ None
  not_kept_so a e h = by (kept type v) refl (subst (λ (o : Option RamValue). KeptAlike room fs o (kept type v)) e h)
    where
      by : (o : Option Value) → kept type v ≡ o → KeptAlike room fs None o → kept type v ≡ None
      by None q k = q
      by (Some x) q k = absurd k

pub on_none : {A B : Type 0} (o : Option A) (go : A → Option B) → ((x : A) → go x ≡ None) → on_some o go ≡ None
on_none None go h = refl
on_none (Some x) go h = h x

-- ---- the machine's side

module _ (p : Program) (s : State) (g : Frame) (gs : List Frame) (next : ℕ) (id : Id) (of : Method) (is : p.method id ≡ Some of) where
  called : call p s g gs next id ≡ on_some (take_arguments (length of.arguments) g.stack []) (λ t. invoke p s g gs next t.rest id of t.arguments)
  unfolding call
  called = ap (λ (o : Option Method). on_some o (λ m. on_some (take_arguments (length m.arguments) g.stack []) (λ t. invoke p s g gs next t.rest id m t.arguments))) is

  invoked : (rest given : List Value) → invoke p s g gs next rest id of given ≡ on_some (keep_all of.arguments given) (λ arguments. enter p s g gs next rest id of arguments of.body)
  unfolding invoke
  invoked rest given = refl

  pub no_body : of.body ≡ Missing → call p s g gs next id ≡ None
  no_body e = called ∙ on_none (take_arguments (length of.arguments) g.stack []) (λ t. invoke p s g gs next t.rest id of t.arguments) (λ t. invoked t.rest t.arguments ∙ on_none (keep_all of.arguments t.arguments) (λ arguments. enter p s g gs next t.rest id of arguments of.body) (λ a. ap (enter p s g gs next t.rest id of a) e))

  pub few : length g.stack < length of.arguments → call p s g gs next id ≡ None
  few l = called ∙ ap (λ o. on_some o (λ t. invoke p s g gs next t.rest id of t.arguments)) (too_few (length of.arguments) g.stack [] l)

  module _ (stack : List Value) (own : Method) (mine : p.method g.method ≡ Some own) where
    pub full : (a : List Value) → is_some of.returns ≡ true → own.max_stack ≤ length stack → starts p s g gs stack id of a ≡ None
    unfolding starts
    full a e l = by of.returns e
      where
        by : (r : Option PlaceType) → is_some r ≡ true → if_room p g stack r (on_some (goes p s g gs g.place stack) (λ t. Some (let u : State = record t { frames = start_frame false id of a ∷ t.frames } in u))) ≡ None
        by None q = absurd (cc q)
        by (Some k) q =
            ap (λ (o : Option Method). on_some o (λ m. if nat_lt (length stack) m.max_stack then (on_some (goes p s g gs g.place stack) (λ t. Some (let u : State = record t { frames = start_frame false id of a ∷ t.frames } in u))) else None)) mine
            ∙ ap (λ (b : Bool). if b then (on_some (goes p s g gs g.place stack) (λ t. Some (let u : State = record t { frames = start_frame false id of a ∷ t.frames } in u))) else None) (lt-leb (suc (length stack)) own.max_stack (omega (arith, l)))

    pub over : (a : List Value) → own.max_stack < length stack → starts p s g gs stack id of a ≡ None
    unfolding starts goes
    over a l =
        ap (λ (o : Option State). if_room p g stack of.returns (on_some o (λ t. Some (let u : State = record t { frames = start_frame false id of a ∷ t.frames } in u)))) none
        ∙ by of.returns
      where
        none : goes p s g gs g.place stack ≡ None
        none =
            ap (λ (o : Option Method). on_some o (λ m. if nat_le (length stack) m.max_stack then Some (let u : State = record s { frames = record g { place = g.place; stack = stack } ∷ gs } in u) else None)) mine
            ∙ ap (λ (b : Bool). if b then Some (let u : State = record s { frames = record g { place = g.place; stack = stack } ∷ gs } in u) else None) (lt-leb (length stack) own.max_stack l)

        by : (r : Option PlaceType) → if_room p g stack r None ≡ None
        by None = refl
        by (Some k) =
            ap (λ (o : Option Method). on_some o (λ m. if nat_lt (length stack) m.max_stack then (let u : Option State = None in u) else None)) mine
            ∙ same (nat_lt (length stack) own.max_stack)
          where
            same : (b : Bool) → (if b then (let u : Option State = None in u) else None) ≡ None
            same true = refl
            same false = refl

    waits : length stack ≤ own.max_stack → goes p s g gs g.place stack ≡ Some (record s { frames = record g { stack = stack } ∷ gs })
    unfolding goes
    waits l =
        ap (λ (o : Option Method). on_some o (λ m. if nat_le (length stack) m.max_stack then Some (let u : State = record s { frames = record g { place = g.place; stack = stack } ∷ gs } in u) else None)) mine
        ∙ ap (λ (b : Bool). if b then Some (let u : State = record s { frames = record g { place = g.place; stack = stack } ∷ gs } in u) else None) (le-leb (length stack) own.max_stack l)

    pub started : (a : List Value) → (is_some of.returns ≡ true → length stack < own.max_stack) → length stack ≤ own.max_stack → starts p s g gs stack id of a ≡ Some (record s { frames = start_frame false id of a ∷ record g { stack = stack } ∷ gs })
    unfolding starts
    started a room l =
        ap (λ (o : Option State). if_room p g stack of.returns (on_some o (λ t. Some (let u : State = record t { frames = start_frame false id of a ∷ t.frames } in u)))) (waits l)
        ∙ by of.returns room
      where
        by : (r : Option PlaceType) → (is_some r ≡ true → length stack < own.max_stack) → if_room p g stack r (Some (let u : State = record s { frames = start_frame false id of a ∷ record g { stack = stack } ∷ gs } in u)) ≡ Some (record s { frames = start_frame false id of a ∷ record g { stack = stack } ∷ gs })
        by None q = refl
        by (Some k) q =
            ap (λ (o : Option Method). on_some o (λ m. if nat_lt (length stack) m.max_stack then Some (let u : State = record s { frames = start_frame false id of a ∷ record g { stack = stack } ∷ gs } in u) else None)) mine
            ∙ ap (λ (b : Bool). if b then Some (let u : State = record s { frames = start_frame false id of a ∷ record g { stack = stack } ∷ gs } in u) else None) (le-leb (suc (length stack)) own.max_stack (let less = q refl in omega (arith, less)))

  module _ (t : Taking (length of.arguments) g.stack []) where
    taken : call p s g gs next id ≡ on_some (keep_all of.arguments t.arguments) (λ arguments. enter p s g gs next t.rest id of arguments of.body)
    taken = called ∙ ap (λ o. on_some o (λ (t : Taken Value). invoke p s g gs next t.rest id of t.arguments)) t.is ∙ invoked t.rest t.arguments

    pub unkept : keep_all of.arguments t.arguments ≡ None → call p s g gs next id ≡ None
    unkept e = taken ∙ ap (λ o. on_some o (λ arguments. enter p s g gs next t.rest id of arguments of.body)) e

    module _ (own : Method) (mine : p.method g.method ≡ Some own) (code : of.body ≡ Code) where
      pub no_room : is_some of.returns ≡ true → own.max_stack ≤ length t.rest → call p s g gs next id ≡ None
      no_room e l = taken ∙ on_none (keep_all of.arguments t.arguments) (λ arguments. enter p s g gs next t.rest id of arguments of.body) (λ a. ap (enter p s g gs next t.rest id of a) code ∙ full t.rest own mine a e l)

      pub entered : (a : List Value) → keep_all of.arguments t.arguments ≡ Some a → (is_some of.returns ≡ true → length t.rest < own.max_stack) → length t.rest ≤ own.max_stack → call p s g gs next id ≡ Some (record s { frames = start_frame false id of a ∷ record g { stack = t.rest } ∷ gs })
      entered a e room l =
          taken ∙ ap (λ o. on_some o (λ arguments. enter p s g gs next t.rest id of arguments of.body)) e ∙ ap (enter p s g gs next t.rest id of a) code ∙ started t.rest own mine a room l

-- ---- arguments of which the machine has the values

module _ (p : Program) (room : ℕ) (f : RamFrame) (fs : List RamFrame) (id : Id) (of : Method) (is : p.method id ≡ Some of) (kinds : ℕ → PlaceKind) (places : HasPlaces p id kinds) (x : Given) (n : ℕ) (size : n ≡ length of.arguments) (given : List Value) (count : length given ≡ length of.arguments)
    (values : (i : ℕ) (v : Value) → i < length of.arguments → slice_get given i ≡ Some v → IsValue room (f ∷ fs) (value_of f x i) v) where
  alike_at : (i : ℕ) (type : PlaceType) (v : Value) → i < length of.arguments → slice_get of.arguments i ≡ Some type → slice_get given i ≡ Some v → KeptAlike room (f ∷ fs) (kept_as (kinds i) (value_of f x i)) (kept type v)
  alike_at i type v l a b = keeps_alike room (f ∷ fs) (kinds i) type (value_of f x i) v (places.each of i type is a) (values i v l b)

  pub lacking : LacksKind f kinds x n → keep_all of.arguments given ≡ None
  lacking lacks =
      let i = lacks.index in
      let within = lacks.within in
      let l : i < length of.arguments = omega (arith, within, size) in
      let type = get_some of.arguments i l in
      let v = get_some given i (omega (arith, l, count)) in
      not_kept of.arguments given i type.0 v.0 type.1 v.1
      (not_kept_so room (f ∷ fs) type.0 v.0 (kept_as (kinds i) (value_of f x i)) lacks.none (alike_at i type.0 v.0 l type.1 v.1))

  pub keeping : (all : AllKept f kinds x n) → KeptAll (λ i w. (l : i < n) → IsValue room (f ∷ fs) (all i l).value w) of.arguments given
  keeping all =
      kept_all (λ i w. (l : i < n) → IsValue room (f ∷ fs) (all i l).value w) of.arguments given count
      (λ i type v a b.
      let l : i < length of.arguments = slice_get_within of.arguments i type a in
      let m : i < n = omega (arith, l, size) in
      let r = kept_so room (f ∷ fs) type v (kept_as (kinds i) (value_of f x i)) (all i m).value (all i m).is (alike_at i type v l a b) in
      (r.0, r.1, λ o. let same : (all i m).value ≡ (all i o).value = some_same (all i m).value (all i o).value (sym (all i m).is ∙ (all i o).is) in subst (λ (z : RamValue). IsValue room (f ∷ fs) z r.0) same r.2))

-- the frame that starts, over a changed frame that calls
module _ (p : Program) (outer : Id → ℕ → ℕ → Bool) (heap : List Thing) (m : Memory) (f z : RamFrame) (fs : List RamFrame) (h : Frame) (gs : List Frame) (id : Id) (c : Callee) (callee : IsCallee p id c) (kinds : ℕ → PlaceKind) (x : Given)
    (over : (r : RamValue) (v : Value) → IsValue m.room (f ∷ fs) r v → IsValue m.room (z ∷ fs) r v) (fits : frame_cells (fresh_frame c.method c.sizes) + ram.frames_cells (z ∷ fs) ≤ m.room)
    (places : List (Option RamValue)) (count : length places ≡ sum c.sizes) (each : (i : ℕ) → i < slice_index c.sizes 0 → IsHanded places (kinds i) (value_of f x i) i) (others : (i : ℕ) → slice_index c.sizes 0 ≤ i → slice_get places i ≡ slice_get (fresh_frame c.method c.sizes).places i)
    (given : List Value) (r : KeptAll (λ i w. (l : i < slice_index c.sizes 0) → IsValue m.room (f ∷ fs) (each i l).kept.value w) callee.of.arguments given) where
  fits_sized : frame_cells (record (fresh_frame c.method (sizes_of callee.of)) { places = places }) + ram.frames_cells (z ∷ fs) ≤ m.room
  fits_sized = let sizes = ap sum callee.sizes in omega (arith, fits, sizes)

  put : (i : ℕ) (w : Value) → slice_get r.values i ≡ Some w → PutAs m.room (record (fresh_frame c.method (sizes_of callee.of)) { places = places } ∷ z ∷ fs) places i w
  put i w q =
      let within : i < length r.values = slice_get_within r.values i w q in
      let many = r.count in
      let size = ap (λ (z : List ℕ). slice_index z 0) callee.sizes in
      let l : i < slice_index c.sizes 0 = omega (arith, within, many, size) in
      let one = each i l in
      record {
        value = one.kept.value;
        here = one.here;
        is = value_under m.room (record (fresh_frame c.method (sizes_of callee.of)) { places = places }) (z ∷ fs) fits_sized one.kept.value w (over one.kept.value w (r.each i w q l));
      }

  sized : IsMachineFrame p outer heap m.room (record (fresh_frame c.method (sizes_of callee.of)) { places = places }) (z ∷ fs) (start_frame false (id_of c.method) callee.of r.values) (h ∷ gs)
  sized =
      let size = ap (λ (z : List ℕ). slice_index z 0) callee.sizes in
      started_is p outer heap m.room c.method callee.of (z ∷ fs) (h ∷ gs) (ap p.method callee.method ∙ callee.is) r.values places (count ∙ ap sum callee.sizes) r.count
      (λ i l. others i (omega (arith, l, size)) ∙ ap (λ (z : List ℕ). slice_get (replicate (sum z) (let o : Option RamValue = None in o)) i) callee.sizes) put

  pub new_is : IsMachineFrame p outer heap m.room (record (fresh_frame c.method c.sizes) { places = places }) (z ∷ fs) (start_frame false id callee.of r.values) (h ∷ gs)
  new_is =
      subst (λ (s : List ℕ). IsMachineFrame p outer heap m.room (record (fresh_frame c.method s) { places = places }) (z ∷ fs) (start_frame false id callee.of r.values) (h ∷ gs)) (sym callee.sizes)
      (subst (λ (k : Id). IsMachineFrame p outer heap m.room (record (fresh_frame c.method (sizes_of callee.of)) { places = places }) (z ∷ fs) (start_frame false k callee.of r.values) (h ∷ gs)) callee.method sized)

pub frame_size : (p : Program) (id : Id) (c : Callee) (callee : IsCallee p id c) → frame_cells (fresh_frame c.method c.sizes) ≡ method_cells (p.method id)
frame_size p id c callee = let sizes = ap (λ (z : List ℕ). frame_cells (fresh_frame c.method z)) callee.sizes in sizes ∙ (omega arith) ∙ sym (ap method_cells callee.is)

-- ---- a call

-- an argument on the stack
pub off_stack : (p : Program) (outer : Id → ℕ → ℕ → Bool) (heap : List Thing) (room : ℕ) (f : RamFrame) (fs : List RamFrame) (g : Frame) (gs : List Frame) (k : IsMachineFrame p outer heap room f fs g gs) (a n first : ℕ) (off : Taking a g.stack []) → first ≡ variables f + (f.depth - n) → n ≤ f.depth → n ≡ a
    → (i : ℕ) (v : Value) → i < a → slice_get off.arguments i ≡ Some v → IsValue room (f ∷ fs) (held_at f (first + i)) v
off_stack p outer heap room f fs g gs k a n first off start enough many i v l q =
    let old = k.stack (a - (i + 1)) v (sym (off.own i l) ∙ q) in
    let at : first + i ≡ variables f + (f.depth - (a - (i + 1) + 1)) = omega (arith, l, start, enough, many) in
    subst (λ (r : RamValue). IsValue room (f ∷ fs) r v) (sym (ap (λ o. unwrap_or o (Ref 0)) (ap (place_held f) at ∙ old.1))) old.2

module _ (p : Program) (outer : Id → ℕ → ℕ → Bool) (m : Memory) (s : State) (f : RamFrame) (fs : List RamFrame) (g : Frame) (gs : List Frame) (h : StandsFor p outer m s) (e : m.frames ≡ f ∷ fs) (d : s.frames ≡ g ∷ gs) (k : IsMachineFrame p outer s.heap m.room f fs g gs) (below : AreFrames p outer s.heap m.room fs gs)
    (next : ℕ) (id : Id) (c : Callee) (callee : IsCallee p id c) (code : c.has_code ≡ true) (kinds : ℕ → PlaceKind) (places : HasPlaces p id kinds) (x : Given) (given : IsGiven m f (slice_index c.sizes 0) x) where
  size : slice_index c.sizes 0 ≡ length callee.of.arguments
  size = ap (λ (z : List ℕ). slice_index z 0) callee.sizes

  enough : length callee.of.arguments ≤ length g.stack
  enough = let one = given.enough in let two = size in let three = k.depth in omega (arith, one, two, three)

  with_code : callee.of.body ≡ Code
  with_code = callee.body ∙ ap body_of code

  off : Taking (length callee.of.arguments) g.stack []
  off = taking (length callee.of.arguments) g.stack [] enough

  left : x.below ≡ length off.rest
  left = let one = given.below in let two = size in let three = k.depth in let four = off.rest_count in omega (arith, one, two, three, four)

  value_at : (i : ℕ) (v : Value) → i < length callee.of.arguments → slice_get off.arguments i ≡ Some v → IsValue m.room (f ∷ fs) (value_of f x i) v
  value_at i v l q =
      let many = size in
      subst (λ (o : Option RamValue). IsValue m.room (f ∷ fs) (value_in f x.first o i) v) (sym given.whole)
      (off_stack p outer s.heap m.room f fs g gs k (length callee.of.arguments) (slice_index c.sizes 0) x.first off given.first given.enough many i v l q)

  count : length off.arguments ≡ length callee.of.arguments
  count = let all = off.count in omega (arith, all)

  stuck : LacksKind f kinds x (slice_index c.sizes 0) → call p s g gs next id ≡ None
  stuck lacks = unkept p s g gs next id callee.of callee.is off (lacking p m.room f fs id callee.of callee.is kinds places x (slice_index c.sizes 0) size off.arguments count value_at lacks)

  kept_there : (all : AllKept f kinds x (slice_index c.sizes 0)) → KeptAll (λ i w. (l : i < slice_index c.sizes 0) → IsValue m.room (f ∷ fs) (all i l).value w) callee.of.arguments off.arguments
  kept_there all = keeping p m.room f fs id callee.of callee.is kinds places x (slice_index c.sizes 0) size off.arguments count value_at all

  shallow : length off.rest ≤ k.of.max_stack
  shallow = let count = off.rest_count in let most = k.most in omega (arith, count, most)

  roomy : lacks_room_in f c.gives x.below ≡ false → is_some callee.of.returns ≡ true → length off.rest < k.of.max_stack
  roomy q some =
      let gives : c.gives ≡ true = callee.gives ∙ some in
      let less = leb-false (slice_index f.sizes 2) x.below (sym (ap (λ b. lacks_room_in f b x.below) gives) ∙ q) in
      let stack = stack_size p outer s.heap m.room f fs g gs k in
      let rest = left in
      omega (arith, less, stack, rest)

  pub crowded : lacks_room_in f c.gives x.below ≡ true → call p s g gs next id ≡ None
  crowded q = by c.gives refl q
    where
      by : (b : Bool) → c.gives ≡ b → lacks_room_in f b x.below ≡ true → call p s g gs next id ≡ None
      by false w z = absurd (cc z)
      by true w z =
          let most = leb-true (slice_index f.sizes 2) x.below z in
          let stack = stack_size p outer s.heap m.room f fs g gs k in
          let rest = left in
          no_room p s g gs next id callee.of callee.is off k.of k.is with_code (sym callee.gives ∙ w) (omega (arith, most, stack, rest))

  module _ (room : lacks_room_in f c.gives x.below ≡ false) where
    spent : LacksFrame m f c kinds x → LacksCells p outer m.room (call p s g gs next id)
    spent lacks =
        let r = kept_there lacks.kept in
        let in_use = used_is p outer m s h in
        let same = frame_size p id c callee in
        let old = ap (frames_cells p) d in
        let more = lacks.more in
        record {
          state = record s { frames = start_frame false id callee.of r.values ∷ record g { stack = off.rest } ∷ gs };
          is = entered p s g gs next id callee.of callee.is off k.of k.is with_code r.values r.is (roomy room) shallow;
          more = omega (arith, more, in_use, same, old);
        }

    done : (u : Ram) → IsStarted u m f fs c kinds x → GoesOn p outer s u m.room (call p s g gs next id)
    done u st =
        let r = kept_there (λ i l. (st.each i l).kept) in
        let many = size in
        let less = given.below in
        let all = st.fits in
        let frames = ap ram.frames_cells e in
        let caller = rest_is p outer s.heap m.room f fs g gs k (length callee.of.arguments) x.below off.rest off.rest_at off.rest_count (omega (arith, less, many)) in
        let new = new_is p outer s.heap m f (record f { depth = x.below }) fs (record g { stack = off.rest }) gs id c callee kinds x (λ v w q. value_over m.room f fs f.places f.place x.below v w q) (omega (arith, all, frames)) st.places st.count st.each st.others off.arguments r in
        record {
          state = record s { frames = start_frame false id callee.of r.values ∷ record g { stack = off.rest } ∷ gs };
          is = entered p s g gs next id callee.of callee.is off k.of k.is with_code r.values r.is (roomy room) shallow;
          end = refl;
          memory = with_frames m (record (fresh_frame c.method c.sizes) { places = st.places } ∷ record f { depth = x.below } ∷ fs);
          kept = st.keeps;
          alike = record { heap = h.heap; frames = (new, (caller, below)) };
          same_room = refl;
        }

    pub ends : (u : Ram) (a : Acted) → Starts u m f fs c kinds x a → Ends p outer m s u (call p s g gs next id) a
    ends u acted.Done st = done u st
    ends u acted.Stuck lacks = stuck lacks
    ends u acted.Spent lacks = spent lacks
    ends u (acted.Raises known) w = absurd w
