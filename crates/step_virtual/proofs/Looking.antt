-- The machine's virtual call up to its object.
use Rattle.std.proofs.Common.{◌≡◌, ◌≢◌, inl, inr, ℕ, ◌+◌, ◌<◌, ◌≤◌, Bool, true, false, ◌==◌, List, [], ◌∷◌, length, Option, Some, None, refl, sym, ap, ◌∙◌, subst, arith}
use Rattle.std.specs.Prelude.{◌⊎◌, nat_eq, if◌then◌else◌, sum, slice_get}
use Rattle.std.proofs.lemmas.Bool.Decides.{eqb_tells}
use Rattle.board_types.specs.declared.value.Value.{Value as RamValue}
use Rattle.board_types.specs.declared.value.Value.TheVariants as ram
use Rattle.machine.specs.Data.{Id, PlaceType, Value, Int, Long, Null, Object, Handle, Pointer, Frame, State}
use Rattle.machine.specs.Program.{Program, Method}
use Rattle.machine.specs.Throw.{on_some}
use Rattle.machine.specs.Rows.{on_top, on_thing, Taken, take_arguments, keep_all}
use Rattle.machine.specs.Calls.{call_virtual}
use Rattle.kept_values.specs.declared.keeping.PlaceKind.{PlaceKind}
use Rattle.kept_values.specs.Keeping.{kept_as}
use Rattle.tiny_ram.specs.Memory.{RamFrame, Memory}
use Rattle.tiny_ram.specs.Region.{Keeps}
use Rattle.tiny_ram.specs.declared.memory.Ram.{Ram}
use Rattle.memory_states.specs.Values.{IsValue}
use Rattle.memory_states.specs.States.{IsMachineFrame}
use Rattle.step_calls.specs.declared.arguments.Given.{Given}
use Rattle.step_calls.specs.Callees.{HasPlaces}
use Rattle.step_calls.specs.Arguments.{held_at, value_in, value_of, count_in, AreInside, LacksKind, AllKept, IsGiven}
use Rattle.step_calls.proofs.Taking.{too_few, Taking, taking, KeptAll}
use Rattle.step_calls.proofs.Calling.{on_none, off_stack, lacking, keeping}
use Rattle.step_calls.proofs.Handing.{deep}
use Rattle.kept_arguments.specs.Kept.{IsOf}
use Rattle.step_virtual.specs.declared.receiving.Receiver.TheVariants as found
use Rattle.step_virtual.specs.Receivers.{receiver_by, on_object, Receives}

not_zero : (b : ℕ) → (1 + b == 0) ≡ false
not_zero b = by (eqb_tells (1 + b) 0)
  where
    by : ((nat_eq (1 + b) 0 ≡ true) × (1 + b ≡ 0)) ⊎ ((nat_eq (1 + b) 0 ≡ false) × (1 + b ≢ 0)) → (1 + b == 0) ≡ false
    by (inl q) = absurd (omega (arith, q.1))
    by (inr q) = q.0

pub inside : (r : Ram) (m : Memory) (f : RamFrame) (fs : List RamFrame) (n : ℕ) (x : Given) → Keeps r m → m.frames ≡ f ∷ fs → IsGiven m f n x → AreInside f x n
inside r m f fs n x k e given =
    let d = deep r m f fs k e in
    let most = d.most in
    let places = d.inside in
    let first = given.first in
    let enough = given.enough in
    let within : x.first + n ≤ sum f.sizes = omega (arith, most, places, first, enough) in
    record { within = subst (λ (o : Option RamValue). x.first + count_in o n ≤ sum f.sizes) (sym given.whole) within }

module _ (p : Program) (outer : Id → ℕ → ℕ → Bool) (m : Memory) (s : State) (f : RamFrame) (fs : List RamFrame) (g : Frame) (gs : List Frame) (k : IsMachineFrame p outer s.heap m.room f fs g gs) (next : ℕ) (id : Id) (of : Method) (n : ℕ) (own : IsOf p id of n) where
  asked : call_virtual p s g gs next id ≡ on_some (take_arguments (length of.arguments) g.stack []) (λ t. on_some (keep_all of.arguments t.arguments) (λ given. on_top given (λ this others. on_thing p s this (on_object p s g gs next id t.rest others))))
  unfolding call_virtual
  asked = ap (λ (o : Option Method). on_some o (λ m. on_some (take_arguments (length m.arguments) g.stack []) (λ t. on_some (keep_all m.arguments t.arguments) (λ given. on_top given (λ this others. on_thing p s this (on_object p s g gs next id t.rest others)))))) own.is

  pub few : f.depth < n → call_virtual p s g gs next id ≡ None
  few l =
      let deep = k.depth in
      let many = own.count in
      asked ∙ ap (λ o. on_some o (λ (t : Taken Value). on_some (keep_all of.arguments t.arguments) (λ given. on_top given (λ this others. on_thing p s this (on_object p s g gs next id t.rest others))))) (too_few (length of.arguments) g.stack [] (omega (arith, l, deep, many)))

  pub no_this : n ≡ 0 → call_virtual p s g gs next id ≡ None
  no_this z = asked ∙ on_none (take_arguments (length of.arguments) g.stack []) (λ t. on_some (keep_all of.arguments t.arguments) (λ given. on_top given (λ this others. on_thing p s this (on_object p s g gs next id t.rest others)))) (λ t. by of.arguments (sym own.count ∙ z) t)
    where
      by : (ks : List PlaceType) → length ks ≡ 0 → (t : Taken Value) → on_some (keep_all ks t.arguments) (λ given. on_top given (λ this others. on_thing p s this (on_object p s g gs next id t.rest others))) ≡ None
      by (x ∷ ks) q t = absurd (omega (arith, q))
      by [] q t = none t.arguments
        where
          none : (vs : List Value) → on_some (keep_all [] vs) (λ given. on_top given (λ this others. on_thing p s this (on_object p s g gs next id t.rest others))) ≡ None
          none [] = refl
          none (v ∷ vs) = refl

  module _ (kinds : ℕ → PlaceKind) (places : HasPlaces p id kinds) (x : Given) (given : IsGiven m f n x) where
    off : Taking (length of.arguments) g.stack []
    off = let one = given.enough in let two = own.count in let three = k.depth in taking (length of.arguments) g.stack [] (omega (arith, one, two, three))

    taken : call_virtual p s g gs next id ≡ on_some (keep_all of.arguments off.arguments) (λ given. on_top given (λ this others. on_thing p s this (on_object p s g gs next id off.rest others)))
    taken = asked ∙ ap (λ o. on_some o (λ (t : Taken Value). on_some (keep_all of.arguments t.arguments) (λ given. on_top given (λ this others. on_thing p s this (on_object p s g gs next id t.rest others))))) off.is

    held_is : (i : ℕ) → value_of f x i ≡ held_at f (x.first + i)
    held_is i = ap (λ (o : Option RamValue). value_in f x.first o i) given.whole

    value_at : (i : ℕ) (v : Value) → i < length of.arguments → slice_get off.arguments i ≡ Some v → IsValue m.room (f ∷ fs) (value_of f x i) v
    value_at i v l q = subst (λ (r : RamValue). IsValue m.room (f ∷ fs) r v) (sym (held_is i)) (off_stack p outer s.heap m.room f fs g gs k (length of.arguments) n x.first off given.first given.enough own.count i v l q)

    count : length off.arguments ≡ length of.arguments
    count = let all = off.count in omega (arith, all)

    pub lacks : LacksKind f kinds x n → call_virtual p s g gs next id ≡ None
    lacks h = taken ∙ ap (λ o. on_some o (λ given. on_top given (λ this others. on_thing p s this (on_object p s g gs next id off.rest others)))) (lacking p m.room f fs id of own.is kinds places x n own.count off.arguments count value_at h)

    module _ (some : 0 < n) (all : AllKept f kinds x n) (kept : Option RamValue) (is : kept ≡ kept_as (kinds 0) (held_at f x.first)) where
      r : KeptAll (λ i w. (l : i < n) → IsValue m.room (f ∷ fs) (all i l).value w) of.arguments off.arguments
      r = keeping p m.room f fs id of own.is kinds places x n own.count off.arguments count value_at all

      this_is : kept ≡ Some (all 0 some).value
      this_is =
          let at : x.first ≡ x.first + 0 = omega arith in
          is ∙ ap (λ i. kept_as (kinds 0) (held_at f i)) at ∙ sym (ap (kept_as (kinds 0)) (held_is 0)) ∙ (all 0 some).is

      -- by what `this` is
      by_value : (w : RamValue) (v : Value) (others : List Value) → IsValue m.room (f ∷ fs) w v → keep_all of.arguments off.arguments ≡ Some (v ∷ others) → Receives p m s f g gs next id of n (receiver_by (Some w) x)
      by_value (ram.Int a) (Int b) others h q = taken ∙ ap (λ o. on_some o (λ given. on_top given (λ this others. on_thing p s this (on_object p s g gs next id off.rest others)))) q
      by_value (ram.Long a) (Long b) others h q = taken ∙ ap (λ o. on_some o (λ given. on_top given (λ this others. on_thing p s this (on_object p s g gs next id off.rest others)))) q
      by_value (ram.Handle a) (Handle b) others h q = taken ∙ ap (λ o. on_some o (λ given. on_top given (λ this others. on_thing p s this (on_object p s g gs next id off.rest others)))) q
      by_value (ram.Pointer a) (Pointer b y) others h q = taken ∙ ap (λ o. on_some o (λ given. on_top given (λ this others. on_thing p s this (on_object p s g gs next id off.rest others)))) q
      by_value (ram.Ref a) Null others h q =
          subst (λ (z : ℕ). Receives p m s f g gs next id of n (receiver_by (Some (ram.Ref z)) x)) (sym h)
          (taken ∙ ap (λ o. on_some o (λ given. on_top given (λ this others. on_thing p s this (on_object p s g gs next id off.rest others)))) q)
      by_value (ram.Ref a) (Object b) others h q =
          subst (λ (z : ℕ). Receives p m s f g gs next id of n (receiver_by (Some (ram.Ref z)) x)) (sym h)
          (subst (λ (c : Bool). Receives p m s f g gs next id of n (if c then receiver_by (Some (ram.Ref 0)) x else found.Thing x (1 + b))) (sym (not_zero b))
          (record {
            given = given;
            taken = record { arguments = off.arguments; rest = off.rest };
            took = off.is;
            object = b;
            others = others;
            kept = q;
            number = refl;
            rest = taken ∙ ap (λ o. on_some o (λ given. on_top given (λ this others. on_thing p s this (on_object p s g gs next id off.rest others)))) q;
          }))
      by_value _ _ others h q = absurd h

      pub received : Receives p m s f g gs next id of n (receiver_by kept x)
      received = subst (λ (o : Option RamValue). Receives p m s f g gs next id of n (receiver_by o x)) (sym this_is) (by r.values refl)
        where
          by : (vs : List Value) → r.values ≡ vs → Receives p m s f g gs next id of n (receiver_by (Some (all 0 some).value) x)
          by [] q = let size = r.count in let none = ap length q in let many = own.count in absurd (omega (arith, size, none, many, some))
          by (v ∷ others) q = by_value (all 0 some).value v others (r.each 0 v (ap (λ (z : List Value). slice_get z 0) q) some) (r.is ∙ ap Some q)
