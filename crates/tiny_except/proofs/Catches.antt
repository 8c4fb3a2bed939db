-- A throw's parts together.
use Rattle.std.proofs.Common.{◌≡◌, ◌≢◌, inl, inr, ℕ, ◌+◌, ◌-◌, ◌<◌, ◌≤◌, Bool, true, false, ◌==◌, List, ◌∷◌, Option, Some, None, Ok, Err, refl, sym, ap, ◌∙◌, subst, arith}
use Rattle.std.specs.Prelude.{nat_eq, ◌⊎◌, if◌then◌else◌, nat_le, slice_index, is_some, unwrap_or, Result}
use Rattle.std.specs.Option.{option_map}
use Rattle.std.proofs.lemmas.Bool.{le-leb}
use Rattle.std.proofs.lemmas.Bool.Decides.{leb_tells, eqb_tells}
use Rattle.board_types.specs.declared.board.TypeAt.{TypeAt}
use Rattle.board_types.specs.declared.value.Value.TheVariants.{Ref}
use Rattle.tiny_ram.specs.Things.{Entry, entry_cells, fresh, object_shape}
use Rattle.tiny_ram.specs.Memory.{RamFrame, Memory, entry_at, IsEntry, heap_cells, used, with_entry, with_frames}
use Rattle.tiny_ram.specs.Region.{Keeps, Made}
use Rattle.tiny_ram.specs.declared.memory.Ram.{Ram}
use Rattle.tiny_ram.specs.declared.memory.Spent.{Spent}
use Rattle.memory_states.specs.Told.{Told}
use Rattle.tiny_except.specs.declared.clauses.Found.{Found}
use Rattle.tiny_except.specs.declared.unwinding.Thrown.{Thrown}
use Rattle.tiny_except.specs.declared.unwinding.Thrown.TheVariants as thrown
use Rattle.tiny_except.specs.declared.unwinding.Plan.{Plan}
use Rattle.tiny_except.specs.declared.unwinding.Plan.TheVariants.{NoPlan, Throwing, GoingTo}
use Rattle.tiny_except.specs.Unwinding.{fits, Landing, landing, stopped, class_in, thrown_object, with_thrown, After, at_stop, caught, uncaught, thrown_after, slot_held, ended_in, ended_at, plan_by, plan_in, plan_at, class_or_none, taken_up, on_top, left_in}
use Rattle.tiny_except.specs.Searches.{AllHaveSlots, Threw, TookUp, IsThere, Landed, Placed}
use Rattle.tiny_except.proofs.Stops.{Fits, landing_fits}

-- ---- the object that is made

pub placed : (r u : Ram) (m : Memory) (e : Entry) (o : Result ℕ Spent) → Made r u m e o → Placed u o (1 + heap_cells m.heap) (if nat_le (used m + entry_cells e) m.room then Some (with_entry m e) else None)
placed r u m e (Ok thing) h = subst (λ (b : Bool). Placed u (Ok thing) (1 + heap_cells m.heap) (if b then Some (with_entry m e) else None)) (sym (le-leb (used m + entry_cells e) m.room h.0)) (h.1, h.2)
placed r u m e (Err s) h = subst (λ (b : Bool). Placed u (Err s) (1 + heap_cells m.heap) (if b then Some (with_entry m e) else None)) (sym over) tt
  where
    over : nat_le (used m + entry_cells e) m.room ≡ false
    over = by (leb_tells (used m + entry_cells e) m.room)
      where
        by : ((nat_le (used m + entry_cells e) m.room ≡ true) × (used m + entry_cells e ≤ m.room)) ⊎ ((nat_le (used m + entry_cells e) m.room ≡ false) × (m.room < used m + entry_cells e)) → nat_le (used m + entry_cells e) m.room ≡ false
        by (inl q) = absurd (omega (arith, q.1, h.0))
        by (inr q) = q.0

pub record HasClass (m : Memory) (object : ℕ) (class : TypeAt) : Type 0 where
  pub entry : Entry
  pub there : IsEntry m object entry
  pub is : entry.shape.of.of ≡ class

pub class_of : (m : Memory) (object : ℕ) (class : TypeAt) → class_in m.heap object ≡ Some class → HasClass m object class
class_of m object class e = by (eqb_tells object 0) e
  where
    on_entry : 0 < object → (o : Option Entry) → entry_at m.heap (object - 1) ≡ o → option_map (λ (e : Entry). e.shape.of.of) o ≡ Some class → HasClass m object class
    on_entry l None q h = absurd (cc h)
    on_entry l (Some x) q h = record { entry = x; there = record { some = l; there = q }; is = cc h }

    by : ((nat_eq object 0 ≡ true) × (object ≡ 0)) ⊎ ((nat_eq object 0 ≡ false) × (object ≢ 0)) → (if object == 0 then None else option_map (λ (e : Entry). e.shape.of.of) (entry_at m.heap (object - 1))) ≡ Some class → HasClass m object class
    by (inl q) h =
        let none : Some class ≡ None = sym h ∙ ap (λ (b : Bool). if b then None else option_map (λ (e : Entry). e.shape.of.of) (entry_at m.heap (object - 1))) q.0 in
        absurd (cc none)
    by (inr q) h =
        let apart : object ≢ 0 = q.1 in
        let l : 0 < object = omega (arith, apart) in
        on_entry l (entry_at m.heap (object - 1)) refl (sym (ap (λ (b : Bool). if b then None else option_map (λ (e : Entry). e.shape.of.of) (entry_at m.heap (object - 1))) q.0) ∙ h)

-- ---- the stop

same_frames : (w made : Memory) (t : Thrown) → with_thrown w t ≡ Some made → made.frames ≡ w.frames
same_frames w made (thrown.Object object) e = let same : w ≡ made = cc e in ap (λ (m : Memory). m.frames) (sym same)
same_frames w made (thrown.Made class fields) e = by (nat_le (used w + entry_cells (fresh (object_shape class fields))) w.room) e
  where
    by : (b : Bool) → (if b then Some (with_entry w (fresh (object_shape class fields))) else None) ≡ Some made → made.frames ≡ w.frames
    by true q = let same : with_entry w (fresh (object_shape class fields)) ≡ made = cc q in ap (λ (m : Memory). m.frames) (sym same)
    by false q = absurd (cc q)

same_object : (m : Memory) (fs : List RamFrame) (t : Thrown) → thrown_object (with_frames m fs) t ≡ thrown_object m t
same_object m fs (thrown.Object object) = refl
same_object m fs (thrown.Made class fields) = refl

module _ (t : Told) (class : TypeAt) (m : Memory) (slots : AllHaveSlots t m.frames) where
  abbrev Takes : Ram → Ram → Found → ℕ → Type 0
  Takes u v x object = (w : Memory) (f : RamFrame) (fs : List RamFrame) → Keeps u w → w.frames ≡ f ∷ fs → x.number < slice_index f.sizes 3 → (x.clause.kind ≡ 0 → 0 < slice_index f.sizes 2) → Keeps v (with_frames w (stopped f x object ∷ fs))

  pub catches : (thrown : Thrown) (u1 u2 u3 : Ram) (x : Found) (object : ℕ) → Landed u1 (Some x) m (landing t class None m.frames) → ((w : Memory) → Keeps u1 w → Placed u2 (Ok object) (thrown_object w thrown) (with_thrown w thrown)) → Takes u2 u3 x object → Threw u3 (Ok None) (caught m (landing t class None m.frames) thrown)
  catches thrown u1 u2 u3 x object landed place take = by (landing t class None m.frames) refl landed
    where
      on_made : (l : Landing) (fit : Fits l.frame l.stop) → x ≡ l.stop → (o : Option Memory) → with_thrown (with_frames m (l.frame ∷ l.callers)) thrown ≡ o → Placed u2 (Ok object) (thrown_object (with_frames m (l.frame ∷ l.callers)) thrown) o → Threw u3 (Ok None) (option_map (λ made. let a : After = record { class = None; memory = at_stop made (Some l) (thrown_object m thrown) } in a) o)
      on_made l fit e None q h = absurd h
      on_made l fit e (Some made) q h =
          let number : object ≡ thrown_object m thrown = h.0 ∙ same_object m (l.frame ∷ l.callers) thrown in
          let fits_x : Fits l.frame x = subst (λ (z : Found). Fits l.frame z) (sym e) fit in
          let kept : Keeps u3 (with_frames made (stopped l.frame x object ∷ l.callers)) = take made l.frame l.callers h.1 (same_frames (with_frames m (l.frame ∷ l.callers)) made thrown q) fits_x.slot fits_x.room in
          (refl, subst (λ n. Keeps u3 (with_frames made (stopped l.frame l.stop n ∷ l.callers))) number (subst (λ (z : Found). Keeps u3 (with_frames made (stopped l.frame z object ∷ l.callers))) e kept))

      by : (lo : Option Landing) → landing t class None m.frames ≡ lo → Landed u1 (Some x) m lo → Threw u3 (Ok None) (caught m lo thrown)
      by None q h = absurd h
      by (Some l) q h = on_made l (landing_fits t class None m.frames l slots q) h.0 (with_thrown (with_frames m (l.frame ∷ l.callers)) thrown) refl (place (with_frames m (l.frame ∷ l.callers)) h.1)

  pub takes_on : (ended : Option Found) (u1 u2 : Ram) (x : Found) (object : ℕ) → Landed u1 (Some x) m (landing t class ended m.frames) → Takes u1 u2 x object → Keeps u2 (at_stop m (landing t class ended m.frames) object)
  takes_on ended u1 u2 x object landed take = by (landing t class ended m.frames) refl landed
    where
      by : (lo : Option Landing) → landing t class ended m.frames ≡ lo → Landed u1 (Some x) m lo → Keeps u2 (at_stop m lo object)
      by None q h = absurd h
      by (Some l) q h =
          let fits_x : Fits l.frame x = subst (λ (z : Found). Fits l.frame z) (sym h.0) (landing_fits t class ended m.frames l slots q) in
          subst (λ (z : Found). Keeps u2 (with_frames m (stopped l.frame z object ∷ l.callers))) h.0 (take (with_frames m (l.frame ∷ l.callers)) l.frame l.callers h.1 refl fits_x.slot fits_x.room)

-- ---- a throw

pub thrown_by : (t : Told) (m : Memory) (class found : TypeAt) (thrown : Thrown) (u : Ram) (r : Result (Option TypeAt) Spent) → found ≡ class → fits t found m.frames ≡ true → Threw u r (caught m (landing t found None m.frames) thrown) → Threw u r (thrown_after t m class thrown)
thrown_by t m class found thrown u r e b h =
    subst (λ (c : TypeAt). Threw u r (thrown_after t m c thrown)) e
    (subst (λ (b : Bool). Threw u r (if b then caught m (landing t found None m.frames) thrown else uncaught m found thrown)) (sym b) h)

pub passed_by : (t : Told) (m : Memory) (class found : TypeAt) (thrown : Thrown) (u : Ram) (r : Result (Option TypeAt) Spent) → found ≡ class → fits t found m.frames ≡ false → Threw u r (uncaught m found thrown) → Threw u r (thrown_after t m class thrown)
passed_by t m class found thrown u r e b h =
    subst (λ (c : TypeAt). Threw u r (thrown_after t m c thrown)) e
    (subst (λ (b : Bool). Threw u r (if b then caught m (landing t found None m.frames) thrown else uncaught m found thrown)) (sym b) h)

-- ---- the plan of the finally that ends

pub no_plan : (t : Told) (m : Memory) (r : Ram) → plan_at t m.frames ≡ NoPlan → TookUp r r false (taken_up t m (plan_at t m.frames))
no_plan t m r e = subst (λ (p : Plan). TookUp r r false (taken_up t m p)) (sym e) refl

pub plan_is : (t : Told) (m : Memory) (f : RamFrame) (fs : List RamFrame) (ended : Found) → m.frames ≡ f ∷ fs → ended_in t f ≡ Some ended → plan_at t m.frames ≡ plan_by (unwrap_or (slot_held f ended.number) (Ref 0))
plan_is t m f fs ended e q = ap (plan_at t) e ∙ ap (plan_in f) q

pub goes_on : (t : Told) (m : Memory) (r u : Ram) (ended : Found) (target : ℕ) → plan_at t m.frames ≡ GoingTo target → ended_at t m.frames ≡ Some ended → Keeps u (on_top m (left_in t target (Some ended))) → TookUp r u true (taken_up t m (plan_at t m.frames))
goes_on t m r u ended target e q k =
    subst (λ (p : Plan). TookUp r u true (taken_up t m p)) (sym e)
    (subst (λ (o : Option Found). Keeps u (on_top m (left_in t target o))) (sym q) k)

pub throws_on : (t : Told) (m : Memory) (r u : Ram) (ended : Found) (object : ℕ) → plan_at t m.frames ≡ Throwing object → ended_at t m.frames ≡ Some ended → IsThere m (plan_at t m.frames) → ((class : TypeAt) → class_in m.heap object ≡ Some class → Keeps u (at_stop m (landing t class (Some ended) m.frames) object)) → TookUp r u true (taken_up t m (plan_at t m.frames))
throws_on t m r u ended object e q there k =
    subst (λ (p : Plan). TookUp r u true (taken_up t m p)) (sym e)
    (by (class_in m.heap object) refl (subst (IsThere m) e there))
  where
    by : (o : Option TypeAt) → class_in m.heap object ≡ o → is_some o ≡ true → TookUp r u true (class_or_none o (λ class. at_stop m (landing t class (ended_at t m.frames) m.frames) object))
    by None w h = absurd (cc h)
    by (Some class) w h = subst (λ (z : Option Found). Keeps u (at_stop m (landing t class z m.frames) object)) (sym q) (k class w)
