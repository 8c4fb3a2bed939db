-- The stops of a frame are clauses of its method.
use Rattle.std.proofs.Common.{◌≡◌, ◌<◌, List, [], ◌∷◌, drop, Option, Some, None, refl, subst, arith}
use Rattle.std.specs.Prelude.{slice_get, slice_index}
use Rattle.std.proofs.lemmas.Option.{slice_get_within}
use Rattle.board_types.specs.declared.board.TypeAt.{TypeAt}
use Rattle.tiny_ram.specs.Memory.{RamFrame}
use Rattle.memory_states.specs.Told.{Told}
use Rattle.tiny_except.specs.declared.clauses.Found.{Found}
use Rattle.tiny_except.specs.declared.clauses.Goal.{Goal}
use Rattle.tiny_except.specs.declared.clauses.Goal.TheVariants.{Stop, Finally}
use Rattle.tiny_except.specs.declared.clauses.Regions.TheVariants.{Handler}
use Rattle.tiny_except.specs.Unwinding.{code_place, regions_from, first_from, stop_in, ended_in, Landing, landed_in, landing}
use Rattle.tiny_except.specs.Searches.{HasSlots, AllHaveSlots}
use Rattle.tiny_except.proofs.Firsts.{is_clause}

-- the clause has a slot in the frame, and room for the exception where it is a catch
pub record Fits (f : RamFrame) (x : Found) : Type 0 where
  pub slot : x.number < slice_index f.sizes 3
  pub room : x.clause.kind ≡ 0 → 0 < slice_index f.sizes 2

slotted : (t : Told) (f : RamFrame) → HasSlots t f → (x : Found) → slice_get (t.clauses f.method) x.number ≡ Some x.clause → Fits f x
slotted t f h x e = record {
  slot = let l = slice_get_within (t.clauses f.method) x.number x.clause e in omega (arith, l, h.count);
  room = h.room x.number x.clause e;
}

pub stop_clause : (t : Told) (goal : Goal) (ended : Option Found) (f : RamFrame) (x : Found) → stop_in t goal ended f ≡ Some x → slice_get (t.clauses f.method) x.number ≡ Some x.clause
stop_clause t goal ended f x e =
    is_clause t (record { regions = regions_from ended (code_place f); goal = goal }) (t.clauses f.method) (first_from ended) (drop (first_from ended) (t.clauses f.method)) refl x e

pub stop_fits : (t : Told) (goal : Goal) (ended : Option Found) (f : RamFrame) (x : Found) → HasSlots t f → stop_in t goal ended f ≡ Some x → Fits f x
stop_fits t goal ended f x h e =
    slotted t f h x (stop_clause t goal ended f x e)

pub ended_fits : (t : Told) (f : RamFrame) (x : Found) → HasSlots t f → ended_in t f ≡ Some x → Fits f x
ended_fits t f x h e =
    slotted t f h x (is_clause t (record { regions = Handler (code_place f); goal = Finally }) (t.clauses f.method) 0 (t.clauses f.method) refl x e)

pub landing_fits : (t : Told) (class : TypeAt) (ended : Option Found) (fs : List RamFrame) (l : Landing) → AllHaveSlots t fs → landing t class ended fs ≡ Some l → Fits l.frame l.stop
landing_fits t class ended [] l h e = absurd (cc e)
landing_fits t class ended (f ∷ fs) l h e = by (stop_in t (Stop class) ended f) refl (λ g. landing_fits t class None fs l h.1 g) e
  where
    by : (o : Option Found) → stop_in t (Stop class) ended f ≡ o → (landing t class None fs ≡ Some l → Fits l.frame l.stop) → landed_in f fs o (landing t class None fs) ≡ Some l → Fits l.frame l.stop
    by None q ih g = ih g
    by (Some x) q ih g = let same : (let z : Landing = record { frame = f; callers = fs; stop = x } in z) ≡ l = cc g in subst (λ (z : Landing). Fits z.frame z.stop) same (stop_fits t (Stop class) ended f x h.0 q)
