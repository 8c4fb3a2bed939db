-- What stands from a type on is the end of its blob.
use Rattle.std.proofs.Common.{◌≡◌, ℕ, zero, suc, ◌+◌, ◌-◌, ◌≤◌, ◌<◌, Bool, true, false, cond, eqb, List, [], ◌∷◌, length, Ok, Err, refl, sym, ◌∙◌, arith, subst, length-drop}
use Rattle.cil_sig.specs.declared.elements.TheConstants.{POINTER, FIELD, LOCALS}
use Rattle.cil_sig.specs.declared.sig.SigType.{SigType}
use Rattle.cil_sig.specs.declared.reading.Slot.{Slot}
use Rattle.cil_sig.specs.declared.reading.Slot.TheVariants.{Parameter, Local}
use Rattle.cil_sig.specs.declared.places.Position.{Position}
use Rattle.cil_sig.specs.declared.places.Position.TheVariants as positions
use Rattle.cil_sig.specs.Reading.{◌>>=◌, Part, no_case, count_at, result_at, slot_at, brackets, behind, this_at}
use Rattle.cil_sig.specs.Places.{behind_slots, result_front, parameter_front, local_front, front_of, pointed_to, element_front}
use Rattle.cil_sig.proofs.Near.{IsNear, this_near, count_near, result_near, slot_near}

-- no more bytes are left
abbrev pub NoLonger : List ℕ → Part (List ℕ) → Type 0
NoLonger bytes (Ok rest) = length rest ≤ length bytes
NoLonger bytes (Err left) = Unit {0}

no_longer_then : {X : Type 0} (k : ℕ) (bytes : List ℕ) (part : Part (X × List ℕ)) (f : X × List ℕ → Part (List ℕ)) → IsNear k bytes part → ((x : X × List ℕ) → NoLonger x.1 (f x)) → NoLonger bytes (part >>= f)
no_longer_then k bytes (Ok x) f near then = later (f x) (then x) where
  later : (part : Part (List ℕ)) → NoLonger x.1 part → NoLonger bytes part
  later (Ok rest) short = omega arith
  later (Err left) short = tt
no_longer_then k bytes (Err left) f near then = tt

follows : (bytes : List ℕ) (part : Part (List ℕ)) (f : List ℕ → Part (List ℕ)) → NoLonger bytes part → ((rest : List ℕ) → NoLonger rest (f rest)) → NoLonger bytes (part >>= f)
follows bytes (Ok rest) f short then = later (f rest) (then rest) where
  later : (part : Part (List ℕ)) → NoLonger rest part → NoLonger bytes part
  later (Ok more) shorter = omega arith
  later (Err left) shorter = tt
follows bytes (Err left) f short then = tt

slots_no_longer : (slot : Slot) (n : ℕ) (bytes : List ℕ) → NoLonger bytes (behind_slots slot n bytes)
unfolding behind_slots
slots_no_longer slot zero bytes = omega arith
slots_no_longer slot (suc n) bytes = no_longer_then 261 bytes (slot_at slot bytes) (λ first. behind_slots slot n first.1) (slot_near slot bytes) (λ first. slots_no_longer slot n first.1)

result_no_longer : (blob : List ℕ) → NoLonger blob (result_front blob)
unfolding result_front
result_no_longer blob =
    no_longer_then 1 blob (this_at blob) (λ this. count_at this.1 >>= λ count. Ok count.1) (this_near blob) (λ this. no_longer_then 4 this.1 (count_at this.1) (λ count. Ok count.1) (count_near this.1) (λ count. omega arith))

mark_no_longer : (mark : ℕ) (bytes : List ℕ) → NoLonger bytes (behind mark bytes)
mark_no_longer mark [] = tt
mark_no_longer mark (b ∷ rest) = by (eqb b mark) where
  by : (is : Bool) → NoLonger (b ∷ rest) (cond is (Ok rest) (no_case (b ∷ rest)))
  by true = omega arith
  by false = tt

parameter_no_longer : (k : ℕ) (blob : List ℕ) → NoLonger blob (parameter_front k blob)
unfolding parameter_front
parameter_no_longer k blob =
    follows blob (result_front blob) (λ front. result_at front >>= λ returns. behind_slots Parameter k returns.1) (result_no_longer blob) (λ front. no_longer_then 260 front (result_at front) (λ returns. behind_slots Parameter k returns.1) (result_near front) (λ returns. slots_no_longer Parameter k returns.1))

local_no_longer : (k : ℕ) (blob : List ℕ) → NoLonger blob (local_front k blob)
unfolding local_front
local_no_longer k blob =
    follows blob (behind LOCALS blob) (λ rest. count_at rest >>= λ count. behind_slots Local k count.1) (mark_no_longer LOCALS blob) (λ rest. no_longer_then 4 rest (count_at rest) (λ count. behind_slots Local k count.1) (count_near rest) (λ count. slots_no_longer Local k count.1))

front_no_longer : (position : Position) (blob : List ℕ) → NoLonger blob (front_of position blob)
front_no_longer positions.Field blob = mark_no_longer FIELD blob
front_no_longer positions.Spec blob = omega arith
front_no_longer positions.Returned blob = result_no_longer blob
front_no_longer (positions.Parameter k) blob = parameter_no_longer k blob
front_no_longer (positions.Local k) blob = local_no_longer k blob

pointed_shorter : (bytes : List ℕ) → length (pointed_to bytes) ≤ length bytes
pointed_shorter [] = omega arith
pointed_shorter (code ∷ rest) = by (eqb code POINTER) where
  by : (is : Bool) → length (cond is rest (code ∷ rest)) ≤ length (code ∷ rest)
  by true = omega arith
  by false = omega arith

element_shorter : (bytes : List ℕ) → length (element_front bytes) ≤ length bytes
unfolding element_front
element_shorter bytes = omega (arith, pointed_shorter bytes, length-drop (brackets (pointed_to bytes)) (pointed_to bytes))

-- an element at a position lies in the blob
pub element_inside : (position : Position) (blob front : List ℕ) → front_of position blob ≡ Ok front → length (element_front front) ≤ length blob
element_inside position blob front e = let short = subst (NoLonger blob) e (front_no_longer position blob) in omega (arith, element_shorter front)

-- ---- skipping types one after the other, as a loop does

pub skip_ends : (slot : Slot) (count i : ℕ) (bytes : List ℕ) (left : ℕ) (total : Part (List ℕ)) → i < count → slot_at slot bytes ≡ Err left → behind_slots slot (count - i) bytes ≡ total → total ≡ Err left
unfolding behind_slots
skip_ends slot count i bytes left total lt e so_far =
    let more : count - i ≡ suc (count - (i + 1)) = omega arith in
    let one : behind_slots slot (count - i) bytes ≡ Err left = rw (more, e) refl in
    sym so_far ∙ one

pub skip_goes : (slot : Slot) (count i : ℕ) (bytes : List ℕ) (first : SigType × List ℕ) (total : Part (List ℕ)) → i < count → slot_at slot bytes ≡ Ok first → behind_slots slot (count - i) bytes ≡ total
    → behind_slots slot (count - (i + 1)) first.1 ≡ total
unfolding behind_slots
skip_goes slot count i bytes first total lt e so_far =
    let more : count - i ≡ suc (count - (i + 1)) = omega arith in
    let one : behind_slots slot (count - i) bytes ≡ behind_slots slot (count - (i + 1)) first.1 = rw (more, e) refl in
    sym one ∙ so_far

pub skip_done : (slot : Slot) (count i : ℕ) (bytes : List ℕ) (total : Part (List ℕ)) → count ≤ i → behind_slots slot (count - i) bytes ≡ total → total ≡ Ok bytes
unfolding behind_slots
skip_done slot count i bytes total le so_far =
    let none : count - i ≡ 0 = omega arith in
    let one : behind_slots slot (count - i) bytes ≡ Ok bytes = rw none refl in
    sym so_far ∙ one
