-- Reading types one after the other, as a loop does.
use Rattle.std.proofs.Common.{◌≡◌, ℕ, suc, ◌-◌, ◌+◌, ◌≤◌, ◌<◌, List, [], ◌∷◌, ◌++◌, Ok, Err, refl, sym, ap, ◌∙◌, append_assoc, arith}
use Rattle.std.proofs.lemmas.List.{append-nil}
use Rattle.cil_sig.specs.declared.sig.SigType.{SigType}
use Rattle.cil_sig.specs.declared.reading.Slot.{Slot}
use Rattle.cil_sig.specs.Reading.{◌>>=◌, Part, slot_at, slots_at}

-- what was read before, and what is still read
abbrev pub with_front : List SigType → Part (List SigType × List ℕ) → Part (List SigType × List ℕ)
with_front front read = read >>= λ x. Ok (front ++ x.0, x.1)

regroup : (front : List SigType) (t : SigType) (read : Part (List SigType × List ℕ)) → with_front front (read >>= λ x. Ok (t ∷ x.0, x.1)) ≡ with_front (front ++ t ∷ []) read
regroup front t (Ok x) = ap (λ (ts : List SigType). Ok (ts, x.1)) (simp append_assoc)
regroup front t (Err left) = refl

pub goes_on : (slot : Slot) (front : List SigType) (count i : ℕ) (bytes : List ℕ) (t : SigType) (after : List ℕ) (total : Part (List SigType × List ℕ)) → i < count → slot_at slot bytes ≡ Ok (t, after)
    → with_front front (slots_at slot (count - i) bytes) ≡ total → with_front (front ++ t ∷ []) (slots_at slot (count - (i + 1)) after) ≡ total
unfolding slots_at
goes_on slot front count i bytes t after total lt h so_far =
    let k : count - i ≡ suc (count - (i + 1)) = omega arith in
    let one : with_front front (slots_at slot (count - i) bytes) ≡ with_front (front ++ t ∷ []) (slots_at slot (count - (i + 1)) after) = rw (k, h) (regroup front t (slots_at slot (count - (i + 1)) after)) in
    sym one ∙ so_far

pub ends : (slot : Slot) (front : List SigType) (count i : ℕ) (bytes : List ℕ) (left : ℕ) (total : Part (List SigType × List ℕ)) → i < count → slot_at slot bytes ≡ Err left
    → with_front front (slots_at slot (count - i) bytes) ≡ total → total ≡ Err left
unfolding slots_at
ends slot front count i bytes left total lt h so_far =
    let k : count - i ≡ suc (count - (i + 1)) = omega arith in
    let one : with_front front (slots_at slot (count - i) bytes) ≡ Err left = rw (k, h) refl in
    sym so_far ∙ one

pub is_done : (slot : Slot) (front : List SigType) (count i : ℕ) (bytes : List ℕ) (total : Part (List SigType × List ℕ)) → count ≤ i → with_front front (slots_at slot (count - i) bytes) ≡ total → total ≡ Ok (front, bytes)
unfolding slots_at
is_done slot front count i bytes total le so_far =
    let k : count - i ≡ 0 = omega arith in
    let one : with_front front (slots_at slot (count - i) bytes) ≡ Ok (front, bytes) = rw k (ap (λ (ts : List SigType). Ok (ts, bytes)) (append-nil front)) in
    sym so_far ∙ one
