-- The deployment is safe: at each moment the old set or the new one is found.
use Rattle.std.proofs.Common.{◌≡◌, ◌⊎◌, ℕ, ◌+◌, ◌<◌, Bool, true, false, ◌||◌, List, [], ◌∷◌, ◌++◌, length, refl, sym, ap, subst, ◌∙◌, inl, inr, arith}
use Rattle.std.specs.Prelude.{if◌then◌else◌}
use Rattle.std.proofs.lemmas.Bool.{cases_Bool, or_cases, or_parts}
use Rattle.std.proofs.lemmas.List.{append-nil}
use Rattle.flash_trait.specs.Flash.{Operation, Program}
use Rattle.deploy_model.specs.Banks.{Format, IsFormat, base, LAST_NUMBER, image_marker, bank_marker, holds, bank_of, number_in, bank_bytes, set_in, Found, NoSet, is_set, is_late, old_found, bank_found, Located, located, locate, found}
use Rattle.deploy_model.specs.Deployment.{banks_at, Plan, plan_for, eight_zeros, fillings, last_operation, operations, after_all}
use Rattle.deploy_model.specs.Moments.{Through, IsDeployable, Safe, Old, New, StillNone, Migrates}
use Rattle.deploy_laws.proofs.Markers.{Unmarked}
use Rattle.deploy_laws.proofs.Kept.{Around, Clear, Kept, from_zeroing, kept_all, through_weaker}
use Rattle.deploy_laws.proofs.Walks.{old_same, old_none}
use Rattle.deploy_laws.proofs.Found.{early, Leads, Trails, choose_late, choose_first, choose_second, choose_old, choose_none, bad_is_none, bank_clear, bank_whole_marked, bank_placed, number_placed, bank_other, not_both, front_same}

-- what is found of each part
abbrev pub old : Format → List ℕ → Found
old f c = old_found f c

abbrev pub whole : Format → ℕ → List ℕ → Found
whole f bank c = bank_found f bank (bank_of bank c)

abbrev pub num : ℕ → List ℕ → ℕ
num bank c = number_in (bank_of bank c)

-- the target bank at a moment: nothing, as it was, or the new set
data Target (f : Format) (target number : ℕ) (set was c : List ℕ) : Type 0 where
  Blank : whole f target c ≡ NoSet → Target f target number set was c
  Same : c ≡ was → Target f target number set was c
  Done : bank_of target c ≡ bank_bytes number set → Target f target number set was c

target_of_kept : (f : Format) (target number : ℕ) (set was c : List ℕ) → Kept target number set was c → Target f target number set was c
target_of_kept f target number set was c kept =
    elim kept.which [
      | inl clear ↦ Blank (bank_clear f target c clear.bank)
      | inr other ↦ elim other [ inl same ↦ Same same | inr done ↦ Done done ]
    ]

-- the new set stands in its bank
placed_set : (f : Format) (target number : ℕ) (set c : List ℕ) → bank_of target c ≡ bank_bytes number set → whole f target c ≡ set_in f target set
placed_set f target number set c done = ap (λ (bytes : List ℕ). bank_found f target bytes) done ∙ bank_placed f target number set

placed_number : (target number : ℕ) (set c : List ℕ) → number < 4294967296 → bank_of target c ≡ bank_bytes number set → num target c ≡ number
placed_number target number set c small done = ap (λ (bytes : List ℕ). number_in bytes) done ∙ number_placed number set small

-- the front of the flash: the format before gives nothing, or what it gave
abbrev OldStays : Format → List ℕ → List ℕ → Type 0
OldStays f was c = (old f c ≡ NoSet) ⊎ (old f c ≡ old f was)

not_late : (f : Format) (was c : List ℕ) → OldStays f was c → is_late (old f was) ≡ false → is_late (old f c) ≡ false
not_late f was c (inl none) late = ap is_late none
not_late f was c (inr same) late = ap is_late same ∙ late

not_set : (f : Format) (was c : List ℕ) → OldStays f was c → is_set (old f was) ≡ false → is_set (old f c) ≡ false
not_set f was c (inl none) set = ap is_set none
not_set f was c (inr same) set = ap is_set same ∙ set

-- where bank 0 is written, the marker of an image stands at the front only while nothing changed
old_front : (f : Format) (number : ℕ) (set was c : List ℕ) → Kept 0 number set was c → OldStays f was c
old_front f number set was c kept =
    elim kept.which [
      | inl clear ↦ inl (old_none f c (clear.image refl))
      | inr other ↦
          elim other [
            | inl same ↦ inr (ap (old_found f) same)
            | inr done ↦ inl (old_none f c (image_gone number set c done))
          ]
    ]
  where
    image_gone : (n : ℕ) (xs d : List ℕ) → bank_of 0 d ≡ bank_bytes n xs → holds image_marker 0 d ≡ false
    image_gone n xs d done = sym (Rattle.deploy_laws.proofs.Found.bank_marked image_marker 0 d (omega arith)) ∙ ap (λ (bytes : List ℕ). holds image_marker 0 bytes) done

-- where bank 1 is written, bank 0 stays
old_back : (f : Format) (number : ℕ) (set was c : List ℕ) → IsFormat f → length was ≡ 262144 → Kept 1 number set was c → is_set (old f was) ≡ true → is_late (old f was) ≡ false → old f c ≡ old f was
old_back f number set was c format size kept is late =
    old_same f was c format (record { size = kept.around.size ∙ sym size; within = omega arith; same = λ i low. kept.around.same i (inl (omega arith)) }) is late

kept_done : (target number : ℕ) (set was c : List ℕ) → Around target was c → bank_of target c ≡ bank_bytes number set → Kept target number set was c
kept_done target number set was c around done = record { around = around; which = inr (inr done) }

-- ---- bank 0 is written, and bank 1 holds the set that is found
first_new : (f : Format) (number : ℕ) (set was c : List ℕ) → IsDeployable f set → length was ≡ 262144 → number ≡ num 1 was + 1 → number < 4294967296
    → is_late (old f was) ≡ false → Around 0 was c → bank_of 0 c ≡ bank_bytes number set → found f c ≡ set_in f 0 set
first_new f number set was c can size next small late around done =
    let still : bank_of 1 c ≡ bank_of 1 was = bank_other 0 1 was c (omega arith) refl size around in
    let still_number : num 1 c ≡ num 1 was = ap (λ (bytes : List ℕ). number_in bytes) still in
    let late_now = not_late f was c (old_front f number set was c (kept_done 0 number set was c around done)) late in
    let whole_now = placed_set f 0 number set c done in
    let number_now = placed_number 0 number set c small done in
    ap (λ (l : Located). l.found) (choose_first (old f c) (whole f 0 c) (whole f 1 c) (num 0 c) (num 1 c) late_now (ap is_set whole_now ∙ can.whole 0) (inr (omega arith))) ∙ whole_now

first_target : (f : Format) (number : ℕ) (set was c : List ℕ) → IsDeployable f set → length was ≡ 262144 → number ≡ num 1 was + 1 → number < 4294967296
    → is_late (old f was) ≡ false → is_set (whole f 1 was) ≡ true → Trails (whole f 0 was) (whole f 1 was) (num 0 was) (num 1 was)
    → Kept 0 number set was c → Safe f was set 0 c
first_target f number set was c can size next small late is trail kept =
    let before : found f was ≡ whole f 1 was = ap (λ (l : Located). l.found) (choose_second (old f was) (whole f 0 was) (whole f 1 was) (num 0 was) (num 1 was) late is trail) in
    let still : bank_of 1 c ≡ bank_of 1 was = bank_other 0 1 was c (omega arith) refl size kept.around in
    let still_set : whole f 1 c ≡ whole f 1 was = ap (λ (bytes : List ℕ). bank_found f 1 bytes) still in
    let late_now = not_late f was c (old_front f number set was c kept) late in
    elim (target_of_kept f 0 number set was c kept) [
      | Blank none ↦
          Old (ap (λ (l : Located). l.found) (choose_second (old f c) (whole f 0 c) (whole f 1 c) (num 0 c) (num 1 c) late_now (ap is_set still_set ∙ is) (inl (ap is_set none))) ∙ still_set ∙ sym before)
      | Same same ↦ Old (ap (found f) same)
      | Done done ↦
          New (first_new f number set was c can size next small late kept.around done)
    ]

-- ---- bank 1 is written, and bank 0 holds the set that is found
second_new : (f : Format) (number : ℕ) (set was c : List ℕ) → IsDeployable f set → length was ≡ 262144 → number ≡ num 0 was + 1 → number < 4294967296
    → is_set (whole f 0 was) ≡ true → Around 1 was c → bank_of 1 c ≡ bank_bytes number set → found f c ≡ set_in f 1 set
second_new f number set was c can size next small is around done =
    let still : bank_of 0 c ≡ bank_of 0 was = bank_other 1 0 was c (omega arith) refl size around in
    let still_number : num 0 c ≡ num 0 was = ap (λ (bytes : List ℕ). number_in bytes) still in
    let image_gone : holds image_marker 0 c ≡ false = front_same image_marker was c (omega arith) still ∙ not_both 0 was (bank_whole_marked f 0 was is) in
    let late_now : is_late (old f c) ≡ false = ap is_late (old_none f c image_gone) in
    let whole_now = placed_set f 1 number set c done in
    let number_now = placed_number 1 number set c small done in
    ap (λ (l : Located). l.found) (choose_second (old f c) (whole f 0 c) (whole f 1 c) (num 0 c) (num 1 c) late_now (ap is_set whole_now ∙ can.whole 1) (inr (ap is_set whole_now ∙ can.whole 1, omega arith))) ∙ whole_now

second_target : (f : Format) (number : ℕ) (set was c : List ℕ) → IsDeployable f set → length was ≡ 262144 → number ≡ num 0 was + 1 → number < 4294967296
    → is_late (old f was) ≡ false → is_set (whole f 0 was) ≡ true → Leads (whole f 1 was) (num 0 was) (num 1 was)
    → Kept 1 number set was c → Safe f was set 1 c
second_target f number set was c can size next small late is lead kept =
    let before : found f was ≡ whole f 0 was = ap (λ (l : Located). l.found) (choose_first (old f was) (whole f 0 was) (whole f 1 was) (num 0 was) (num 1 was) late is lead) in
    let still : bank_of 0 c ≡ bank_of 0 was = bank_other 1 0 was c (omega arith) refl size kept.around in
    let still_set : whole f 0 c ≡ whole f 0 was = ap (λ (bytes : List ℕ). bank_found f 0 bytes) still in
    let still_number : num 0 c ≡ num 0 was = ap (λ (bytes : List ℕ). number_in bytes) still in
    let image_gone : holds image_marker 0 c ≡ false = front_same image_marker was c (omega arith) still ∙ not_both 0 was (bank_whole_marked f 0 was is) in
    let late_now : is_late (old f c) ≡ false = ap is_late (old_none f c image_gone) in
    elim (target_of_kept f 1 number set was c kept) [
      | Blank none ↦
          Old (ap (λ (l : Located). l.found) (choose_first (old f c) (whole f 0 c) (whole f 1 c) (num 0 c) (num 1 c) late_now (ap is_set still_set ∙ is) (inl (ap is_set none))) ∙ still_set ∙ sym before)
      | Same same ↦ Old (ap (found f) same)
      | Done done ↦
          New (second_new f number set was c can size next small is kept.around done)
    ]

-- ---- no set is found
none_new : (f : Format) (number : ℕ) (set was c : List ℕ) → IsDeployable f set → length was ≡ 262144
    → is_set (old f was) ≡ false → is_set (whole f 1 was) ≡ false → Around 0 was c → bank_of 0 c ≡ bank_bytes number set → found f c ≡ set_in f 0 set
none_new f number set was c can size none second around done =
    let still : bank_of 1 c ≡ bank_of 1 was = bank_other 0 1 was c (omega arith) refl size around in
    let still_none : is_set (whole f 1 c) ≡ false = ap (λ (bytes : List ℕ). is_set (bank_found f 1 bytes)) still ∙ second in
    let old_now = not_set f was c (old_front f number set was c (kept_done 0 number set was c around done)) none in
    let whole_now = placed_set f 0 number set c done in
    ap (λ (l : Located). l.found) (choose_first (old f c) (whole f 0 c) (whole f 1 c) (num 0 c) (num 1 c) (early (old f c) old_now) (ap is_set whole_now ∙ can.whole 0) (inl still_none)) ∙ whole_now

none_target : (f : Format) (number : ℕ) (set was c : List ℕ) → IsDeployable f set → length was ≡ 262144
    → is_set (old f was) ≡ false → is_set (whole f 0 was) ≡ false → is_set (whole f 1 was) ≡ false
    → Kept 0 number set was c → Safe f was set 0 c
none_target f number set was c can size none first second kept =
    let before : is_set (found f was) ≡ false =
    ap (λ (l : Located). is_set l.found) (choose_none (old f was) (whole f 0 was) (whole f 1 was) (num 0 was) (num 1 was) none first second) ∙ bad_is_none (old f was) (whole f 0 was) (whole f 1 was) none first second in
    let still : bank_of 1 c ≡ bank_of 1 was = bank_other 0 1 was c (omega arith) refl size kept.around in
    let still_none : is_set (whole f 1 c) ≡ false = ap (λ (bytes : List ℕ). is_set (bank_found f 1 bytes)) still ∙ second in
    let old_now = not_set f was c (old_front f number set was c kept) none in
    elim (target_of_kept f 0 number set was c kept) [
      | Blank blank ↦
          StillNone before (ap (λ (l : Located). is_set l.found) (choose_none (old f c) (whole f 0 c) (whole f 1 c) (num 0 c) (num 1 c) old_now (ap is_set blank) still_none) ∙ bad_is_none (old f c) (whole f 0 c) (whole f 1 c) old_now (ap is_set blank) still_none)
      | Same same ↦ Old (ap (found f) same)
      | Done done ↦
          New (none_new f number set was c can size none second kept.around done)
    ]

-- ---- the format before, ending in bank 0
before_new : (f : Format) (number : ℕ) (set was c : List ℕ) → IsFormat f → IsDeployable f set → length was ≡ 262144
    → is_set (old f was) ≡ true → is_late (old f was) ≡ false → is_set (whole f 0 was) ≡ false → Around 1 was c → bank_of 1 c ≡ bank_bytes number set → found f c ≡ set_in f 1 set
before_new f number set was c format can size is late first around done =
    let still : bank_of 0 c ≡ bank_of 0 was = bank_other 1 0 was c (omega arith) refl size around in
    let still_none : is_set (whole f 0 c) ≡ false = ap (λ (bytes : List ℕ). is_set (bank_found f 0 bytes)) still ∙ first in
    let old_now : old f c ≡ old f was = old_back f number set was c format size (kept_done 1 number set was c around done) is late in
    let whole_now = placed_set f 1 number set c done in
    ap (λ (l : Located). l.found) (choose_second (old f c) (whole f 0 c) (whole f 1 c) (num 0 c) (num 1 c) (ap is_late old_now ∙ late) (ap is_set whole_now ∙ can.whole 1) (inl still_none)) ∙ whole_now

before_target : (f : Format) (number : ℕ) (set was c : List ℕ) → IsFormat f → IsDeployable f set → length was ≡ 262144
    → is_set (old f was) ≡ true → is_late (old f was) ≡ false → is_set (whole f 0 was) ≡ false → is_set (whole f 1 was) ≡ false
    → Kept 1 number set was c → Safe f was set 1 c
before_target f number set was c format can size is late first second kept =
    let before : found f was ≡ old f was = ap (λ (l : Located). l.found) (choose_old (old f was) (whole f 0 was) (whole f 1 was) (num 0 was) (num 1 was) late first second is) in
    let still : bank_of 0 c ≡ bank_of 0 was = bank_other 1 0 was c (omega arith) refl size kept.around in
    let still_none : is_set (whole f 0 c) ≡ false = ap (λ (bytes : List ℕ). is_set (bank_found f 0 bytes)) still ∙ first in
    let old_now : old f c ≡ old f was = old_back f number set was c format size kept is late in
    elim (target_of_kept f 1 number set was c kept) [
      | Blank blank ↦
          Old (ap (λ (l : Located). l.found) (choose_old (old f c) (whole f 0 c) (whole f 1 c) (num 0 c) (num 1 c) (ap is_late old_now ∙ late) still_none (ap is_set blank) (ap is_set old_now ∙ is)) ∙ old_now ∙ sym before)
      | Same same ↦ Old (ap (found f) same)
      | Done done ↦
          New (before_new f number set was c format can size is late first kept.around done)
    ]

-- ---- the format before, ending behind bank 0: nothing stands at the front any more
pub migrated_none : (f : Format) (set was c : List ℕ) → (locate f was).kind ≡ 2 → Unmarked 0 c → is_set (whole f 1 c) ≡ false → Safe f was set 1 c
migrated_none f set was c kind gone none =
    let o = old_none f c gone.image in
    let a = bank_clear f 0 c gone.bank in
    Migrates kind (inl (ap (λ (l : Located). is_set l.found) (choose_none (old f c) (whole f 0 c) (whole f 1 c) (num 0 c) (num 1 c) (ap is_set o) (ap is_set a) none) ∙ bad_is_none (old f c) (whole f 0 c) (whole f 1 c) (ap is_set o) (ap is_set a) none))

pub migrated_same : (f : Format) (set was c : List ℕ) → (locate f was).kind ≡ 2 → Unmarked 0 c → whole f 1 c ≡ whole f 1 was → Safe f was set 1 c
migrated_same f set was c kind gone same =
    elim (cases_Bool (is_set (whole f 1 c))) [
      | inl is ↦
          let o = old_none f c gone.image in
          let a = bank_clear f 0 c gone.bank in
          Migrates kind (inr (ap (λ (l : Located). l.found) (choose_second (old f c) (whole f 0 c) (whole f 1 c) (num 0 c) (num 1 c) (ap is_late o) is (inl (ap is_set a))) ∙ same))
      | inr none ↦ migrated_none f set was c kind gone none
    ]

pub migrated_new : (f : Format) (number : ℕ) (set c : List ℕ) → IsDeployable f set → Unmarked 0 c → bank_of 1 c ≡ bank_bytes number set → found f c ≡ set_in f 1 set
migrated_new f number set c can gone done =
    let o = old_none f c gone.image in
    let a = bank_clear f 0 c gone.bank in
    let whole_now = placed_set f 1 number set c done in
    ap (λ (l : Located). l.found) (choose_second (old f c) (whole f 0 c) (whole f 1 c) (num 0 c) (num 1 c) (ap is_late o) (ap is_set whole_now ∙ can.whole 1) (inl (ap is_set a))) ∙ whole_now

-- ---- all of it
abbrev pub Goal : Format → List ℕ → List ℕ → Plan → Type 0
Goal f set start p = Through (Safe f start set p.target) (operations p set) start × (found f (after_all (operations p set) start) ≡ set_in f p.target set)

abbrev pub goal_from : Format → List ℕ → List ℕ → Plan → List Operation → Type 0
goal_from f set start p ops = Through (Safe f start set p.target) ops start × (found f (after_all ops start) ≡ set_in f p.target set)

pub front_ops : (p : Plan) (set : List ℕ) (b : Bool) → p.target ≡ 0 → p.front ≡ b → p.back ≡ false → operations p set ≡ from_zeroing b p set
unfolding operations
front_ops p set b zero_target front back =
    ap (λ (z : List Operation). z ++ fillings p set ++ last_operation p ∷ [])
    (ap (λ (x : Bool). (if p.front then Program 0 eight_zeros ∷ [] else []) ++ (if x then Program (base 1) eight_zeros ∷ [] else [])) back
    ∙ append-nil (if p.front then Program 0 eight_zeros ∷ [] else [])
    ∙ ap (λ (x : Bool). if x then Program 0 eight_zeros ∷ [] else []) front
    ∙ ap (λ (t : ℕ). if b then Program (base t) eight_zeros ∷ [] else []) (sym zero_target))

pub back_ops : (p : Plan) (set : List ℕ) (b : Bool) → p.target ≡ 1 → p.front ≡ false → p.back ≡ b → operations p set ≡ from_zeroing b p set
unfolding operations
back_ops p set b one_target front back =
    ap (λ (z : List Operation). z ++ fillings p set ++ last_operation p ∷ [])
    (ap (λ (x : Bool). (if x then Program 0 eight_zeros ∷ [] else []) ++ (if p.back then Program (base 1) eight_zeros ∷ [] else [])) front
    ∙ ap (λ (x : Bool). if x then Program (base 1) eight_zeros ∷ [] else []) back
    ∙ ap (λ (t : ℕ). if b then Program (base t) eight_zeros ∷ [] else []) (sym one_target))

pub both_ops : (p : Plan) (set : List ℕ) (b : Bool) → p.target ≡ 1 → p.front ≡ true → p.back ≡ b → operations p set ≡ Program 0 eight_zeros ∷ from_zeroing b p set
unfolding operations
both_ops p set b one_target front back =
    ap (λ (z : List Operation). z ++ fillings p set ++ last_operation p ∷ [])
    (ap (λ (x : Bool). (if x then Program 0 eight_zeros ∷ [] else []) ++ (if p.back then Program (base 1) eight_zeros ∷ [] else [])) front
    ∙ ap (λ (x : Bool). Program 0 eight_zeros ∷ (if x then Program (base 1) eight_zeros ∷ [] else [])) back
    ∙ ap (λ (t : ℕ). Program 0 eight_zeros ∷ (if b then Program (base t) eight_zeros ∷ [] else [])) (sym one_target))

pub front_clear : (c : List ℕ) → (holds image_marker 0 c || holds bank_marker 0 c) ≡ false → Clear 0 c
front_clear c none = let parts = or_parts (holds image_marker 0 c) (holds bank_marker 0 c) none in record { bank = parts.1; image = λ e. parts.0 }

pub back_clear : (c : List ℕ) → holds bank_marker (base 1) c ≡ false → Clear 1 c
back_clear c none = record { bank = none; image = λ e. absurd (omega arith) }

-- bank 1 holds the set that is found
pub goal_first : (f : Format) (set start : List ℕ) → IsDeployable f set → length start ≡ 262144 → num 1 start < LAST_NUMBER
    → is_late (old f start) ≡ false → is_set (whole f 1 start) ≡ true → Trails (whole f 0 start) (whole f 1 start) (num 0 start) (num 1 start)
    → Goal f set start (plan_for (banks_at (located (whole f 1 start) 3 1 (num 1 start)) start))
goal_first f set start can size unspent late is trail =
    let p = plan_for (banks_at (located (whole f 1 start) 3 1 (num 1 start)) start) in
    let b = holds image_marker 0 start || holds bank_marker 0 start in
    let all = kept_all p set start (omega arith) can.room can.bytes size b (λ marked. or_cases (holds image_marker 0 start) (holds bank_marker 0 start) marked) (front_clear start) in
    subst (λ (ops : List Operation). goal_from f set start p ops) (sym (front_ops p set b refl refl refl)) (
      through_weaker (Kept 0 p.number set start) (Safe f start set 0) (λ c kept. first_target f p.number set start c can size refl (omega arith) late is trail kept) (from_zeroing b p set) start all.0,
      first_new f p.number set start (after_all (from_zeroing b p set) start) can size refl (omega arith) late all.1 all.2,
    )

-- bank 0 holds the set that is found
pub goal_second : (f : Format) (set start : List ℕ) → IsDeployable f set → length start ≡ 262144 → num 0 start < LAST_NUMBER
    → is_late (old f start) ≡ false → is_set (whole f 0 start) ≡ true → Leads (whole f 1 start) (num 0 start) (num 1 start)
    → Goal f set start (plan_for (banks_at (located (whole f 0 start) 3 0 (num 0 start)) start))
goal_second f set start can size unspent late is lead =
    let p = plan_for (banks_at (located (whole f 0 start) 3 0 (num 0 start)) start) in
    let b = holds bank_marker (base 1) start in
    let all = kept_all p set start (omega arith) can.room can.bytes size b (λ marked. inr marked) (back_clear start) in
    subst (λ (ops : List Operation). goal_from f set start p ops) (sym (back_ops p set b refl refl refl)) (
      through_weaker (Kept 1 p.number set start) (Safe f start set 1) (λ c kept. second_target f p.number set start c can size refl (omega arith) late is lead kept) (from_zeroing b p set) start all.0,
      second_new f p.number set start (after_all (from_zeroing b p set) start) can size refl (omega arith) is all.1 all.2,
    )

-- no set is found
pub goal_none : (f : Format) (set start : List ℕ) (x : Found) → IsDeployable f set → length start ≡ 262144
    → is_set (old f start) ≡ false → is_set (whole f 0 start) ≡ false → is_set (whole f 1 start) ≡ false
    → Goal f set start (plan_for (banks_at (located x 0 0 0) start))
goal_none f set start x can size none first second =
    let p = plan_for (banks_at (located x 0 0 0) start) in
    let b = holds image_marker 0 start || holds bank_marker 0 start in
    let all = kept_all p set start (omega arith) can.room can.bytes size b (λ marked. or_cases (holds image_marker 0 start) (holds bank_marker 0 start) marked) (front_clear start) in
    subst (λ (ops : List Operation). goal_from f set start p ops) (sym (front_ops p set b refl refl refl)) (
      through_weaker (Kept 0 1 set start) (Safe f start set 0) (λ c kept. none_target f 1 set start c can size none first second kept) (from_zeroing b p set) start all.0,
      none_new f 1 set start (after_all (from_zeroing b p set) start) can size none second all.1 all.2,
    )

-- the format before, ending in bank 0
pub goal_before : (f : Format) (set start : List ℕ) → IsFormat f → IsDeployable f set → length start ≡ 262144
    → is_set (old f start) ≡ true → is_late (old f start) ≡ false → is_set (whole f 0 start) ≡ false → is_set (whole f 1 start) ≡ false
    → Goal f set start (plan_for (banks_at (located (old f start) 1 0 0) start))
goal_before f set start format can size is late first second =
    let p = plan_for (banks_at (located (old f start) 1 0 0) start) in
    let b = holds bank_marker (base 1) start in
    let all = kept_all p set start (omega arith) can.room can.bytes size b (λ marked. inr marked) (back_clear start) in
    subst (λ (ops : List Operation). goal_from f set start p ops) (sym (back_ops p set b refl refl refl)) (
      through_weaker (Kept 1 1 set start) (Safe f start set 1) (λ c kept. before_target f 1 set start c format can size is late first second kept) (from_zeroing b p set) start all.0,
      before_new f 1 set start (after_all (from_zeroing b p set) start) format can size is late first all.1 all.2,
    )
