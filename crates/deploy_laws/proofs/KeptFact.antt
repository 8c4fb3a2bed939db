-- The kept fact, at each moment of a deployment.
use Rattle.std.proofs.Common.{◌≡◌, ◌⊎◌, ℕ, ◌+◌, ◌<◌, ◌≤◌, Bool, true, false, not, ◌&&◌, ◌||◌, List, length, refl, sym, ap, subst, ◌∙◌, inl, inr, arith}
use Rattle.std.specs.Prelude.{slice_index, ◌==◌, nat_le}
use Rattle.std.proofs.lemmas.Bool.{or_cases, true≢false}
use Rattle.flash_trait.specs.Flash.{Operation, Program, AreBytes, IsStopped, after}
use Rattle.flash_trait.proofs.FlashContents.{after_stopped}
use Rattle.deploy_model.specs.Banks.{Format, base, BANK_SIZE, ROOM, image_marker, bank_marker, holds, bank_of, bank_bytes, Found, is_set, is_late, old_found, Located, located, choose, locate}
use Rattle.deploy_model.specs.Deployment.{banks_at, banks, Plan, plan_for, eight_zeros, operations}
use Rattle.deploy_model.specs.Moments.{Through, IsKept}
use Rattle.deploy_laws.proofs.Bytes.{same_byte, not_covered, length-after}
use Rattle.deploy_laws.proofs.Markers.{elsewhere, Unmarked, zeroing}
use Rattle.deploy_laws.proofs.Kept.{Kept, Clear, from_zeroing, kept_all, zeroed, through_weaker}
use Rattle.deploy_laws.proofs.Walks.{old_marked}
use Rattle.deploy_laws.proofs.Found.{selected, choose_is, bank_marked, bank_other, front_same}
use Rattle.deploy_laws.proofs.Safety.{old, whole, num, front_ops, back_ops, both_ops, front_clear, back_clear}
use Rattle.deploy_laws.proofs.Whole.{back_stays, late_set}

never : {P : Type 0} (b : Bool) → b ≡ true → b ≡ false → P
never b is not_is = absurd (true≢false (sym is ∙ not_is))

-- bank 0 with the set has another marker
gone_front : (n : ℕ) (set c : List ℕ) → bank_of 0 c ≡ bank_bytes n set → holds image_marker 0 c ≡ false
gone_front n set c done = sym (bank_marked image_marker 0 c (omega arith)) ∙ ap (λ (bytes : List ℕ). holds image_marker 0 bytes) done

kept_front : (p : Plan) (set start c : List ℕ) → p.target ≡ 0 → Kept p.target p.number set start c → holds image_marker 0 c ≡ true → c ≡ start
kept_front p set start c zeroth kept image =
    elim kept.which [
      | inl clear ↦ never (holds image_marker 0 c) image (sym (ap (λ (t : ℕ). holds image_marker (base t) c) zeroth) ∙ clear.image zeroth)
      | inr other ↦
          elim other [
            | inl same ↦ same
            | inr done ↦ never (holds image_marker 0 c) image (gone_front p.number set c (sym (ap (λ (t : ℕ). bank_of t c) zeroth) ∙ done))
          ]
    ]

kept_is : (p : Plan) (set start c : List ℕ) → Kept p.target p.number set start c → IsKept start set p false c
kept_is p set start c kept =
    record {
      size = kept.around.size;
      outside = λ place out _. kept.around.same place out;
      target = λ marked.
          elim kept.which [
            | inl clear ↦ never (holds bank_marker (base p.target) c) marked clear.bank
            | inr other ↦ elim other [ inl same ↦ inl (ap (λ (d : List ℕ). bank_of p.target d) same) | inr done ↦ inr done ]
          ];
      front = λ image where_front. elim where_front [ inl zeroth ↦ kept_front p set start c zeroth kept image | inr late ↦ absurd (true≢false (sym late)) ];
    }

abbrev KeptGoal : List ℕ → List ℕ → Located → Type 0
KeptGoal start set l = Through (IsKept start set (plan_for (banks_at l start)) (l.kind == 2)) (operations (plan_for (banks_at l start)) set) start

abbrev kept_from : List ℕ → List ℕ → Plan → Bool → List Operation → Type 0
kept_from start set p late ops = Through (IsKept start set p late) ops start

front_kept : (set start : List ℕ) (p : Plan) → length set ≤ ROOM → AreBytes set → length start ≡ 262144 → p.target ≡ 0 → p.front ≡ (holds image_marker 0 start || holds bank_marker 0 start) → p.back ≡ false
    → kept_from start set p false (operations p set)
front_kept set start p room bytes size zeroth front back =
    let b = holds image_marker 0 start || holds bank_marker 0 start in
    let all = kept_all p set start (omega arith) room bytes size b
    (λ marked. subst (λ (t : ℕ). (holds image_marker (base t) start ≡ true) ⊎ (holds bank_marker (base t) start ≡ true)) (sym zeroth) (or_cases (holds image_marker 0 start) (holds bank_marker 0 start) marked))
    (λ none. subst (λ (t : ℕ). Clear t start) (sym zeroth) (front_clear start none)) in
    subst (λ (ops : List Operation). kept_from start set p false ops) (sym (front_ops p set b zeroth front back))
    (through_weaker (Kept p.target p.number set start) (IsKept start set p false) (λ c kept. kept_is p set start c kept) (from_zeroing b p set) start all.0)

back_kept : (set start : List ℕ) (p : Plan) → length set ≤ ROOM → AreBytes set → length start ≡ 262144 → p.target ≡ 1 → p.front ≡ false → p.back ≡ holds bank_marker (base 1) start
    → kept_from start set p false (operations p set)
back_kept set start p room bytes size oneth front back =
    let b = holds bank_marker (base 1) start in
    let all = kept_all p set start (omega arith) room bytes size b
    (λ marked. subst (λ (t : ℕ). (holds image_marker (base t) start ≡ true) ⊎ (holds bank_marker (base t) start ≡ true)) (sym oneth) (inr marked))
    (λ none. subst (λ (t : ℕ). Clear t start) (sym oneth) (back_clear start none)) in
    subst (λ (ops : List Operation). kept_from start set p false ops) (sym (back_ops p set b oneth front back))
    (through_weaker (Kept p.target p.number set start) (IsKept start set p false) (λ c kept. kept_is p set start c kept) (from_zeroing b p set) start all.0)

-- behind the zeroing of the front
late_is : (set start front c : List ℕ) (p : Plan) → p.target ≡ 1 → length front ≡ 262144 → ((place : ℕ) → 8 ≤ place → slice_index front place ≡ slice_index start place) → Unmarked 0 front → bank_of 1 front ≡ bank_of 1 start
    → Kept 1 p.number set front c → IsKept start set p true c
late_is set start front c p oneth size same blank back kept =
    let still : bank_of 0 c ≡ bank_of 0 front = bank_other 1 0 front c (omega arith) refl size kept.around in
    let gone : holds image_marker 0 c ≡ false = front_same image_marker front c (omega arith) still ∙ blank.image in
    record {
      size = kept.around.size;
      outside = λ place out far. kept.around.same place (subst (λ (t : ℕ). (place < base t) ⊎ (base t + BANK_SIZE ≤ place)) oneth out) ∙ same place (far refl);
      target = λ marked.
          subst (λ (t : ℕ). (bank_of t c ≡ bank_of t start) ⊎ (bank_of t c ≡ bank_bytes p.number set)) (sym oneth)
          (elim kept.which [
            | inl clear ↦ never (holds bank_marker (base 1) c) (sym (ap (λ (t : ℕ). holds bank_marker (base t) c) oneth) ∙ marked) clear.bank
            | inr other ↦ elim other [ inl is ↦ inl (ap (λ (d : List ℕ). bank_of 1 d) is ∙ back) | inr done ↦ inr done ]
          ]);
      front = λ image where_front. never (holds image_marker 0 c) image gone;
    }

late_kept : (f : Format) (set start : List ℕ) (x : Found) → length set ≤ ROOM → AreBytes set → length start ≡ 262144 → is_late (old f start) ≡ true → KeptGoal start set (located x 2 0 0)
late_kept f set start x room bytes size late =
    let p = plan_for (banks_at (located x 2 0 0) start) in
    let b = holds bank_marker (base 1) start in
    let op = Program 0 eight_zeros in
    let front = after op start in
    let front_size : length front ≡ 262144 = length-after op start ∙ size in
    let blank = zeroed 0 start (omega arith) in
    let marked = elsewhere bank_marker op start front (after_stopped op start) (base 1) (inr (omega arith)) in
    let image = old_marked f start (late_set (old f start) late) in
    let all = kept_all p set front (omega arith) room bytes front_size b (λ is. inr (marked ∙ is)) (λ is. back_clear front (marked ∙ is)) in
    let behind : (d : List ℕ) → IsStopped op start d → (place : ℕ) → 8 ≤ place → slice_index d place ≡ slice_index start place = λ d stopped place far. same_byte op start d stopped place (not_covered op place (inr (omega arith))) in
    subst (λ (ops : List Operation). kept_from start set p true ops) (sym (both_ops p set b refl refl refl)) (
      record { size = size; outside = λ place out far. refl; target = λ marks. inl refl; front = λ is where_front. refl },
      λ d stopped.
          record {
            size = stopped.size ∙ size;
            outside = λ place out far. behind d stopped place (far refl);
            target = λ marks. inl (back_stays start d size stopped);
            front = λ is where_front. elim (zeroing 0 start d (omega arith) stopped (inl image)) [ inl same ↦ same | inr gone ↦ never (holds image_marker 0 d) is gone.image ];
          },
      through_weaker (Kept 1 1 set front) (IsKept start set p true) (λ c kept. late_is set start front c p refl front_size (behind front (after_stopped op start)) blank (back_stays start front size (after_stopped op start)) kept) (from_zeroing b p set) front all.0,
    )

by_selected : (f : Format) (set start : List ℕ) (late first second is_old : Bool) (o a b : Found) (n m : ℕ) → length set ≤ ROOM → AreBytes set → length start ≡ 262144 → is_late (old f start) ≡ late
    → KeptGoal start set (selected late first second is_old o a b n m)
by_selected f set start true first second is_old o a b n m room bytes size late = late_kept f set start o room bytes size late
by_selected f set start false true second is_old o a b n m room bytes size late = back_kept set start (plan_for (banks_at (located a 3 0 n) start)) room bytes size refl refl refl
by_selected f set start false false true is_old o a b n m room bytes size late = front_kept set start (plan_for (banks_at (located b 3 1 m) start)) room bytes size refl refl refl
by_selected f set start false false false true o a b n m room bytes size late = back_kept set start (plan_for (banks_at (located o 1 0 0) start)) room bytes size refl refl refl
by_selected f set start false false false false o a b n m room bytes size late =
    front_kept set start (plan_for (banks_at (located (Rattle.deploy_model.specs.Banks.first_bad o a b) 0 0 0) start)) room bytes size refl refl refl

pub kept_fact : (f : Format) (set start : List ℕ) → length set ≤ ROOM → AreBytes set → length start ≡ 262144
    → Through (IsKept start set (plan_for (banks f start)) ((locate f start).kind == 2)) (operations (plan_for (banks f start)) set) start
kept_fact f set start room bytes size =
    let first = is_set (whole f 0 start) && (not (is_set (whole f 1 start)) || nat_le (num 1 start) (num 0 start)) in
    let e = choose_is (old f start) (whole f 0 start) (whole f 1 start) (num 0 start) (num 1 start) (is_late (old f start)) first (is_set (whole f 1 start)) (is_set (old f start)) refl refl refl refl in
    subst (λ (l : Located). KeptGoal start set l) (sym e)
    (by_selected f set start (is_late (old f start)) first (is_set (whole f 1 start)) (is_set (old f start)) (old f start) (whole f 0 start) (whole f 1 start) (num 0 start) (num 1 start) room bytes size refl)
