-- The whole law of a deployment's operations.
use Rattle.std.proofs.Common.{◌≡◌, ℕ, ◌+◌, ◌<◌, true, false, not, ◌&&◌, ◌||◌, List, length, refl, sym, ap, subst, ◌∙◌, inl, inr, arith}
use Rattle.std.specs.Prelude.{slice_index, nat_le}
use Rattle.std.proofs.lemmas.Bool.{cases_Bool, and_parts, and_cases, or_cases, or_parts, leb-true, leb-false, not-false}
use Rattle.std.proofs.lemmas.List.{ext_get_or}
use Rattle.flash_trait.specs.Flash.{Operation, Program, IsStopped, after}
use Rattle.flash_trait.proofs.FlashContents.{after_stopped}
use Rattle.deploy_model.specs.Banks.{Format, IsFormat, base, BANK_SIZE, LAST_NUMBER, image_marker, bank_marker, holds, bank_of, bank_bytes, set_in, Found, is_set, is_late, old_found, bank_found, Located, located, choose, locate, found}
use Rattle.deploy_model.specs.Deployment.{banks_at, banks, plan_for, is_spent, eight_zeros, after_all}
use Rattle.deploy_model.specs.Moments.{IsDeployable, Safe, Old, New}
use Rattle.deploy_laws.proofs.Bytes.{same_byte, not_covered, length-after}
use Rattle.deploy_laws.proofs.Markers.{elsewhere, Unmarked, zeroing}
use Rattle.deploy_laws.proofs.Kept.{Kept, from_zeroing, kept_all, zeroed, through_weaker, get-bank, length-bank}
use Rattle.deploy_laws.proofs.Walks.{old_marked}
use Rattle.deploy_laws.proofs.Found.{Leads, Trails, choose_late, choose_first, choose_second, choose_old, choose_none, bank_clear, bank_other, front_same}
use Rattle.deploy_laws.proofs.Safety.{old, whole, num, migrated_none, migrated_same, migrated_new, Goal, goal_from, goal_first, goal_second, goal_none, goal_before, both_ops, back_clear}

below_by : (i n m : ℕ) → i < n → n ≡ m → i < m
below_by i n m low e = omega arith

-- the zeroing at the front leaves bank 1
pub back_stays : (c d : List ℕ) → length c ≡ 262144 → IsStopped (Program 0 eight_zeros) c d → bank_of 1 d ≡ bank_of 1 c
back_stays c d size stopped =
    ext_get_or 0 (bank_of 1 d) (bank_of 1 c) (length-bank 1 d (omega arith) (stopped.size ∙ size) ∙ sym (length-bank 1 c (omega arith) size)) (λ i low.
    one i (below_by i (length (bank_of 1 d)) BANK_SIZE low (length-bank 1 d (omega arith) (stopped.size ∙ size))))
  where
    one : (i : ℕ) → i < BANK_SIZE → slice_index (bank_of 1 d) i ≡ slice_index (bank_of 1 c) i
    one i below =
        get-bank 1 d i below ∙ same_byte (Program 0 eight_zeros) c d stopped (base 1 + i) (not_covered (Program 0 eight_zeros) (base 1 + i) (inr (omega arith))) ∙ sym (get-bank 1 c i below)

pub late_set : (x : Found) → is_late x ≡ true → is_set x ≡ true
late_set Rattle.deploy_model.specs.Banks.NoSet late = absurd (cc)
late_set (Rattle.deploy_model.specs.Banks.BadSet at) late = absurd (cc)
late_set (Rattle.deploy_model.specs.Banks.WholeSet images) late = refl

migrates_kept : (f : Format) (set start front c : List ℕ) → IsDeployable f set → length front ≡ 262144 → (locate f start).kind ≡ 2 → Unmarked 0 front → bank_of 1 front ≡ bank_of 1 start
    → Kept 1 1 set front c → Safe f start set 1 c
migrates_kept f set start front c can size kind blank back kept =
    let still : bank_of 0 c ≡ bank_of 0 front = bank_other 1 0 front c (omega arith) refl size kept.around in
    let gone : Unmarked 0 c =
    record {
      image = front_same image_marker front c (omega arith) still ∙ blank.image;
      bank = front_same bank_marker front c (omega arith) still ∙ blank.bank;
    } in
    elim kept.which [
      | inl clear ↦ migrated_none f set start c kind gone (ap is_set (bank_clear f 1 c clear.bank))
      | inr other ↦
          elim other [
            | inl same ↦ migrated_same f set start c kind gone (ap (λ (d : List ℕ). whole f 1 d) same ∙ ap (λ (bytes : List ℕ). bank_found f 1 bytes) back)
            | inr done ↦ New (migrated_new f 1 set c can gone done)
          ]
    ]

-- the format before, ending behind bank 0
goal_late : (f : Format) (set start : List ℕ) → IsDeployable f set → length start ≡ 262144 → is_late (old f start) ≡ true
    → Goal f set start (plan_for (banks_at (located (old f start) 2 0 0) start))
goal_late f set start can size late =
    let p = plan_for (banks_at (located (old f start) 2 0 0) start) in
    let b = holds bank_marker (base 1) start in
    let op = Program 0 eight_zeros in
    let front = after op start in
    let front_size : length front ≡ 262144 = length-after op start ∙ size in
    let kind : (locate f start).kind ≡ 2 = ap (λ (l : Located). l.kind) (choose_late (old f start) (whole f 0 start) (whole f 1 start) (num 0 start) (num 1 start) late) in
    let blank = zeroed 0 start (omega arith) in
    let back = back_stays start front size (after_stopped op start) in
    let marked = elsewhere bank_marker op start front (after_stopped op start) (base 1) (inr (omega arith)) in
    let all = kept_all p set front (omega arith) can.room can.bytes front_size b (λ is. inr (marked ∙ is)) (λ is. back_clear front (marked ∙ is)) in
    let still : bank_of 0 (after_all (from_zeroing b p set) front) ≡ bank_of 0 front = bank_other 1 0 front (after_all (from_zeroing b p set) front) (omega arith) refl front_size all.1 in
    subst (λ (ops : List Operation). goal_from f set start p ops) (sym (both_ops p set b refl refl refl)) (
      (
        Old refl,
        λ d stopped.
            elim (zeroing 0 start d (omega arith) stopped (inl (old_marked f start (late_set (old f start) late)))) [
              | inl same ↦ Old (ap (found f) same)
              | inr gone ↦ migrated_same f set start d kind gone (ap (λ (bytes : List ℕ). bank_found f 1 bytes) (back_stays start d size stopped))
            ],
        through_weaker (Kept 1 1 set front) (Safe f start set 1) (λ c kept. migrates_kept f set start front c can front_size kind blank back kept) (from_zeroing b p set) front all.0,
      ),
      migrated_new f 1 set (after_all (from_zeroing b p set) front) can (record { image = front_same image_marker front (after_all (from_zeroing b p set) front) (omega arith) still ∙ blank.image; bank = front_same bank_marker front (after_all (from_zeroing b p set) front) (omega arith) still ∙ blank.bank }) all.2,
    )

-- ---- every start
moved : (f : Format) (set start : List ℕ) (l : Located) → locate f start ≡ l → Goal f set start (plan_for (banks_at l start)) → Goal f set start (plan_for (banks f start))
moved f set start l e goal = subst (λ (x : Located). Goal f set start (plan_for (banks_at x start))) (sym e) goal

unspent_at : (f : Format) (start : List ℕ) (l : Located) → locate f start ≡ l → is_spent (banks f start) ≡ false → is_spent (banks_at l start) ≡ false
unspent_at f start l e unspent = ap (λ (x : Located). is_spent (banks_at x start)) (sym e) ∙ unspent

pub safe_all : (f : Format) (set start : List ℕ) → IsFormat f → IsDeployable f set → length start ≡ 262144 → is_spent (banks f start) ≡ false → Goal f set start (plan_for (banks f start))
safe_all f set start format can size unspent =
    elim (cases_Bool (is_late (old f start))) [
      | inl late ↦ moved f set start (located (old f start) 2 0 0) (choose_late (old f start) (whole f 0 start) (whole f 1 start) (num 0 start) (num 1 start) late) (goal_late f set start can size late)
      | inr late ↦
          elim (cases_Bool (is_set (whole f 0 start) && (not (is_set (whole f 1 start)) || nat_le (num 1 start) (num 0 start)))) [
            | inl first ↦ by_first late first
            | inr later ↦
                elim (cases_Bool (is_set (whole f 1 start))) [
                  | inl second ↦ by_second late second (trails_from later)
                  | inr none ↦ by_old late none (first_none none later)
                ]
          ]
    ]
  where
    trails_from : (is_set (whole f 0 start) && (not (is_set (whole f 1 start)) || nat_le (num 1 start) (num 0 start))) ≡ false → Trails (whole f 0 start) (whole f 1 start) (num 0 start) (num 1 start)
    trails_from later =
        elim (and_cases (is_set (whole f 0 start)) (not (is_set (whole f 1 start)) || nat_le (num 1 start) (num 0 start)) later) [
          | inl none ↦ inl none
          | inr neither ↦
              let parts = or_parts (not (is_set (whole f 1 start))) (nat_le (num 1 start) (num 0 start)) neither in
              inr (not-false (is_set (whole f 1 start)) parts.0, leb-false (num 1 start) (num 0 start) parts.1)
        ]

    first_none : is_set (whole f 1 start) ≡ false → (is_set (whole f 0 start) && (not (is_set (whole f 1 start)) || nat_le (num 1 start) (num 0 start))) ≡ false → is_set (whole f 0 start) ≡ false
    first_none none later =
        elim (trails_from later) [ inl first ↦ first | inr both ↦ absurd (cc) ]

    by_first : is_late (old f start) ≡ false → (is_set (whole f 0 start) && (not (is_set (whole f 1 start)) || nat_le (num 1 start) (num 0 start))) ≡ true → Goal f set start (plan_for (banks f start))
    by_first late first =
        let parts = and_parts (is_set (whole f 0 start)) (not (is_set (whole f 1 start)) || nat_le (num 1 start) (num 0 start)) first in
        let lead : Leads (whole f 1 start) (num 0 start) (num 1 start) =
        elim (or_cases (not (is_set (whole f 1 start))) (nat_le (num 1 start) (num 0 start)) parts.1) [
          | inl none ↦ inl (Rattle.std.proofs.lemmas.Bool.not-true (is_set (whole f 1 start)) none)
          | inr low ↦ inr (leb-true (num 1 start) (num 0 start) low)
        ] in
        let e = choose_first (old f start) (whole f 0 start) (whole f 1 start) (num 0 start) (num 1 start) late parts.0 lead in
        moved f set start (located (whole f 0 start) 3 0 (num 0 start)) e (goal_second f set start can size (leb-false LAST_NUMBER (num 0 start) (unspent_at f start (located (whole f 0 start) 3 0 (num 0 start)) e unspent)) late parts.0 lead)

    by_second : is_late (old f start) ≡ false → is_set (whole f 1 start) ≡ true → Trails (whole f 0 start) (whole f 1 start) (num 0 start) (num 1 start) → Goal f set start (plan_for (banks f start))
    by_second late second trail =
        let e = choose_second (old f start) (whole f 0 start) (whole f 1 start) (num 0 start) (num 1 start) late second trail in
        moved f set start (located (whole f 1 start) 3 1 (num 1 start)) e (goal_first f set start can size (leb-false LAST_NUMBER (num 1 start) (unspent_at f start (located (whole f 1 start) 3 1 (num 1 start)) e unspent)) late second trail)

    by_old : is_late (old f start) ≡ false → is_set (whole f 1 start) ≡ false → is_set (whole f 0 start) ≡ false → Goal f set start (plan_for (banks f start))
    by_old late second first =
        elim (cases_Bool (is_set (old f start))) [
          | inl is ↦
              moved f set start (located (old f start) 1 0 0) (choose_old (old f start) (whole f 0 start) (whole f 1 start) (num 0 start) (num 1 start) late first second is)
              (goal_before f set start format can size is late first second)
          | inr none ↦
              moved f set start (located (Rattle.deploy_model.specs.Banks.first_bad (old f start) (whole f 0 start) (whole f 1 start)) 0 0 0) (choose_none (old f start) (whole f 0 start) (whole f 1 start) (num 0 start) (num 1 start) none first second)
              (goal_none f set start (Rattle.deploy_model.specs.Banks.first_bad (old f start) (whole f 0 start) (whole f 1 start)) can size none first second)
        ]
