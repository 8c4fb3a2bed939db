-- The content after all operations of a deployment.
use Rattle.std.proofs.Common.{◌≡◌, ◌⊎◌, ℕ, ◌+◌, ◌-◌, ◌<◌, ◌≤◌, min, Bool, true, false, not, ◌&&◌, ◌||◌, List, ◌++◌, length, take, drop, refl, sym, ap, subst, ◌∙◌, inl, inr, arith}
use Rattle.std.specs.Prelude.{slice_index, bit_and, ◌==◌, nat_le}
use Rattle.std.proofs.lemmas.Bool.{or_cases, cases_lt}
use Rattle.std.proofs.lemmas.List.{length-take, length-drop, length-append, get_or-take, get_or-drop, get_or_append_left, get_or-append_right, ext_get_or, take-append-drop, append_assoc}
use Rattle.std.specs.Int.Bits.{and_zero_r}
use Rattle.flash_trait.specs.Flash.{Operation, Program, AreBytes, after}
use Rattle.flash_trait.proofs.FlashContents.{after_stopped}
use Rattle.deploy_model.specs.Banks.{Format, base, BANK_SIZE, ROOM, image_marker, bank_marker, holds, bank_of, bank_bytes, placed, Found, is_set, is_late, Located, located, locate, first_bad}
use Rattle.deploy_model.specs.Deployment.{banks_at, banks, Plan, plan_for, eight_zeros, given_way, operations, after_all}
use Rattle.deploy_laws.proofs.Bytes.{length-after, get-after_in}
use Rattle.deploy_laws.proofs.Filling.{after_out}
use Rattle.deploy_laws.proofs.Markers.{elsewhere}
use Rattle.deploy_laws.proofs.Kept.{Around, Clear, from_zeroing, kept_all}
use Rattle.deploy_laws.proofs.Found.{selected, choose_is}
use Rattle.deploy_laws.proofs.Safety.{old, whole, num, front_ops, back_ops, both_ops, front_clear, back_clear}

-- ---- three parts of a content
below_by : (i n m : ℕ) → i < n → n ≡ m → i < m
below_by i n m low e = omega arith

front_same : (n : ℕ) (c d : List ℕ) → length c ≡ length d → ((i : ℕ) → i < n → slice_index c i ≡ slice_index d i) → take n c ≡ take n d
front_same n c d size same =
    ext_get_or 0 (take n c) (take n d) (length-take n c ∙ ap (λ (m : ℕ). min n m) size ∙ sym (length-take n d)) (λ i low.
    let inside = cut_low i n (length c) (below_by i (length (take n c)) (min n (length c)) low (length-take n c)) in
    get_or-take n c i 0 inside ∙ same i inside ∙ sym (get_or-take n d i 0 inside))
  where
    cut_low : (i m k : ℕ) → i < min m k → i < m
    cut_low i m k low = omega arith

back_same : (n : ℕ) (c d : List ℕ) → length c ≡ length d → ((i : ℕ) → n ≤ i → slice_index c i ≡ slice_index d i) → drop n c ≡ drop n d
back_same n c d size same =
    ext_get_or 0 (drop n c) (drop n d) (length-drop n c ∙ ap (λ (m : ℕ). m - n) size ∙ sym (length-drop n d)) (λ i low.
    get_or-drop n c i 0 ∙ same (n + i) (past n i) ∙ sym (get_or-drop n d i 0))
  where
    past : (m i : ℕ) → m ≤ m + i
    past m i = omega arith

drop_drop : (n m : ℕ) (c : List ℕ) → drop m (drop n c) ≡ drop (n + m) c
drop_drop n m c =
    ext_get_or 0 (drop m (drop n c)) (drop (n + m) c) (length-drop m (drop n c) ∙ ap (λ (k : ℕ). k - m) (length-drop n c) ∙ less (length c) n m ∙ sym (length-drop (n + m) c)) (λ i low.
    get_or-drop m (drop n c) i 0 ∙ get_or-drop n c (m + i) 0 ∙ ap (λ (k : ℕ). slice_index c k) (more n m i) ∙ sym (get_or-drop (n + m) c i 0))
  where
    less : (k a b : ℕ) → k - a - b ≡ k - (a + b)
    less k a b = omega arith

    more : (a b i : ℕ) → a + (b + i) ≡ a + b + i
    more a b i = omega arith

parts_of : (bank : ℕ) (c : List ℕ) → c ≡ take (base bank) c ++ bank_of bank c ++ drop (base bank + BANK_SIZE) c
parts_of bank c =
    sym (take-append-drop (base bank) c)
    ∙ ap (λ (xs : List ℕ). take (base bank) c ++ xs) (sym (take-append-drop BANK_SIZE (drop (base bank) c)) ∙ ap (λ (xs : List ℕ). bank_of bank c ++ xs) (drop_drop (base bank) BANK_SIZE c))
    ∙ sym (append_assoc (take (base bank) c) (bank_of bank c) (drop (base bank + BANK_SIZE) c))

-- what stays around a bank that holds the set
placed_is : (bank n : ℕ) (set was c : List ℕ) → length was ≡ 262144 → Around bank was c → bank_of bank c ≡ bank_bytes n set → c ≡ placed was bank n set
placed_is bank n set was c size around done =
    let same_size : length c ≡ length was = around.size ∙ sym size in
    parts_of bank c
    ∙ ap (λ (xs : List ℕ). xs ++ bank_of bank c ++ drop (base bank + BANK_SIZE) c) (front_same (base bank) c was same_size (λ i low. around.same i (inl low)))
    ∙ ap (λ (xs : List ℕ). take (base bank) was ++ xs ++ drop (base bank + BANK_SIZE) c) done
    ∙ ap (λ (xs : List ℕ). take (base bank) was ++ bank_bytes n set ++ xs) (back_same (base bank + BANK_SIZE) c was same_size (λ i past. around.same i (inr past)))

-- ---- by what the start has
abbrev Placed : List ℕ → List ℕ → Plan → Bool → Type 0
Placed start set p late = after_all (operations p set) start ≡ placed (given_way late start) p.target p.number set

abbrev At : List ℕ → List ℕ → Located → Type 0
At start set l = Placed start set (plan_for (banks_at l start)) (l.kind == 2)

front_placed : (set start : List ℕ) (p : Plan) → length set ≤ ROOM → AreBytes set → length start ≡ 262144 → p.target ≡ 0 → p.front ≡ (holds image_marker 0 start || holds bank_marker 0 start) → p.back ≡ false → Placed start set p false
front_placed set start p room bytes size zeroth front back =
    let b = holds image_marker 0 start || holds bank_marker 0 start in
    let all = kept_all p set start (omega arith) room bytes size b
    (λ marked. subst (λ (t : ℕ). (holds image_marker (base t) start ≡ true) ⊎ (holds bank_marker (base t) start ≡ true)) (sym zeroth) (or_cases (holds image_marker 0 start) (holds bank_marker 0 start) marked))
    (λ none. subst (λ (t : ℕ). Clear t start) (sym zeroth) (front_clear start none)) in
    ap (λ (ops : List Operation). after_all ops start) (front_ops p set b zeroth front back)
    ∙ placed_is p.target p.number set start (after_all (from_zeroing b p set) start) size all.1 all.2

back_placed : (set start : List ℕ) (p : Plan) → length set ≤ ROOM → AreBytes set → length start ≡ 262144 → p.target ≡ 1 → p.front ≡ false → p.back ≡ holds bank_marker (base 1) start → Placed start set p false
back_placed set start p room bytes size oneth front back =
    let b = holds bank_marker (base 1) start in
    let all = kept_all p set start (omega arith) room bytes size b
    (λ marked. subst (λ (t : ℕ). (holds image_marker (base t) start ≡ true) ⊎ (holds bank_marker (base t) start ≡ true)) (sym oneth) (inr marked))
    (λ none. subst (λ (t : ℕ). Clear t start) (sym oneth) (back_clear start none)) in
    ap (λ (ops : List Operation). after_all ops start) (back_ops p set b oneth front back)
    ∙ placed_is p.target p.number set start (after_all (from_zeroing b p set) start) size all.1 all.2

-- the zeroing at the front
zeroed_front : (c : List ℕ) → 8 ≤ length c → after (Program 0 eight_zeros) c ≡ eight_zeros ++ drop 8 c
zeroed_front c long =
    ext_get_or 0 (after op c) (eight_zeros ++ drop 8 c) (length-after op c ∙ whole_length (length c) (length (eight_zeros ++ drop 8 c)) long (length-append eight_zeros (drop 8 c) ∙ ap (λ (n : ℕ). 8 + n) (length-drop 8 c))) (λ i low.
    elim (cases_lt i 8) [
      | inl first ↦
          let e : 0 + i ≡ i = omega arith in
          ap (λ (n : ℕ). slice_index (after op c) n) (sym e)
          ∙ get-after_in op c i (omega arith) first ∙ ap (λ (n : ℕ). bit_and (slice_index c (0 + i)) n) (zeros i first) ∙ and_zero_r (slice_index c (0 + i))
          ∙ sym (zeros i first) ∙ sym (get_or_append_left eight_zeros (drop 8 c) 0 i first)
      | inr behind ↦
          let inside : i < length c = below_by i (length (after op c)) (length c) low (length-after op c) in
          let e : 8 + (i - 8) ≡ i = omega arith in
          after_out op c i inside (inr behind)
          ∙ ap (λ (n : ℕ). slice_index c n) (sym e) ∙ sym (get_or-drop 8 c (i - 8) 0) ∙ sym (get_or-append_right eight_zeros (drop 8 c) 8 i 0 refl behind)
    ])
  where
    op : Operation
    op = Program 0 eight_zeros

    whole_length : (n m : ℕ) → 8 ≤ n → m ≡ 8 + (n - 8) → n ≡ m
    whole_length n m few e = omega arith

    zeros : (i : ℕ) → i < 8 → slice_index eight_zeros i ≡ 0
    zeros i low = Rattle.std.proofs.lemmas.List.get_or-replicate 8 i 0 0 low

late_placed : (set start : List ℕ) (x : Found) → length set ≤ ROOM → AreBytes set → length start ≡ 262144 → At start set (located x 2 0 0)
late_placed set start x room bytes size =
    let p = plan_for (banks_at (located x 2 0 0) start) in
    let b = holds bank_marker (base 1) start in
    let op = Program 0 eight_zeros in
    let front = after op start in
    let front_size : length front ≡ 262144 = length-after op start ∙ size in
    let marked = elsewhere bank_marker op start front (after_stopped op start) (base 1) (inr (omega arith)) in
    let all = kept_all p set front (omega arith) room bytes front_size b (λ is. inr (marked ∙ is)) (λ is. back_clear front (marked ∙ is)) in
    ap (λ (ops : List Operation). after_all ops start) (both_ops p set b refl refl refl)
    ∙ placed_is 1 1 set front (after_all (from_zeroing b p set) front) front_size all.1 all.2
    ∙ ap (λ (c : List ℕ). placed c 1 1 set) (zeroed_front start (omega arith))

by_selected : (f : Format) (set start : List ℕ) (late first second is_old : Bool) (o a b : Found) (n m : ℕ) → length set ≤ ROOM → AreBytes set → length start ≡ 262144 → At start set (selected late first second is_old o a b n m)
by_selected f set start true first second is_old o a b n m room bytes size = late_placed set start o room bytes size
by_selected f set start false true second is_old o a b n m room bytes size = back_placed set start (plan_for (banks_at (located a 3 0 n) start)) room bytes size refl refl refl
by_selected f set start false false true is_old o a b n m room bytes size = front_placed set start (plan_for (banks_at (located b 3 1 m) start)) room bytes size refl refl refl
by_selected f set start false false false true o a b n m room bytes size = back_placed set start (plan_for (banks_at (located o 1 0 0) start)) room bytes size refl refl refl
by_selected f set start false false false false o a b n m room bytes size = front_placed set start (plan_for (banks_at (located (first_bad o a b) 0 0 0) start)) room bytes size refl refl refl

pub all_placed : (f : Format) (set start : List ℕ) → length set ≤ ROOM → AreBytes set → length start ≡ 262144
    → after_all (operations (plan_for (banks f start)) set) start ≡ placed (given_way ((locate f start).kind == 2) start) (plan_for (banks f start)).target (plan_for (banks f start)).number set
all_placed f set start room bytes size =
    let first = is_set (whole f 0 start) && (not (is_set (whole f 1 start)) || nat_le (num 1 start) (num 0 start)) in
    let e = choose_is (old f start) (whole f 0 start) (whole f 1 start) (num 0 start) (num 1 start) (is_late (old f start)) first (is_set (whole f 1 start)) (is_set (old f start)) refl refl refl refl in
    subst (λ (l : Located). At start set l) (sym e)
    (by_selected f set start (is_late (old f start)) first (is_set (whole f 1 start)) (is_set (old f start)) (old f start) (whole f 0 start) (whole f 1 start) (num 0 start) (num 1 start) room bytes size)
