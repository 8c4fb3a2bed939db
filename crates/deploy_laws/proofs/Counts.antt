-- How many operations a deployment has.
use Rattle.std.proofs.Common.{◌≡◌, ℕ, zero, suc, ◌+◌, ◌*◌, ◌/◌, ◌<◌, ◌≤◌, Bool, true, false, List, [], ◌∷◌, ◌++◌, length, Some, None, arith}
use Rattle.std.specs.Prelude.{slice_get, if◌then◌else◌}
use Rattle.std.proofs.lemmas.List.{length-append}
use Rattle.std.proofs.lemmas.List.FromFn.{length-map-range_with_len}
use Rattle.flash_trait.specs.Flash.{Program, Erase}
use Rattle.deploy_model.specs.Banks.{ROOM, base, number_bytes}
use Rattle.deploy_model.specs.Deployment.{Plan, operations, zeroings, fillings, erases, pieces, piece, piece_count, last_operation, eight_zeros}

pub get_inside : {X : Type 0} (xs : List X) (i : ℕ) (x : X) → slice_get xs i ≡ Some x → i < length xs
get_inside [] i x is = absurd (cc)
get_inside (y ∷ ys) zero x is = omega arith
get_inside (y ∷ ys) (suc i) x is = let h = get_inside ys i x is in omega arith

pub get_outside : {X : Type 0} (xs : List X) (i : ℕ) → slice_get xs i ≡ None → length xs ≤ i
get_outside [] i is = omega arith
get_outside (y ∷ ys) zero is = absurd (cc)
get_outside (y ∷ ys) (suc i) is = let h = get_outside ys i is in omega arith

few_zeroings : (p : Plan) → length (zeroings p) ≤ 2
few_zeroings p = by p.front p.back
  where
    by : (a b : Bool) → length ((if a then Program 0 eight_zeros ∷ [] else []) ++ (if b then Program (base 1) eight_zeros ∷ [] else [])) ≤ 2
    by true true = omega arith
    by true false = omega arith
    by false true = omega arith
    by false false = omega arith

pub few_operations : (p : Plan) (set : List ℕ) → length set ≤ ROOM → length (operations p set) ≤ 140
unfolding operations
few_operations p set room =
    let last = last_operation p ∷ [] in
    let number = Program (base p.target + 8) (number_bytes p.number) ∷ [] in
    let a = length-append (zeroings p ++ fillings p set) last in
    let b = length-append (zeroings p) (fillings p set) in
    let c = length-append (erases p.target ++ pieces p.target set) number in
    let d = length-append (erases p.target) (pieces p.target set) in
    let e : length (erases p.target) ≡ 15 = length-map-range_with_len (λ (k : ℕ). Erase (16 * p.target + k)) 0 15 in
    let f : length (pieces p.target set) ≡ piece_count set = length-map-range_with_len (piece p.target set) 0 (piece_count set) in
    let g : piece_count set ≤ 121 = count_low (length set) room in
    let h = few_zeroings p in
    sum_low (length (zeroings p ++ fillings p set ++ last_operation p ∷ [])) (length (zeroings p ++ fillings p set)) (length (zeroings p)) (length (fillings p set)) (length (erases p.target ++ pieces p.target set)) (length (erases p.target)) (length (pieces p.target set)) (piece_count set) a b c d e f g h
  where
    count_low : (m : ℕ) → m ≤ 122864 → (m + 1015) / 1016 ≤ 121
    count_low m low = omega arith

    sum_low : (t u v w x y z k : ℕ) → t ≡ u + 1 → u ≡ v + w → w ≡ x + 1 → x ≡ y + z → y ≡ 15 → z ≡ k → k ≤ 121 → v ≤ 2 → t ≤ 140
    sum_low t u v w x y z k e1 e2 e3 e4 e5 e6 l1 l2 = omega arith

pub some_operations : (p : Plan) (set : List ℕ) → 1 ≤ length (operations p set)
unfolding operations
some_operations p set =
    let a = length-append (zeroings p ++ fillings p set) (last_operation p ∷ []) in omega arith
