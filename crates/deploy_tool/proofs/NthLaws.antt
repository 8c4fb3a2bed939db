-- The list of operations, and their numbers.
use Rattle.std.proofs.Common.{◌≡◌, ℕ, zero, suc, ◌+◌, ◌-◌, ◌*◌, ◌/◌, ◌<◌, ◌≤◌, Bool, true, false, ◌&&◌, List, [], ◌∷◌, ◌++◌, length, map, take, drop, min, Option, Some, None, refl, sym, ap, ◌∙◌, inl, inr, arith}
use Rattle.std.specs.Prelude.{slice_get, option_map, if◌then◌else◌, nat_lt, ◌==◌}
use Rattle.std.specs.List.{range_with_len}
use Rattle.std.proofs.lemmas.Bool.{cases_lt, lt-ltb, le-ltb, ltb-true, ne_eqb}
use Rattle.std.proofs.lemmas.List.FromFn.{length-map-range_with_len}
use Rattle.std.proofs.lemmas.List.{length-drop, append_assoc, take_min}
use Rattle.flash_trait.specs.Flash.{Operation, Program, Erase}
use Rattle.deploy_model.specs.Banks.{base, number_bytes}
use Rattle.deploy_model.specs.Deployment.{Plan, Next, Deploying, IsDeployed, asks_operation, asks_nth, zeroings, erases, pieces, piece, piece_count, last_operation, operations, eight_zeros}
use Rattle.deploy_tool.specs.declared.step.Step.{Step}
use Rattle.deploy_tool.specs.Steps.{next_view}
use Rattle.deploy_tool.specs.Nth.{zeroing_count, nth_end, nth_piece, nth_zeroing, nth, asks_of}

-- reading of joined lists
get_append : {X : Type 0} (xs ys : List X) (i n : ℕ) → length xs ≡ n → slice_get (xs ++ ys) i ≡ (if nat_lt i n then slice_get xs i else slice_get ys (i - n))
get_append {X} [] ys i n size =
    let t : nat_lt i n ≡ false = le-ltb i n (omega arith) in
    let e : i - n ≡ i = omega arith in
    sym (ap (λ (b : Bool). if b then slice_get {X = X} [] i else slice_get ys (i - n)) t ∙ ap (λ (k : ℕ). slice_get ys k) e)
get_append (x ∷ xs) ys zero n size = let t : nat_lt 0 n ≡ true = lt-ltb 0 n (omega arith) in rw t refl
get_append (x ∷ xs) ys (suc i) n size =
    let e : n - 1 + 1 ≡ n = omega arith in
    let f : suc i - n ≡ i - (n - 1) = omega arith in
    get_append xs ys i (n - 1) (omega arith) ∙ same_test i n (omega arith) ∙ ap (λ (k : ℕ). if nat_lt (suc i) n then slice_get xs i else slice_get ys k) (sym f)
  where
    same_test : (j m : ℕ) → 1 ≤ m → (if nat_lt j (m - 1) then slice_get xs i else slice_get ys (i - (n - 1))) ≡ (if nat_lt (suc j) m then slice_get xs i else slice_get ys (i - (n - 1)))
    same_test j m some =
        elim (cases_lt j (m - 1)) [
          | inl low ↦ let a : nat_lt j (m - 1) ≡ true = lt-ltb j (m - 1) low in let b : nat_lt (suc j) m ≡ true = lt-ltb (suc j) m (omega arith) in rw (a, b) refl
          | inr high ↦ let a : nat_lt j (m - 1) ≡ false = le-ltb j (m - 1) high in let b : nat_lt (suc j) m ≡ false = le-ltb (suc j) m (omega arith) in rw (a, b) refl
        ]

get_range : (f : ℕ → Operation) (a n i : ℕ) → i < n → slice_get (map f (range_with_len a n)) i ≡ Some (f (a + i))
get_range f a zero i low = absurd (omega arith)
get_range f a (suc n) zero low = let e : a + 0 ≡ a = omega arith in rw e refl
get_range f a (suc n) (suc i) low = let e : a + 1 + i ≡ a + suc i = omega arith in get_range f (a + 1) n i (omega arith) ∙ ap (λ (k : ℕ). Some (f k)) e

get_from : (f : ℕ → Operation) (n i : ℕ) (other : Option Operation) → (if nat_lt i n then slice_get (map f (range_with_len 0 n)) i else other) ≡ (if nat_lt i n then Some (f i) else other)
get_from f n i other =
    elim (cases_lt i n) [
      | inl low ↦ let e : 0 + i ≡ i = omega arith in let t : nat_lt i n ≡ true = lt-ltb i n low in rw t (get_range f 0 n i low ∙ ap (λ (k : ℕ). Some (f k)) e)
      | inr high ↦ let t : nat_lt i n ≡ false = le-ltb i n high in rw t refl
    ]

-- ---- the operations by their numbers
length-zeroings : (p : Plan) → length (zeroings p) ≡ zeroing_count p
length-zeroings p = by (p.front) (p.back)
  where
    by : (a b : Bool) → length ((if a then Program 0 eight_zeros ∷ [] else []) ++ (if b then Program (base 1) eight_zeros ∷ [] else [])) ≡ (if a then 1 else 0) + (if b then 1 else 0)
    by true true = refl
    by true false = refl
    by false true = refl
    by false false = refl

same_if : (b : Bool) (x y other : Option Operation) → (b ≡ true → x ≡ y) → (if b then x else other) ≡ (if b then y else other)
same_if true x y other same = same refl
same_if false x y other same = refl

get-zeroing : (p : Plan) (i : ℕ) (other : Option Operation) → (if nat_lt i (zeroing_count p) then slice_get (zeroings p) i else other) ≡ (if nat_lt i (zeroing_count p) then Some (nth_zeroing p i) else other)
get-zeroing p i other =
    same_if (nat_lt i (zeroing_count p)) (slice_get (zeroings p) i) (Some (nth_zeroing p i)) other (λ low. by p.front p.back i (ltb-true i (zeroing_count p) low))
  where
    by : (a b : Bool) (j : ℕ) → j < (if a then 1 else 0) + (if b then 1 else 0)
        → slice_get ((if a then Program 0 eight_zeros ∷ [] else []) ++ (if b then Program (base 1) eight_zeros ∷ [] else [])) j ≡ Some (Program (if (j == 0) && a then 0 else base 1) eight_zeros)
    by true true zero low = refl
    by true true (suc zero) low = refl
    by true true (suc (suc j)) low = absurd (omega arith)
    by true false zero low = refl
    by true false (suc j) low = absurd (omega arith)
    by false true zero low = refl
    by false true (suc j) low = absurd (omega arith)
    by false false j low = absurd (omega arith)

get-last : (p : Plan) (k : ℕ) → slice_get (Program (base p.target + 8) (number_bytes p.number) ∷ last_operation p ∷ []) k ≡ nth_end p k
get-last p zero = refl
get-last p (suc zero) = refl
get-last p (suc (suc k)) =
    sym (ap (λ (b : Bool). if b then Some (Program (base p.target + 8) (number_bytes p.number)) else (if suc (suc k) == 1 then Some (last_operation p) else None)) (ne_eqb (suc (suc k)) 0 (λ h. omega arith))
    ∙ ap (λ (b : Bool). if b then Some (last_operation p) else None) (ne_eqb (suc (suc k)) 1 (λ h. omega arith)))

split : (p : Plan) (set : List ℕ) → operations p set ≡ zeroings p ++ (erases p.target ++ (pieces p.target set ++ (Program (base p.target + 8) (number_bytes p.number) ∷ last_operation p ∷ [])))
unfolding operations
split p set =
    let number = Program (base p.target + 8) (number_bytes p.number) ∷ [] in
    let last = last_operation p ∷ [] in
    append_assoc (zeroings p) (erases p.target ++ pieces p.target set ++ number) last
    ∙ ap (λ (z : List Operation). zeroings p ++ z)
    (append_assoc (erases p.target ++ pieces p.target set) number last ∙ append_assoc (erases p.target) (pieces p.target set) (number ++ last))

pub nth_is : (p : Plan) (set : List ℕ) (i : ℕ) → slice_get (operations p set) i ≡ nth p set i
unfolding nth
nth_is p set i =
    let ends = Program (base p.target + 8) (number_bytes p.number) ∷ last_operation p ∷ [] in
    let z = zeroing_count p in
    let n = piece_count set in
    let j = i - z in
    let k = j - 15 in
    ap (λ (xs : List Operation). slice_get xs i) (split p set)
    ∙ get_append (zeroings p) (erases p.target ++ (pieces p.target set ++ ends)) i z (length-zeroings p)
    ∙ get-zeroing p i (slice_get (erases p.target ++ (pieces p.target set ++ ends)) j)
    ∙ ap (λ (o : Option Operation). if nat_lt i z then Some (nth_zeroing p i) else o)
    (get_append (erases p.target) (pieces p.target set ++ ends) j 15 (length-map-range_with_len (λ (m : ℕ). Erase (16 * p.target + m)) 0 15)
    ∙ get_from (λ (m : ℕ). Erase (16 * p.target + m)) 15 j (slice_get (pieces p.target set ++ ends) k)
    ∙ ap (λ (o : Option Operation). if nat_lt j 15 then Some (Erase (16 * p.target + j)) else o)
    (get_append (pieces p.target set) ends k n (length-map-range_with_len (piece p.target set) 0 n)
    ∙ get_from (piece p.target set) n k (slice_get ends (k - n))
    ∙ ap (λ (o : Option Operation). if nat_lt k n then Some (piece p.target set k) else o) (get-last p (k - n))))

-- ---- steps
pub none_asked : (o : Option Operation) → None ≡ option_map asks_of o → o ≡ None
none_asked None e = refl
none_asked (Some op) e = absurd (cc)

pub some_asked : (o : Option Operation) (x : Next) → Some x ≡ option_map asks_of o → (op : Operation) × (o ≡ Some op) × (x ≡ asks_of op)
some_asked None x e = absurd (cc)
some_asked (Some op) x e = (op, refl, cc)

pub take_piece : (xs : List ℕ) (n from to : ℕ) → to ≡ min (length xs) (from + n) → from ≤ length xs → take (to - from) (drop from xs) ≡ take n (drop from xs)
take_piece xs n from to e low =
    let f = length-drop from xs in
    let g : to - from ≡ min n (length (drop from xs)) = omega arith in
    ap (λ (m : ℕ). take m (drop from xs)) g ∙ take_min n (drop from xs)

count_low : (n k : ℕ) → k < (n + 1015) / 1016 → 1016 * k ≤ n
count_low n k low = omega arith

pub piece_asked : (p : Plan) (set : List ℕ) (k at to : ℕ) (x : Next) → x ≡ asks_of (Program at (take (to - 1016 * k) (drop (1016 * k) set))) → at ≡ base p.target + 16 + 1016 * k → to ≡ min (length set) (1016 * k + 1016) → k < piece_count set
    → Some x ≡ option_map asks_of (nth_piece p set k)
piece_asked p set k at to x asked place end low =
    let t : nat_lt k (piece_count set) ≡ true = lt-ltb k (piece_count set) low in
    ap Some (asked ∙ ap (λ (n : ℕ). asks_of (Program n (take (to - 1016 * k) (drop (1016 * k) set)))) place
    ∙ ap (λ (ys : List ℕ). asks_of (Program (base p.target + 16 + 1016 * k) ys)) (take_piece set 1016 (1016 * k) to end (count_low (length set) k low)))
    ∙ sym (ap (λ (b : Bool). option_map asks_of (if b then Some (piece p.target set k) else nth_end p (k - piece_count set))) t)

abbrev pub asked_more : Deploying → Deploying
asked_more d = record { set = d.set; asked = d.asked + 1; plan = d.plan }

pub asks_none : (d : Deploying) (o : Option Operation) → o ≡ None → asks_operation d o ≡ (IsDeployed, d)
asks_none d o is = ap (asks_operation d) is

pub asks_some : (d : Deploying) (o : Option Operation) (op : Operation) → o ≡ Some op → asks_operation d o ≡ (asks_of op, asked_more d)
asks_some d o op is = ap (asks_operation d) is

pub told_none : (d : Deploying) (r : Option Step) → option_map next_view r ≡ option_map asks_of (nth d.plan d.set (d.asked - 2)) → r ≡ None → asks_nth d (d.asked - 2) ≡ (IsDeployed, d)
told_none d r told is =
    asks_none d (slice_get (operations d.plan d.set) (d.asked - 2)) (nth_is d.plan d.set (d.asked - 2) ∙ none_asked (nth d.plan d.set (d.asked - 2)) (sym (ap (option_map next_view) is) ∙ told))

pub told_some : (d : Deploying) (r : Option Step) (step : Step) → option_map next_view r ≡ option_map asks_of (nth d.plan d.set (d.asked - 2)) → r ≡ Some step → asks_nth d (d.asked - 2) ≡ (next_view step, asked_more d)
told_some d r step told is =
    let so = some_asked (nth d.plan d.set (d.asked - 2)) (next_view step) (sym (ap (option_map next_view) is) ∙ told) in
    asks_some d (slice_get (operations d.plan d.set) (d.asked - 2)) so.0 (nth_is d.plan d.set (d.asked - 2) ∙ so.1) ∙ ap (λ (x : Next). (x, asked_more d)) (sym so.2)
