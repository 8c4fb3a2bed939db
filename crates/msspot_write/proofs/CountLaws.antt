-- What is counted, and the first limit that is passed.
use Rattle.std.proofs.Common.{◌≡◌, ℕ, zero, suc, ◌+◌, ◌*◌, ◌<◌, ◌≤◌, Bool, true, false, List, [], ◌∷◌, ◌++◌, map, length, take, drop, get_or, Some, None, refl, sym, ap, ◌∙◌, arith, length-append, add-one}
use Rattle.std.specs.Prelude.{if◌then◌else◌, nat_lt}
use Rattle.std.specs.List.{flat_map}
use Rattle.std.specs.Global.{Vec}
use Rattle.std.proofs.lemmas.Bool.{ltb-false, lt-ltb, le-ltb}
use Rattle.std.proofs.lemmas.Nat.{mul-le}
use Rattle.std.proofs.lemmas.List.{take_more}
use Rattle.std.proofs.lemmas.List.Concat.{flat_map-append}
use Rattle.plain_types.specs.declared.fault.Limit.{Limit}
use Rattle.image_bytes.specs.Layout.{total, sum, widths}
use Rattle.msspot_write.specs.declared.parts.PartRow.{PartRow}
use Rattle.msspot_write.specs.declared.parts.Parts.{Parts}
use Rattle.msspot_write.specs.Parts.{PoolsOf, rows_of, in_row, in_rows, data_bytes, next_code, table_words, tables_words, most, first_over}
use Rattle.msspot_write.specs.Written.{codes_of}
use Rattle.msspot_write.proofs.StepLaws.{drop_step}

-- ---- codes

pub codes_flat : (cs : List (Vec ℕ)) → flat_map (λ c. c) (codes_of cs) ≡ flat_map (λ c. c.items) cs
codes_flat [] = refl
codes_flat (c ∷ cs) = ap (λ bs. c.items ++ bs) (codes_flat cs)

pub longer : {X : Type 0} (f : X → List ℕ) (xs : List X) (i : ℕ) (x : X) → i < length xs → x ≡ get_or xs i x → length (flat_map f (take (i + 1) xs)) ≡ length (flat_map f (take i xs)) + length (f x)
longer f xs i x below is =
    ap (λ ys. length (flat_map f ys)) (take_more xs i x below ∙ ap (λ y. take i xs ++ y ∷ []) (sym is))
    ∙ ap length (flat_map-append f (take i xs) (x ∷ []))
    ∙ length-append (flat_map f (take i xs)) (f x ++ [])
    ∙ ap (λ n. length (flat_map f (take i xs)) + n) (length-append (f x) [] ∙ omega arith)

-- ---- limits

pub over_here : (n i : ℕ) (xs : List ℕ) (x : ℕ) → i < length xs → x ≡ get_or xs i x → most n < x → Some (record { number = n; count = x; assembly = 0 }) ≡ first_over n (drop i xs)
over_here n i xs x below is over =
    let here : Limit = record { number = n; count = x; assembly = 0 } in
    sym (ap (first_over n) (drop_step xs i x below is) ∙ ap (λ b. if b then Some here else first_over (n + 1) (drop (i + 1) xs)) (lt-ltb (most n) x over))

pub over_next : (n i : ℕ) (xs : List ℕ) (x : ℕ) → i < length xs → x ≡ get_or xs i x → x ≤ most n → first_over (n + 1) (drop (i + 1) xs) ≡ first_over n (drop i xs)
over_next n i xs x below is within =
    let here : Limit = record { number = n; count = x; assembly = 0 } in
    sym (ap (first_over n) (drop_step xs i x below is) ∙ ap (λ b. if b then Some here else first_over (n + 1) (drop (i + 1) xs)) (le-ltb (most n) x within))

pub over_first : (n : ℕ) (xs ys : List ℕ) (l : Limit) → first_over n xs ≡ Some l → first_over n (xs ++ ys) ≡ Some l
over_first n [] ys l e = absurd (cc e)
over_first n (x ∷ xs) ys l e = go (nat_lt (most n) x) e (over_first (n + 1) xs ys l)
  where
    go : (b : Bool) → (if b then Some (record { number = n; count = x; assembly = 0 }) else first_over (n + 1) xs) ≡ Some l → (first_over (n + 1) xs ≡ Some l → first_over (n + 1) (xs ++ ys) ≡ Some l) → (if b then Some (record { number = n; count = x; assembly = 0 }) else first_over (n + 1) (xs ++ ys)) ≡ Some l
    go true e more = e
    go false e more = more e

pub over_second : (n m : ℕ) (xs ys : List ℕ) → m ≡ n + length xs → first_over n xs ≡ None → first_over n (xs ++ ys) ≡ first_over m ys
over_second n m [] ys e h = ap (λ k. first_over k ys) (omega (arith, e))
over_second n m (x ∷ xs) ys e h = go (nat_lt (most n) x) h (over_second (n + 1) m xs ys (omega (arith, e)))
  where
    go : (b : Bool) → (if b then Some (record { number = n; count = x; assembly = 0 }) else first_over (n + 1) xs) ≡ None → (first_over (n + 1) xs ≡ None → first_over (n + 1) (xs ++ ys) ≡ first_over m ys) → (if b then Some (record { number = n; count = x; assembly = 0 }) else first_over (n + 1) (xs ++ ys)) ≡ first_over m ys
    go true e more = absurd (cc e)
    go false e more = more e

most_small : (n : ℕ) → most n ≤ 65535
most_small n = go (nat_lt n 11)
  where
    go : (b : Bool) → (if b then 16383 else 65535) ≤ 65535
    go true = omega arith
    go false = omega arith

pub small : (n : ℕ) (xs : List ℕ) → first_over n xs ≡ None → (k : ℕ) → get_or xs k 0 ≤ 65535
small n [] h k = omega arith
small n (x ∷ xs) h k = go (nat_lt (most n) x) refl h (small (n + 1) xs) k
  where
    go : (b : Bool) → nat_lt (most n) x ≡ b → (if b then Some (record { number = n; count = x; assembly = 0 }) else first_over (n + 1) xs) ≡ None → (first_over (n + 1) xs ≡ None → (j : ℕ) → get_or xs j 0 ≤ 65535) → (j : ℕ) → get_or (x ∷ xs) j 0 ≤ 65535
    go true p e more j = absurd (cc e)
    go false p e more zero = omega (arith, ltb-false (most n) x p, most_small n)
    go false p e more (suc j) = more e j

-- ---- sizes

total_nil : (ws : List ℕ) → total ws [] ≡ 0
total_nil [] = refl
total_nil (w ∷ ws) = refl

total_next : (ws cs : List ℕ) (i : ℕ) → i < length ws → total (drop i ws) (drop i cs) ≡ 2 * (get_or ws i 0 * get_or cs i 0) + total (drop (suc i) ws) (drop (suc i) cs)
total_next [] cs i below = absurd (omega arith)
total_next (w ∷ ws) [] zero below = omega (arith, total_nil ws)
total_next (w ∷ ws) (c ∷ cs) zero below = refl
total_next (w ∷ ws) [] (suc i) below = omega (arith, total_nil (drop i ws), total_nil (drop (suc i) ws))
total_next (w ∷ ws) (c ∷ cs) (suc i) below = total_next ws cs i (omega arith)

pub total_step : (ws cs : List ℕ) (i : ℕ) → i < length ws → total (drop i ws) (drop i cs) ≡ 2 * (get_or ws i 0 * get_or cs i 0) + total (drop (i + 1) ws) (drop (i + 1) cs)
total_step ws cs i below = total_next ws cs i below ∙ ap (λ k. 2 * (get_or ws i 0 * get_or cs i 0) + total (drop k ws) (drop k cs)) (sym (add-one i))

pub below_total : (s m r t n : ℕ) → s + (m + r) ≡ t → t ≤ n → s + m ≤ n
below_total s m r t n e f = omega (arith, e, f)

pub on_total : (s m r t : ℕ) → s + (m + r) ≡ t → (s + m) + r ≡ t
on_total s m r t e = omega (arith, e)

pub half_below : (m n : ℕ) → 2 * m ≤ n → m ≤ n
half_below m n h = omega (arith, h)

pub small_first : (xs ys : List ℕ) → ((k : ℕ) → get_or (xs ++ ys) k 0 ≤ 65535) → (k : ℕ) → get_or xs k 0 ≤ 65535
small_first [] ys h k = omega arith
small_first (x ∷ xs) ys h zero = h 0
small_first (x ∷ xs) ys h (suc k) = small_first xs ys (λ j. h (suc j)) k

pub small_second : (xs ys : List ℕ) → ((k : ℕ) → get_or (xs ++ ys) k 0 ≤ 65535) → (k : ℕ) → get_or ys k 0 ≤ 65535
small_second [] ys h k = h k
small_second (x ∷ xs) ys h k = small_second xs ys (λ j. h (suc j)) k

-- ---- rows

table_long : (ps : PoolsOf) (codes : List (List ℕ)) (start at : ℕ) (rows : List PartRow) → length (table_words ps codes start at rows) ≡ length rows
table_long ps codes start at [] = refl
table_long ps codes start at (r ∷ rs) = ap suc (table_long ps (drop 1 codes) (start + length (next_code codes)) (at + length (in_row data_bytes r)) rs)

pub tables_long : (ps : PoolsOf) (p : Parts) (codes : List (List ℕ)) (at : ℕ) (ts : List ℕ) → map (λ t. length (rows_of p t)) ts ≡ map length (tables_words ps p codes at ts)
tables_long ps p codes at [] = refl
tables_long ps p codes at (t ∷ ts) =
    let here = sym (table_long ps codes 0 at (rows_of p t)) in
    let rest = tables_long ps p codes (at + length (in_rows data_bytes (rows_of p t))) ts in
    λ i. here i ∷ rest i

total_bound : (ws cs : List ℕ) → ((k : ℕ) → get_or cs k 0 ≤ 65535) → total ws cs ≤ 131070 * sum ws
total_bound [] cs h = omega arith
total_bound (w ∷ ws) [] h = omega arith
total_bound (w ∷ ws) (c ∷ cs) h =
    let one = mul-le w c w 65535 (omega arith) (h 0) in
    let more = total_bound ws cs (λ k. h (suc k)) in
    omega (arith, one, more)

pub total_small : (cs : List ℕ) → ((k : ℕ) → get_or cs k 0 ≤ 65535) → total widths cs ≤ 10000000
total_small cs h = omega (arith, total_bound widths cs h)
