-- Lists that grow at their end.
use Rattle.std.proofs.Common.{◌≡◌, ℕ, ◌+◌, List, [], ◌∷◌, ◌++◌, length, get_or, replicate, take, drop, append_assoc, ap, sym, ◌∙◌, arith, add-one, ◌<◌, ◌≤◌, sum_by, zero, suc}
use Rattle.std.specs.List.{flat_map}
use Rattle.std.proofs.Math.Seq.{drop-cons}
use Rattle.std.proofs.lemmas.List.{replicate-append-replicate, flat_map_more, take_more, append-nil}
use Rattle.std.proofs.Math.ListN.{drop_of_length-le}
use Rattle.std.proofs.lemmas.Grind.{flat_map-append}
use Rattle.cil_layout.specs.declared.rows.Row.{Row}
use Rattle.cil_layout.specs.declared.places.Places.{Places}
use Rattle.cil_layout.specs.Numbers.{after, rows_in, rows_from}
use Rattle.cil_layout.specs.Layout.{spelled}
use Rattle.cil_layout.specs.Asked.{padded_length, row_weight}
use Rattle.cil_layout.specs.Heaps.{padded}
use Rattle.cil_layout.proofs.Sizes.{length-padded}
use Rattle.std.proofs.lemmas.List.Sums.{sum_by-cons}

pub zeros_more : (xs : List ℕ) (n : ℕ) → (xs ++ replicate n 0) ++ 0 ∷ [] ≡ xs ++ replicate (n + 1) 0
zeros_more xs n = append_assoc xs (replicate n 0) (0 ∷ []) ∙ ap (λ ys. xs ++ ys) (replicate-append-replicate n 1 0)

-- one more piece of a joined list
pub grown : {X : Type 0} (f : X → List ℕ) (start : List ℕ) (xs : List X) (i : ℕ) (x : X) (out : List ℕ) → i < length xs → x ≡ get_or xs i x → out ≡ (start ++ flat_map f (take i xs)) ++ f x → out ≡ start ++ flat_map f (take (i + 1) xs)
grown f start xs i x out below is grew =
    grew ∙ flat_map_more f start (take i xs) x
    ∙ ap (λ ys. start ++ flat_map f ys) (ap (λ y. take i xs ++ y ∷ []) is ∙ sym (take_more xs i x below))

-- an element weighs no more than all together
pub weighs : {X : Type 0} (f : X → ℕ) (xs : List X) (i : ℕ) (x : X) (most : ℕ) → i < length xs → x ≡ get_or xs i x → sum_by f xs ≤ most → f x ≤ most
weighs f [] i x most below is sum = absurd (omega arith)
weighs f (y ∷ ys) zero x most below is sum = omega (arith, ap f is, sum_by-cons f y ys)
weighs f (y ∷ ys) (suc i) x most below is sum = weighs f ys i x most (omega arith) is (omega (arith, sum_by-cons f y ys))

-- the next multiple of 4
pub padded_length_is : (bytes : List ℕ) (n : ℕ) → n ≡ padded_length (length bytes) → n ≡ length (padded bytes)
padded_length_is bytes n e = e ∙ sym (length-padded bytes)

-- the rows from a row on
pub drop_step : {X : Type 0} (xs : List X) (i : ℕ) (x : X) → i < length xs → x ≡ get_or xs i x → drop i xs ≡ x ∷ drop (i + 1) xs
drop_step xs i x below is = drop-cons xs i x below ∙ ap (λ y. y ∷ drop (suc i) xs) (sym is) ∙ ap (λ j. x ∷ drop j xs) (sym (add-one i))

pub rows_step : (widths : List ℕ) (table : ℕ) (p q : Places) (rows : List Row) (i : ℕ) (row : Row) (out new : List ℕ) → i < length rows → row ≡ get_or rows i row → q ≡ after p row
    → new ≡ out ++ flat_map (spelled widths) (rows_in table p row)
    → new ++ flat_map (spelled widths) (rows_from table q (drop (i + 1) rows)) ≡ out ++ flat_map (spelled widths) (rows_from table p (drop i rows))
unfolding rows_from
rows_step widths table p q rows i row out new below is moved grew =
    let rest : List (List ℕ) = rows_from table (after p row) (drop (i + 1) rows) in
    ap (λ ys. ys ++ flat_map (spelled widths) (rows_from table q (drop (i + 1) rows))) grew
    ∙ ap (λ r. (out ++ flat_map (spelled widths) (rows_in table p row)) ++ flat_map (spelled widths) (rows_from table r (drop (i + 1) rows))) moved
    ∙ append_assoc out (flat_map (spelled widths) (rows_in table p row)) (flat_map (spelled widths) rest)
    ∙ ap (λ ys. out ++ ys) (sym (flat_map-append (spelled widths) (rows_in table p row) rest))
    ∙ ap (λ rs. out ++ flat_map (spelled widths) (rows_from table p rs)) (sym (drop_step rows i row below is))

-- and the weight from a row on
pub weight_step : (rows : List Row) (i : ℕ) (row : Row) → i < length rows → row ≡ get_or rows i row → sum_by row_weight (drop i rows) ≡ row_weight row + sum_by row_weight (drop (i + 1) rows)
weight_step rows i row below is = ap (λ rs. sum_by row_weight rs) (drop_step rows i row below is) ∙ sum_by-cons row_weight row (drop (i + 1) rows)

-- no row is left
pub rows_done : (widths : List ℕ) (table : ℕ) (p : Places) (rows : List Row) (i : ℕ) (out : List ℕ) → length rows ≤ i → out ++ flat_map (spelled widths) (rows_from table p (drop i rows)) ≡ out
unfolding rows_from
rows_done widths table p rows i out past = ap (λ rs. out ++ flat_map (spelled widths) (rows_from table p rs)) (drop_of_length-le rows past) ∙ append-nil out

-- one more piece for an element of a list, by its place
pub grown_at : {X : Type 0} (f : X → List ℕ) (start : List ℕ) (xs : List X) (i : ℕ) (d : X) (out prev : List ℕ) → i < length xs → prev ≡ start ++ flat_map f (take i xs) → out ≡ prev ++ f (get_or xs i d) → out ≡ start ++ flat_map f (take (i + 1) xs)
grown_at f start xs i d out prev below old grew =
    grew ∙ ap (λ ys. ys ++ f (get_or xs i d)) old ∙ flat_map_more f start (take i xs) (get_or xs i d)
    ∙ ap (λ ys. start ++ flat_map f ys) (sym (take_more xs i d below))
