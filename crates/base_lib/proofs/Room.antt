-- There is room for what fitting items ask for.
use Rattle.std.proofs.Common.{◌≡◌, ℕ, zero, suc, ◌+◌, ◌<◌, ◌≤◌, List, [], ◌∷◌, length, get_or, take, Bool, true, refl, ap, sym, ◌∙◌, arith}
use Rattle.std.specs.List.{list_all}
use Rattle.std.specs.Borrow.{Bor}
use Rattle.std.specs.Cmp.Derive.{both_true}
use Rattle.std.proofs.Math.ListN.{get_or-map}
use Rattle.std.proofs.lemmas.Bool.{and_parts, both_ways, true_from_ne_false, le-leb}
use Rattle.std.proofs.lemmas.List.{take-map, length-map, length-take}
use Rattle.std.proofs.lemmas.List.Folds.{list_all_at}
use Rattle.std.proofs.lemmas.List.Sums.{sum_by-append}
use Rattle.base_tables.specs.Shape.{Item, ItemRow, Kind, item_of, items_of, kind_of, line_of}
use Rattle.cil_layout.specs.Asked.{Asked, rows_of, weight_of, count_in}
use Rattle.base_lib.specs.Fields.{fields_with, is_small}
use Rattle.base_lib.specs.Fits.{is_fitting, all_fit}
use Rattle.base_lib.specs.Files.{with_kinds, library_of}
use Rattle.base_lib.proofs.Added.{kinds_rows, with_kinds_rows}
use Rattle.base_lib.proofs.Weighed.{kinds_count}
use Rattle.base_lib.proofs.RowsFit.{IsFit, fit_of}
use Rattle.base_lib.proofs.Askable.{are_fit, asked_by, rows_less, weight_less}

-- the signature of a method's locals is one row
pub kinds_room : (items : List Item) (r : Asked) (kinds : List Kind) (table : ℕ) → rows_of (with_kinds items r kinds) table ≤ rows_of r table + 1
unfolding rows_of
kinds_room items r kinds table =
    omega (arith, ap (λ s. rows_of s table) (with_kinds_rows items r kinds), sum_by-append (count_in table) r.rows (kinds_rows items kinds), kinds_count items table kinds)

-- what all items pass, those up to one of them pass
all_take : (test : Item → Bool) (i : ℕ) (items : List Item) → list_all test items ≡ true → list_all test (take i items) ≡ true
all_take test zero items all = refl
all_take test (suc i) [] all = refl
all_take test (suc i) (x ∷ xs) all =
    let parts : (test x ≡ true) × (list_all test xs ≡ true) = and_parts (test x) (list_all test xs) all in
    both_true parts.0 (all_take test i xs parts.1)

-- the items up to one of them fit, and are few
walked_fit : (xs : List (ItemRow Bor)) (i : ℕ) → all_fit (items_of xs) ≡ true → list_all (is_fitting (items_of xs)) (items_of (take i xs)) ≡ true
walked_fit xs i fit =
    ap (list_all (is_fitting (items_of xs))) (sym (take-map item_of i xs)) ∙ all_take (is_fitting (items_of xs)) i (items_of xs) (are_fit (items_of xs) fit).each

pub items_few : (xs : List (ItemRow Bor)) → all_fit (items_of xs) ≡ true → length xs ≤ 300
items_few xs fit = omega (arith, length-map xs item_of, (are_fit (items_of xs) fit).few)

walked_few : (xs : List (ItemRow Bor)) (i : ℕ) → all_fit (items_of xs) ≡ true → length (items_of (take i xs)) ≤ 300
walked_few xs i fit = omega (arith, length-map (take i xs) item_of, length-take i xs, items_few xs fit)

-- so there is room for one more
pub walked_room : (name : List ℕ) (xs : List (ItemRow Bor)) (i table : ℕ) → all_fit (items_of xs) ≡ true → rows_of (asked_by name (items_of xs) (items_of (take i xs))) table ≤ 60000
walked_room name xs i table fit = omega (arith, rows_less name (items_of xs) (items_of (take i xs)) table (walked_fit xs i fit), walked_few xs i fit)

pub walked_light : (name : List ℕ) (xs : List (ItemRow Bor)) (i : ℕ) → length name ≤ 100 → all_fit (items_of xs) ≡ true → weight_of (asked_by name (items_of xs) (items_of (take i xs))) ≤ 4000000
walked_light name xs i short fit = omega (arith, short, weight_less name (items_of xs) (items_of (take i xs)) (walked_fit xs i fit), walked_few xs i fit)

-- and for the whole
pub whole_light : (name : List ℕ) (items : List Item) → length name ≤ 100 → all_fit items ≡ true → weight_of (library_of name items) ≤ 4194304
unfolding library_of
whole_light name items short fit = omega (arith, short, weight_less name items items (are_fit items fit).each, (are_fit items fit).few)

-- a fitting item is small
small_of : (items : List Item) (x : ItemRow Bor) → IsFit items (item_of x) → is_small (fields_with x) ≡ true
small_of items x fit =
    both_true
    (both_true
    (both_true (le-leb (length x.1.now) 100 fit.small.key) (le-leb (length x.6.2.now) 1000 (omega (arith, length-map x.6.2.now kind_of, fit.small.params))))
    (le-leb (length x.7.2.now) 1000 (omega (arith, length-map x.7.2.now kind_of, fit.small.locals))))
    (le-leb (length x.7.3.now) 1000 (omega (arith, length-map x.7.3.now line_of, fit.small.lines)))

pub small_at : (xs : List (ItemRow Bor)) (i : ℕ) (d : ItemRow Bor) → i < length xs → all_fit (items_of xs) ≡ true → is_small (fields_with (get_or xs i d)) ≡ true
small_at xs i d below fit =
    let test : Item → Bool = is_fitting (items_of xs) in
    let passes : test (get_or (items_of xs) i (item_of d)) ≡ true =
    true_from_ne_false _ (λ no. both_ways (list_all test (items_of xs)) (list_all_at test (items_of xs) i (item_of d) (omega (arith, length-map xs item_of)) no) (are_fit (items_of xs) fit).each) in
    small_of (items_of xs) (get_or xs i d) (fit_of (items_of xs) (item_of (get_or xs i d)) (ap test (sym (get_or-map item_of xs i d)) ∙ passes))
