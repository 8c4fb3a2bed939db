-- Walks over the items, kinds and lines.
use Rattle.std.proofs.Common.{◌≡◌, ℕ, ◌+◌, ◌*◌, ◌%◌, ◌<◌, ◌≤◌, ◌==◌, List, [], ◌∷◌, ◌++◌, length, get_or, take, drop, sum_by, count_by, fold, true, false, cond, ap, sym, ◌∙◌, arith, add-one, append_assoc, length-append, map}
use Rattle.std.proofs.Math.Seq.{drop-cons}
use Rattle.std.proofs.Math.ListN.{drop_of_length-le}
use Rattle.std.proofs.lemmas.List.{take_more, take-map, append-nil, map-append, length-map}
use Rattle.std.proofs.lemmas.List.Sums.{sum_by-append, sum_by-take-le, fold-append}
use Rattle.std.proofs.lemmas.Grind.{flat_map-append}
use Rattle.std.specs.Borrow.{Bor}
use Rattle.std.proofs.lemmas.Bool.Decides.{nat_tests}
use Rattle.cil_layout.specs.Layout.{four}
use Rattle.base_tables.specs.Shape.{Item, ItemRow, KindRow, Line, LineRow, item_of, items_of, kind_of, kinds_of, line_of, lines_of}
use Rattle.base_tables.specs.declared.shape.Form.{Form}
use Rattle.base_tables.specs.declared.shape.Form.TheVariants.{At, Do, Small, Jump, Name}
use Rattle.base_lib.specs.Keys.{token_of_key, has_key, table_of, token_before, token_from, literal_len}
use Rattle.base_lib.specs.Signatures.{kind_bytes, kinds_bytes}
use Rattle.base_lib.specs.Code.{op_bytes, is_label, line_length, label_from, distance, form_bytes, line_bytes, code_from}

-- what is left from an element on
drop_step : {X : Type 0} (xs : List X) (i : ℕ) (d : X) → i < length xs → drop i xs ≡ get_or xs i d ∷ drop (i + 1) xs
drop_step xs i d below = drop-cons xs i d below ∙ ap (λ j. get_or xs i d ∷ drop j xs) (sym (add-one i))

-- what was read up to an element and with it
map_step : {X Y : Type 0} (f : X → Y) (xs : List X) (i : ℕ) (d : X) → i < length xs → map f (take (i + 1) xs) ≡ map f (take i xs) ++ f (get_or xs i d) ∷ []
map_step f xs i d below = ap (map f) (take_more xs i d below) ∙ map-append f (take i xs) (get_or xs i d ∷ [])

pub items_append : (xs ys : List (ItemRow Bor)) → items_of (xs ++ ys) ≡ items_of xs ++ items_of ys
items_append xs ys = map-append item_of xs ys

-- the literals' entries up to an item
pub sum_step : (xs : List (ItemRow Bor)) (i : ℕ) (d : ItemRow Bor) → i < length xs
    → sum_by literal_len (items_of (take (i + 1) xs)) ≡ sum_by literal_len (items_of (take i xs)) + literal_len (item_of (get_or xs i d))
sum_step xs i d below =
    omega (arith, ap (sum_by literal_len) (map_step item_of xs i d below), sum_by-append literal_len (items_of (take i xs)) (item_of (get_or xs i d) ∷ []))

pub sum_before : (xs : List (ItemRow Bor)) (i : ℕ) → sum_by literal_len (items_of (take i xs)) ≤ sum_by literal_len (items_of xs)
sum_before xs i = omega (arith, ap (sum_by literal_len) (take-map item_of i xs), sum_by-take-le literal_len (items_of xs) i)

pub sum_below : (xs : List (ItemRow Bor)) (i : ℕ) (d : ItemRow Bor) → i < length xs
    → sum_by literal_len (items_of (take i xs)) + literal_len (item_of (get_or xs i d)) ≤ sum_by literal_len (items_of xs)
sum_below xs i d below = omega (arith, sum_step xs i d below, sum_before xs (i + 1))

-- one more item that is asked for
pub fold_step : {A : Type 0} (f : A → Item → A) (a : A) (xs : List (ItemRow Bor)) (i : ℕ) (d : ItemRow Bor) → i < length xs → fold f a (items_of (take (i + 1) xs)) ≡ f (fold f a (items_of (take i xs))) (item_of (get_or xs i d))
fold_step f a xs i d below = ap (fold f a) (map_step item_of xs i d below) ∙ fold-append f a (items_of (take i xs)) (item_of (get_or xs i d) ∷ [])

-- the items of a table up to an item
pub count_step : (table : ℕ) (xs : List (ItemRow Bor)) (i : ℕ) (d : ItemRow Bor) → i < length xs
    → count_by (λ x. table_of x == table) (items_of (take (i + 1) xs)) ≡ count_by (λ x. table_of x == table) (items_of (take i xs)) + cond (table_of (item_of (get_or xs i d)) == table) 1 0
count_step table xs i d below = fold_step (λ n x. n + cond (table_of x == table) 1 0) 0 xs i d below

-- the search stops at an item that has the key, and goes on behind one that hasn't
pub token_found : (items : List (ItemRow Bor)) (key : List ℕ) (i : ℕ) (d : ItemRow Bor) → i < length items → true ≡ has_key key (item_of (get_or items i d))
    → token_from (items_of (take i items)) (items_of (drop i items)) key ≡ token_before (items_of (take i items)) (item_of (get_or items i d))
unfolding token_from
token_found items key i d below found =
    let before : List Item = items_of (take i items) in
    let item : Item = item_of (get_or items i d) in
    ap (λ xs. token_from before (items_of xs) key) (drop_step items i d below)
    ∙ ap (λ b. cond b (token_before before item) (token_from (before ++ item ∷ []) (items_of (drop (i + 1) items)) key)) (sym found)

pub token_step : (items : List (ItemRow Bor)) (key : List ℕ) (i : ℕ) (d : ItemRow Bor) → i < length items → false ≡ has_key key (item_of (get_or items i d))
    → token_from (items_of (take (i + 1) items)) (items_of (drop (i + 1) items)) key ≡ token_from (items_of (take i items)) (items_of (drop i items)) key
unfolding token_from
token_step items key i d below other =
    let before : List Item = items_of (take i items) in
    let item : Item = item_of (get_or items i d) in
    ap (λ xs. token_from xs (items_of (drop (i + 1) items)) key) (map_step item_of items i d below)
    ∙ sym (ap (λ b. cond b (token_before before item) (token_from (before ++ item ∷ []) (items_of (drop (i + 1) items)) key)) (sym other))
    ∙ sym (ap (λ xs. token_from before (items_of xs) key) (drop_step items i d below))

pub token_none : (items : List (ItemRow Bor)) (key : List ℕ) (i : ℕ) → length items ≤ i → token_from (items_of (take i items)) (items_of (drop i items)) key ≡ 0
unfolding token_from
token_none items key i past = ap (λ xs. token_from (items_of (take i items)) (items_of xs) key) (drop_of_length-le items past)

-- one more kind
pub kinds_step : (items : List Item) (kinds : List (KindRow Bor)) (i : ℕ) (d : KindRow Bor) → i < length kinds
    → kinds_bytes items (kinds_of (take (i + 1) kinds)) ≡ kinds_bytes items (kinds_of (take i kinds)) ++ kind_bytes items (kind_of (get_or kinds i d))
kinds_step items kinds i d below =
    ap (kinds_bytes items) (map_step kind_of kinds i d below)
    ∙ flat_map-append (kind_bytes items) (kinds_of (take i kinds)) (kind_of (get_or kinds i d) ∷ [])
    ∙ ap (λ ys. kinds_bytes items (kinds_of (take i kinds)) ++ ys) (append-nil (kind_bytes items (kind_of (get_or kinds i d))))

-- the place of a label
pub label_found : (lines : List (LineRow Bor)) (label : List ℕ) (at i : ℕ) (d : LineRow Bor) → i < length lines → true ≡ is_label label (line_of (get_or lines i d))
    → label_from at (lines_of (drop i lines)) label ≡ at
unfolding label_from
label_found lines label at i d below found =
    ap (λ xs. label_from at (lines_of xs) label) (drop_step lines i d below)
    ∙ ap (λ b. cond b at (label_from ((at + line_length (line_of (get_or lines i d))) % 256) (lines_of (drop (i + 1) lines)) label)) (sym found)

pub label_step : (lines : List (LineRow Bor)) (label : List ℕ) (at len i : ℕ) (d : LineRow Bor) → i < length lines → false ≡ is_label label (line_of (get_or lines i d)) → len ≡ line_length (line_of (get_or lines i d))
    → label_from ((at + len) % 256) (lines_of (drop (i + 1) lines)) label ≡ label_from at (lines_of (drop i lines)) label
unfolding label_from
label_step lines label at len i d below other long =
    ap (λ n. label_from ((at + n) % 256) (lines_of (drop (i + 1) lines)) label) long
    ∙ sym (ap (λ b. cond b at (label_from ((at + line_length (line_of (get_or lines i d))) % 256) (lines_of (drop (i + 1) lines)) label)) (sym other))
    ∙ sym (ap (λ xs. label_from at (lines_of xs) label) (drop_step lines i d below))

pub label_none : (lines : List (LineRow Bor)) (label : List ℕ) (at i : ℕ) → length lines ≤ i → label_from at (lines_of (drop i lines)) label ≡ 0
unfolding label_from
label_none lines label at i past = ap (λ xs. label_from at (lines_of xs) label) (drop_of_length-le lines past)

-- one more line
pub code_step : (items : List Item) (all : List (LineRow Bor)) (at len i : ℕ) (d : LineRow Bor) (out new : List ℕ) → i < length all → len ≡ line_length (line_of (get_or all i d))
    → new ≡ out ++ line_bytes items (lines_of all) at (line_of (get_or all i d))
    → new ++ code_from items (lines_of all) ((at + len) % 256) (lines_of (drop (i + 1) all)) ≡ out ++ code_from items (lines_of all) at (lines_of (drop i all))
unfolding code_from
code_step items all at len i d out new below long grew =
    let line : Line = line_of (get_or all i d) in
    let left : List Line = lines_of (drop (i + 1) all) in
    ap (λ ys. ys ++ code_from items (lines_of all) ((at + len) % 256) left) grew
    ∙ ap (λ n. (out ++ line_bytes items (lines_of all) at line) ++ code_from items (lines_of all) ((at + n) % 256) left) long
    ∙ append_assoc out (line_bytes items (lines_of all) at line) (code_from items (lines_of all) ((at + line_length line) % 256) left)
    ∙ ap (λ ls. out ++ code_from items (lines_of all) at (lines_of ls)) (sym (drop_step all i d below))

pub code_done : (items : List Item) (all : List (LineRow Bor)) (at i : ℕ) (out : List ℕ) → length all ≤ i → out ++ code_from items (lines_of all) at (lines_of (drop i all)) ≡ out
unfolding code_from
code_done items all at i out past = ap (λ ls. out ++ code_from items (lines_of all) at (lines_of ls)) (drop_of_length-le all past) ∙ append-nil out

-- a body's code is short
op_le : (op : ℕ) → length (op_bytes op) ≤ 2
op_le op = grind (arith, nat_tests)

form_le : (items : List Item) (all : List Line) (at : ℕ) (form : Form) (line : Line) → length (form_bytes items all at form line) ≤ 6
form_le items all at At line = omega arith
form_le items all at Do line = omega (arith, op_le line.op)
form_le items all at Small line = omega (arith, op_le line.op, length-append (op_bytes line.op) (line.number ∷ []))
form_le items all at Jump line = omega (arith, op_le line.op, length-append (op_bytes line.op) (distance ((at + line_length line) % 256) (label_from 0 all line.text) ∷ []))
form_le items all at Name line = omega (arith, op_le line.op, length-append (op_bytes line.op) (four (token_of_key items line.text)))

code_le_from : (items : List Item) (all : List Line) (at : ℕ) (lines : List Line) → length (code_from items all at lines) ≤ 6 * length lines
unfolding code_from
code_le_from items all at [] = omega arith
code_le_from items all at (line ∷ lines) =
    omega (arith, form_le items all at line.form line, code_le_from items all ((at + line_length line) % 256) lines, length-append (line_bytes items all at line) (code_from items all ((at + line_length line) % 256) lines))

pub code_le : (items : List Item) (lines : List (LineRow Bor)) → length (code_from items (lines_of lines) 0 (lines_of lines)) ≤ 6 * length lines
code_le items lines = omega (arith, code_le_from items (lines_of lines) 0 (lines_of lines), length-map lines line_of)
