-- What fitting items ask for may be asked for.
use Rattle.std.proofs.Common.{◌≡◌, ℕ, ◌+◌, ◌*◌, ◌≤◌, List, length, fold, true, refl, ap, ◌∙◌, arith}
use Rattle.std.specs.Prelude.{◌==◌, ◌&&◌, nat_le, sum_by}
use Rattle.std.specs.List.{list_all}
use Rattle.std.specs.Str.{is_utf8, chars}
use lib.Utf8.{encode}
use Rattle.std.specs.Cmp.Derive.{both_true}
use Rattle.std.proofs.lemmas.Bool.{and_parts, leb-true}
use Rattle.std.proofs.lemmas.Bool.Decides.{nat_tests}
use Rattle.std.proofs.lemmas.List.Folds.{list_all-append}
use Rattle.std.proofs.lemmas.List.Sums.{sum_by-append}
use Rattle.base_tables.specs.Shape.{Item}
use Rattle.base_tables.specs.declared.library.TheConstants.{VERSION, MSCORLIB_NAME, NATIVE_NAME}
use Rattle.base_tables.specs.Tables.{mscorlib_items, native_items}
use Rattle.cil_layout.specs.declared.rows.Row.{Row}
use Rattle.cil_layout.specs.Asked.{Asked, asked_first, rows_of, weight_of, count_in, row_weight, fixed_count}
use Rattle.cil_layout.specs.Askable.{IsAskable, is_name, is_version, is_askable_row}
use Rattle.base_lib.specs.Keys.{table_of, literal_len}
use Rattle.base_lib.specs.Files.{with_item, library_of}
use Rattle.base_lib.proofs.Added.{added, item_adds}
use Rattle.base_lib.specs.Fits.{is_fitting, all_fit, count_of}
use Rattle.base_lib.proofs.Fitting.{mscorlib_fits, native_fits}
use Rattle.base_lib.proofs.Folds.{fold_keeps, fold_le, fold_ge}
use Rattle.base_lib.proofs.Weighed.{entry_counts, entry_weight}
use Rattle.base_lib.proofs.RowsFit.{fit_of, entry_askable}

-- a sum over the rows behind an item
sum_behind : (f : Row → ℕ) (items : List Item) (r : Asked) (i : Item) → sum_by f (with_item items r i).rows ≡ sum_by f r.rows + sum_by f (added items r i.entry i)
sum_behind f items r i = ap (λ s. sum_by f s.rows) (item_adds items r i) ∙ sum_by-append f r.rows (added items r i.entry i)

-- what is asked for by the items up to one of them
abbrev pub asked_by : List ℕ → List Item → List Item → Asked
asked_by name items walked = fold (with_item items) (asked_first name VERSION) walked

-- each table has at least a row for each of its items
rows_more : (name : List ℕ) (items : List Item) (table : ℕ) → count_of items table ≤ rows_of (library_of name items) table
unfolding library_of rows_of
rows_more name items table =
    omega (arith, fold_ge (λ r. sum_by (count_in table) r.rows) (with_item items) (λ i. table_of i == table) (λ r i. omega (arith, sum_behind (count_in table) items r i, (entry_counts items r table i.entry i).0)) (asked_first name VERSION) items)

fixed_le : (table : ℕ) → fixed_count table ≤ 3
fixed_le table = grind (arith, nat_tests)

-- and at most two for each item
pub rows_less : (name : List ℕ) (items walked : List Item) (table : ℕ) → list_all (is_fitting items) walked ≡ true → rows_of (asked_by name items walked) table ≤ 3 + 2 * length walked
unfolding rows_of
rows_less name items walked table all =
    omega (arith, fixed_le table, fold_le (λ r. sum_by (count_in table) r.rows) 2 (with_item items) (is_fitting items) (λ r i _. omega (arith, sum_behind (count_in table) items r i, (entry_counts items r table i.entry i).1)) (asked_first name VERSION) walked all)

-- name, version and entry stay as they were first asked for
frame : (name : List ℕ) (items walked : List Item) → list_all (is_fitting items) walked ≡ true
    → ((asked_by name items walked).name ≡ name) × ((asked_by name items walked).version ≡ VERSION) × ((asked_by name items walked).entry ≡ 0)
frame name items walked all =
    fold_keeps (λ r. (r.name ≡ name) × (r.version ≡ VERSION) × (r.entry ≡ 0)) (with_item items) (is_fitting items)
    (λ r i _ is. (ap (λ s. s.name) (item_adds items r i) ∙ is.0, ap (λ s. s.version) (item_adds items r i) ∙ is.1, ap (λ s. s.entry) (item_adds items r i) ∙ is.2))
    (asked_first name VERSION) walked all (refl, refl, refl)

-- the weight of what is asked for
pub weight_less : (name : List ℕ) (items walked : List Item) → list_all (is_fitting items) walked ≡ true → weight_of (asked_by name items walked) ≤ 4193 + length name + 5000 * length walked
unfolding weight_of
weight_less name items walked all =
    omega (arith, ap length (frame name items walked all).0, fold_le (λ r. sum_by row_weight r.rows) 5000 (with_item items) (is_fitting items) (λ r i fits. omega (arith, sum_behind row_weight items r i, entry_weight items r i.entry i (fit_of items i fits).small)) (asked_first name VERSION) walked all)

-- each row may be asked for
rows_askable : (name : List ℕ) (items : List Item) → list_all (is_fitting items) items ≡ true → list_all (is_askable_row (library_of name items)) (library_of name items).rows ≡ true
unfolding library_of
rows_askable name items all =
    let whole : Asked = library_of name items in
    fold_keeps (λ r. list_all (is_askable_row whole) r.rows ≡ true) (with_item items) (is_fitting items)
    (λ r i fits is.
    let fit = fit_of items i fits in
    ap (λ s. list_all (is_askable_row whole) s.rows) (item_adds items r i)
    ∙ list_all-append (is_askable_row whole) r.rows (added items r i.entry i)
    ∙ both_true is (entry_askable items r whole (rows_more name items) i.entry i fit fit.stand))
    (asked_first name VERSION) items all refl

-- what the tests say of all items
pub record AreFit (items : List Item) : Type 0 where
  pub few : length items ≤ 300
  pub literals : sum_by literal_len items ≤ 1000000
  pub each : list_all (is_fitting items) items ≡ true

pub are_fit : (items : List Item) → all_fit items ≡ true → AreFit items
unfolding all_fit
are_fit items all =
    let parts = and_parts (nat_le (length items) 300 && nat_le (sum_by literal_len items) 1000000) (list_all (is_fitting items) items) all in
    let sizes = and_parts (nat_le (length items) 300) (nat_le (sum_by literal_len items) 1000000) parts.0 in
    record { few = leb-true (length items) 300 sizes.0; literals = leb-true (sum_by literal_len items) 1000000 sizes.1; each = parts.1 }

-- the whole may be asked for
pub askable : (name : List ℕ) (items : List Item) → is_name name ≡ true → length name ≤ 100 → all_fit items ≡ true → IsAskable (library_of name items)
unfolding library_of
askable name items text short fit =
    let all = (are_fit items fit).each in
    let few : length items ≤ 300 = (are_fit items fit).few in
    record {
      name = ap is_name (frame name items items all).0 ∙ text;
      version = ap is_version (frame name items items all).1;
      rows = rows_askable name items all;
      entry = omega (arith, (frame name items items all).2);
      few = λ table _. omega (arith, rows_less name items items table all);
      light = omega (arith, weight_less name items items all);
    }

-- so may both parts of the base library
pub mscorlib_askable : IsAskable (library_of MSCORLIB_NAME.now mscorlib_items)
unfolding is_utf8 chars encode
mscorlib_askable = askable MSCORLIB_NAME.now mscorlib_items refl (omega arith) mscorlib_fits

pub native_askable : IsAskable (library_of NATIVE_NAME.now native_items)
unfolding is_utf8 chars encode
native_askable = askable NATIVE_NAME.now native_items refl (omega arith) native_fits
