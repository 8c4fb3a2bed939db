-- The generated assembly may be asked for.
use Rattle.std.proofs.Common.{◌≡◌, ℕ, zero, suc, ◌+◌, ◌*◌, ◌%◌, ◌^◌, ◌<◌, ◌≤◌, true, List, [], ◌∷◌, ◌++◌, get_or, codes, decimal, refl, ap, ◌∙◌, arith, if◌then◌else◌, ◌==◌, nat_le, nat_lt}
use Rattle.std.specs.List.{list_all}
use Rattle.std.specs.Str.{IsUtf8}
use Rattle.std.specs.Cmp.Derive.{both_true}
use Rattle.std.proofs.lemmas.Bool.{lt-ltb, ltb-true, le-leb}
use Rattle.std.proofs.lemmas.Bool.Decides.{nat_tests}
use Rattle.std.proofs.lemmas.Fmt.{decimal_by_steps, IsAscii-decimal}
use Rattle.std.proofs.lemmas.List.Folds.{list_all-append}
use Rattle.std.proofs.lemmas.Str.{IsUtf8-append, IsUtf8-from_ascii, is_utf8-from_IsUtf8}
use Rattle.cil_layout.specs.declared.rows.Row.{Row}
use Rattle.cil_layout.specs.Asked.{Asked, rows_of, count_in, one_if}
use Rattle.cil_layout.specs.Askable.{IsAskable, is_name, is_version, are_bytes, is_askable_row}
use Rattle.cil_layout.proofs.Below.{and_left, and_right}
use Rattle.made_assembly.specs.Made.{references, classes, class_row, numbered_row, method_row, body_of, main_body, main_row, made_of}
use Rattle.made_assembly.proofs.Rows.{rows_of-two, made_weight}

-- digits are no zero characters
digits_text : (n : ℕ) → n < 2 ^ 64 → list_all (nat_le 1) (decimal n) ≡ true
digits_text n small = decimal_by_steps (λ _ ds. list_all (nat_le 1) ds ≡ true) one more n small where
  one : (n : ℕ) → n < 10 → list_all (nat_le 1) ((48 + n) ∷ []) ≡ true
  one n below = grind (arith, nat_tests)

  more : (n : ℕ) (ds : List ℕ) → 10 ≤ n → list_all (nat_le 1) ds ≡ true → list_all (nat_le 1) (ds ++ (48 + n % 10) ∷ []) ≡ true
  more n ds _ before = list_all-append (nat_le 1) ds ((48 + n % 10) ∷ []) ∙ both_true before (grind (arith, nat_tests))

-- a text of characters below 128 has only such
small_at : (name : List ℕ) (i : ℕ) → list_all (λ c. nat_lt c 128) name ≡ true → get_or name i 0 < 128
small_at [] i small = omega arith
small_at (c ∷ cs) zero small = ltb-true c 128 (and_left (nat_lt c 128) (list_all (λ d. nat_lt d 128) cs) small)
small_at (c ∷ cs) (suc i) small = small_at cs i (and_right (nat_lt c 128) (list_all (λ d. nat_lt d 128) cs) small)

-- a text of ASCII is UTF-8
ascii : (name : List ℕ) → list_all (λ c. nat_lt c 128) name ≡ true → IsUtf8 name
ascii name small = IsUtf8-from_ascii name (λ i. small_at name i small)

-- a text of ASCII without the zero character may be a name
ascii_name : (name : List ℕ) → list_all (λ c. nat_lt c 128) name ≡ true → list_all (nat_le 1) name ≡ true → is_name name ≡ true
ascii_name name small full = both_true (is_utf8-from_IsUtf8 name (ascii name small)) full

-- the name of a class may be asked for
class_name : (k : ℕ) → k < 2000 → is_name (codes "C" ++ decimal k) ≡ true
class_name k below =
    both_true
    (is_utf8-from_IsUtf8 _ (IsUtf8-append (codes "C") (decimal k) (ascii (codes "C") refl) (IsUtf8-from_ascii _ (IsAscii-decimal k (omega arith)))))
    (list_all-append (nat_le 1) (codes "C") (decimal k) ∙ digits_text k (omega arith))

-- a remainder by 256 is a byte
small_byte : (n : ℕ) → nat_lt (n % 256) 256 ≡ true
small_byte n = lt-ltb (n % 256) 256 (omega arith)

-- bodies are bytes
body_bytes : (k : ℕ) → are_bytes (body_of k) ≡ true
body_bytes zero = refl
body_bytes (suc j) = search (both_true, small_byte)

main_bytes : (n : ℕ) → are_bytes (main_body n) ≡ true
main_bytes n = search (both_true, small_byte)

-- name and version stand as they were first asked for
frame : (k : ℕ) → ((classes k).name ≡ codes "Made") × ((classes k).version ≡ 1 ∷ 0 ∷ 0 ∷ 0 ∷ [])
unfolding classes references
frame zero = (refl, refl)
frame (suc k) = frame k

-- one row of AssemblyRef and one of TypeRef
refs_of : (k : ℕ) → (rows_of (classes k) 35 ≡ 1) × (rows_of (classes k) 1 ≡ 1)
unfolding classes references rows_of
refs_of zero = (refl, refl)
refs_of (suc k) = (
  omega (arith, (refs_of k).0, rows_of-two (classes k) (numbered_row k) (method_row k) 35),
  omega (arith, (refs_of k).1, rows_of-two (classes k) (numbered_row k) (method_row k) 1),
)

-- a class or a method is at most one row of a table
one_row : (own table : ℕ) → one_if (own == table) + (if table == 29 then 0 else 0) ≤ 1
one_row own table = grind (arith, nat_tests)

-- the classes make few rows of each table
few_classes : (table k : ℕ) → rows_of (classes k) table ≤ 5 + 2 * k
unfolding classes references rows_of
few_classes table zero = grind (arith, nat_tests)
few_classes table (suc k) = omega (arith, few_classes table k, rows_of-two (classes k) (numbered_row k) (method_row k) table, one_row 2 table, one_row 6 table)

-- a row that may be asked for at the end of others
row_behind : (r : Asked) (rows : List Row) (row : Row) → list_all (is_askable_row r) rows ≡ true → is_askable_row r row ≡ true → list_all (is_askable_row r) (rows ++ row ∷ []) ≡ true
row_behind r rows row before this = list_all-append (is_askable_row r) rows (row ∷ []) ∙ both_true before (both_true this refl)

-- a class may be asked for where a row of TypeRef is
class_row_askable : (r : Asked) (name : List ℕ) → 1 ≤ rows_of r 1 → is_name name ≡ true → is_askable_row r (class_row name) ≡ true
class_row_askable r name some text = both_true (both_true (ascii_name (codes "Made") refl refl) text) (le-leb 1 (rows_of r 1) some)

-- so may the methods
method_row_askable : (r : Asked) (k : ℕ) → is_askable_row r (method_row k) ≡ true
method_row_askable r k = both_true (both_true (ascii_name (codes "F") refl refl) refl) (body_bytes k)

main_row_askable : (r : Asked) (n : ℕ) → is_askable_row r (main_row n) ≡ true
main_row_askable r n = both_true (both_true (ascii_name (codes "Main") refl refl) refl) (main_bytes n)

-- so may all rows up to a class, where the references are
classes_askable : (r : Asked) (k : ℕ) → k ≤ 2000 → 1 ≤ rows_of r 1 → 1 ≤ rows_of r 35 → list_all (is_askable_row r) (classes k).rows ≡ true
unfolding classes references
classes_askable r zero below types assemblies =
    both_true
    (both_true (ascii_name (codes "mscorlib") refl refl) refl)
    (both_true (both_true (both_true (le-leb 1 (rows_of r 35) assemblies) (ascii_name (codes "System") refl refl)) (ascii_name (codes "Object") refl refl)) refl)
classes_askable r (suc k) below types assemblies =
    row_behind
    r
    ((classes k).rows ++ numbered_row k ∷ [])
    (method_row k)
    (row_behind r (classes k).rows (numbered_row k) (classes_askable r k (omega arith) types assemblies) (class_row_askable r _ types (class_name k (omega arith))))
    (method_row_askable r k)

-- Program and Main add one row each
made_rows : (n table : ℕ) → rows_of (made_of n) table ≡ rows_of (classes n) table + count_in table (class_row (codes "Program")) + count_in table (main_row n)
unfolding made_of rows_of
made_rows n table = rows_of-two (classes n) (class_row (codes "Program")) (main_row n) table

-- each row of the whole may be asked for
rows_askable : (n : ℕ) → n ≤ 2000 → list_all (is_askable_row (made_of n)) (made_of n).rows ≡ true
unfolding made_of
rows_askable n below =
    let types : 1 ≤ rows_of (made_of n) 1 = omega (arith, made_rows n 1, (refs_of n).1) in
    let assemblies : 1 ≤ rows_of (made_of n) 35 = omega (arith, made_rows n 35, (refs_of n).0) in
    let program = class_row_askable (made_of n) (codes "Program") types (ascii_name (codes "Program") refl refl) in
    row_behind
    (made_of n)
    ((classes n).rows ++ class_row (codes "Program") ∷ [])
    (main_row n)
    (row_behind (made_of n) (classes n).rows (class_row (codes "Program")) (classes_askable (made_of n) n below types assemblies) program)
    (main_row_askable (made_of n) n)

-- the whole may be asked for
pub askable : (n : ℕ) → n ≤ 2000 → IsAskable (made_of n)
unfolding made_of
askable n below = record {
  name = ap is_name (frame n).0 ∙ ascii_name (codes "Made") refl refl;
  version = ap is_version (frame n).1;
  rows = rows_askable n below;
  entry = omega arith;
  few = λ table _. omega (arith, made_rows n table, few_classes table n, one_row 2 table, one_row 6 table);
  light = made_weight n below;
}
