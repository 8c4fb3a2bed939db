-- How many rows the classes make, and what they weigh.
use Rattle.std.proofs.Common.{◌≡◌, ℕ, zero, suc, ◌+◌, ◌*◌, ◌≤◌, length, codes, decimal, refl, ap, sym, ◌∙◌, add-one, arith, length-append}
use Rattle.std.proofs.lemmas.Fmt.{length-decimal-le}
use Rattle.cil_layout.specs.declared.rows.Row.{Row}
use Rattle.cil_layout.specs.declared.rows.TheConstants.{METHOD_DEF}
use Rattle.cil_layout.specs.Asked.{Asked, rows_of, weight_of, row_weight, count_in, with_row, with_entry, token_of}
use Rattle.cil_layout.proofs.Counts.{rows_of-with_row, weight_of-with_row}
use Rattle.made_assembly.specs.Made.{references, classes, class_row, numbered_row, method_row, body_of, main_row, method_token, made_of}

-- two rows more
pub rows_of-two : (r : Asked) (row next : Row) (table : ℕ) → rows_of (with_row (with_row r row) next) table ≡ rows_of r table + count_in table row + count_in table next
rows_of-two r row next table = omega (arith, rows_of-with_row r row table, rows_of-with_row (with_row r row) next table)

weight_of-two : (r : Asked) (row next : Row) → weight_of (with_row (with_row r row) next) ≡ weight_of r + row_weight row + row_weight next
weight_of-two r row next = omega (arith, weight_of-with_row r row, weight_of-with_row (with_row r row) next)

-- a further class
pub next_classes : (k : ℕ) (r next : Asked) → r ≡ classes k → next ≡ with_row (with_row r (numbered_row k)) (method_row k) → next ≡ classes (k + 1)
unfolding classes
next_classes k r next old added = added ∙ ap (λ before. with_row (with_row before (numbered_row k)) (method_row k)) old ∙ ap classes (sym (add-one k))

-- the classes so far, and <Module>
pub types_of : (k : ℕ) → rows_of (classes k) 2 ≡ k + 1
unfolding classes rows_of references
types_of zero = refl
types_of (suc k) = omega (arith, types_of k, rows_of-two (classes k) (numbered_row k) (method_row k) 2)

-- their methods
pub methods_of : (k : ℕ) → rows_of (classes k) 6 ≡ k
unfolding classes rows_of references
methods_of zero = refl
methods_of (suc k) = omega (arith, methods_of k, rows_of-two (classes k) (numbered_row k) (method_row k) 6)

-- a body has at most 34 bytes
body_le : (k : ℕ) → length (body_of k) ≤ 34
body_le zero = omega arith
body_le (suc j) = omega arith

-- a class with its method weighs at most 200
class_weight : (k : ℕ) → k ≤ 2000 → weight_of (classes k) ≤ 5000 + 200 * k
unfolding classes references weight_of
class_weight zero below = omega arith
class_weight (suc k) below =
    omega (arith, class_weight k (omega arith), weight_of-two (classes k) (numbered_row k) (method_row k), length-decimal-le 4 k (omega arith) (omega arith) (omega arith), length-append (codes "C") (decimal k), body_le k)

-- the whole isn't too heavy
pub made_weight : (n : ℕ) → n ≤ 2000 → weight_of (made_of n) ≤ 4194304
unfolding made_of weight_of
made_weight n below = omega (arith, class_weight n below, weight_of-two (classes n) (class_row (codes "Program")) (main_row n))

-- the class Program has no method yet
pub program_methods : (n : ℕ) (r next : Asked) → r ≡ classes n → next ≡ with_row r (class_row (codes "Program")) → rows_of next 6 ≡ n
program_methods n r next old added =
    omega (arith, ap (λ a. rows_of a 6) added, ap (λ a. rows_of a 6) old, rows_of-with_row r (class_row (codes "Program")) 6, methods_of n)

-- with Main and its token the whole is asked for
pub whole : (n token : ℕ) (r program next : Asked)
    → r ≡ classes n
    → program ≡ with_row r (class_row (codes "Program"))
    → next ≡ with_row program (main_row n)
    → token ≡ token_of METHOD_DEF (rows_of program 6 + 1)
    → with_entry next token ≡ made_of n
unfolding made_of
whole n token r program next old added main entry =
    let e : token ≡ method_token n = omega (arith, entry, program_methods n r program old added) in
    ap (λ t. with_entry next t) e
    ∙ ap (λ a. with_entry a (method_token n)) (main ∙ ap (λ a. with_row a (main_row n)) (added ∙ ap (λ a. with_row a (class_row (codes "Program"))) old))
