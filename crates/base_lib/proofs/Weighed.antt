-- How much an item adds to the rows of a table and to the weight.
use Rattle.std.proofs.Common.{◌≡◌, ℕ, ◌+◌, ◌≤◌, List, [], ◌∷◌, length, cond, true, refl, arith}
use Rattle.std.specs.Prelude.{◌==◌, nat_lt, sum_by, if◌then◌else◌}
use Rattle.std.specs.List.{list_all}
use Rattle.std.proofs.lemmas.Bool.Decides.{nat_tests}
use Rattle.std.proofs.lemmas.List.Sums.{sum_by-append}
use Rattle.base_tables.specs.Shape.{Item, Body, Kind}
use Rattle.base_tables.specs.declared.shape.Entry.{Entry}
use Rattle.base_tables.specs.declared.shape.Entry.TheVariants.{Literal, TypeDef, Field, Method, Implements, Assembly, TypeOf, MethodOf}
use Rattle.base_tables.specs.declared.shape.Work.{Work}
use Rattle.base_tables.specs.declared.shape.Work.TheVariants.{Code, Native, Abstract}
use Rattle.cil_layout.specs.Asked.{Asked, count_in, one_if, row_weight, padded_length}
use Rattle.base_lib.specs.Keys.{table_of_entry}
use Rattle.base_lib.specs.Files.{kinds_token, work_bytes}
use Rattle.base_lib.proofs.Added.{added, kinds_rows, locals_rows, method_row}
use Rattle.base_lib.proofs.Bytes.{IsBlob, field_blob, locals_blob, method_blob, body_blob}

-- a row without data is one row of its own table
one_row : (own table : ℕ) → one_if (own == table) + (if table == 29 then 0 else 0) ≡ cond (own == table) 1 0
one_row own table = grind (arith, nat_tests)

one_le : (own table : ℕ) → one_if (own == table) + (if table == 29 then 0 else 0) ≤ 1
one_le own table = grind (arith, nat_tests)

-- the signature of locals is at most one row
pub kinds_count : (items : List Item) (table : ℕ) (kinds : List Kind) → sum_by (count_in table) (kinds_rows items kinds) ≤ 1
kinds_count items table [] = omega arith
kinds_count items table (k ∷ ks) = omega (arith, one_le 17 table)

locals_count : (items : List Item) (table : ℕ) (work : Work) (body : Body) → sum_by (count_in table) (locals_rows items work body) ≤ 1
locals_count items table Code body = kinds_count items table body.locals
locals_count items table Native body = omega arith
locals_count items table Abstract body = omega arith

-- an entry adds a row to its table, and to no table more than two
pub entry_counts : (items : List Item) (r : Asked) (table : ℕ) (entry : Entry) (i : Item)
    → (cond (table_of_entry entry == table) 1 0 ≤ sum_by (count_in table) (added items r entry i)) × (sum_by (count_in table) (added items r entry i) ≤ 2)
entry_counts items r table Literal i = (omega (arith, one_row 112 table), omega (arith, one_le 112 table))
entry_counts items r table TypeDef i = (omega (arith, one_row 2 table), omega (arith, one_le 2 table))
entry_counts items r table Field i = (omega (arith, one_row 4 table), omega (arith, one_le 4 table))
entry_counts items r table Method i =
    let both : sum_by (count_in table) (added items r Method i) ≡ sum_by (count_in table) (locals_rows items i.body.work i.body) + sum_by (count_in table) (method_row items r i ∷ []) =
    sum_by-append (count_in table) (locals_rows items i.body.work i.body) (method_row items r i ∷ []) in
    (omega (arith, both, one_row 6 table), omega (arith, both, one_le 6 table, locals_count items table i.body.work i.body))
entry_counts items r table Implements i = (omega (arith, one_row 9 table), omega (arith, one_le 9 table))
entry_counts items r table Assembly i = (omega (arith, one_row 35 table), omega (arith, one_le 35 table))
entry_counts items r table TypeOf i = (omega (arith, one_row 1 table), omega (arith, one_le 1 table))
entry_counts items r table MethodOf i = (omega (arith, one_row 10 table), omega (arith, one_le 10 table))

-- padding adds at most 3 bytes
padded_le : (n : ℕ) → padded_length n ≤ n + 3
padded_le n = omega arith

-- what the weight of an item's rows rests on
pub record IsSmall (i : Item) : Type 0 where
  pub key : length i.key ≤ 100
  pub name : length i.name ≤ 100
  pub namespace : length i.namespace ≤ 100
  pub params : length i.signature.params ≤ 100
  pub locals : length i.body.locals ≤ 100
  pub lines : length i.body.lines ≤ 500
  pub numbers : list_all (λ line. nat_lt line.number 256) i.body.lines ≡ true

-- the signature of locals
kinds_weight : (items : List Item) (kinds : List Kind) → length kinds ≤ 100 → sum_by row_weight (kinds_rows items kinds) ≤ 640
kinds_weight items [] few = omega arith
kinds_weight items (k ∷ ks) few = omega (arith, (locals_blob items (k ∷ ks) few).short)

locals_weight : (items : List Item) (work : Work) (body : Body) → length body.locals ≤ 100 → sum_by row_weight (locals_rows items work body) ≤ 640
locals_weight items Code body few = kinds_weight items body.locals few
locals_weight items Native body few = omega arith
locals_weight items Abstract body few = omega arith

-- the body of a method
pub work_blob : (items : List Item) (r : Asked) (work : Work) (i : Item) → IsSmall i → IsBlob 3100 (work_bytes items r work i.body)
work_blob items r Code i small = body_blob items i.body.number (kinds_token r i.body.locals) i.body.lines small.lines small.numbers
work_blob items r Native i small = record { bytes = refl; short = omega arith }
work_blob items r Abstract i small = record { bytes = refl; short = omega arith }

-- an entry weighs at most 5,000
pub entry_weight : (items : List Item) (r : Asked) (entry : Entry) (i : Item) → IsSmall i → sum_by row_weight (added items r entry i) ≤ 5000
entry_weight items r Literal i small = omega (arith, small.key)
entry_weight items r TypeDef i small = omega (arith, small.name, small.namespace)
entry_weight items r Field i small = omega (arith, small.name, (field_blob items i.signature.result).short)
entry_weight items r Method i small =
    omega (arith, small.name, sum_by-append row_weight (locals_rows items i.body.work i.body) (method_row items r i ∷ []), locals_weight items i.body.work i.body small.locals, (method_blob items i.signature small.params).short, (work_blob items r i.body.work i small).short, padded_le (length (work_bytes items r i.body.work i.body)))
entry_weight items r Implements i small = omega arith
entry_weight items r Assembly i small = omega (arith, small.name)
entry_weight items r TypeOf i small = omega (arith, small.name, small.namespace)
entry_weight items r MethodOf i small = omega (arith, small.name, (method_blob items i.signature small.params).short)
