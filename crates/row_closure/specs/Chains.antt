-- The rules that name a row as a premise, one after the other.
use Rattle.std.specs.Prelude.{◌≡◌, ℕ, suc, ◌<◌, ◌≤◌, List, Some, length, slice_get}
use Rattle.row_closure.specs.declared.rule.Rule.{Rule}
use Rattle.row_closure.specs.declared.rule.Premise.{Premise}
use Rattle.row_closure.specs.declared.rule.Premise.TheVariants as premise
use Rattle.row_closure.specs.declared.chains.Chains.{Chains}

abbrev pub row_of : Premise → Rule → ℕ
row_of premise.First r = r.first
row_of premise.Second r = r.second

-- the number from 1 of the last of the first n rules that names a row, or 0
pub record IsLast (p : Premise) (rules : List Rule) (n row last : ℕ) : Type 0 where
  pub inside : last ≤ n
  pub names : (k : ℕ) (r : Rule) → last ≡ suc k → slice_get rules k ≡ Some r → row_of p r ≡ row
  pub behind : (k : ℕ) (r : Rule) → last ≤ k → k < n → slice_get rules k ≡ Some r → row_of p r ≡ row → ⊥

-- chains of the first n rules
pub record AreChains (p : Premise) (rules : List Rule) (count n : ℕ) (c : Chains) : Type 0 where
  pub rows : length c.last.items ≡ count
  pub counted : length c.before.items ≡ n
  pub last : (row l : ℕ) → slice_get c.last.items row ≡ Some l → IsLast p rules n row l
  pub before : (k l : ℕ) (r : Rule) → slice_get c.before.items k ≡ Some l → slice_get rules k ≡ Some r → IsLast p rules k (row_of p r) l
