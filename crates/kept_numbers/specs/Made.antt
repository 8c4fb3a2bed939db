-- Marks and rules over numbers that stand for the roots and the rules of rows.
use Rattle.std.specs.Prelude.{◌≡◌, ℕ, Bool, true, List, Some, slice_get}
use Rattle.row_closure.specs.declared.rule.Rule.{Rule}
use Rattle.assemblies.specs.Rows.{Assembly}
use Rattle.assemblies.specs.Chosen.{Choice}
use Rattle.kept_rules.specs.Row.{Row, marks}
use Rattle.kept_rules.specs.Rules.{Root, root_row, RowRule, first_row, second_row, then_row}
use Rattle.kept_numbers.specs.Numbers.{IsThere, number_of}

module _ (size : ℕ) (ps : List Assembly) where
  abbrev pub rule_of : RowRule size ps → Rule
  rule_of r =
      record { first = number_of ps (first_row size ps r); second = number_of ps (second_row size ps r); then = number_of ps (then_row size ps r) }

  -- a rule whose premises a choice has
  abbrev pub HasPremises : (ℕ → Choice) → RowRule size ps → Type 0
  HasPremises rows r = (marks rows (first_row size ps r) ≡ true) × (marks rows (second_row size ps r) ≡ true)

  -- a rule all of whose rows are there
  abbrev pub AreThere : RowRule size ps → Type 0
  AreThere r = IsThere ps (first_row size ps r) × IsThere ps (second_row size ps r) × IsThere ps (then_row size ps r)

  -- the marks are those of the roots, and the rules have all whose premises are among the rows, and none but such as are there
  pub record AreMade (rows : ℕ → Choice) (roots : ℕ → Bool) (rules : List Rule) : Type 0 where
    pub there : (r : Row) → marks rows r ≡ true → IsThere ps r
    pub has_root : (r : Root size ps) → roots (number_of ps (root_row size ps r)) ≡ true
    pub is_root : (n : ℕ) → roots n ≡ true → (r : Root size ps) × (n ≡ number_of ps (root_row size ps r))
    pub has_rule : (r : RowRule size ps) → HasPremises rows r → (k : ℕ) × (slice_get rules k ≡ Some (rule_of r))
    pub is_rule : (k : ℕ) (x : Rule) → slice_get rules k ≡ Some x → (r : RowRule size ps) × AreThere r × (x ≡ rule_of r)
