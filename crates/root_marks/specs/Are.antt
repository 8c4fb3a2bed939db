-- When marks are those of the roots.
use Rattle.std.specs.Prelude.{◌≡◌, ℕ, Bool, true, false, List, Some, slice_get}
use Rattle.assemblies.specs.Rows.{Assembly, MethodRow}
use Rattle.row_closure.specs.Closure.{holds}
use Rattle.kept_rules.specs.Rules.{Root, root_row}
use Rattle.kept_numbers.specs.Numbers.{number_of}

abbrev pub IsClear : List Bool → Type 0
IsClear bits = (n : ℕ) → holds bits n ≡ false

-- each entry is a method of its file
abbrev pub EntriesStand : List Assembly → Type 0
EntriesStand ps = (f n : ℕ) (p : Assembly) → slice_get ps f ≡ Some p → p.entry ≡ Some n → (m : MethodRow) × (slice_get p.methods n ≡ Some m)

pub record AreRoots (size : ℕ) (ps : List Assembly) (roots : ℕ → Bool) : Type 0 where
  pub has_root : (r : Root size ps) → roots (number_of ps (root_row size ps r)) ≡ true
  pub is_root : (n : ℕ) → roots n ≡ true → (r : Root size ps) × (n ≡ number_of ps (root_row size ps r))
