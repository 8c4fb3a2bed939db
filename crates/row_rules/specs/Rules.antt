-- The rules by which the rows of a table keep the rows that they name.
use Rattle.std.specs.Prelude.{◌≡◌, ℕ, List, Some, slice_get}
use Rattle.assemblies.specs.Rows.{Assembly}
use Rattle.kept_rules.specs.Row.{Row, names_of}
use Rattle.row_rules.specs.Links.{Link, keeps}

-- a list has a rule for each row that a row at one of the places names, and no others
pub record AreNames (ps : List Assembly) (at : ℕ → Row) (links : List Link) : Type 0 where
  pub has : (n i : ℕ) (c : Row) → slice_get (names_of ps (at n)) i ≡ Some c → (k : ℕ) × (slice_get links k ≡ Some (keeps (at n) c))
  pub are : (k : ℕ) (l : Link) → slice_get links k ≡ Some l → (n : ℕ) × ((i : ℕ) × ((c : Row) × ((slice_get (names_of ps (at n)) i ≡ Some c) × (l ≡ keeps (at n) c))))
