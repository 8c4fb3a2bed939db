-- Ranges of methods that follow one another, as those of a file do (II.22.37).
use Rattle.std.specs.Prelude.{◌≡◌, ℕ, ◌+◌, ◌<◌, ◌≤◌, Some, slice_get}
use Rattle.assemblies.specs.Rows.{TypeRow, Assembly}

pub record MethodsRise (p : Assembly) : Type 0 where
  pub rise : (i j : ℕ) (t u : TypeRow) → i < j → slice_get p.types i ≡ Some t → slice_get p.types j ≡ Some u → t.first_method + t.method_count ≤ u.first_method
