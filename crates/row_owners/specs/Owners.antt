-- The first type that has a row.
use Rattle.std.specs.Prelude.{ℕ, Bool, if◌then◌else◌, List, Option, Some, None}
use Rattle.std.specs.List.{position}
use Rattle.std.specs.Option.{option_or}
use Rattle.assemblies.specs.Binding.{holds}
use Rattle.row_owners.specs.declared.find.Span.{Span}

-- the owner of a row after the type of a number was asked, too
abbrev pub claimed : Option ℕ → Bool → ℕ → Option ℕ
claimed owner has_it n = option_or owner (if has_it then Some n else None)

abbrev pub has_row : ℕ → Span → Bool
has_row row s = holds s.first s.count row

abbrev pub first_span : List Span → ℕ → Option ℕ
first_span spans row = position (has_row row) spans
