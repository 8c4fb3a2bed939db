-- The rows of one file that are kept, as a choice of its rows.
use Rattle.std.specs.Prelude.{ℕ, Bool}
use Rattle.assemblies.specs.Chosen.{Choice}
use Rattle.row_numbers.specs.declared.table.Table.{Table}
use Rattle.row_numbers.specs.declared.table.Table.TheVariants as table
use Rattle.kept_marks.specs.Kept.{Marked, marked}

-- for each table which of its rows are kept
abbrev pub Masks : Type 0
Masks = Table → ℕ → Bool

-- those of a file
pub record InFile : Type 0 where
  pub kept : Marked
  pub file : ℕ

abbrev pub masks_of : InFile → Masks
masks_of c t n = marked c.kept t c.file n

-- with the places of the methods' code in the image, and back
abbrev pub choice_with : Masks → (ℕ → ℕ → ℕ) → (ℕ → ℕ → ℕ) → Choice
choice_with kept short long =
    record {
      assemblies = kept table.AssemblyRef;
      refs = kept table.TypeRef;
      field_refs = kept table.FieldRef;
      method_refs = kept table.MethodRef;
      types = kept table.TypeDef;
      fields = kept table.Field;
      methods = kept table.MethodDef;
      specs = kept table.TypeSpec;
      short = short;
      long = long;
    }

-- where only the rows matter
abbrev pub choice_of_rows : Masks → Choice
choice_of_rows kept = choice_with kept (λ n at. at) (λ n at. at)
