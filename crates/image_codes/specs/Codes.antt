-- The codes of a file's kept methods, shortened, and the limits 15 and 16 that they pass.
use Rattle.std.specs.Prelude.{◌≡◌, ℕ, true, List, ◌++◌, map, Some, None, slice_get}
use Rattle.std.specs.List.{sum_by}
use Rattle.std.specs.Option.{option_or}
use Rattle.cil_code.specs.Bodies.{BodyPart}
use Rattle.file_tables.specs.Metadata.{rows_of}
use Rattle.file_tables.specs.File.{FilePart}
use Rattle.classes.specs.Queries.{first_some}
use Rattle.kept_rows.specs.Select.{select}
use Rattle.short_code.specs.Short.{short_end}
use Rattle.world_rows.specs.Tokens.{methods}
use Rattle.msspot_write.specs.Written.{codes_of as bytes_of}
use Rattle.row_numbers.specs.declared.table.Table.TheVariants as table
use Rattle.kept_marks.specs.Masks.{Masks}
use Rattle.code_shrink.specs.Limits.{far_in, wide_in}
use Rattle.code_shrink.specs.Shrunk.{CanShrink, pieces_of, shrunk_bytes}
use Rattle.converted.specs.Bodies.{body_of, codes_of}
use Rattle.converted.specs.Over.{limit_in, over_distances, over_switches}
use Rattle.image_codes.specs.declared.codes.Shrunk.{Shrunk}
use Rattle.image_codes.specs.declared.refusal.CodesRefusal.{CodesRefusal}
use Rattle.image_codes.specs.declared.refusal.CodesRefusal.TheVariants.{Distance, Switch, NoMemory}

-- ---- of the rows of a file that are kept

module _ (kept : Masks) (x : FilePart) where
  -- in the order of the rows; a method without a body has empty code
  abbrev pub codes_of_kept : List (List ℕ)
  codes_of_kept = select (kept table.MethodDef) (codes_of x)

  -- each of their bodies breaks no rule of opcodes and ends, and leads to instructions
  abbrev pub AllCanShrink : Type 0
  AllCanShrink =
      (n : ℕ) (row : List ℕ) (b : BodyPart) → slice_get (rows_of x.metadata methods) n ≡ Some row → kept table.MethodDef n ≡ true → body_of x row ≡ Some b → CanShrink b.code

-- ---- what they come to

-- how many bytes a code has with operands of 16 bits
abbrev pub short_length : List ℕ → ℕ
short_length code = short_end (pieces_of code)

abbrev pub short_lengths : List (List ℕ) → ℕ
short_lengths codes = sum_by short_length codes

-- the limit that these codes of assembly f pass: 15 before 16
abbrev pub IsPast : ℕ → List (List ℕ) → CodesRefusal → Type 0
IsPast f codes (Distance size) = over_distances f codes ≡ Some (limit_in f 15 size)
IsPast f codes (Switch targets) = (over_distances f codes ≡ None) × (over_switches f codes ≡ Some (limit_in f 16 targets))
IsPast f codes NoMemory = Unit {0}

-- ---- on the way

-- what was found before the rest of all codes
pub record IsLeft (token : ℕ → ℕ) (found : Shrunk) (rest whole : List (List ℕ)) : Type 0 where
  pub near : first_some far_in rest ≡ first_some far_in whole
  pub wide : option_or found.wide (first_some wide_in rest) ≡ first_some wide_in whole
  pub codes : found.wide ≡ None → bytes_of found.codes.items ++ map (shrunk_bytes token) rest ≡ map (shrunk_bytes token) whole
