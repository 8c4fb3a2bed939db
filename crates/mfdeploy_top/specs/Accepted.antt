-- Which files are accepted behind the base library.
use Rattle.std.specs.Prelude.{◌≡◌, ◌⊎◌, ℕ, List, [], ◌∷◌, ◌++◌, slice_get, unwrap_or, Result, Ok, Err}
use Rattle.plain_types.specs.declared.fault.Fault.{Fault}
use Rattle.file_tables.specs.File.{FilePart}
use Rattle.cil_layout.specs.Layout.{built}
use Rattle.base_tables.specs.declared.library.TheConstants.{MSCORLIB_NAME, NATIVE_NAME}
use Rattle.base_tables.specs.Tables.{mscorlib_items, native_items}
use Rattle.base_lib.specs.Files.{library_of}
use Rattle.base_rows.specs.Facts.{base}
use Rattle.type_names.specs.Opening.{files_opened}
use Rattle.verdict_rules.specs.Verdict.{Verdict, verdict}
use Rattle.verdict_rules.specs.Verdict as rules
use Rattle.mf_front.specs.declared.outcome.Outcome.{Outcome}
use Rattle.mf_front.specs.declared.outcome.Outcome.TheVariants.{Refused, NoMemory}

-- the bytes of the base library's two files
unfoldable pub base_bytes : List (List ℕ)
base_bytes = built (library_of MSCORLIB_NAME.now mscorlib_items) ∷ built (library_of NATIVE_NAME.now native_items) ∷ []

-- the first two files are the base library's
abbrev pub IsBased : List FilePart → Type 0
IsBased all = (xs : List FilePart) × (all ≡ base xs)

-- the name that a file of a world is told by: the base library's are the first two
unfoldable pub told_name : List (List ℕ) → ℕ → List ℕ
told_name files number = unwrap_or (slice_get (MSCORLIB_NAME.now ∷ NATIVE_NAME.now ∷ files) number) []

-- the parts of files, or what the verdict refuses
abbrev pub judged_by : List FilePart → Verdict → Result (List FilePart) Fault
judged_by all rules.Accepted = Ok all
judged_by all (rules.Refused fault) = Err fault

abbrev pub judged : Result (List FilePart) Fault → Result (List FilePart) Fault
judged (Ok all) = judged_by all (verdict all)
judged (Err fault) = Err fault

-- the parts of the base library's files and those of these bytes, or the first rule of 1 to 54 that they break: of 1 to 13 that a
-- file breaks, else by the verdict
abbrev pub accepted_of : List (List ℕ) → Result (List FilePart) Fault
accepted_of bytes = judged (files_opened (base_bytes ++ bytes))

-- what a broken rule comes to, told with the name of the file
abbrev pub refused_of : List (List ℕ) → Fault → Outcome
refused_of files fault = Refused fault (told_name files fault.place.file)

-- what files that aren't accepted come to; want of memory is free
pub record IsRefused (files : List (List ℕ)) (found : Result (List FilePart) Fault) (outcome : Outcome) : Type 0 where
  pub fault : Fault
  pub broken : found ≡ Err fault
  pub told : outcome ≡ refused_of files fault

abbrev pub IsRefusal : List (List ℕ) → Result (List FilePart) Fault → Outcome → Type 0
IsRefusal files found outcome = IsRefused files found outcome ⊎ (outcome ≡ NoMemory)
