-- The parts of all files, or the first fault of the first file that has one.
use Rattle.std.specs.Prelude.{◌≡◌, ℕ, suc, List, [], ◌∷◌, Result, Ok, Err}
use Rattle.plain_types.specs.declared.fault.Fault.{Fault}
use Rattle.file_tables.specs.File.{FilePart, file_of}
use Rattle.type_names.specs.declared.refusal.WorldRefusal.{WorldRefusal}
use Rattle.type_names.specs.declared.refusal.WorldRefusal.TheVariants.{File, NoMemory}
use Rattle.type_names.specs.Files.{fault_in}

-- one file of a number and those behind it
abbrev pub joined : ℕ → Result FilePart Fault → Result (List FilePart) Fault → Result (List FilePart) Fault
joined n (Ok p) (Ok ps) = Ok (p ∷ ps)
joined n (Ok p) (Err fault) = Err fault
joined n (Err fault) rest = Err (fault_in n fault)

abbrev pub opened_from : ℕ → List (List ℕ) → Result (List FilePart) Fault
opened_from n [] = Ok []
opened_from n (bytes ∷ rest) = joined n (file_of bytes) (opened_from (suc n) rest)

abbrev pub files_opened : List (List ℕ) → Result (List FilePart) Fault
files_opened files = opened_from 0 files

-- the call gives these parts, or this fault, unless memory ran out
abbrev pub Opens : {A : Type 0} → (A → List FilePart) → Result A WorldRefusal → Result (List FilePart) Fault → Type 0
Opens view (Ok x) wanted = wanted ≡ Ok (view x)
Opens view (Err (File fault)) wanted = wanted ≡ Err fault
Opens view (Err NoMemory) wanted = Unit {0}
