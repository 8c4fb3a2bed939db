-- The jobs that words spell.
use Rattle.std.specs.Prelude.{ℕ, Bool, not, ◌==◌, ◌&&◌, nat_le, codes, if◌then◌else◌, List, [], ◌∷◌, length, slice_index, Option, Some, None, option_map}
use Rattle.std.specs.List.{list_all}
use Rattle.std.specs.Str.{bytes_eq}
use Rattle.numerals.specs.Numerals.{number_up_to}
use Rattle.mf_front.specs.declared.jobs.Job.{Job}
use Rattle.mf_front.specs.declared.jobs.Job.TheVariants.{Run1, Check, Convert}

-- a word of two or more characters that begins with a hyphen
abbrev pub is_option : List ℕ → Bool
is_option word = nat_le 2 (length word) && slice_index word 0 == 45

-- words that are the files of a job: 1 to 1,000
abbrev pub are_job_files : List (List ℕ) → Bool
are_job_files words = nat_le 1 (length words) && nat_le (length words) 1000 && list_all (λ word. not (is_option word)) words

-- `run1 FILE STEPS`
unfoldable pub run1_of : List (List ℕ) → Option Job
run1_of (file ∷ steps ∷ []) = if is_option file then None else option_map (Run1 file) (number_up_to 0xFFFF_FFFF_FFFF_FFFF steps)
run1_of _ = None

-- `check FILES`
unfoldable pub check_of : List (List ℕ) → Option Job
check_of words = if are_job_files words then Some (Check words) else None

-- `convert OUT FILES`
unfoldable pub convert_of : List (List ℕ) → Option Job
convert_of [] = None
convert_of (out ∷ files) = if not (is_option out) && are_job_files files then Some (Convert out files) else None

-- the job
unfoldable pub job_of : List (List ℕ) → Option Job
job_of [] = None
job_of (command ∷ words) =
    if bytes_eq command (codes "run1") then run1_of words
    else if bytes_eq command (codes "check") then check_of words
    else if bytes_eq command (codes "convert") then convert_of words
    else None
