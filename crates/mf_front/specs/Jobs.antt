-- The files of a job.
use Rattle.std.specs.Prelude.{ℕ, List, [], ◌∷◌}
use Rattle.mf_front.specs.declared.jobs.Job.{Job}
use Rattle.mf_front.specs.declared.jobs.Job.TheVariants.{Run1, Check, Convert}

-- the files that a job reads, in order
abbrev pub files_of : Job → List (List ℕ)
files_of (Run1 file steps) = file ∷ []
files_of (Check files) = files
files_of (Convert out files) = files
