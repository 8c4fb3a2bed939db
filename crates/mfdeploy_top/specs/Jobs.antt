-- What a job comes to, over a store.
use Rattle.std.specs.Prelude.{◌≡◌, ◌⊎◌, ℕ, IsTrue, List, [], length, map, take, slice_get, Option, Some, None, unwrap_or}
use Rattle.plain_types.specs.Counts.{Rose}
use Rattle.mf_types.specs.Files.{FilesStay, OthersStay}
use Rattle.mf_types.specs.StoreCalls.{StoreState}
use Rattle.mf_types.specs.declared.store.FailedCall.TheVariants.{Read}
use Rattle.mf_front.specs.declared.jobs.Job.{Job}
use Rattle.mf_front.specs.declared.jobs.Job.TheVariants.{Run1, Check, Convert}
use Rattle.mf_front.specs.declared.outcome.Outcome.{Outcome}
use Rattle.mf_front.specs.declared.outcome.Outcome.TheVariants.{Usage, ReadFault, NoMemory}
use Rattle.mf_front.specs.Jobs.{files_of}
use Rattle.mfdeploy_top.specs.FirstPath.{run_of}
use Rattle.mfdeploy_top.specs.Check.{check_of}
use Rattle.mfdeploy_top.specs.Convert.{AreRefused, IsSetPut}
use Rattle.mfdeploy_top.specs.declared.reading.Unread.{Unread}
use Rattle.mfdeploy_top.specs.declared.reading.Unread.TheVariants as unread

-- the bytes of files, one list for each; where the store tells, those that it held
pub record AreRead (store : StoreState) (files bytes : List (List ℕ)) : Type 0 where
  pub count : length bytes ≡ length files
  pub held : IsTrue store.tells → map store.held files ≡ map Some bytes

-- the first of files that couldn't be read: those before it were, the store failed in this call, and its last failure is
-- the read of this file
pub record IsFirstUnread (files : List (List ℕ)) (old new : StoreState) (file : List ℕ) : Type 0 where
  pub before : ℕ
  pub is_file : slice_get files before ≡ Some file
  pub bytes : List (List ℕ)
  pub read : AreRead old (take before files) bytes
  pub cause : Rose old.faults new.faults
  pub call : new.failed ≡ Some (Read file)

abbrev pub IsUnreadOf : List (List ℕ) → StoreState → StoreState → Unread → Type 0
IsUnreadOf files old new (unread.File file) = IsFirstUnread files old new file
IsUnreadOf files old new unread.NoMemory = Unit {0}

-- what files come to that weren't all read
abbrev pub unread_of : Unread → Outcome
unread_of (unread.File file) = ReadFault file
unread_of unread.NoMemory = NoMemory

-- a store that was only read, without a failure
pub record IsReadOnly (old new : StoreState) : Type 0 where
  pub tells : new.tells ≡ old.tells
  pub faults : new.faults ≡ old.faults

-- ---- what a job comes to that leaves all files as they were

-- the words are no job
pub record IsNoJob (job : Option Job) (outcome : Outcome) : Type 0 where
  pub none : job ≡ None
  pub told : outcome ≡ Usage

-- one of the files couldn't be read
pub record IsUnread (job : Option Job) (old new : StoreState) (outcome : Outcome) : Type 0 where
  pub asked : Job
  pub is_asked : job ≡ Some asked
  pub file : List ℕ
  pub first : IsFirstUnread (files_of asked) old new file
  pub told : outcome ≡ ReadFault file

-- what the bytes of a job's files come to, where nothing is put into the store
abbrev pub Answers : Job → List (List ℕ) → Outcome → Type 0
Answers (Run1 file steps) bytes outcome = outcome ≡ run_of (unwrap_or (slice_get bytes 0) []) file steps
Answers (Check files) bytes outcome = outcome ≡ check_of files bytes
Answers (Convert out files) bytes outcome = AreRefused files bytes outcome

-- the files were read, and this is what their bytes come to
pub record IsAnswered (job : Option Job) (old : StoreState) (outcome : Outcome) : Type 0 where
  pub asked : Job
  pub is_asked : job ≡ Some asked
  pub bytes : List (List ℕ)
  pub read : AreRead old (files_of asked) bytes
  pub told : Answers asked bytes outcome

-- want of memory is free
pub record Leaves (job : Option Job) (old new : StoreState) (outcome : Outcome) : Type 0 where
  pub stay : FilesStay old.held new.held
  pub ends : IsNoJob job outcome ⊎ IsUnread job old new outcome ⊎ IsAnswered job old outcome ⊎ (outcome ≡ NoMemory)

-- ---- and what changes one of them

-- the files of `convert` were read and become a set, which is put into the store as OUT
pub record IsPut (job : Option Job) (old new : StoreState) (outcome : Outcome) : Type 0 where
  pub out : List ℕ
  pub files : List (List ℕ)
  pub is_asked : job ≡ Some (Convert out files)
  pub bytes : List (List ℕ)
  pub read : AreRead old files bytes
  pub put : IsSetPut out bytes old new outcome

-- what a job may come to, over a store
abbrev pub ComesTo : Option Job → StoreState → StoreState → Outcome → Type 0
ComesTo job old new outcome = Leaves job old new outcome ⊎ IsPut job old new outcome

-- ---- which files a job leaves in any case: all, but for OUT of `convert`

abbrev pub JobLeaves : Job → StoreState → StoreState → Type 0
JobLeaves (Convert out files) old new = OthersStay old.held new.held out
JobLeaves asked old new = FilesStay old.held new.held

abbrev pub FilesLeft : Option Job → StoreState → StoreState → Type 0
FilesLeft None old new = FilesStay old.held new.held
FilesLeft (Some asked) old new = JobLeaves asked old new

-- ---- what read bytes come to, over the store from which they were read

pub record IsTold (asked : Job) (bytes : List (List ℕ)) (old new : StoreState) (outcome : Outcome) : Type 0 where
  pub stay : FilesStay old.held new.held
  pub told : Answers asked bytes outcome ⊎ (outcome ≡ NoMemory)

pub record IsToldByPut (asked : Job) (bytes : List (List ℕ)) (old new : StoreState) (outcome : Outcome) : Type 0 where
  pub out : List ℕ
  pub files : List (List ℕ)
  pub is_asked : asked ≡ Convert out files
  pub put : IsSetPut out bytes old new outcome

abbrev pub ReadEnds : Job → List (List ℕ) → StoreState → StoreState → Outcome → Type 0
ReadEnds asked bytes old new outcome = IsTold asked bytes old new outcome ⊎ IsToldByPut asked bytes old new outcome
