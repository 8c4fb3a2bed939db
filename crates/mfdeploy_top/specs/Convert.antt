-- What the job `convert OUT FILES` comes to.
use Rattle.std.specs.Prelude.{codes, ◌≡◌, ◌⊎◌, ℕ, nat_le, if◌then◌else◌, IsTrue, List, [], length, Some, slice_get, Result, Ok, Err}
use Rattle.std.specs.Option.{option_map_or}
use Rattle.plain_types.specs.Counts.{Rose}
use Rattle.plain_types.specs.declared.fault.Fault.{Fault}
use Rattle.plain_types.specs.declared.fault.Limit.{Limit}
use Rattle.file_tables.specs.File.{FilePart}
use Rattle.type_names.specs.Names.{assembly_name}
use Rattle.mf_types.specs.Files.{OthersStay}
use Rattle.mf_types.specs.StoreCalls.{StoreState}
use Rattle.mf_types.specs.declared.store.FailedCall.TheVariants.{Put}
use Rattle.mf_convert.specs.Conversion.{Converts}
use Rattle.mf_front.specs.declared.outcome.Outcome.{Outcome}
use Rattle.mf_front.specs.declared.outcome.Outcome.TheVariants.{OverLimit, Converted, WriteFault, NoMemory}
use Rattle.mfdeploy_top.specs.Accepted.{accepted_of, refused_of}

-- where a limit is passed: the limits 17 and 18 in the set, all others in an assembly, which is told by its name (II.22.2)
unfoldable pub limit_place : List FilePart → Limit → List ℕ
limit_place all limit =
    if nat_le 17 limit.number then codes "set"
    else option_map_or (λ (x : FilePart). (assembly_name x.metadata).name) (slice_get all limit.assembly) []

-- the bytes of files become this set of so many assemblies: they are accepted, and pass no limit
pub record IsSetOf (bytes : List (List ℕ)) (set : List ℕ) (assemblies : ℕ) : Type 0 where
  pub all : List FilePart
  pub accepted : accepted_of bytes ≡ Ok all
  pub converts : Converts all (Ok set)
  pub count : assemblies ≡ length all

-- they become none: they break a rule, or they are accepted and pass a limit, the first one
abbrev pub PassLimit : List FilePart → Outcome → Type 0
PassLimit all outcome = (limit : Limit) × (Converts all (Err limit) × (outcome ≡ OverLimit limit (limit_place all limit)))

abbrev pub RefusedBy : List (List ℕ) → Result (List FilePart) Fault → Outcome → Type 0
RefusedBy files (Ok all) outcome = PassLimit all outcome
RefusedBy files (Err fault) outcome = outcome ≡ refused_of files fault

abbrev pub AreRefused : List (List ℕ) → List (List ℕ) → Outcome → Type 0
AreRefused files bytes outcome = RefusedBy files (accepted_of bytes) outcome

-- ---- the set is put into the store

-- it stands under the name, where the store tells, and its bytes and assemblies are counted
pub record IsStored (out set : List ℕ) (assemblies : ℕ) (old new : StoreState) (outcome : Outcome) : Type 0 where
  pub held : IsTrue old.tells → new.held out ≡ Some set
  pub told : outcome ≡ Converted (length set) assemblies

-- the store failed in this call, and its last failure is this put
pub record IsPutFault (out : List ℕ) (old new : StoreState) (outcome : Outcome) : Type 0 where
  pub cause : Rose old.faults new.faults
  pub call : new.failed ≡ Some (Put out)
  pub told : outcome ≡ WriteFault

-- want of memory is free
abbrev pub PutEnds : List ℕ → List ℕ → ℕ → StoreState → StoreState → Outcome → Type 0
PutEnds out set assemblies old new outcome = IsStored out set assemblies old new outcome ⊎ IsPutFault out old new outcome ⊎ (outcome ≡ NoMemory)

-- the bytes of files become a set, which is put under a name; no other file changes
pub record IsSetPut (out : List ℕ) (bytes : List (List ℕ)) (old new : StoreState) (outcome : Outcome) : Type 0 where
  pub set : List ℕ
  pub assemblies : ℕ
  pub become : IsSetOf bytes set assemblies
  pub stay : OthersStay old.held new.held out
  pub ends : PutEnds out set assemblies old new outcome
