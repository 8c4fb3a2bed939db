-- What a step of the walk does with the types of rows.
use Rattle.std.specs.Prelude.{◌≡◌, ℕ, ◌⊎◌, List, [], ◌∷◌, ◌++◌, slice_get, slice_set, Some, None}
use Rattle.assemblies.specs.Rows.{Assembly}
use Rattle.machine.specs.Data.{Id}
use Rattle.member_keys.specs.declared.keys.ClassId.{ClassId}
use Rattle.scope_walk.specs.declared.walk.Walk.{Walk}
use Rattle.member_keys.specs.Seen.{class_seen}
use Rattle.scope_walk.specs.Scopes.{inner_of}

-- a row has a type more
pub record Settles (old new : Walk) (n : ℕ) (c : ClassId) : Type 0 where
  pub resolved : new.resolved.items ≡ slice_set old.resolved.items n (Some c)
  pub found : new.found.items ≡ old.found.items ++ n ∷ []

pub record Keeps (old new : Walk) : Type 0 where
  pub resolved : new.resolved.items ≡ old.resolved.items
  pub found : new.found.items ≡ old.found.items

-- a row without a type gets the one that it names inside another type, where it names one there
pub record Finds (ps : List Assembly) (file : ℕ) (outer : Id) (n : ℕ) (old new : Walk) : Type 0 where
  pub class : ClassId
  pub fresh : slice_get old.resolved.items n ≡ Some None
  pub names : inner_of ps file outer n ≡ Some (class_seen class)
  pub settles : Settles old new n class

pub record Passes (ps : List Assembly) (file : ℕ) (outer : Id) (n : ℕ) (old new : Walk) : Type 0 where
  pub none : slice_get old.resolved.items n ≡ Some None → inner_of ps file outer n ≡ None
  pub keeps : Keeps old new

abbrev pub Visits : List Assembly → ℕ → Id → ℕ → Walk → Walk → Type 0
Visits ps file outer n old new = Finds ps file outer n old new ⊎ Passes ps file outer n old new
