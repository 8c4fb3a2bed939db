-- The pools as they are gathered from parts.
use Rattle.std.specs.Prelude.{◌≡◌, ℕ, List, ◌++◌}
use Rattle.image_pools.specs.Pools.{Entry}
use Rattle.msspot_write.specs.declared.gather.Gathered.{Gathered}
use Rattle.msspot_write.specs.Starts.{Agrees, joined}
use Rattle.msspot_write.specs.Parts.{PoolsOf}

pub record IsSound (g : Gathered) : Type 0 where
  pub strings : Agrees g.strings
  pub signatures : Agrees g.signatures

-- the pools took these entries and bytes up
pub record Grows (old new : Gathered) (texts forms : List Entry) (bytes : List ℕ) : Type 0 where
  pub strings : new.strings.entries.items ≡ joined old.strings.entries.items texts
  pub signatures : new.signatures.entries.items ≡ joined old.signatures.entries.items forms
  pub data_pool : new.data_pool.items ≡ old.data_pool.items ++ bytes
  pub sound : IsSound new

abbrev pub pools_in : Gathered → PoolsOf
pools_in g = record { strings = g.strings.entries.items; signatures = g.signatures.entries.items; data_pool = g.data_pool.items }
