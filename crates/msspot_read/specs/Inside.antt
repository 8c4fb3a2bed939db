-- What the fields of the parts hold.
use Rattle.std.specs.Prelude.{◌≡◌, ℕ, ◌<◌, ◌≤◌, length, slice_index}
use Rattle.msspot_read.specs.Places.{table_start, pool_start}
use Rattle.msspot_read.specs.declared.parts.Parts.TheInside.{Inside}

pub record IsParts (p : Inside) : Type 0 where
  pub long : 56 ≤ length p.bytes.now
  pub tables : (t : ℕ) → t < 11 → slice_index p.tables t ≡ table_start p.bytes.now t
  pub pools : (k : ℕ) → k < 5 → slice_index p.pools k ≡ pool_start p.bytes.now k
  pub inside : pool_start p.bytes.now 4 ≤ length p.bytes.now
  pub small : pool_start p.bytes.now 4 ≤ 200000000
