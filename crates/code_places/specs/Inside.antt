-- What a listing holds.
use Rattle.std.specs.Prelude.{◌≡◌, ℕ, ◌<◌, false, length, slice_index_or}
use Rattle.cil_code.specs.Walk.{starts_of}
use Rattle.code_places.specs.Among.{is_among}
use Rattle.code_places.specs.Places.{all_targets, end_of}
use Rattle.code_places.specs.declared.listing.Listing.TheInside.{Inside}

pub record IsListing (l : Inside) : Type 0 where
  pub clauses : l.clauses.items ≡ l.body.clauses
  pub starts : (n : ℕ) → slice_index_or l.starts n false ≡ is_among (starts_of l.body.code) n
  pub targets : (n : ℕ) → n < length l.body.code → slice_index_or l.targets n false ≡ is_among (all_targets l.body.code) n
  pub end : l.end ≡ end_of l.body.code
