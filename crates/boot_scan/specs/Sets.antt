-- What the code tells of sets, as what is found.
use Rattle.std.specs.Prelude.{◌≡◌, ℕ, ◌+◌, ◌<◌, ◌≤◌, List, [], ◌∷◌, length, take, drop, slice_index}
use Rattle.deploy_model.specs.Banks.{Image, entries, sizes, NoSet, BadSet, WholeSet}
use Rattle.deploy_model.specs.Banks as model
use Rattle.boot_scan.specs.Images.{FORMAT}
use Rattle.boot_scan.specs.declared.sets.Set.{Set}
use Rattle.boot_scan.specs.declared.sets.Found.{Found}
use Rattle.boot_scan.specs.declared.sets.Found.TheVariants as found
use Rattle.wire_packets.specs.declared.payload.TheConstants.{NOT_FOUND, OLD_FORMAT, LATE_OLD_FORMAT, IN_A_BANK}
use Rattle.boot_scan.specs.declared.finding.Located.{Located}
use Rattle.boot_scan.specs.declared.finding.Place.{Place}
use Rattle.boot_scan.specs.declared.finding.Place.TheVariants as places
use Rattle.boot_scan.specs.declared.walk.Walked.{Walked}
use Rattle.boot_scan.specs.declared.walk.Walked.TheVariants as walked

abbrev pub image_in : List ℕ → ℕ → ℕ → Image
image_in bytes at size = record { at = at; bytes = take size (drop at bytes) }

-- the images at places of some bytes
abbrev pub images_of : List ℕ → List ℕ → List ℕ → List Image
images_of bytes [] sizes = []
images_of bytes (at ∷ places) [] = []
images_of bytes (at ∷ places) (size ∷ sizes) = image_in bytes at size ∷ images_of bytes places sizes

abbrev pub images_in : List ℕ → Set → List Image
images_in bytes s = images_of bytes (take s.count s.at) (take s.count s.size)

-- a set is found with the bytes at its places
abbrev pub found_view : List ℕ → Found → model.Found
found_view bytes found.Nothing = NoSet
found_view bytes (found.Set s) = WholeSet (images_in bytes s)
found_view bytes (found.Bad at) = BadSet at

abbrev pub walked_view : List ℕ → Walked → model.Walked
walked_view bytes (walked.Stuck at) = model.Stuck at
walked_view bytes (walked.Walks set entries total) = model.Walks (images_in bytes set)

-- the images of a set lie inside the bytes, and nothing stands behind them
pub record IsInside (bytes : List ℕ) (s : Set) : Type 0 where
  pub few : s.count ≤ 32
  pub inside : (k : ℕ) → k < s.count → slice_index s.at k + slice_index s.size k ≤ length bytes
  pub no_place : (k : ℕ) → s.count ≤ k → slice_index s.at k ≡ 0
  pub no_size : (k : ℕ) → s.count ≤ k → slice_index s.size k ≡ 0

abbrev pub IsTold : List ℕ → Walked → Type 0
IsTold bytes (walked.Stuck at) = Unit {0}
IsTold bytes (walked.Walks set count total) =
    IsInside bytes set × (entries FORMAT (images_in bytes set) ≡ count) × (sizes (images_in bytes set) ≡ total)

abbrev pub AreInside : List ℕ → Found → Type 0
AreInside bytes found.Nothing = Unit {0}
AreInside bytes (found.Set s) = IsInside bytes s
AreInside bytes (found.Bad at) = Unit {0}

-- where it is found, by its kind, bank and number
abbrev pub place_view : model.Found → Place → model.Located
place_view f places.Nowhere = model.located f NOT_FOUND 0 0
place_view f places.Front = model.located f OLD_FORMAT 0 0
place_view f places.LateFront = model.located f LATE_OLD_FORMAT 0 0
place_view f (places.Bank bank number) = model.located f IN_A_BANK bank number

abbrev pub located_view : List ℕ → Located → model.Located
located_view bytes l = place_view (found_view bytes l.found) l.place
