-- What holds at each moment of operations, and what the deployment keeps.
use Rattle.std.specs.Prelude.{◌≡◌, ◌⊎◌, ◌≤◌, ◌<◌, ◌+◌, ℕ, Bool, true, false, List, [], ◌∷◌, length, slice_index}
use Rattle.flash_trait.specs.Flash.{Operation, IsStopped, AreBytes, after}
use Rattle.deploy_model.specs.Banks.{Format, found, is_set, set_in, bank_found, bank_of, bank_bytes, locate, ROOM, BANK_SIZE, base, holds, bank_marker, image_marker}
use Rattle.wire_packets.specs.declared.payload.TheConstants.{LATE_OLD_FORMAT}
use Rattle.deploy_model.specs.Deployment.{Plan}

-- P holds before each of these operations, of all that a stop of it may leave, and at the end
abbrev pub Through : (List ℕ → Type 0) → List Operation → List ℕ → Type 0
Through P [] content = P content
Through P (op ∷ ops) content = P content × ((d : List ℕ) → IsStopped op content d → P d) × Through P ops (after op content)

-- a set that can be deployed: bytes that fit into a bank, and are read there as a set
pub record IsDeployable (f : Format) (set : List ℕ) : Type 0 where
  pub room : length set ≤ ROOM
  pub bytes : AreBytes set
  pub whole : (bank : ℕ) → is_set (set_in f bank set) ≡ true

-- what may be found at a moment of a session that began with the content start and deploys a set into the bank target
pub data Safe (f : Format) (start set : List ℕ) (target : ℕ) (content : List ℕ) : Type 0 where
  Old : found f content ≡ found f start → Safe f start set target content
  New : found f content ≡ set_in f target set → Safe f start set target content
  -- where the start has no set
  StillNone : is_set (found f start) ≡ false → is_set (found f content) ≡ false → Safe f start set target content
  -- where the start has a set of the format before that ends behind bank 0
  Migrates : (locate f start).kind ≡ LATE_OLD_FORMAT → (is_set (found f content) ≡ false) ⊎ (found f content ≡ bank_found f 1 (bank_of 1 start)) → Safe f start set target content

-- what the operations of a deployment keep at each moment; late says that the start has a set of the format before that
-- ends behind bank 0
pub record IsKept (start set : List ℕ) (p : Plan) (late : Bool) (content : List ℕ) : Type 0 where
  pub size : length content ≡ 262144
  -- outside the target bank all is as at the start, but where it is late the first eight bytes
  pub outside : (place : ℕ) → (place < base p.target) ⊎ (base p.target + BANK_SIZE ≤ place) → (late ≡ true → 8 ≤ place) → slice_index content place ≡ slice_index start place
  -- where the target's marker is whole, the target is the one at the start, or it holds the set and the number
  pub target : holds bank_marker (base p.target) content ≡ true → (bank_of p.target content ≡ bank_of p.target start) ⊎ (bank_of p.target content ≡ bank_bytes p.number set)
  -- where the marker of an image stands at the front of the flash, and the front is written, nothing was changed
  pub front : holds image_marker 0 content ≡ true → (p.target ≡ 0) ⊎ (late ≡ true) → content ≡ start
