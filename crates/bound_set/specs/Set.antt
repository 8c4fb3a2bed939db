-- A set that was found in the flash.
use Rattle.std.specs.Prelude.{◌≡◌, ℕ, ◌≤◌, List, length}
use Rattle.deploy_model.specs.Banks.{WholeSet, found}
use Rattle.boot_scan.specs.Images.{FORMAT}
use Rattle.boot_scan.specs.Sets.{images_in, IsInside}
use Rattle.boot_scan.specs.declared.sets.Set.{Set}

-- its lists have 32 places each
pub record IsSized (s : Set) : Type 0 where
  pub few : s.count ≤ 32
  pub places : length s.at ≡ 32
  pub sizes : length s.size ≡ 32

pub record IsFound (flash : List ℕ) (s : Set) : Type 0 where
  pub long : length flash ≤ 4294967295
  pub found : found FORMAT flash ≡ WholeSet (images_in flash s)
  pub inside : IsInside flash s
