-- What is known of the files and their references.
use Rattle.std.specs.Prelude.{◌≡◌, ◌<◌, ◌≤◌, ◌^◌, length, map}
use Rattle.type_names.specs.declared.world.TypeNames.TheInside.{Inside}
use Rattle.type_names.specs.Files.{parts_of}
use Rattle.type_names.specs.Resolved.{AreResolved}

pub record IsWorld (w : Inside) : Type 0 where
  pub base : 2 ≤ length w.files.items
  pub few : length w.files.items < 2 ^ 16
  pub size : length w.references.items ≡ length w.files.items
  pub resolved : AreResolved (parts_of w.files.items) (map (λ types. types.items) w.references.items)
