-- What the references of one assembly of a set name.
use Rattle.std.specs.Prelude.{◌≡◌, ℕ, ◌≤◌, List, length, Option, slice_get}
use Rattle.std.specs.Option.{option_map_or}
use Rattle.machine.specs.Throw.{on_some}
use Rattle.member_keys.specs.declared.keys.ClassId.{ClassId}
use Rattle.assemblies.specs.Rows.{Assembly}
use Rattle.assemblies.specs.Binding.{assembly_of, resolve_ref}
use Rattle.scope_walk.specs.Scopes.{references_in}
use Rattle.scope_walk.specs.Walk.{value_at}

-- how many assemblies it refers to
abbrev pub count_at : List Assembly → ℕ → ℕ
count_at ps file = option_map_or (λ (p : Assembly). length p.assemblies) (slice_get ps file) 0

pub record AreAssemblies (ps : List Assembly) (file : ℕ) (found : List (Option ℕ)) : Type 0 where
  pub size : length found ≡ count_at ps file
  pub each : (n : ℕ) → on_some (slice_get found n) (λ o. o) ≡ assembly_of ps file n

pub record AreTypes (ps : List Assembly) (file : ℕ) (found : List (Option ClassId)) : Type 0 where
  pub size : length found ≡ references_in ps file
  pub each : (most n : ℕ) → references_in ps file ≤ most → value_at found n ≡ resolve_ref most ps file n
