-- What a method of a file may take.
use Rattle.std.specs.Prelude.{ℕ, Bool, ◌||◌, ◌&&◌, nat_eq}
use Rattle.classes.specs.Classes.{Classes}
use Rattle.member_keys.specs.declared.keys.PlaceKey.{PlaceKey}
use Rattle.member_keys.specs.Seen.{place_seen}
use Rattle.class_rules.specs.Rules.{sig_fits, is_handle, sig_of_place}

unfoldable pub place_fits : Classes → ℕ → PlaceKey → Bool
place_fits cs file p = sig_fits cs (sig_of_place (place_seen p)) || (nat_eq file 0 && is_handle cs (sig_of_place (place_seen p)))
