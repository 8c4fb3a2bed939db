-- A number of four bytes, by its bytes.
use Rattle.std.proofs.Common.{◌≡◌, ℕ, ◌+◌, ◌*◌, List, arith, get_or-drop}
use Rattle.std.specs.Prelude.{slice_index}
use Rattle.little_endian.specs.Numbers.{number}

pub four_bytes : (n : ℕ) (bytes : List ℕ) → number 4 n bytes ≡ slice_index bytes (n + 0) + 256 * slice_index bytes (n + 1) + 65536 * (slice_index bytes (n + 2) + 256 * slice_index bytes (n + 3))
unfolding number
four_bytes n bytes = omega (arith, get_or-drop n bytes 0 0, get_or-drop n bytes 1 0, get_or-drop n bytes 2 0, get_or-drop n bytes 3 0)
