-- The array brackets at the front of a type.
use Rattle.std.proofs.Common.{◌≤◌, ℕ, List, length}
use Rattle.std.proofs.lemmas.List.Sums.{prefix_len-le-length}
use Rattle.cil_sig.specs.Reading.{brackets}

pub brackets_fit : (bytes : List ℕ) → brackets bytes ≤ length bytes
brackets_fit bytes = prefix_len-le-length _ bytes
