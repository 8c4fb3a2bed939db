-- Numbers of an image in their bytes. Within the limits of the format each number has the bytes that it needs; past them what is left
-- of it stands there, and the image isn't written.
use Rattle.std.specs.Prelude.{ℕ, ◌%◌, List, map}

abbrev pub two_bytes : ℕ → ℕ
two_bytes n = n % 65536

abbrev pub one_byte : ℕ → ℕ
one_byte n = n % 256

abbrev pub bytes_cut : List ℕ → List ℕ
bytes_cut bytes = map one_byte bytes
