-- An entry of #US, a literal of the code (II.24.2.4).
use Rattle.std.specs.Prelude.{ℕ, ◌+◌, ◌*◌, ◌/◌, ◌%◌, ◌^◌, List, [], ◌∷◌, ◌++◌, length, sum_by, Bool, nat_lt, nat_le, ◌==◌, ◌||◌, ◌&&◌, if◌then◌else◌}
use Rattle.std.specs.List.{list_any, flat_map}
use Rattle.cil_layout.specs.declared.rows.Row.{Row}
use Rattle.cil_layout.specs.declared.rows.Row.TheVariants.{Literal}

-- a number in one, two or four bytes, the highest first (II.23.2)
abbrev pub compressed : ℕ → List ℕ
compressed n =
    if nat_lt n 128 then n ∷ []
    else if nat_lt n (2 ^ 14) then (128 + n / 256) ∷ (n % 256) ∷ []
    else (192 + n / 2 ^ 24) ∷ (n / 2 ^ 16 % 256) ∷ (n / 256 % 256) ∷ (n % 256) ∷ []

-- how many bytes it takes
abbrev pub compressed_length : ℕ → ℕ
compressed_length n = if nat_lt n 128 then 1 else if nat_lt n (2 ^ 14) then 2 else 4

-- a blob's bytes behind their number
abbrev pub blob_entry : List ℕ → List ℕ
blob_entry bytes = compressed (length bytes) ++ bytes

-- a unit that is more than a plain character
abbrev pub is_special : ℕ → Bool
is_special u =
    nat_le 256 u || (nat_le 1 u && nat_le u 8) || (nat_le 0x0E u && nat_le u 0x1F)
    || (u == 0x27) || (u == 0x2D) || (u == 0x7F)

-- a unit, the lowest byte first
abbrev pub unit_bytes : ℕ → List ℕ
unit_bytes u = (u % 256) ∷ (u / 256) ∷ []

-- units, and a last byte that says whether one of them is special
abbrev pub text_bytes : List ℕ → List ℕ
text_bytes units = flat_map unit_bytes units ++ (if list_any is_special units then 1 else 0) ∷ []

abbrev pub text_size : ℕ → ℕ
text_size units = compressed_length (2 * units + 1) + (2 * units + 1)

-- what a row adds to the heap
abbrev pub literal_size : Row → ℕ
literal_size (Literal units) = text_size (length units)
literal_size _ = 0

-- where the next literal's entry begins; the heap's first byte is 0
unfoldable pub text_end : List Row → ℕ
text_end rows = 1 + sum_by literal_size rows
