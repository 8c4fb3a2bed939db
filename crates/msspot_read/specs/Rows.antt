-- What the calls of an image tell of it.
use Rattle.std.specs.Prelude.{ℕ, ◌+◌, Bool, not, ◌&&◌, nat_eq, slice_index, slice_index_or, if◌then◌else◌, List, [], length, Option, Some, None, Result, Ok, Err, IsSome}
use Rattle.machine.specs.Throw.{on_some}
use Rattle.image_bytes.specs.Layout.{Image, widths, total, unpadded, padding, counts_of, lengths_of}
use Rattle.image_pools.specs.Pools.{text_at}
use Rattle.image_form.specs.Form.{part, bit}
use Rattle.image_form.specs.Whole.{table, bytes_at, texts_in, image_rows}

-- what is viewed, where it is
abbrev pub viewed : {E : Type 0} → Result Image E → Option Image
viewed (Ok i) = Some i
viewed (Err e) = None

-- an image of which each row is read
abbrev pub HasRows : Image → Type 0
HasRows i = IsSome (image_rows i)

-- the bytes of an image
abbrev pub size_of : Image → ℕ
size_of i = let n = unpadded (counts_of i) (lengths_of i) in n + padding n

abbrev pub row_of : Image → ℕ → ℕ → List ℕ
row_of i t n = slice_index_or (table i t) n []

abbrev pub column_of : Image → ℕ → ℕ → ℕ → ℕ
column_of i t n k = slice_index (row_of i t n) k

-- the text of the entry of a pool that begins there
abbrev pub text_in : Image → ℕ → ℕ → Option (List ℕ)
text_in i k at = on_some (texts_in (bytes_at i k)) (λ ts. text_at ts at)

-- the code of a method, which has no bytes where the method has none
abbrev pub code_of : Image → ℕ → List ℕ
code_of i n = part (column_of i 7 n 3) (column_of i 7 n 4) (bytes_at i 2)

-- neither a native nor without code
abbrev pub has_code : Image → ℕ → Bool
has_code i n = not (bit 16 (column_of i 7 n 2)) && not (nat_eq (column_of i 7 n 3) 65535)

-- where in the image the pool of codes begins
abbrev pub code_start : Image → ℕ
code_start i = 56 + total widths (counts_of i) + length (bytes_at i 0) + length (bytes_at i 1)

abbrev pub code_place : Image → ℕ → ℕ
code_place i n = if has_code i n then code_start i + column_of i 7 n 3 else 0

-- the bytes of a data row
abbrev pub data_of : Image → ℕ → List ℕ
data_of i n = part (column_of i 10 n 0) (column_of i 10 n 1) (bytes_at i 3)
