-- Where the parts of an image lie in the bytes that hold it.
use Rattle.std.specs.Prelude.{ℕ, zero, suc, ◌+◌, ◌*◌, List, [], ◌∷◌, take, drop}
use Rattle.little_endian.specs.Numbers.{number}
use Rattle.image_bytes.specs.Layout.{Image, widths, total, sum}

-- so many things of one size, one behind the other
abbrev pub listed : {A : Type 0} → ℕ → (ℕ → List ℕ → A) → ℕ → ℕ → List ℕ → List A
listed size value zero at bytes = []
listed size value (suc n) at bytes = value at bytes ∷ listed size value n (size + at) bytes

abbrev pub words : ℕ → ℕ → List ℕ → List ℕ
words n at bytes = listed 2 (number 2) n at bytes

-- rows of so many columns
abbrev pub rows : ℕ → ℕ → ℕ → List ℕ → List (List ℕ)
rows width n at bytes = listed (width * 2) (words width) n at bytes

-- tables, by the widths of their rows and the counts of them
abbrev pub tables : List ℕ → List ℕ → ℕ → List ℕ → List (List (List ℕ))
tables [] cs at bytes = []
tables (w ∷ ws) [] at bytes = []
tables (w ∷ ws) (c ∷ cs) at bytes = rows w c at bytes ∷ tables ws cs (2 * (w * c) + at) bytes

abbrev pub pools : List ℕ → ℕ → List ℕ → List (List ℕ)
pools [] at bytes = []
pools (n ∷ ns) at bytes = take n (drop at bytes) ∷ pools ns (n + at) bytes

-- the header's numbers of rows and lengths of pools
abbrev pub counts_at : List ℕ → List ℕ
counts_at bytes = words 11 24 bytes

abbrev pub lengths_at : List ℕ → List ℕ
lengths_at bytes = words 4 46 bytes

-- where the rows of a table and the bytes of a pool begin
abbrev pub table_start : List ℕ → ℕ → ℕ
table_start bytes t = total (take t widths) (take t (counts_at bytes)) + 56

abbrev pub pool_start : List ℕ → ℕ → ℕ
pool_start bytes k = sum (take k (lengths_at bytes)) + (total widths (counts_at bytes) + 56)

-- the image whose parts lie so
unfoldable pub image_at : List ℕ → Image
image_at bytes =
    record {
      version = words 4 12 bytes;
      name = number 2 20 bytes;
      entry = number 2 22 bytes;
      tables = tables widths (counts_at bytes) 56 bytes;
      pools = pools (lengths_at bytes) (total widths (counts_at bytes) + 56) bytes;
    }
