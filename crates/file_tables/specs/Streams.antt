-- The metadata root and its streams (II.24.2.1, II.24.2.2), and rules 8 and 9. Offsets count from the root.
use Rattle.std.specs.Prelude.{ℕ, zero, suc, ◌+◌, ◌*◌, ◌/◌, ◌%◌, ◌==◌, Bool, not, ◌&&◌, List, [], ◌∷◌, ◌++◌, length, drop, nat_le, Option, unwrap_or}
use Rattle.std.specs.Option.{option_map}
use Rattle.std.specs.List.{find, list_any}
use Rattle.std.specs.Str.{bytes_eq}
use Rattle.file_tables.specs.Bytes.{u16_at, u32_at, range_of}
use Rattle.file_tables.specs.Heaps.{before_zero}
use Rattle.file_tables.specs.Rules.{Rule, rule_at}

-- where the two numbers behind the version text begin
unfoldable pub after_version : List ℕ → ℕ
after_version region = 16 + u32_at region 12

unfoldable pub stream_count : List ℕ → ℕ
stream_count region = u16_at region (after_version region + 2)

-- rule 8
unfoldable pub is_root : List ℕ → Bool
is_root region = nat_le 16 (length region) && u32_at region 0 == 0x424A5342 && u32_at region 12 % 4 == 0 && nat_le (after_version region + 4) (length region)

-- a stream header: where it begins, and what it says
pub record Stream : Type 0 where
  pub header : ℕ
  pub offset : ℕ
  pub size : ℕ
  pub name : List ℕ

unfoldable pub stream_at : List ℕ → ℕ → Stream
stream_at region at = record { header = at; offset = u32_at region at; size = u32_at region (at + 4); name = before_zero (drop (at + 8) region) }

-- behind the header, whose name ends with a zero byte and is padded to a multiple of four
unfoldable pub header_end : Stream → ℕ
header_end s = s.header + 12 + 4 * (length s.name / 4)

-- so many streams, the first of them at an offset
unfoldable pub streams_from : List ℕ → ℕ → ℕ → List Stream
streams_from region at zero = []
streams_from region at (suc n) = stream_at region at ∷ streams_from region (header_end (stream_at region at)) n

unfoldable pub streams_of : List ℕ → List Stream
streams_of region = streams_from region (after_version region + 4) (stream_count region)

abbrev pub has_name : List ℕ → Stream → Bool
has_name name s = bytes_eq s.name name

-- rule 9 for one stream: header and range inside the region, a name of at most 32 bytes that no earlier stream has
unfoldable pub is_stream : List ℕ → List Stream → Stream → Bool
is_stream region earlier s =
    nat_le (header_end s) (length region)
    && nat_le (length s.name) 32
    && nat_le (s.offset + s.size) (length region)
    && not (list_any (has_name s.name) earlier)

-- rule 9 for each stream in order
unfoldable pub rules_of_streams : List ℕ → List Stream → List Stream → List Rule
rules_of_streams region earlier [] = []
rules_of_streams region earlier (s ∷ rest) = rule_at 9 s.header (is_stream region earlier s) ∷ rules_of_streams region (earlier ++ s ∷ []) rest

-- the stream of a name
unfoldable pub stream_named : List ℕ → List ℕ → Option Stream
stream_named region name = find (has_name name) (streams_of region)

-- the bytes of the heap of a name, none where it is missing
unfoldable pub heap_named : List ℕ → List ℕ → List ℕ
heap_named region name = unwrap_or (option_map (λ s. range_of region s.offset s.size) (stream_named region name)) []
