-- Where the stream headers begin, and which of them has the name of an earlier one.
use Rattle.std.specs.Prelude.{◌≡◌, ℕ, zero, suc, ◌+◌, ◌-◌, ◌<◌, ◌≤◌, ◌&&◌, Bool, true, false, List, length, nat_le, slice_index, Option, MatchOption}
use Rattle.std.specs.Cmp.Lexicographic.{slice_cmp}
use Rattle.std.specs.Ordering.{nat_cmp, ordering_then}
use Rattle.std.specs.declared.cmp.Ordering.{Ordering}
use Rattle.file_tables.specs.Streams as streams
use Rattle.cil_tables.specs.declared.root.Headers.{Headers}
use Rattle.cil_tables.specs.declared.headers.Noted.{Noted}

-- where the header behind k others begins, the first of which begins at an offset
unfoldable pub header_at : List ℕ → ℕ → ℕ → ℕ
header_at region first zero = first
header_at region first (suc k) = streams.header_end (streams.stream_at region (header_at region first k))

-- the name in the header at an offset
unfoldable pub name_of : List ℕ → ℕ → List ℕ
name_of region at = (streams.stream_at region at).name

-- rule 9 for the header at an offset, whatever the others are named
unfoldable pub fits : List ℕ → ℕ → Bool
fits region at =
    nat_le (streams.header_end (streams.stream_at region at)) (length region)
    && nat_le (length (streams.stream_at region at).name) 32
    && nat_le ((streams.stream_at region at).offset + (streams.stream_at region at).size) (length region)

-- headers in the order of their names, those of one name in the order of the file
abbrev pub header_order : List ℕ → ℕ → ℕ → Ordering
header_order region a b = ordering_then (slice_cmp nat_cmp (name_of region a) (name_of region b)) (nat_cmp a b)

-- the first headers, which all fit, begin at the listed offsets
pub record AreNoted (region : List ℕ) (first count : ℕ) (starts : List ℕ) : Type 0 where
  pub places : (k : ℕ) → k < count → slice_index starts k ≡ header_at region first k
  pub fit : (k : ℕ) → k < count → fits region (header_at region first k) ≡ true

-- all headers are noted, or those before the first that doesn't fit
pub record AreAllNoted (region : List ℕ) (h : Headers) (starts : List ℕ) (n : Noted) : Type 0 where
  pub noted : AreNoted region h.first n.count starts
  pub most : n.count ≤ h.count
  pub next : n.next ≡ header_at region h.first n.count
  pub within : n.next ≤ length region
  pub stops : n.count < h.count → fits region n.next ≡ false

-- the header at a place of a list has the name of one before it
abbrev pub Repeats : List ℕ → List ℕ → ℕ → Type 0
Repeats region starts j = (i : ℕ) × (i < j) × (name_of region (slice_index starts i) ≡ name_of region (slice_index starts j))

-- the first such header begins at an offset
pub record IsFirstRepeat (region starts : List ℕ) (at : ℕ) : Type 0 where
  pub place : ℕ
  pub inside : place < length starts
  pub begins : slice_index starts place ≡ at
  pub repeats : Repeats region starts place
  pub first : (j : ℕ) → j < place → Repeats region starts j → ⊥

-- the header at a place of a list has the name of the one in front of it
abbrev pub Follows : List ℕ → List ℕ → ℕ → Type 0
Follows region starts j = (1 ≤ j) × (name_of region (slice_index starts (j - 1)) ≡ name_of region (slice_index starts j))

-- the least offset of such a header below a place
pub record IsLeast (region starts : List ℕ) (end at : ℕ) : Type 0 where
  pub place : ℕ
  pub inside : place < end
  pub begins : slice_index starts place ≡ at
  pub follows : Follows region starts place
  pub least : (j : ℕ) → j < end → Follows region starts j → at ≤ slice_index starts j

abbrev pub LeastBelow : List ℕ → List ℕ → ℕ → Option ℕ → Type 0
LeastBelow region starts end found = MatchOption found ((j : ℕ) → j < end → Follows region starts j → ⊥) (IsLeast region starts end)
