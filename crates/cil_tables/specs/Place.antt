-- Where a stream stands.
use Rattle.std.specs.Prelude.{◌≡◌, ℕ, ◌+◌, ◌≤◌, List, length, true}
use Rattle.file_tables.specs.Streams as streams
use Rattle.cil_tables.specs.declared.root.Stream.{Stream}
use Rattle.cil_tables.specs.declared.root.Headers.{Headers}

abbrev pub place_of : streams.Stream → Stream
place_of s = record { offset = s.offset; size = s.size }

-- rule 8 is kept, and the stream headers begin there
pub record HasRoot (region : List ℕ) (h : Headers) : Type 0 where
  pub root : streams.is_root region ≡ true
  pub first : h.first ≡ streams.after_version region + 4
  pub count : h.count ≡ streams.stream_count region
  pub fits : h.first ≤ length region
