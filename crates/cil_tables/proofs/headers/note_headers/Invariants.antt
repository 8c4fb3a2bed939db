use Rattle.std.proofs.Common.{◌≡◌, ◌≤◌, length}
use Rattle.cil_tables.specs.Headers.{header_at, AreNoted}
use Rattle.cil_tables.proofs.headers.note_headers.Given as goal

abbrev pub invariant-loop-k : goal.invariant-loop-k
invariant-loop-k l = record { noted : AreNoted l.region l.headers.first l.k l.starts; next : l.at ≡ header_at l.region l.headers.first l.k; place : l.at ≤ length l.region }
