-- Spans of RVAs.
use Rattle.std.proofs.Common.{◌≡◌, ℕ, ◌+◌, ◌-◌, ◌<◌, ◌≤◌, ◌&&◌, min, Bool, true, false, List, Some, refl, ⊎_elim, arith}
use Rattle.std.specs.Prelude.{nat_le}
use Rattle.std.proofs.lemmas.Bool.{cases_lt, le-leb, lt-leb}
use Rattle.file_tables.specs.Pe.{Section, holds}

and_false : (a : Bool) → (a && false) ≡ false
and_false true = refl
and_false false = refl

-- the section holds each byte from its address on that is in its raw data and in the file
pub holds_inside : (file_length rva : ℕ) (s : Section) → s.address ≤ rva → rva < s.address + min s.size (file_length - s.pointer) → holds file_length rva 1 s ≡ true
unfolding holds
holds_inside file_length rva s from below =
    let one : nat_le s.address rva ≡ true = le-leb _ _ from in
    let two : nat_le (rva + 1) (s.address + s.size) ≡ true = le-leb _ _ (omega arith) in
    let three : nat_le (s.pointer + (rva - s.address) + 1) file_length ≡ true = le-leb _ _ (omega arith) in
    rw (one, two, three) refl

-- and no byte before them
pub holds_before : (file_length rva : ℕ) (s : Section) → rva < s.address → holds file_length rva 1 s ≡ false
unfolding holds
holds_before file_length rva s before = let one : nat_le s.address rva ≡ false = lt-leb _ _ before in rw one refl

-- or behind
pub holds_behind : (file_length rva : ℕ) (s : Section) → s.address ≤ rva → s.address + min s.size (file_length - s.pointer) ≤ rva → holds file_length rva 1 s ≡ false
unfolding holds
holds_behind file_length rva s from past =
    let one : nat_le s.address rva ≡ true = le-leb _ _ from in
    ⊎_elim
    (λ (outside : s.address + s.size < rva + 1).
    let two : nat_le (rva + 1) (s.address + s.size) ≡ false = lt-leb _ _ outside in
    rw (one, two) refl)
    (λ (within : rva + 1 ≤ s.address + s.size).
    let three : nat_le (s.pointer + (rva - s.address) + 1) file_length ≡ false = lt-leb _ _ (omega arith) in
    rw (one, three) (and_false (nat_le (rva + 1) (s.address + s.size))))
    (cases_lt (s.address + s.size) (rva + 1))
