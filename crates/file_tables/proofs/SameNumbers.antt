-- The numbers of a file are those of little_endian.
use Rattle.std.proofs.Common.{◌≡◌, ℕ, ◌+◌, ◌*◌, List, drop, ap, ◌∙◌, arith}
use Rattle.std.specs.Prelude.{slice_index}
use Rattle.std.proofs.lemmas.List.{get_or-drop}
use Rattle.little_endian.specs.Numbers.{number}
use Rattle.file_tables.specs.Bytes.{u16_at, u32_at}

-- a byte behind a place
behind : (bytes : List ℕ) (at i place : ℕ) → at + i ≡ place → slice_index (drop at bytes) i ≡ slice_index bytes place
behind bytes at i place is = get_or-drop at bytes i 0 ∙ ap (slice_index bytes) is

pub of_two : (bytes : List ℕ) (at : ℕ) → number 2 at bytes ≡ u16_at bytes at
unfolding number u16_at
of_two bytes at =
    let low = behind bytes at 0 at (omega arith) in
    let high = behind bytes at 1 (at + 1) (omega arith) in
    omega (arith, low, high)

pub of_four : (bytes : List ℕ) (at : ℕ) → number 4 at bytes ≡ u32_at bytes at
unfolding number u32_at u16_at
of_four bytes at =
    let a = behind bytes at 0 at (omega arith) in
    let b = behind bytes at 1 (at + 1) (omega arith) in
    let c = behind bytes at 2 (at + 2) (omega arith) in
    let d = behind bytes at 3 (at + 2 + 1) (omega arith) in
    omega (arith, a, b, c, d)
