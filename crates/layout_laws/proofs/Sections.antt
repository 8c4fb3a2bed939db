-- Places in the one section of a file.
use Rattle.std.proofs.Common.{◌≡◌, ℕ, ◌+◌, ◌-◌, ◌≤◌, true, cond, [], ◌∷◌, Some, None, ap, ◌∙◌, arith}
use Rattle.std.specs.Option.{option_map}
use Rattle.std.proofs.lemmas.Bool.Decides.{nat_tests}
use Rattle.file_tables.specs.Pe.{Section, holds, section_of, place_of, place_in}

-- a section at 0x2000 whose raw data begins at 512
abbrev pub section_with : ℕ → Section
section_with raw = record { address = 0x2000; size = raw; pointer = 512 }

-- it holds the ranges up to its end
held : (raw at len : ℕ) → at + len ≤ raw → holds (512 + raw) (0x2000 + at) len (section_with raw) ≡ true
unfolding holds
held raw at len fits = grind (arith, nat_tests)

-- so that it is the first section that does
pub section_found : (raw at len : ℕ) → at + len ≤ raw → section_of (512 + raw) (section_with raw ∷ []) (0x2000 + at) len ≡ Some (section_with raw)
unfolding section_of
section_found raw at len fits = ap (λ b. cond b (Some (section_with raw)) None) (held raw at len fits)

-- and they stand in the file behind the first 512 bytes
pub place_found : (raw at len : ℕ) → at + len ≤ raw → place_of (512 + raw) (section_with raw ∷ []) (0x2000 + at) len ≡ Some (512 + at)
unfolding place_of
place_found raw at len fits =
    let same : 512 + (0x2000 + at - 0x2000) ≡ 512 + at = omega arith in
    ap (option_map (λ s. place_in s (0x2000 + at))) (section_found raw at len fits) ∙ ap (λ n. Some n) same
