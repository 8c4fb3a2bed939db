-- What spells a number is read as it.
use Rattle.std.proofs.Common.{◌≡◌, ℕ, true, false, ltb, List, [], ◌∷◌, ◌++◌, Some, refl, arith}
use Rattle.std.proofs.lemmas.Bool.{lt-ltb, le-ltb}
use Rattle.file_tables.specs.Compressed.{IsCompressed, compressed_at}

-- whatever bytes stand behind it
pub compressed_again : (text rest : List ℕ) (n : ℕ) → IsCompressed text n → compressed_at (text ++ rest) ≡ Some (n, rest)
unfolding compressed_at
compressed_again [] rest n is = absurd is
compressed_again (a ∷ []) rest n is =
    let one : ltb a 0x80 ≡ true = lt-ltb _ _ is.0 in
    rw (one, is.1) refl
compressed_again (a ∷ b ∷ []) rest n is =
    let one : ltb a 0x80 ≡ false = le-ltb _ _ is.0 in
    let two : ltb a 0xC0 ≡ true = lt-ltb _ _ is.1 in
    rw (one, two, is.2) refl
compressed_again (a ∷ b ∷ c ∷ []) rest n is = absurd is
compressed_again (a ∷ b ∷ c ∷ d ∷ []) rest n is =
    let one : ltb a 0x80 ≡ false = le-ltb _ _ (omega arith) in
    let two : ltb a 0xC0 ≡ false = le-ltb _ _ is.0 in
    let four : ltb a 0xE0 ≡ true = lt-ltb _ _ is.1 in
    rw (one, two, four, is.2) refl
compressed_again (a ∷ b ∷ c ∷ d ∷ e ∷ more) rest n is = absurd is
