-- Numbers in two bytes.
use Rattle.std.proofs.Common.{◌≡◌, ℕ, ◌+◌, ◌%◌, ◌/◌, List, [], ◌∷◌, ◌++◌, replicate, sym, ap, ◌∙◌, append_assoc}
use Rattle.std.proofs.Math.Nat.{mod-mod}
use Rattle.std.proofs.lemmas.List.{replicate-append-replicate}
use Rattle.image_bytes.specs.Layout.{word_onto}
use Rattle.converted.specs.Cut.{bytes_cut}

again : (w : ℕ) → w % 256 ≡ w % 256 % 256
again w = sym (mod-mod w 256)

pub word_pushed : (out : List ℕ) (w : ℕ) → (out ++ w % 256 ∷ []) ++ w / 256 % 256 ∷ [] ≡ out ++ bytes_cut (word_onto w [])
word_pushed out w =
    append_assoc out (w % 256 ∷ []) (w / 256 % 256 ∷ []) ∙ ap (λ b. out ++ b ∷ w / 256 % 256 ∷ []) (again w)

pub ranks_more : (xs : List ℕ) (n : ℕ) → (xs ++ replicate n 29) ++ 29 ∷ [] ≡ xs ++ replicate (n + 1) 29
ranks_more xs n = append_assoc xs (replicate n 29) (29 ∷ []) ∙ ap (λ ys. xs ++ ys) (replicate-append-replicate n 1 29)
