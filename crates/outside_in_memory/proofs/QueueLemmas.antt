-- What is taken of a piece, and what is left of it.
use Rattle.std.proofs.Common.{◌≡◌, ℕ, ◌+◌, ◌-◌, ◌<◌, ◌≤◌, Bool, true, false, List, ◌∷◌, length, take, drop, sym, ap, ◌∙◌, arith}
use Rattle.std.specs.Prelude.{min, nat_le, if◌then◌else◌}
use Rattle.std.proofs.lemmas.List.{drop-drop, length-drop}
use Rattle.std.proofs.lemmas.Bool.{le-leb, lt-leb}
use Rattle.mf_types.specs.declared.link.Coming.{Coming}
use Rattle.mf_types.specs.declared.link.Coming.TheVariants.{Piece}
use Rattle.mf_types.specs.LinkCalls.{TakesPiece}

-- some of the piece is left
pub takes_on : (piece : List ℕ) (from n : ℕ) (into : List ℕ) (rest old : List Coming) → old ≡ Piece (drop from piece) ∷ rest → from < length piece
    → n ≡ min 2048 (length (drop from piece)) → take n into ≡ take n (drop from piece) → from + n < length piece
    → (1 ≤ n) × (n ≤ 2048) × TakesPiece n into old (Piece (drop (from + n) piece) ∷ rest)
takes_on piece from n into rest old first some size bytes more =
    let left : length (drop from piece) ≡ length piece - from = length-drop from piece in
    let full : n ≡ 2048 = omega arith in
    let moved : drop (from + n) piece ≡ drop 2048 (drop from piece) = ap (λ (k : ℕ). drop (from + k) piece) full ∙ sym (drop-drop 2048 from piece) in
    let long : nat_le (length (drop from piece)) 2048 ≡ false = lt-leb (length (drop from piece)) 2048 (omega arith) in (
      omega arith,
      omega arith,
      record {
        piece = drop from piece;
        rest = rest;
        first = first;
        size = size;
        bytes = bytes;
        left = ap (λ (xs : List ℕ). Piece xs ∷ rest) moved ∙ sym (ap (λ (b : Bool). if b then rest else Piece (drop 2048 (drop from piece)) ∷ rest) long);
      },
    )

-- nothing of the piece is left
pub takes_all : (piece : List ℕ) (from n : ℕ) (into : List ℕ) (rest old : List Coming) → old ≡ Piece (drop from piece) ∷ rest → from < length piece
    → n ≡ min 2048 (length (drop from piece)) → take n into ≡ take n (drop from piece) → length piece ≤ from + n
    → (1 ≤ n) × (n ≤ 2048) × TakesPiece n into old rest
takes_all piece from n into rest old first some size bytes all =
    let left : length (drop from piece) ≡ length piece - from = length-drop from piece in
    let short : nat_le (length (drop from piece)) 2048 ≡ true = le-leb (length (drop from piece)) 2048 (omega arith) in (
      omega arith,
      omega arith,
      record {
        piece = drop from piece;
        rest = rest;
        first = first;
        size = size;
        bytes = bytes;
        left = sym (ap (λ (b : Bool). if b then rest else Piece (drop 2048 (drop from piece)) ∷ rest) short);
      },
    )
