-- Numbers that are written, and those that stand beside them.
use Rattle.std.proofs.Common.{◌≡◌, ℕ, ◌+◌, ◌-◌, ◌^◌, ◌<◌, ◌≤◌, ◌⊎◌, List, [], ◌++◌, length, take, drop, sym, ap, subst, ◌∙◌, inl, inr, arith, append_assoc, append-nil, length-append, length-drop, length-take}
use Rattle.std.proofs.lemmas.List.{drop-drop, length-take-le, take-append-le, drop_at, drop-take, take_all, get_or-drop}
use Rattle.std.proofs.Math.ListN.{drop_of_length-le}
use Rattle.std.proofs.Math.Seq.{drop-append_seam}
use Rattle.byteorder.specs.Endian.{little_number, little_bytes}
use Rattle.byteorder.specs.Numbers.{little_number-reads_back, little_from-take, little_from-lt, length-bytes_low_first}
use Rattle.little_endian.specs.Numbers.{AreBytes, number, written}
use borrow.Rule.Slice.PartMut.{put_mid, mid_of}

-- a part of the bytes that was written from its front, put back
pub part_written : (at n k : ℕ) (piece bytes buf : List ℕ) → k ≡ n → length piece ≡ n → buf ≡ piece ++ drop n (mid_of at k bytes) → put_mid at k bytes buf ≡ written at piece bytes
part_written at n k piece bytes buf same_size long is =
    let none : drop n (mid_of at k bytes) ≡ [] = drop_of_length-le (mid_of at k bytes) (let h = length-take k (drop at bytes) in omega arith) in
    let whole : buf ≡ piece = is ∙ ap (λ (l : List ℕ). piece ++ l) none ∙ append-nil piece in
    ap (λ (l : List ℕ). take at bytes ++ (l ++ drop k (drop at bytes))) whole
    ∙ ap (λ (l : List ℕ). take at bytes ++ (piece ++ l)) (drop-drop k at bytes ∙ ap (λ (m : ℕ). drop m bytes) (let h : at + k ≡ at + length piece = omega arith in h))
    ∙ sym (append_assoc (take at bytes) piece (drop (at + length piece) bytes))

pub behind : (n x : ℕ) (front rest : List ℕ) → x < 256 ^ n → number n (length front) (front ++ little_bytes n x ++ rest) ≡ x
unfolding number
behind n x front rest small =
    ap (λ (l : List ℕ). little_number n (drop (length front) l)) (append_assoc front (little_bytes n x) rest)
    ∙ ap (little_number n) (drop-append_seam front (little_bytes n x ++ rest))
    ∙ little_number-reads_back n x rest small

pub same : (n at x : ℕ) (bytes : List ℕ) → x < 256 ^ n → at ≤ length bytes → number n at (written at (little_bytes n x) bytes) ≡ x
same n at x bytes small fits =
    ap (λ (k : ℕ). number n k (written at (little_bytes n x) bytes)) (sym (length-take-le at bytes fits))
    ∙ behind n x (take at bytes) (drop (at + length (little_bytes n x)) bytes) small

pub size : (n at x : ℕ) (bytes : List ℕ) → at + n ≤ length bytes → length (written at (little_bytes n x) bytes) ≡ length bytes
size n at x bytes fits =
    let front : length (take at bytes) ≡ at = length-take-le at bytes (omega arith) in
    let long = length-bytes_low_first 0 n x in
    let a = length-append (take at bytes ++ little_bytes n x) (drop (at + length (little_bytes n x)) bytes) in
    let b = length-append (take at bytes) (little_bytes n x) in
    let c = length-drop (at + length (little_bytes n x)) bytes in
    omega arith

pub alone : (n at m : ℕ) (bytes : List ℕ) → at + n ≤ m → number n at (take m bytes) ≡ number n at bytes
unfolding number
alone n at m bytes inside =
    let parts : m ≡ at + (m - at) = omega arith in
    ap (λ (k : ℕ). little_number n (drop at (take k bytes))) parts
    ∙ ap (little_number n) (drop-take at (m - at) bytes)
    ∙ little_from-take 0 n (m - at) (drop at bytes) (omega arith)

pub fits : (n at : ℕ) (bytes : List ℕ) → AreBytes bytes → number n at bytes < 256 ^ n
unfolding number
fits n at bytes small = little_from-lt 0 n (drop at bytes) (λ i. subst (λ (b : ℕ). b < 256) (sym (get_or-drop at bytes i 0)) (small (at + i)))

front_stays : (at : ℕ) (piece bytes : List ℕ) → at ≤ length bytes → take at (written at piece bytes) ≡ take at bytes
front_stays at piece bytes inside =
    let long : length (take at bytes) ≡ at = length-take-le at bytes inside in
    ap (take at) (append_assoc (take at bytes) piece (drop (at + length piece) bytes))
    ∙ take-append-le at (take at bytes) (piece ++ drop (at + length piece) bytes) (omega arith)
    ∙ take_all at (take at bytes) (omega arith)

back_stays : (at other : ℕ) (piece bytes : List ℕ) → at ≤ length bytes → at + length piece ≤ other → drop other (written at piece bytes) ≡ drop other bytes
back_stays at other piece bytes inside behind_it =
    let long : length (take at bytes) ≡ at = length-take-le at bytes inside in
    let whole = length-append (take at bytes) piece in
    let parts : other ≡ (other - (at + length piece)) + (at + length piece) = omega arith in
    let joined : (at + length piece) + (other - (at + length piece)) ≡ other = omega arith in
    ap (λ (k : ℕ). drop k (written at piece bytes)) parts
    ∙ ap (λ (k : ℕ). drop k (written at piece bytes)) (let e : (other - (at + length piece)) + (at + length piece) ≡ (at + length piece) + (other - (at + length piece)) = omega arith in e)
    ∙ sym (drop-drop (other - (at + length piece)) (at + length piece) (written at piece bytes))
    ∙ ap (drop (other - (at + length piece))) (drop_at (take at bytes ++ piece) (drop (at + length piece) bytes) (at + length piece) (omega arith))
    ∙ drop-drop (other - (at + length piece)) (at + length piece) bytes
    ∙ ap (λ (k : ℕ). drop k bytes) joined

same_from : (m other : ℕ) (xs ys : List ℕ) → drop other xs ≡ drop other ys → number m other xs ≡ number m other ys
unfolding number
same_from m other xs ys e = ap (little_number m) e

pub others : (n at m other x : ℕ) (bytes : List ℕ) → at + n ≤ length bytes → (other + m ≤ at) ⊎ (at + n ≤ other) → number m other (written at (little_bytes n x) bytes) ≡ number m other bytes
others n at m other x bytes inside (inl before) =
    sym (alone m other at (written at (little_bytes n x) bytes) before)
    ∙ ap (number m other) (front_stays at (little_bytes n x) bytes (omega arith))
    ∙ alone m other at bytes before
others n at m other x bytes inside (inr behind_it) = same_from m other (written at (little_bytes n x) bytes) bytes (back_stays at other (little_bytes n x) bytes (omega arith) (let long = length-bytes_low_first 0 n x in omega arith))
