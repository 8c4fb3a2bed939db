-- Readers of an image's parts, each at its place: what is read, and where it ends.
use Rattle.std.proofs.Common.{◌≡◌, ℕ, zero, suc, ◌+◌, ◌-◌, ◌*◌, ◌<◌, ◌≤◌, List, [], ◌∷◌, length, take, drop, get_or, Option, Some, None, refl, sym, ap, ◌∙◌, subst, arith, length-drop, inl, inr}
use Rattle.std.specs.Prelude.{nat_le, if◌then◌else◌}
use Rattle.std.proofs.lemmas.Bool.{le-leb, lt-leb, leb-true, leb-false, cases_Bool}
use Rattle.std.proofs.lemmas.List.{drop-drop}
use Rattle.std.proofs.lemmas.Option.{none-some}
use Rattle.little_endian.specs.Numbers.{number}
use Rattle.machine.specs.Throw.{on_some}
use Rattle.image_bytes.specs.Layout.{total, sum, Reader, read_byte, read_word, many, read_tables, read_pools}
use Rattle.msspot_read.specs.Places.{listed, words, rows, tables, pools}

-- a value of so many bytes, where they are there
abbrev pub placed : {A : Type 0} → ℕ → (ℕ → List ℕ → A) → ℕ → List ℕ → Option (A × List ℕ)
placed size value at bytes = if nat_le (size + at) (length bytes) then Some (value at bytes, drop (size + at) bytes) else None

abbrev pub Moves : {A : Type 0} → Reader A → ℕ → (ℕ → List ℕ → A) → Type 0
Moves read size value = (at : ℕ) (bytes : List ℕ) → at ≤ length bytes → read (drop at bytes) ≡ placed size value at bytes

pub placed_there : {A : Type 0} (size : ℕ) (value : ℕ → List ℕ → A) (at : ℕ) (bytes : List ℕ) → size + at ≤ length bytes → placed size value at bytes ≡ Some (value at bytes, drop (size + at) bytes)
placed_there size value at bytes le = rw (le-leb (size + at) (length bytes) le) refl

pub placed_not : {A : Type 0} (size : ℕ) (value : ℕ → List ℕ → A) (at : ℕ) (bytes : List ℕ) → length bytes < size + at → placed size value at bytes ≡ None
placed_not size value at bytes lt = rw (lt-leb (size + at) (length bytes) lt) refl

-- nothing
pub nothing_moves : {A : Type 0} (x : A) → Moves (λ bytes. Some (x, bytes)) 0 (λ at bytes. x)
nothing_moves x at bytes h = let same : 0 + at ≡ at = omega arith in rw (same, le-leb at (length bytes) h) refl

word_front : (xs : List ℕ) (n : ℕ) → length xs ≡ n → 2 ≤ n → read_word xs ≡ Some (get_or xs 0 0 + 256 * get_or xs 1 0, drop 2 xs)
word_front [] n e h = absurd (omega (arith, e))
word_front (a ∷ []) n e h = absurd (omega (arith, e))
word_front (a ∷ b ∷ xs) n e h = refl

word_short : (xs : List ℕ) → length xs < 2 → read_word xs ≡ None
word_short [] h = refl
word_short (a ∷ []) h = refl
word_short (a ∷ b ∷ xs) h = absurd (omega arith)

number_is : (at : ℕ) (bytes : List ℕ) → number 2 at bytes ≡ get_or (drop at bytes) 0 0 + 256 * get_or (drop at bytes) 1 0
unfolding number
number_is at bytes = omega arith

pub word_moves : Moves read_word 2 (number 2)
word_moves at bytes h =
    let len : length (drop at bytes) ≡ length bytes - at = length-drop at bytes in
    elim (cases_Bool (nat_le (2 + at) (length bytes))) [
      | inl t ↦
          let le : 2 + at ≤ length bytes = leb-true (2 + at) (length bytes) t in
          let order : at + 2 ≡ 2 + at = omega arith in
          let rest : drop 2 (drop at bytes) ≡ drop (2 + at) bytes = drop-drop 2 at bytes ∙ ap (λ k. drop k bytes) order in
          word_front (drop at bytes) (length (drop at bytes)) refl (omega arith)
          ∙ ap (λ n. Some (n, drop 2 (drop at bytes))) (sym (number_is at bytes))
          ∙ ap (λ r. Some (number 2 at bytes, r)) rest
          ∙ sym (placed_there 2 (number 2) at bytes le)
      | inr f ↦
          let lt : length bytes < 2 + at = leb-false (2 + at) (length bytes) f in
          word_short (drop at bytes) (omega arith) ∙ sym (placed_not 2 (number 2) at bytes lt)
    ]

-- one behind the other
pub both_move : {A B C : Type 0} (make : A → B → C) (first : Reader A) (second : Reader B) (s t : ℕ) (v : ℕ → List ℕ → A) (w : ℕ → List ℕ → B) → Moves first s v → Moves second t w
    → Moves (λ bytes. on_some (first bytes) (λ x. on_some (second x.1) (λ y. Some (make x.0 y.0, y.1)))) (t + s) (λ at bytes. make (v at bytes) (w (s + at) bytes))
both_move make first second s t v w one two at bytes h =
    let sum_is : t + (s + at) ≡ t + s + at = omega arith in
    ap (λ o. on_some o (λ x. on_some (second x.1) (λ y. Some (make x.0 y.0, y.1)))) (one at bytes h)
    ∙ elim (cases_Bool (nat_le (s + at) (length bytes))) [
      | inl t1 ↦
          let le : s + at ≤ length bytes = leb-true (s + at) (length bytes) t1 in
          ap (λ o. on_some o (λ x. on_some (second x.1) (λ y. Some (make x.0 y.0, y.1)))) (placed_there s v at bytes le)
          ∙ ap (λ o. on_some o (λ y. Some (make (v at bytes) y.0, y.1))) (two (s + at) bytes le)
          ∙ elim (cases_Bool (nat_le (t + (s + at)) (length bytes))) [
            | inl t2 ↦
                let le2 : t + (s + at) ≤ length bytes = leb-true (t + (s + at)) (length bytes) t2 in
                ap (λ o. on_some o (λ y. Some (make (v at bytes) y.0, y.1))) (placed_there t w (s + at) bytes le2)
                ∙ ap (λ k. Some (make (v at bytes) (w (s + at) bytes), drop k bytes)) sum_is
                ∙ sym (placed_there (t + s) (λ at bytes. make (v at bytes) (w (s + at) bytes)) at bytes (omega arith))
            | inr f2 ↦
                let lt2 : length bytes < t + (s + at) = leb-false (t + (s + at)) (length bytes) f2 in
                ap (λ o. on_some o (λ y. Some (make (v at bytes) y.0, y.1))) (placed_not t w (s + at) bytes lt2)
                ∙ sym (placed_not (t + s) (λ at bytes. make (v at bytes) (w (s + at) bytes)) at bytes (omega arith))
          ]
      | inr f1 ↦
          let lt : length bytes < s + at = leb-false (s + at) (length bytes) f1 in
          ap (λ o. on_some o (λ x. on_some (second x.1) (λ y. Some (make x.0 y.0, y.1)))) (placed_not s v at bytes lt)
          ∙ sym (placed_not (t + s) (λ at bytes. make (v at bytes) (w (s + at) bytes)) at bytes (omega arith))
    ]

moves_as : {A : Type 0} (read : Reader A) (s t : ℕ) (v : ℕ → List ℕ → A) → s ≡ t → Moves read s v → Moves read t v
moves_as read s t v e m = subst (λ k. Moves read k v) e m

pub many_move : {A : Type 0} (read : Reader A) (s : ℕ) (v : ℕ → List ℕ → A) → Moves read s v → (n : ℕ) → Moves (many read n) (n * s) (listed s v n)
many_move read s v m zero = moves_as (many read 0) 0 (0 * s) (listed s v 0) (omega arith) (nothing_moves [])
many_move read s v m (suc n) =
    moves_as (many read (suc n)) (n * s + s) (suc n * s) (listed s v (suc n)) (omega arith) (both_move (λ x xs. x ∷ xs) read (many read n) s (n * s) v (listed s v n) m (many_move read s v m n))

pub words_move : (n : ℕ) → Moves (many read_word n) (n * 2) (words n)
words_move n = many_move read_word 2 (number 2) word_moves n

rows_move : (w c : ℕ) → Moves (many (many read_word w) c) (2 * (w * c)) (rows w c)
rows_move w c = moves_as (many (many read_word w) c) (c * (w * 2)) (2 * (w * c)) (rows w c) (omega arith) (many_move (many read_word w) (w * 2) (words w) (words_move w) c)

pub tables_move : (ws cs : List ℕ) → length ws ≤ length cs → Moves (read_tables ws cs) (total ws cs) (tables ws cs)
tables_move [] cs h = nothing_moves []
tables_move (w ∷ ws) [] h = absurd (omega arith)
tables_move (w ∷ ws) (c ∷ cs) h =
    moves_as (read_tables (w ∷ ws) (c ∷ cs)) (total ws cs + 2 * (w * c)) (total (w ∷ ws) (c ∷ cs)) (tables (w ∷ ws) (c ∷ cs)) (omega arith)
    (both_move (λ x xs. x ∷ xs) (many (many read_word w) c) (read_tables ws cs) (2 * (w * c)) (total ws cs) (rows w c) (tables ws cs) (rows_move w c) (tables_move ws cs (omega arith)))

-- bytes
pub bytes_front : (n : ℕ) (xs : List ℕ) → n ≤ length xs → many read_byte n xs ≡ Some (take n xs, drop n xs)
bytes_front zero xs h = refl
bytes_front (suc n) [] h = absurd (omega arith)
bytes_front (suc n) (x ∷ xs) h = ap (λ o. on_some o (λ ys. Some (x ∷ ys.0, ys.1))) (bytes_front n xs (omega arith))

pub bytes_short : (n : ℕ) (xs : List ℕ) → length xs < n → many read_byte n xs ≡ None
bytes_short zero xs h = absurd (omega arith)
bytes_short (suc n) [] h = refl
bytes_short (suc n) (x ∷ xs) h = ap (λ o. on_some o (λ ys. Some (x ∷ ys.0, ys.1))) (bytes_short n xs (omega arith))

pub bytes_move : (n : ℕ) → Moves (many read_byte n) n (λ at bytes. take n (drop at bytes))
bytes_move n at bytes h =
    let len : length (drop at bytes) ≡ length bytes - at = length-drop at bytes in
    elim (cases_Bool (nat_le (n + at) (length bytes))) [
      | inl t ↦
          let le : n + at ≤ length bytes = leb-true (n + at) (length bytes) t in
          let order : at + n ≡ n + at = omega arith in
          bytes_front n (drop at bytes) (omega arith)
          ∙ ap (λ r. Some (take n (drop at bytes), r)) (drop-drop n at bytes ∙ ap (λ k. drop k bytes) order)
          ∙ sym (placed_there n (λ at bytes. take n (drop at bytes)) at bytes le)
      | inr f ↦
          let lt : length bytes < n + at = leb-false (n + at) (length bytes) f in
          bytes_short n (drop at bytes) (omega arith) ∙ sym (placed_not n (λ at bytes. take n (drop at bytes)) at bytes lt)
    ]

pub pools_move : (ns : List ℕ) → Moves (read_pools ns) (sum ns) (pools ns)
pools_move [] = nothing_moves []
pools_move (n ∷ ns) =
    moves_as (read_pools (n ∷ ns)) (sum ns + n) (sum (n ∷ ns)) (pools (n ∷ ns)) (omega arith)
    (both_move (λ x xs. x ∷ xs) (many read_byte n) (read_pools ns) n (sum ns) (λ at bytes. take n (drop at bytes)) (pools ns) (bytes_move n) (pools_move ns))

abbrev second : {A : Type 0} → Option (A × List ℕ) → List ℕ
second None = []
second (Some y) = y.1

-- what is read is there, and what follows is what is behind it
pub moved : {A : Type 0} (read : Reader A) (s : ℕ) (v : ℕ → List ℕ → A) (at : ℕ) (bytes : List ℕ) (x : A × List ℕ) → Moves read s v → at ≤ length bytes → read (drop at bytes) ≡ Some x → (s + at ≤ length bytes) × (x.1 ≡ drop (s + at) bytes)
moved read s v at bytes x m h e =
    elim (cases_Bool (nat_le (s + at) (length bytes))) [
      | inl t ↦
          let le : s + at ≤ length bytes = leb-true (s + at) (length bytes) t in
          let same : Some (v at bytes, drop (s + at) bytes) ≡ Some x = sym (placed_there s v at bytes le) ∙ sym (m at bytes h) ∙ e in
          (le, sym (ap second same))
      | inr f ↦ absurd (none-some x (sym (placed_not s v at bytes (leb-false (s + at) (length bytes) f)) ∙ sym (m at bytes h) ∙ e))
    ]
