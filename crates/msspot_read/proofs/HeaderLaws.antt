-- When the header, the tables, the pools and the padding stand, and what image is viewed then.
use Rattle.std.proofs.Common.{◌≡◌, ℕ, zero, suc, ◌+◌, ◌-◌, ◌*◌, ◌<◌, ◌≤◌, Bool, true, false, ◌&&◌, List, [], ◌∷◌, length, take, drop, Option, Some, None, refl, sym, ap, ◌∙◌, arith, length-drop, get_or-drop, inl, inr}
use Rattle.std.specs.Prelude.{nat_eq, if◌then◌else◌, eqb}
use Rattle.std.specs.List.{list_all}
use Rattle.std.specs.Cmp.Lexicographic.{pointwise}
use Rattle.std.proofs.lemmas.Bool.{both_ways, eqb-true, eqb-false, eq-eqb, ne_eqb, and_parts, and_left, and_right, and_from, cases_lt, cases_Bool}
use Rattle.std.proofs.lemmas.Option.{none-some, same_Some}
use Rattle.little_endian.specs.Numbers.{number}
use Rattle.machine.specs.Throw.{on_some}
use Rattle.image_bytes.specs.Layout.{Image, widths, total, sum, unpadded, padding, marker, Reader, read_word, many, read_tables, read_pools, read_zeros, read_marker, read_body, with_zero, with_lengths, with_counts, with_entry, with_name, with_version, with_high, with_low, view}
use Rattle.image_bytes.proofs.Laws.{next}
use Rattle.msspot_read.specs.Places.{words, tables, pools, counts_at, lengths_at, image_at}
use Rattle.msspot_read.proofs.Moves.{Moves, placed_there, moved, word_moves, words_move, tables_move, pools_move}

fails : {A B : Type 0} (o : Option A) (k : A → Option B) → ((x : A) → o ≡ Some x → k x ≡ None) → on_some o k ≡ None
fails None k f = refl
fails (Some x) k f = f x refl

there : {A : Type 0} (read : Reader A) (s : ℕ) (v : ℕ → List ℕ → A) (at : ℕ) (bytes : List ℕ) → Moves read s v → s + at ≤ length bytes → read (drop at bytes) ≡ Some (v at bytes, drop (s + at) bytes)
there read s v at bytes m le = m at bytes (omega arith) ∙ placed_there s v at bytes le

-- ---- the marker

flipped : (a b : ℕ) → nat_eq a b ≡ nat_eq b a
flipped a b = by (nat_eq b a) refl where
  by : (t : Bool) → nat_eq b a ≡ t → nat_eq a b ≡ t
  by true e = eq-eqb a b (sym (eqb-true b a e))
  by false e = ne_eqb a b (λ same. eqb-false b a e (sym same))

pub marker_there : (ms bytes : List ℕ) → pointwise eqb ms (take (length ms) bytes) ≡ true → read_marker ms bytes ≡ Some (drop (length ms) bytes)
marker_there [] bytes h = refl
marker_there (m ∷ ms) [] h = absurd (cc h)
marker_there (m ∷ ms) (b ∷ bytes) h =
    let parts = and_parts (eqb m b) (pointwise eqb ms (take (length ms) bytes)) h in
    ap (λ t. if t then read_marker ms bytes else None) (flipped b m ∙ parts.0) ∙ marker_there ms bytes parts.1

-- a test, and what is asked behind it
either_fails : {A : Type 0} (t u : Bool) (o : Option A) → (t && u) ≡ false → (u ≡ false → o ≡ None) → (if t then o else None) ≡ None
either_fails true u o h f = f h
either_fails false u o h f = refl

pub marker_not : (ms bytes : List ℕ) → pointwise eqb ms (take (length ms) bytes) ≡ false → read_marker ms bytes ≡ None
marker_not [] bytes h = absurd (cc h)
marker_not (m ∷ ms) [] h = refl
marker_not (m ∷ ms) (b ∷ bytes) h =
    ap (λ t. if t then read_marker ms bytes else None) (flipped b m) ∙ either_fails (eqb m b) (pointwise eqb ms (take (length ms) bytes)) (read_marker ms bytes) h (marker_not ms bytes)

cond_some_is : {A : Type 0} (t : Bool) (o : Option A) (x : A) → (if t then o else None) ≡ Some x → o ≡ Some x
cond_some_is true o x e = e
cond_some_is false o x e = absurd (none-some x e)

marker_back : (ms bytes a : List ℕ) → read_marker ms bytes ≡ Some a → (length ms ≤ length bytes) × (a ≡ drop (length ms) bytes)
marker_back [] bytes a e = (omega arith, sym (same_Some bytes a e))
marker_back (m ∷ ms) [] a e = absurd (none-some a e)
marker_back (m ∷ ms) (b ∷ bytes) a e = let r = marker_back ms bytes a (cond_some_is (nat_eq b m) (read_marker ms bytes) a e) in (omega (arith, r.0), r.1)

-- ---- the header

-- what follows the header's last number
abbrev pub behind_header : List ℕ → Option Image
behind_header bytes = with_zero (number 2 8 bytes) (number 2 10 bytes) (words 4 12 bytes) (number 2 20 bytes) (number 2 22 bytes) (counts_at bytes) (lengths_at bytes) (number 2 54 bytes, drop 56 bytes)

pub header_view : (bytes : List ℕ) → 56 ≤ length bytes → pointwise eqb marker (take 8 bytes) ≡ true → view bytes ≡ behind_header bytes
header_view bytes le m =
    let low = number 2 8 bytes in
    let high = number 2 10 bytes in
    let version = words 4 12 bytes in
    let name = number 2 20 bytes in
    let entry = number 2 22 bytes in
    let counts = counts_at bytes in
    let end = behind_header bytes in
    ap (λ o. on_some o (λ a. on_some (read_word a) with_low)) (marker_there marker bytes m)
    ∙ next (read_word (drop 8 bytes)) low (drop 10 bytes) with_low end (there read_word 2 (number 2) 8 bytes word_moves (omega arith))
    (next (read_word (drop 10 bytes)) high (drop 12 bytes) (with_high low) end (there read_word 2 (number 2) 10 bytes word_moves (omega arith))
    (next (many read_word 4 (drop 12 bytes)) version (drop 20 bytes) (with_version low high) end (there (many read_word 4) 8 (words 4) 12 bytes (words_move 4) (omega arith))
    (next (read_word (drop 20 bytes)) name (drop 22 bytes) (with_name low high version) end (there read_word 2 (number 2) 20 bytes word_moves (omega arith))
    (next (read_word (drop 22 bytes)) entry (drop 24 bytes) (with_entry low high version name) end (there read_word 2 (number 2) 22 bytes word_moves (omega arith))
    (next (many read_word 11 (drop 24 bytes)) counts (drop 46 bytes) (with_counts low high version name entry) end (there (many read_word 11) 22 (words 11) 24 bytes (words_move 11) (omega arith))
    (next (many read_word 4 (drop 46 bytes)) (lengths_at bytes) (drop 54 bytes) (with_lengths low high version name entry counts) end (there (many read_word 4) 8 (words 4) 46 bytes (words_move 4) (omega arith))
    (next (read_word (drop 54 bytes)) (number 2 54 bytes) (drop 56 bytes) (with_zero low high version name entry counts (lengths_at bytes)) end (there read_word 2 (number 2) 54 bytes word_moves (omega arith))
    refl)))))))

pub no_marker : (bytes : List ℕ) → pointwise eqb marker (take 8 bytes) ≡ false → view bytes ≡ None
no_marker bytes h = ap (λ o. on_some o (λ a. on_some (read_word a) with_low)) (marker_not marker bytes h)

-- where a part is read at a place, it ends inside
steps : {A : Type 0} (read : Reader A) (s : ℕ) (v : ℕ → List ℕ → A) (at : ℕ) (bytes rest : List ℕ) (x : A × List ℕ) → Moves read s v → at ≤ length bytes → rest ≡ drop at bytes → read rest ≡ Some x → (s + at ≤ length bytes) × (x.1 ≡ drop (s + at) bytes)
steps read s v at bytes rest x m le same e = moved read s v at bytes x m le (sym (ap read same) ∙ e)

pub short_view : (bytes : List ℕ) → length bytes < 56 → view bytes ≡ None
short_view bytes lt =
    fails (read_marker marker bytes) (λ a. on_some (read_word a) with_low) (λ a ea.
    let r0 = marker_back marker bytes a ea in
    fails (read_word a) with_low (λ x1 e1.
    let r1 = steps read_word 2 (number 2) 8 bytes a x1 word_moves r0.0 r0.1 e1 in
    fails (read_word x1.1) (with_high x1.0) (λ x2 e2.
    let r2 = steps read_word 2 (number 2) 10 bytes x1.1 x2 word_moves r1.0 r1.1 e2 in
    fails (many read_word 4 x2.1) (with_version x1.0 x2.0) (λ x3 e3.
    let r3 = steps (many read_word 4) 8 (words 4) 12 bytes x2.1 x3 (words_move 4) r2.0 r2.1 e3 in
    fails (read_word x3.1) (with_name x1.0 x2.0 x3.0) (λ x4 e4.
    let r4 = steps read_word 2 (number 2) 20 bytes x3.1 x4 word_moves r3.0 r3.1 e4 in
    fails (read_word x4.1) (with_entry x1.0 x2.0 x3.0 x4.0) (λ x5 e5.
    let r5 = steps read_word 2 (number 2) 22 bytes x4.1 x5 word_moves r4.0 r4.1 e5 in
    fails (many read_word 11 x5.1) (with_counts x1.0 x2.0 x3.0 x4.0 x5.0) (λ x6 e6.
    let r6 = steps (many read_word 11) 22 (words 11) 24 bytes x5.1 x6 (words_move 11) r5.0 r5.1 e6 in
    fails (many read_word 4 x6.1) (with_lengths x1.0 x2.0 x3.0 x4.0 x5.0 x6.0) (λ x7 e7.
    let r7 = steps (many read_word 4) 8 (words 4) 46 bytes x6.1 x7 (words_move 4) r6.0 r6.1 e7 in
    fails (read_word x7.1) (with_zero x1.0 x2.0 x3.0 x4.0 x5.0 x6.0 x7.0) (λ x8 e8.
    let r8 = steps read_word 2 (number 2) 54 bytes x7.1 x8 word_moves r7.0 r7.1 e8 in
    absurd (omega (arith, r8.0, lt)))))))))))

-- ---- the padding

abbrev pub is_zero : ℕ → Bool
is_zero b = nat_eq b 0

zeros_there : (n : ℕ) (xs : List ℕ) → n ≤ length xs → list_all is_zero (take n xs) ≡ true → read_zeros n xs ≡ Some (drop n xs)
zeros_there zero xs le h = refl
zeros_there (suc n) [] le h = absurd (omega arith)
zeros_there (suc n) (x ∷ xs) le h =
    let parts = and_parts (is_zero x) (list_all is_zero (take n xs)) h in
    ap (λ t. if t then read_zeros n xs else None) parts.0 ∙ zeros_there n xs (omega arith) parts.1

zeros_not : (n : ℕ) (xs : List ℕ) → list_all is_zero (take n xs) ≡ false → read_zeros n xs ≡ None
zeros_not zero xs h = absurd (cc h)
zeros_not (suc n) [] h = absurd (cc h)
zeros_not (suc n) (x ∷ xs) h = either_fails (is_zero x) (list_all is_zero (take n xs)) (read_zeros n xs) h (zeros_not n xs)

none_or_none : {A : Type 0} (t : Bool) (o : Option A) → o ≡ None → (if t then o else None) ≡ None
none_or_none true o e = e
none_or_none false o e = refl

zeros_short : (n : ℕ) (xs : List ℕ) → length xs < n → read_zeros n xs ≡ None
zeros_short zero xs lt = absurd (omega arith)
zeros_short (suc n) [] lt = refl
zeros_short (suc n) (x ∷ xs) lt = none_or_none (is_zero x) (read_zeros n xs) (zeros_short n xs (omega arith))

-- ---- the body

module _ (bytes : List ℕ) where
  -- where the pools end
  abbrev pub end_of : ℕ
  end_of = sum (lengths_at bytes) + (total widths (counts_at bytes) + 56)

  same_end : unpadded (counts_at bytes) (lengths_at bytes) ≡ end_of
  same_end = omega arith

  enough : length widths ≤ length (counts_at bytes)
  enough = omega arith

  abbrev image_of : List (List (List ℕ)) → List (List ℕ) → Image
  image_of t p = record { version = words 4 12 bytes; name = number 2 20 bytes; entry = number 2 22 bytes; tables = t; pools = p }

  abbrev body : Option Image
  body = read_body (words 4 12 bytes) (number 2 20 bytes) (number 2 22 bytes) (counts_at bytes) (lengths_at bytes) (drop 56 bytes)

  body_there : padding end_of + end_of ≤ length bytes → list_all is_zero (take (padding end_of) (drop end_of bytes)) ≡ true → body ≡ Some (image_at bytes)
  unfolding read_body image_at
  body_there le zeros =
      let ending : List (List (List ℕ)) → List (List ℕ) → List ℕ → Option Image = λ t p rest. Some (image_of t p) in
      ap (λ o. on_some o (λ t. on_some (read_pools (lengths_at bytes) t.1) (λ p. on_some (read_zeros (padding (unpadded (counts_at bytes) (lengths_at bytes))) p.1) (ending t.0 p.0))))
      (there (read_tables widths (counts_at bytes)) (total widths (counts_at bytes)) (tables widths (counts_at bytes)) 56 bytes (tables_move widths (counts_at bytes) enough) (omega arith))
      ∙ ap (λ o. on_some o (λ p. on_some (read_zeros (padding (unpadded (counts_at bytes) (lengths_at bytes))) p.1) (ending (tables widths (counts_at bytes) 56 bytes) p.0)))
      (there (read_pools (lengths_at bytes)) (sum (lengths_at bytes)) (pools (lengths_at bytes)) (total widths (counts_at bytes) + 56) bytes (pools_move (lengths_at bytes)) (omega arith))
      ∙ ap (λ n. on_some (read_zeros (padding n) (drop end_of bytes)) (ending (tables widths (counts_at bytes) 56 bytes) (pools (lengths_at bytes) (total widths (counts_at bytes) + 56) bytes))) same_end
      ∙ ap (λ o. on_some o (ending (tables widths (counts_at bytes) 56 bytes) (pools (lengths_at bytes) (total widths (counts_at bytes) + 56) bytes))) (zeros_there (padding end_of) (drop end_of bytes) (omega (arith, length-drop end_of bytes)) zeros)

  body_none : (padding end_of + end_of ≤ length bytes → list_all is_zero (take (padding end_of) (drop end_of bytes)) ≡ true → ⊥) → 56 ≤ length bytes → body ≡ None
  unfolding read_body
  body_none broken long =
      fails (read_tables widths (counts_at bytes) (drop 56 bytes)) (λ t. on_some (read_pools (lengths_at bytes) t.1) (λ p. on_some (read_zeros (padding (unpadded (counts_at bytes) (lengths_at bytes))) p.1) (λ rest. Some (image_of t.0 p.0)))) (λ t et.
      let r1 = moved (read_tables widths (counts_at bytes)) (total widths (counts_at bytes)) (tables widths (counts_at bytes)) 56 bytes t (tables_move widths (counts_at bytes) enough) long et in
      fails (read_pools (lengths_at bytes) t.1) (λ p. on_some (read_zeros (padding (unpadded (counts_at bytes) (lengths_at bytes))) p.1) (λ rest. Some (image_of t.0 p.0))) (λ p ep.
      let r2 = steps (read_pools (lengths_at bytes)) (sum (lengths_at bytes)) (pools (lengths_at bytes)) (total widths (counts_at bytes) + 56) bytes t.1 p (pools_move (lengths_at bytes)) r1.0 r1.1 ep in
      ap (λ o. on_some o (λ rest. Some (image_of t.0 p.0))) (ap (λ n. read_zeros (padding n) p.1) same_end ∙ ap (read_zeros (padding end_of)) r2.1 ∙ unpadded_fails r2.0)))
    where
      unpadded_fails : end_of ≤ length bytes → read_zeros (padding end_of) (drop end_of bytes) ≡ None
      unpadded_fails inside =
          let len : length (drop end_of bytes) ≡ length bytes - end_of = length-drop end_of bytes in
          elim (cases_lt (length (drop end_of bytes)) (padding end_of)) [
            | inl lt ↦ zeros_short (padding end_of) (drop end_of bytes) lt
            | inr le ↦
                elim (cases_Bool (list_all is_zero (take (padding end_of) (drop end_of bytes)))) [
                  | inl zeros ↦ absurd (broken (omega arith) zeros)
                  | inr not_zeros ↦ zeros_not (padding end_of) (drop end_of bytes) not_zeros
                ]
          ]

  long_is : number 2 8 bytes + 65536 * number 2 10 bytes ≡ number 4 8 bytes
  unfolding number
  long_is = omega (arith, get_or-drop 8 bytes 0 0, get_or-drop 8 bytes 1 0, get_or-drop 8 bytes 2 0, get_or-drop 8 bytes 3 0, get_or-drop 10 bytes 0 0, get_or-drop 10 bytes 1 0)

  -- what Rust's tests tell
  pub record HasHeader : Type 0 where
    pub long : 56 ≤ length bytes
    pub marked : pointwise eqb marker (take 8 bytes) ≡ true

  if_false : {A : Type 0} (b : Bool) (x y : A) → b ≡ false → (if b then x else y) ≡ y
  if_false true x y e = absurd (cc e)
  if_false false x y e = refl

  size_same : unpadded (counts_at bytes) (lengths_at bytes) + padding (unpadded (counts_at bytes) (lengths_at bytes)) ≡ end_of + padding end_of
  size_same = ap (λ n. n + padding n) same_end

  pub zero_not : HasHeader → (number 2 54 bytes ≡ 0 → ⊥) → view bytes ≡ None
  zero_not h other =
      header_view bytes h.long h.marked
      ∙ if_false (nat_eq (number 2 54 bytes) 0 && nat_eq (number 2 8 bytes + 65536 * number 2 10 bytes) (unpadded (counts_at bytes) (lengths_at bytes) + padding (unpadded (counts_at bytes) (lengths_at bytes)))) body None
      (and_left (nat_eq (number 2 54 bytes) 0) _ (ne_eqb (number 2 54 bytes) 0 other))

  pub size_not : HasHeader → (number 4 8 bytes ≡ end_of + padding end_of → ⊥) → view bytes ≡ None
  size_not h other =
      header_view bytes h.long h.marked
      ∙ if_false (nat_eq (number 2 54 bytes) 0 && nat_eq (number 2 8 bytes + 65536 * number 2 10 bytes) (unpadded (counts_at bytes) (lengths_at bytes) + padding (unpadded (counts_at bytes) (lengths_at bytes)))) body None
      (and_right (nat_eq (number 2 54 bytes) 0) _ (ne_eqb _ _ (λ e. other (sym long_is ∙ e ∙ size_same))))

  matched : number 2 54 bytes ≡ 0 → number 4 8 bytes ≡ end_of + padding end_of → behind_header bytes ≡ body
  matched z size =
      ap (λ t. if t then body else None)
      (and_from (nat_eq (number 2 54 bytes) 0) (nat_eq (number 2 8 bytes + 65536 * number 2 10 bytes) (unpadded (counts_at bytes) (lengths_at bytes) + padding (unpadded (counts_at bytes) (lengths_at bytes))))
      (eq-eqb (number 2 54 bytes) 0 z) (eq-eqb _ _ (long_is ∙ size ∙ sym size_same)))

  pub cut_view : HasHeader → number 2 54 bytes ≡ 0 → number 4 8 bytes ≡ end_of + padding end_of → length bytes < end_of + padding end_of → view bytes ≡ None
  cut_view h z size lt = header_view bytes h.long h.marked ∙ matched z size ∙ body_none (λ le zeros. omega (arith, le)) h.long

  pub not_blank : HasHeader → number 2 54 bytes ≡ 0 → number 4 8 bytes ≡ end_of + padding end_of → list_all is_zero (take (padding end_of) (drop end_of bytes)) ≡ false → view bytes ≡ None
  not_blank h z size other = header_view bytes h.long h.marked ∙ matched z size ∙ body_none (λ le zeros. both_ways _ other zeros) h.long

  pub whole_view : HasHeader → number 2 54 bytes ≡ 0 → number 4 8 bytes ≡ end_of + padding end_of → end_of + padding end_of ≤ length bytes → list_all is_zero (take (padding end_of) (drop end_of bytes)) ≡ true → view bytes ≡ Some (image_at bytes)
  whole_view h z size le zeros = header_view bytes h.long h.marked ∙ matched z size ∙ body_there (omega (arith, le)) zeros
