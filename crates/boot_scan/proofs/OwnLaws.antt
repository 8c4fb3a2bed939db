-- An image is told by its own bytes alone: whatever follows them, the same image is viewed.
use Rattle.std.proofs.Common.{◌≡◌, ℕ, zero, suc, ◌+◌, ◌-◌, ◌*◌, ◌≤◌, Bool, true, false, ◌&&◌, List, [], ◌∷◌, ◌++◌, map, length, take, drop, Option, Some, None, refl, sym, ap, ◌∙◌, subst, arith, append_assoc, length-append}
use Rattle.std.proofs.Math.Seq.{take-append_seam}
use Rattle.std.proofs.lemmas.List.{take-append-drop}
use Rattle.std.specs.Prelude.{nat_eq, if◌then◌else◌}
use Rattle.std.proofs.lemmas.Option.{none-some, same_Some}
use Rattle.machine.specs.Throw.{on_some}
use Rattle.image_bytes.specs.Layout.{Image, widths, total, sum, unpadded, padding, marker, Reader, read_byte, read_word, many, read_tables, read_pools, read_zeros, read_marker, read_body, with_zero, with_lengths, with_counts, with_entry, with_name, with_version, with_high, with_low, view, counts_of, lengths_of}
use Rattle.msspot_read.specs.Rows.{size_of}

-- what is read takes the first n bytes, and is told by them
record Own {B : Type 0} (read : List ℕ → Option B) (n : ℕ) (bytes : List ℕ) (value : List ℕ → B) (rest : List ℕ) : Type 0 where
  front : List ℕ
  joined : bytes ≡ front ++ rest
  size : length front ≡ n
  again : (more : List ℕ) → read (front ++ more) ≡ Some (value more)

record Whole {B : Type 0} (read : List ℕ → Option B) (n : ℕ) (bytes : List ℕ) (value : B) : Type 0 where
  rest : List ℕ
  own : Own read n bytes (λ more. value) rest

abbrev IsOwn : {A : Type 0} → Reader A → ℕ → Type 0
IsOwn {A = A} read n = (bytes : List ℕ) (x : A × List ℕ) → read bytes ≡ Some x → Own {B = A × List ℕ} read n bytes (λ more. (x.0, more)) x.1

sized : {B : Type 0} (read : List ℕ → Option B) (n m : ℕ) (bytes : List ℕ) (value : List ℕ → B) (rest : List ℕ) → n ≡ m → Own read n bytes value rest → Own read m bytes value rest
sized read n m bytes value rest e own = subst (λ k. Own read k bytes value rest) e own

-- one behind the other
joined_own : {A B : Type 0} (first : List ℕ → Option A) (second : A → Option B) (n m : ℕ) (bytes middle rest : List ℕ) (v : List ℕ → A) (w : List ℕ → B)
    → Own first n bytes v middle → Own (λ r. second (v r)) m middle w rest → Own (λ b. on_some (first b) second) (n + m) bytes w rest
joined_own first second n m bytes middle rest v w one two =
    record {
      front = one.front ++ two.front;
      joined = one.joined ∙ ap (λ r. one.front ++ r) two.joined ∙ sym (append_assoc one.front two.front rest);
      size = length-append one.front two.front ∙ ap (λ k. k + length two.front) one.size ∙ ap (λ k. n + k) two.size;
      again = λ more.
          ap (λ b. on_some (first b) second) (append_assoc one.front two.front more)
          ∙ ap (λ o. on_some o second) (one.again (two.front ++ more))
          ∙ two.again more;
    }

ended : {B : Type 0} (value : List ℕ → B) (rest : List ℕ) → Own (λ r. Some (value r)) 0 rest value rest
ended value rest = record { front = []; joined = refl; size = refl; again = λ more. refl }

-- the step before, where a value came out
record Step {A B : Type 0} (o : Option A) (second : A → Option B) (y : B) : Type 0 where
  value : A
  was : o ≡ Some value
  next : second value ≡ Some y

step : {A B : Type 0} (o : Option A) (second : A → Option B) (y : B) → on_some o second ≡ Some y → Step o second y
step None second y e = absurd (none-some y e)
step (Some x) second y e = record { value = x; was = refl; next = e }

-- ---- readers

word_own : IsOwn read_word 2
word_own [] x e = absurd (none-some x e)
word_own (a ∷ []) x e = absurd (none-some x e)
word_own (a ∷ b ∷ bytes) x e =
    subst (λ (y : ℕ × List ℕ). Own {B = ℕ × List ℕ} read_word 2 (a ∷ b ∷ bytes) (λ more. (y.0, more)) y.1) (same_Some (a + 256 * b, bytes) x e)
    (record { front = a ∷ b ∷ []; joined = refl; size = refl; again = λ more. refl })

byte_own : IsOwn read_byte 1
byte_own [] x e = absurd (none-some x e)
byte_own (a ∷ bytes) x e =
    subst (λ (y : ℕ × List ℕ). Own {B = ℕ × List ℕ} read_byte 1 (a ∷ bytes) (λ more. (y.0, more)) y.1) (same_Some (a, bytes) x e)
    (record { front = a ∷ []; joined = refl; size = refl; again = λ more. refl })

nothing_own : {A : Type 0} (value : A) → IsOwn {A = A} (λ bytes. Some (value, bytes)) 0
nothing_own {A = A} value bytes x e =
    subst (λ (y : A × List ℕ). Own {B = A × List ℕ} (λ bytes. Some (value, bytes)) 0 bytes (λ more. (y.0, more)) y.1) (same_Some {A = A × List ℕ} (value, bytes) x e) (ended {B = A × List ℕ} (λ more. (value, more)) bytes)

module _ {A B C : Type 0} (make : A → B → C) (first : Reader A) (second : Reader B) where
  abbrev behind_second : A → B × List ℕ → Option (C × List ℕ)
  behind_second a y = Some (make a y.0, y.1)

  abbrev behind_first : A × List ℕ → Option (C × List ℕ)
  behind_first x = on_some (second x.1) (behind_second x.0)

  abbrev both : Reader C
  both bytes = on_some (first bytes) behind_first

  abbrev with_rest : {D : Type 0} → D → List ℕ → D × List ℕ
  with_rest d more = (d, more)

  pairs_own : (n m : ℕ) (bytes : List ℕ) (x : A × List ℕ) (y : B × List ℕ) → Own first n bytes (with_rest x.0) x.1 → Own second m x.1 (with_rest y.0) y.1 → Own both (n + m) bytes (with_rest (make x.0 y.0)) y.1
  pairs_own n m bytes x y one two =
      let right : List ℕ → C × List ℕ = with_rest (make x.0 y.0) in
      let end : Own (λ r. behind_second x.0 (with_rest y.0 r)) 0 y.1 right y.1 = ended right y.1 in
      let later : Own (λ r. behind_first (with_rest x.0 r)) (m + 0) x.1 right y.1 = joined_own second (behind_second x.0) m 0 x.1 y.1 y.1 (with_rest y.0) right two end in
      let plain : m + 0 ≡ m = omega arith in
      sized both (n + (m + 0)) (n + m) bytes right y.1 (ap (λ k. n + k) plain) (joined_own first behind_first n (m + 0) bytes x.1 y.1 (with_rest x.0) right one later)

  both_own : (n m : ℕ) → IsOwn first n → IsOwn second m → IsOwn both (n + m)
  both_own n m one two bytes z e =
      let a = step (first bytes) behind_first z e in
      let b = step (second a.value.1) (behind_second a.value.0) z a.next in
      let result : C × List ℕ = (make a.value.0 b.value.0, b.value.1) in
      subst (λ (y : C × List ℕ). Own both (n + m) bytes (with_rest y.0) y.1) (same_Some result z b.next)
      (pairs_own n m bytes a.value b.value (one bytes a.value a.was) (two a.value.1 b.value b.was))

own_as : {A : Type 0} (read : Reader A) (n m : ℕ) → n ≡ m → IsOwn read n → IsOwn read m
own_as read n m e own = subst (λ k. IsOwn read k) e own

many_own : {A : Type 0} (read : Reader A) (s : ℕ) → IsOwn read s → (n : ℕ) → IsOwn (many read n) (n * s)
many_own read s own zero = own_as (many read 0) 0 (0 * s) (omega arith) (nothing_own [])
many_own read s own (suc n) = own_as (many read (suc n)) (s + n * s) (suc n * s) (omega arith) (both_own (λ x xs. x ∷ xs) read (many read n) s (n * s) own (many_own read s own n))

words_own : (n : ℕ) → IsOwn (many read_word n) (n * 2)
words_own n = many_own read_word 2 word_own n

rows_own : (w c : ℕ) → IsOwn (many (many read_word w) c) (2 * (w * c))
rows_own w c = own_as (many (many read_word w) c) (c * (w * 2)) (2 * (w * c)) (omega arith) (many_own (many read_word w) (w * 2) (words_own w) c)

tables_own : (ws cs : List ℕ) → length ws ≤ length cs → IsOwn (read_tables ws cs) (total ws cs)
tables_own [] cs h = nothing_own []
tables_own (w ∷ ws) [] h = absurd (omega arith)
tables_own (w ∷ ws) (c ∷ cs) h =
    both_own (λ x xs. x ∷ xs) (many (many read_word w) c) (read_tables ws cs) (2 * (w * c)) (total ws cs) (rows_own w c) (tables_own ws cs (omega arith))

pool_own : (n : ℕ) → IsOwn (many read_byte n) n
pool_own n = own_as (many read_byte n) (n * 1) n (omega arith) (many_own read_byte 1 byte_own n)

pools_own : (ns : List ℕ) → IsOwn (read_pools ns) (sum ns)
pools_own [] = nothing_own []
pools_own (n ∷ ns) = both_own (λ x xs. x ∷ xs) (many read_byte n) (read_pools ns) n (sum ns) (pool_own n) (pools_own ns)

-- ---- the marker and the padding

tested : {B : Type 0} (t : Bool) (o : Option B) (y : B) → (if t then o else None) ≡ Some y → (t ≡ true) × (o ≡ Some y)
tested true o y e = (refl, e)
tested false o y e = absurd (none-some y e)

if_true : {B : Type 0} (t : Bool) (o : Option B) → t ≡ true → (if t then o else None) ≡ o
if_true true o e = refl
if_true false o e = absurd (cc e)

marker_own : (ms bytes a : List ℕ) → read_marker ms bytes ≡ Some a → Own (read_marker ms) (length ms) bytes (λ more. more) a
marker_own [] bytes a e = subst (λ r. Own (read_marker []) 0 bytes (λ more. more) r) (same_Some bytes a e) (ended (λ more. more) bytes)
marker_own (m ∷ ms) [] a e = absurd (none-some a e)
marker_own (m ∷ ms) (b ∷ bytes) a e =
    let t = tested (nat_eq b m) (read_marker ms bytes) a e in
    let o = marker_own ms bytes a t.1 in
    record {
      front = b ∷ o.front;
      joined = ap (λ r. b ∷ r) o.joined;
      size = ap suc o.size;
      again = λ more. if_true (nat_eq b m) (read_marker ms (o.front ++ more)) t.0 ∙ o.again more;
    }

zeros_own : (n : ℕ) (bytes a : List ℕ) → read_zeros n bytes ≡ Some a → Own (read_zeros n) n bytes (λ more. more) a
zeros_own zero bytes a e = subst (λ r. Own (read_zeros 0) 0 bytes (λ more. more) r) (same_Some bytes a e) (ended (λ more. more) bytes)
zeros_own (suc n) [] a e = absurd (none-some a e)
zeros_own (suc n) (b ∷ bytes) a e =
    let t = tested (nat_eq b 0) (read_zeros n bytes) a e in
    let o = zeros_own n bytes a t.1 in
    record {
      front = b ∷ o.front;
      joined = ap (λ r. b ∷ r) o.joined;
      size = ap suc o.size;
      again = λ more. if_true (nat_eq b 0) (read_zeros n (o.front ++ more)) t.0 ∙ o.again more;
    }

-- ---- how much is read

many_long : {A : Type 0} (read : Reader A) (n : ℕ) (bytes : List ℕ) (x : List A × List ℕ) → many read n bytes ≡ Some x → length x.0 ≡ n
many_long read zero bytes x e = sym (ap (λ y. length y.0) (same_Some ([], bytes) x e))
many_long read (suc n) bytes x e =
    let a = step (read bytes) (λ y. on_some (many read n y.1) (λ ys. Some (y.0 ∷ ys.0, ys.1))) x e in
    let b = step (many read n a.value.1) (λ ys. Some (a.value.0 ∷ ys.0, ys.1)) x a.next in
    sym (ap (λ y. length y.0) (same_Some (a.value.0 ∷ b.value.0, b.value.1) x b.next)) ∙ ap suc (many_long read n a.value.1 b.value b.was)

tables_counts : (ws cs bytes : List ℕ) (x : List (List (List ℕ)) × List ℕ) → length ws ≡ length cs → read_tables ws cs bytes ≡ Some x → map length x.0 ≡ cs
tables_counts [] [] bytes x h e = sym (ap (λ y. map length y.0) (same_Some ([], bytes) x e))
tables_counts [] (c ∷ cs) bytes x h e = absurd (omega (arith, h))
tables_counts (w ∷ ws) [] bytes x h e = absurd (none-some x e)
tables_counts (w ∷ ws) (c ∷ cs) bytes x h e =
    let a = step (many (many read_word w) c bytes) (λ t. on_some (read_tables ws cs t.1) (λ ts. Some (t.0 ∷ ts.0, ts.1))) x e in
    let b = step (read_tables ws cs a.value.1) (λ ts. Some (a.value.0 ∷ ts.0, ts.1)) x a.next in
    sym (ap (λ y. map length y.0) (same_Some (a.value.0 ∷ b.value.0, b.value.1) x b.next))
    ∙ ap (λ k. k ∷ map length b.value.0) (many_long (many read_word w) c bytes a.value a.was)
    ∙ ap (λ ks. c ∷ ks) (tables_counts ws cs a.value.1 b.value (omega (arith, h)) b.was)

pools_lengths : (ns bytes : List ℕ) (x : List (List ℕ) × List ℕ) → read_pools ns bytes ≡ Some x → map length x.0 ≡ ns
pools_lengths [] bytes x e = sym (ap (λ y. map length y.0) (same_Some ([], bytes) x e))
pools_lengths (n ∷ ns) bytes x e =
    let a = step (many read_byte n bytes) (λ p. on_some (read_pools ns p.1) (λ ps. Some (p.0 ∷ ps.0, ps.1))) x e in
    let b = step (read_pools ns a.value.1) (λ ps. Some (a.value.0 ∷ ps.0, ps.1)) x a.next in
    sym (ap (λ y. map length y.0) (same_Some (a.value.0 ∷ b.value.0, b.value.1) x b.next))
    ∙ ap (λ k. k ∷ map length b.value.0) (many_long read_byte n bytes a.value a.was)
    ∙ ap (λ ks. n ∷ ks) (pools_lengths ns a.value.1 b.value b.was)

-- ---- the body

part_sizes : (t s p z : ℕ) → z ≡ 56 + t + s + p → t + (s + (p + 0)) ≡ z - 56
part_sizes t s p z e = omega (arith, e)

module _ (version : List ℕ) (name entry : ℕ) (counts lengths : List ℕ) where
  abbrev image_of : List (List (List ℕ)) → List (List ℕ) → Image
  image_of t p = record { version = version; name = name; entry = entry; tables = t; pools = p }

  abbrev pad : ℕ
  pad = padding (unpadded counts lengths)

  abbrev behind_zeros : List (List (List ℕ)) → List (List ℕ) → List ℕ → Option Image
  behind_zeros t p rest = Some (image_of t p)

  abbrev behind_pools : List (List (List ℕ)) → List (List ℕ) × List ℕ → Option Image
  behind_pools t p = on_some (read_zeros pad p.1) (behind_zeros t p.0)

  abbrev behind_tables : List (List (List ℕ)) × List ℕ → Option Image
  behind_tables t = on_some (read_pools lengths t.1) (behind_pools t.0)

  body_size : (t : List (List (List ℕ))) (p : List (List ℕ)) → map length t ≡ counts → map length p ≡ lengths → size_of (image_of t p) ≡ unpadded counts lengths + pad
  body_size t p e f = ap (λ cs. unpadded cs (map length p) + padding (unpadded cs (map length p))) e ∙ ap (λ ls. unpadded counts ls + padding (unpadded counts ls)) f

  body_own : (bytes : List ℕ) (i : Image) → length counts ≡ 11 → on_some (read_tables widths counts bytes) behind_tables ≡ Some i → Whole (λ r. on_some (read_tables widths counts r) behind_tables) (size_of i - 56) bytes i
  body_own bytes i eleven e =
      let a = step (read_tables widths counts bytes) behind_tables i e in
      let b = step (read_pools lengths a.value.1) (behind_pools a.value.0) i a.next in
      let c = step (read_zeros pad b.value.1) (behind_zeros a.value.0 b.value.0) i b.next in
      let image = image_of a.value.0 b.value.0 in
      let same : image ≡ i = same_Some image i c.next in
      let enough : length widths ≤ length counts = omega (arith, eleven) in
      let exactly : length widths ≡ length counts = sym eleven in
      let size : size_of image ≡ unpadded counts lengths + pad =
      body_size a.value.0 b.value.0 (tables_counts widths counts bytes a.value exactly a.was) (pools_lengths lengths a.value.1 b.value b.was) in
      let fits : total widths counts + (sum lengths + (pad + 0)) ≡ size_of image - 56 = part_sizes (total widths counts) (sum lengths) pad (size_of image) size in
      let end : Own (behind_zeros a.value.0 b.value.0) 0 c.value (λ more. image) c.value = ended (λ more. image) c.value in
      let zeros : Own (λ r. behind_pools a.value.0 (b.value.0, r)) (pad + 0) b.value.1 (λ more. image) c.value =
      joined_own (read_zeros pad) (behind_zeros a.value.0 b.value.0) pad 0 b.value.1 c.value c.value (λ more. more) (λ more. image) (zeros_own pad b.value.1 c.value c.was) end in
      let pools : Own (λ r. behind_tables (a.value.0, r)) (sum lengths + (pad + 0)) a.value.1 (λ more. image) c.value =
      joined_own (read_pools lengths) (behind_pools a.value.0) (sum lengths) (pad + 0) a.value.1 b.value.1 c.value (λ more. (b.value.0, more)) (λ more. image) (pools_own lengths a.value.1 b.value b.was) zeros in
      let tables : Own (λ r. on_some (read_tables widths counts r) behind_tables) (total widths counts + (sum lengths + (pad + 0))) bytes (λ more. image) c.value =
      joined_own (read_tables widths counts) behind_tables (total widths counts) (sum lengths + (pad + 0)) bytes a.value.1 c.value (λ more. (a.value.0, more)) (λ more. image) (tables_own widths counts enough bytes a.value a.was) pools in
      subst (λ j. Whole (λ r. on_some (read_tables widths counts r) behind_tables) (size_of j - 56) bytes j) same
      (record { rest = c.value; own = sized (λ r. on_some (read_tables widths counts r) behind_tables) _ (size_of image - 56) bytes (λ more. image) c.value fits tables })

-- ---- the header

along : {A B : Type 0} (read : Reader A) (second : A × List ℕ → Option B) (n m : ℕ) (bytes : List ℕ) (y : B) → IsOwn read n
    → ((x : A × List ℕ) → read bytes ≡ Some x → second x ≡ Some y → Whole (λ r. second (x.0, r)) m x.1 y)
    → on_some (read bytes) second ≡ Some y → Whole (λ b. on_some (read b) second) (n + m) bytes y
along read second n m bytes y own later e =
    let a = step (read bytes) second y e in
    let w = later a.value a.was a.next in
    record { rest = w.rest; own = joined_own read second n m bytes a.value.1 w.rest (λ more. (a.value.0, more)) (λ more. y) (own bytes a.value a.was) w.own }

module _ (low high : ℕ) (version : List ℕ) (name entry : ℕ) (counts lengths : List ℕ) where
  abbrev sound : ℕ → Bool
  sound zero_word = nat_eq zero_word 0 && nat_eq (low + 65536 * high) (unpadded counts lengths + padding (unpadded counts lengths))

  zero_own : (x : ℕ × List ℕ) (i : Image) → length counts ≡ 11 → with_zero low high version name entry counts lengths x ≡ Some i
      → Whole (λ r. with_zero low high version name entry counts lengths (x.0, r)) (size_of i - 56) x.1 i
  unfolding read_body
  zero_own x i eleven e =
      let t = tested (sound x.0) (on_some (read_tables widths counts x.1) (behind_tables version name entry counts lengths)) i e in
      let w = body_own version name entry counts lengths x.1 i eleven t.1 in
      record {
        rest = w.rest;
        own = record {
          front = w.own.front;
          joined = w.own.joined;
          size = w.own.size;
          again = λ more. if_true (sound x.0) (on_some (read_tables widths counts (w.own.front ++ more)) (behind_tables version name entry counts lengths)) t.0 ∙ w.own.again more;
        };
      }

view_own : (bytes : List ℕ) (i : Image) → view bytes ≡ Some i → Whole view (8 + (2 + (2 + (8 + (2 + (2 + (22 + (8 + (2 + (size_of i - 56)))))))))) bytes i
view_own bytes i e =
    let r = size_of i - 56 in
    let a = step (read_marker marker bytes) (λ a. on_some (read_word a) with_low) i e in
    let w : Whole (λ b. on_some (read_word b) with_low) (2 + (2 + (8 + (2 + (2 + (22 + (8 + (2 + r)))))))) a.value i =
    along read_word with_low 2 (2 + (8 + (2 + (2 + (22 + (8 + (2 + r))))))) a.value i word_own (λ x1 e1.
    along read_word (with_high x1.0) 2 (8 + (2 + (2 + (22 + (8 + (2 + r)))))) x1.1 i word_own (λ x2 e2.
    along (many read_word 4) (with_version x1.0 x2.0) 8 (2 + (2 + (22 + (8 + (2 + r))))) x2.1 i (words_own 4) (λ x3 e3.
    along read_word (with_name x1.0 x2.0 x3.0) 2 (2 + (22 + (8 + (2 + r)))) x3.1 i word_own (λ x4 e4.
    along read_word (with_entry x1.0 x2.0 x3.0 x4.0) 2 (22 + (8 + (2 + r))) x4.1 i word_own (λ x5 e5.
    along (many read_word 11) (with_counts x1.0 x2.0 x3.0 x4.0 x5.0) 22 (8 + (2 + r)) x5.1 i (words_own 11) (λ x6 e6.
    along (many read_word 4) (with_lengths x1.0 x2.0 x3.0 x4.0 x5.0 x6.0) 8 (2 + r) x6.1 i (words_own 4) (λ x7 e7.
    along read_word (with_zero x1.0 x2.0 x3.0 x4.0 x5.0 x6.0 x7.0) 2 r x7.1 i word_own (λ x8 e8.
    zero_own x1.0 x2.0 x3.0 x4.0 x5.0 x6.0 x7.0 x8 i (many_long read_word 11 x5.1 x6 e6))))))))) a.next in
    record { rest = w.rest; own = joined_own (read_marker marker) (λ a. on_some (read_word a) with_low) 8 (2 + (2 + (8 + (2 + (2 + (22 + (8 + (2 + r)))))))) bytes a.value w.rest (λ more. more) (λ more. i) (marker_own marker bytes a.value a.was) w.own }

-- ---- the image

whole_size : (z : ℕ) → 56 ≤ z → 8 + (2 + (2 + (8 + (2 + (2 + (22 + (8 + (2 + (z - 56))))))))) ≡ z
whole_size z h = omega (arith, h)

long_enough : (i : Image) → 56 ≤ size_of i
long_enough i = at_least (total widths (counts_of i)) (sum (lengths_of i)) (padding (unpadded (counts_of i) (lengths_of i))) where
  at_least : (t s p : ℕ) → 56 ≤ 56 + t + s + p
  at_least t s p = omega arith

image_own : (bytes : List ℕ) (i : Image) → view bytes ≡ Some i → Whole view (size_of i) bytes i
image_own bytes i e =
    let w = view_own bytes i e in
    record { rest = w.rest; own = sized view _ (size_of i) bytes (λ more. i) w.rest (whole_size (size_of i) (long_enough i)) w.own }

-- an image lies inside the bytes
pub view_inside : (bytes : List ℕ) (i : Image) → view bytes ≡ Some i → size_of i ≤ length bytes
view_inside bytes i e =
    let w = image_own bytes i e in
    let long : length bytes ≡ length w.own.front + length w.rest = ap length w.own.joined ∙ length-append w.own.front w.rest in
    let size = w.own.size in
    omega (arith, long, size)

-- and is told by its own bytes
pub view_alone : (bytes others : List ℕ) (i : Image) → view bytes ≡ Some i → take (size_of i) others ≡ take (size_of i) bytes → view others ≡ Some i
view_alone bytes others i e same =
    let w = image_own bytes i e in
    let front : take (size_of i) bytes ≡ w.own.front = ap (λ k. take k bytes) (sym w.own.size) ∙ ap (take (length w.own.front)) w.own.joined ∙ take-append_seam w.own.front w.rest in
    let spelt : w.own.front ++ drop (size_of i) others ≡ others = ap (λ xs. xs ++ drop (size_of i) others) (sym (same ∙ front)) ∙ take-append-drop (size_of i) others in
    ap view (sym spelt) ∙ w.own.again (drop (size_of i) others)
