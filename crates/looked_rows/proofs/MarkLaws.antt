-- The bits of a table after tokens that were marked one after the other.
use Rattle.std.proofs.Common.{◌≡◌, ℕ, zero, suc, ◌+◌, ◌*◌, ◌^◌, ◌<◌, Bool, true, false, List, [], ◌∷◌, ◌++◌, length, Option, Some, None, refl, sym, ap, ◌∙◌, arith, set}
use Rattle.std.specs.Prelude.{slice_get, ◌||◌, ◌==◌, replicate}
use Rattle.std.specs.Option.{option_map}
use Rattle.std.proofs.Math.Bool.{or_assoc}
use Rattle.std.proofs.lemmas.Bool.{eq-eqb, ne_eqb}
use Rattle.std.proofs.lemmas.List.Folds.{list_any-append}
use Rattle.std.proofs.lemmas.Option.{slice_get_within}
use Rattle.looked_rows.specs.Marks.{is_named, Marks}

same : (b : Bool) → b ≡ (b || false)
same true = refl
same false = refl

set_true : (b : Bool) → true ≡ (b || true)
set_true true = refl
set_true false = refl

same_all : (o : Option Bool) → o ≡ option_map (λ bit. bit || false) o
same_all None = refl
same_all (Some b) = ap Some (same b)

-- no token
pub marks_none : (table : ℕ) (bits : List Bool) → Marks table [] bits bits
marks_none table bits n = same_all (slice_get bits n)

-- some tokens, and then others
pub marks_after : (table : ℕ) (ts us : List ℕ) (a b c : List Bool) → Marks table ts a b → Marks table us b c → Marks table (ts ++ us) a c
marks_after table ts us a b c first second n =
    second n ∙ ap (option_map (λ bit. bit || is_named table us n)) (first n) ∙ go (slice_get a n)
  where
    go : (o : Option Bool) → option_map (λ bit. bit || is_named table us n) (option_map (λ bit. bit || is_named table ts n) o) ≡ option_map (λ bit. bit || is_named table (ts ++ us) n) o
    go None = refl
    go (Some bit) = ap Some (or_assoc bit (is_named table ts n) (is_named table us n) ∙ ap (λ b. bit || b) (sym (list_any-append (λ token. token == table * 2 ^ 24 + suc n) ts us)))

-- a token that names none of the rows
pub marks_other : (table token : ℕ) (bits : List Bool) → ((n : ℕ) → n < length bits → token ≡ table * 2 ^ 24 + suc n → ⊥) → Marks table (token ∷ []) bits bits
marks_other table token bits apart n = go (slice_get bits n) refl
  where
    go : (o : Option Bool) → slice_get bits n ≡ o → o ≡ option_map (λ bit. bit || is_named table (token ∷ []) n) o
    go None e = refl
    go (Some b) e =
        let test : (token == table * 2 ^ 24 + suc n) ≡ false = ne_eqb token (table * 2 ^ 24 + suc n) (apart n (slice_get_within bits n b e)) in
        ap Some (same b ∙ ap (λ t. b || (t || false)) (sym test))

-- the bit of one row
set_bit : (bits : List Bool) (i n : ℕ) (test : Bool) → i < length bits → (i ≡ n → test ≡ true) → ((i ≡ n → ⊥) → test ≡ false) → slice_get (set bits i true) n ≡ option_map (λ bit. bit || test) (slice_get bits n)
set_bit [] i n test within is other = absurd (omega (arith, within))
set_bit (b ∷ bs) zero zero test within is other = ap Some (set_true b ∙ ap (λ t. b || t) (sym (is refl)))
set_bit (b ∷ bs) zero (suc n) test within is other =
    let off : test ≡ false = other (λ e. omega (arith, e)) in
    same_all (slice_get bs n) ∙ ap (λ t. option_map (λ bit. bit || t) (slice_get bs n)) (sym off)
set_bit (b ∷ bs) (suc i) zero test within is other =
    let off : test ≡ false = other (λ e. omega (arith, e)) in
    ap Some (same b ∙ ap (λ t. b || t) (sym off))
set_bit (b ∷ bs) (suc i) (suc n) test within is other = set_bit bs i n test (omega (arith, within)) (λ e. is (ap suc e)) (λ apart. other (λ e. apart (omega (arith, e))))

pub marks_at : (table token i : ℕ) (bits : List Bool) → i < length bits → token ≡ table * 2 ^ 24 + suc i → Marks table (token ∷ []) bits (set bits i true)
marks_at table token i bits within names n = set_bit bits i n (is_named table (token ∷ []) n) within on off
  where
    row : ℕ
    row = table * 2 ^ 24 + suc n

    on : i ≡ n → is_named table (token ∷ []) n ≡ true
    on e = ap (λ t. t || false) (eq-eqb token (table * 2 ^ 24 + suc n) (names ∙ ap (λ k. table * 2 ^ 24 + suc k) e))

    off : (i ≡ n → ⊥) → is_named table (token ∷ []) n ≡ false
    off apart = ap (λ t. t || false) (ne_eqb token (table * 2 ^ 24 + suc n) (λ e. apart (omega (arith, e, names))))

-- bits of which each came from one that stood there
same_length : (xs ys : List Bool) (f : ℕ → Bool → Bool) → ((n : ℕ) → slice_get ys n ≡ option_map (f n) (slice_get xs n)) → length ys ≡ length xs
same_length [] [] f h = refl
same_length [] (y ∷ ys) f h = absurd (let e = h zero in cc)
same_length (x ∷ xs) [] f h = absurd (let e = h zero in cc)
same_length (x ∷ xs) (y ∷ ys) f h = ap suc (same_length xs ys (λ n. f (suc n)) (λ n. h (suc n)))

none_yet : (k n : ℕ) → n < k → slice_get (replicate k false) n ≡ Some false
none_yet zero n h = absurd (omega (arith, h))
none_yet (suc k) zero h = refl
none_yet (suc k) (suc n) h = none_yet k n (omega (arith, h))

long : (k : ℕ) → length (replicate k false) ≡ k
long zero = refl
long (suc k) = ap suc (long k)

-- bits that were all unset before
pub marked_count : (table : ℕ) (tokens : List ℕ) (k : ℕ) (bits : List Bool) → Marks table tokens (replicate k false) bits → length bits ≡ k
marked_count table tokens k bits marks = same_length (replicate k false) bits (λ n bit. bit || is_named table tokens n) marks ∙ long k

pub marked_each : (table : ℕ) (tokens : List ℕ) (k : ℕ) (bits : List Bool) → Marks table tokens (replicate k false) bits → (n : ℕ) → n < k → slice_get bits n ≡ Some (is_named table tokens n)
marked_each table tokens k bits marks n h = marks n ∙ ap (option_map (λ bit. bit || is_named table tokens n)) (none_yet k n h)
