-- How rows are given to types.
use Rattle.std.proofs.Common.{◌≡◌, ◌⊎◌, inl, inr, ℕ, zero, suc, ◌+◌, ◌<◌, ◌≤◌, min, Bool, true, false, List, [], ◌∷◌, ◌++◌, length, take, get_or, slice_set, Option, Some, None, refl, sym, ap, ◌∙◌, subst, arith, add-one}
use Rattle.std.specs.Prelude.{◌&&◌, nat_le, nat_lt, slice_get}
use Rattle.std.specs.List.{position}
use Rattle.std.specs.Option.{option_map}
use Rattle.std.proofs.lemmas.Bool.{cases_lt}
use Rattle.std.proofs.lemmas.Option.{slice_get_past, slice_get-get_or}
use Rattle.std.proofs.lemmas.Bool.Decides.{nat_tests}
use Rattle.first_places.proofs.PlaceLaws.{position_push}
use Rattle.assemblies.specs.Binding.{holds}
use Rattle.row_owners.specs.declared.find.Span.{Span}
use Rattle.row_owners.specs.Owners.{claimed, has_row, first_span}

next : {A : Type 0} (xs : List A) (n : ℕ) (x : A) → slice_get xs n ≡ Some x → take (suc n) xs ≡ take n xs ++ x ∷ []
next [] n x e = absurd (cc e)
next (y ∷ ys) zero x e = let same : y ≡ x = cc e in ap (λ z. z ∷ []) same
next (y ∷ ys) (suc n) x e = ap (λ zs. y ∷ zs) (next ys n x e)

one_more : {A : Type 0} (xs : List A) (n : ℕ) (x : A) → slice_get xs n ≡ Some x → take (n + 1) xs ≡ take n xs ++ x ∷ []
one_more xs n x e = ap (λ k. take k xs) (add-one n) ∙ next xs n x e

-- a list written over the front of another
pub front : {A : Type 0} (xs ys : List A) (n : ℕ) → length xs ≡ n → take n (xs ++ ys) ≡ xs
front [] ys zero e = refl
front [] ys (suc n) e = absurd (omega (arith, e))
front (x ∷ xs) ys zero e = absurd (omega (arith, e))
front (x ∷ xs) ys (suc n) e = ap (λ zs. x ∷ zs) (front xs ys n (omega (arith, e)))

get_set_same : {A : Type 0} (xs : List A) (n : ℕ) (x : A) → n < length xs → slice_get (slice_set xs n x) n ≡ Some x
get_set_same [] n x h = absurd (omega (arith, h))
get_set_same (y ∷ ys) zero x h = refl
get_set_same (y ∷ ys) (suc n) x h = get_set_same ys n x (omega (arith, h))

get_set_other : {A : Type 0} (xs : List A) (n k : ℕ) (x : A) → (k ≡ n → ⊥) → slice_get (slice_set xs n x) k ≡ slice_get xs k
get_set_other [] n k x h = refl
get_set_other (y ∷ ys) zero zero x h = absurd (h refl)
get_set_other (y ∷ ys) zero (suc k) x h = refl
get_set_other (y ∷ ys) (suc n) zero x h = refl
get_set_other (y ∷ ys) (suc n) (suc k) x h = get_set_other ys n k x (λ e. h (ap suc e))

-- between the first row and one
abbrev pub passed : ℕ → ℕ → ℕ → Bool
passed first row r = nat_le first r && nat_lt r row

-- the rows below one are asked
abbrev pub AreClaimed : List (Option ℕ) → List (Option ℕ) → ℕ → ℕ → ℕ → Type 0
AreClaimed old now first row n = (r : ℕ) → slice_get now r ≡ option_map (λ o. claimed o (passed first row r) n) (slice_get old r)

same_test : (first row row' r : ℕ) → (first ≤ r → nat_lt r row ≡ nat_lt r row') → passed first row r ≡ passed first row' r
same_test first row row' r same = grind (arith, nat_tests)

unclaimed : (o : Option (Option ℕ)) (n : ℕ) → o ≡ option_map (λ w. claimed w false n) o
unclaimed None n = refl
unclaimed (Some None) n = refl
unclaimed (Some (Some w)) n = refl

pub none_claimed : (old : List (Option ℕ)) (first n : ℕ) → AreClaimed old old first first n
none_claimed old first n r = unclaimed (slice_get old r) n ∙ ap (λ b. option_map (λ o. claimed o b n) (slice_get old r)) (sym none)
  where
    none : passed first first r ≡ false
    none = grind (arith, nat_tests)

module _ (old now : List (Option ℕ)) (first row n : ℕ) (above : first ≤ row) (known : AreClaimed old now first row n) where
  before : passed first row row ≡ false
  before = grind (arith, nat_tests)

  after : passed first (row + 1) row ≡ true
  after = grind (arith, nat_tests)

  elsewhere : (r : ℕ) → (r ≡ row → ⊥) → passed first row r ≡ passed first (row + 1) r
  elsewhere r apart = grind (arith, nat_tests)

  -- what the row had
  had : slice_get now row ≡ slice_get old row
  had = known row ∙ ap (λ b. option_map (λ o. claimed o b n) (slice_get old row)) before ∙ sym (unclaimed (slice_get old row) n)

  step : (new : List (Option ℕ)) → slice_get new row ≡ option_map (λ o. claimed o true n) (slice_get old row) → ((r : ℕ) → (r ≡ row → ⊥) → slice_get new r ≡ slice_get now r) → AreClaimed old new first (row + 1) n
  step new here others r = by (test r row)
    where
      test : (a b : ℕ) → (a ≡ b) ⊎ (a ≡ b → ⊥)
      test zero zero = inl refl
      test zero (suc b) = inr (λ e. omega (arith, e))
      test (suc a) zero = inr (λ e. omega (arith, e))
      test (suc a) (suc b) = up (test a b)
        where
          up : (a ≡ b) ⊎ (a ≡ b → ⊥) → (suc a ≡ suc b) ⊎ (suc a ≡ suc b → ⊥)
          up (inl e) = inl (ap suc e)
          up (inr h) = inr (λ e. h (omega (arith, e)))

      by : (r ≡ row) ⊎ (r ≡ row → ⊥) → slice_get new r ≡ option_map (λ o. claimed o (passed first (row + 1) r) n) (slice_get old r)
      by (inl e) = subst (λ z. slice_get new z ≡ option_map (λ o. claimed o (passed first (row + 1) z) n) (slice_get old z)) (sym e) (here ∙ ap (λ b. option_map (λ o. claimed o b n) (slice_get old row)) (sym after))
      by (inr h) = others r h ∙ known r ∙ ap (λ b. option_map (λ o. claimed o b n) (slice_get old r)) (elsewhere r h)

  pub takes : slice_get now row ≡ Some None → row < length now → AreClaimed old (slice_set now row (Some n)) first (row + 1) n
  takes free within =
      step (slice_set now row (Some n))
      (get_set_same now row (Some n) within ∙ sym (ap (option_map (λ o. claimed o true n)) (sym had ∙ free)))
      (λ r h. get_set_other now row r (Some n) h)

  pub leaves : (w : ℕ) → slice_get now row ≡ Some (Some w) → AreClaimed old now first (row + 1) n
  leaves w owned = step now (owned ∙ sym (ap (option_map (λ o. claimed o true n)) (sym had ∙ owned))) (λ r h. refl)

-- all rows of the span that are there are asked
pub all_claimed : (old now : List (Option ℕ)) (first count row n : ℕ) → AreClaimed old now first row n → first ≤ row → min (length old) (first + count) ≤ row → (first ≤ min (length old) (first + count) → row ≤ min (length old) (first + count)) → (r : ℕ) → slice_get now r ≡ option_map (λ o. claimed o (holds first count r) n) (slice_get old r)
all_claimed old now first count row n known above past within r = by (cases_lt r (length old))
  where
    same : r < length old → passed first row r ≡ holds first count r
    same h = grind (arith, nat_tests)

    by : (r < length old) ⊎ (length old ≤ r) → slice_get now r ≡ option_map (λ o. claimed o (holds first count r) n) (slice_get old r)
    by (inl h) = known r ∙ ap (λ b. option_map (λ o. claimed o b n) (slice_get old r)) (same h)
    by (inr h) =
        let none = slice_get_past old r h in
        known r ∙ ap (option_map (λ o. claimed o (passed first row r) n)) none ∙ sym (ap (option_map (λ o. claimed o (holds first count r) n)) none)

-- one type more
pub spans_more : (spans : List Span) (n row : ℕ) (s : Span) → slice_get spans n ≡ Some s → first_span (take (n + 1) spans) row ≡ claimed (first_span (take n spans) row) (holds s.first s.count row) n
spans_more spans n row s e =
    ap (λ xs. position (has_row row) xs) (one_more spans n s e)
    ∙ position_push (has_row row) (take n spans) s
    ∙ ap (λ k. claimed (position (has_row row) (take n spans)) (has_row row s) k) (count spans n s e)
  where
    count : {A : Type 0} (xs : List A) (n : ℕ) (x : A) → slice_get xs n ≡ Some x → length (take n xs) ≡ n
    count [] n x e = absurd (cc e)
    count (y ∷ ys) zero x e = refl
    count (y ∷ ys) (suc n) x e = ap suc (count ys n x e)

-- the owners of rows after one type more
pub owners_more : (spans : List Span) (n : ℕ) (d : Span) (old new : List (Option ℕ)) (count : ℕ) → n < length spans → ((row : ℕ) → slice_get new row ≡ option_map (λ o. claimed o (holds (get_or spans n d).first (get_or spans n d).count row) n) (slice_get old row)) → ((row : ℕ) → row < count → slice_get old row ≡ Some (first_span (take n spans) row)) → (row : ℕ) → row < count → slice_get new row ≡ Some (first_span (take (n + 1) spans) row)
owners_more spans n d old new count within more known row h =
    more row
    ∙ ap (option_map (λ o. claimed o (holds (get_or spans n d).first (get_or spans n d).count row) n)) (known row h)
    ∙ ap Some (sym (spans_more spans n row (get_or spans n d) (slice_get-get_or spans n d within)))
