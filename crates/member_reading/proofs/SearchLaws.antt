-- What a loop finds that looks for the first that passes a test.
use Rattle.std.proofs.Common.{◌≡◌, ℕ, zero, suc, ◌+◌, ◌<◌, ◌≤◌, Bool, true, false, cond, List, [], ◌∷◌, ◌++◌, map, length, take, get_or, Option, Some, None, refl, sym, ap, ◌∙◌, arith, add-one}
use Rattle.std.specs.Prelude.{slice_get}
use Rattle.std.proofs.lemmas.List.{map-append}
use Rattle.std.proofs.lemmas.Option.{slice_get-get_or}
use Rattle.std.specs.List.{find, position}
use Rattle.std.specs.Option.{option_map}
use Rattle.kept_rows.proofs.SelectLaws.{position_step}

next : {A : Type 0} (xs : List A) (n : ℕ) (x : A) → slice_get xs n ≡ Some x → take (suc n) xs ≡ take n xs ++ x ∷ []
next [] n x e = absurd (cc e)
next (y ∷ ys) zero x e = let same : y ≡ x = cc e in ap (λ z. z ∷ []) same
next (y ∷ ys) (suc n) x e = ap (λ zs. y ∷ zs) (next ys n x e)

pub one_more : {A : Type 0} (xs : List A) (n : ℕ) (x : A) → slice_get xs n ≡ Some x → take (n + 1) xs ≡ take n xs ++ x ∷ []
one_more xs n x e = ap (λ k. take k xs) (add-one n) ∙ next xs n x e

-- an element that was read
pub stands : {A : Type 0} (xs : List A) (i : ℕ) (x : A) → i < length xs → x ≡ get_or xs i x → slice_get xs i ≡ Some x
stands xs i x within is = slice_get-get_or xs i x within ∙ ap Some (sym is)

-- one more of two lists that are seen alike
pub mapped_more : {A B C : Type 0} (seen : A → C) (make : B → C) (xs : List A) (x : A) (ys : List B) (i : ℕ) (d : B) → i < length ys → map seen xs ≡ map make (take i ys) → seen x ≡ make (get_or ys i d) → map seen (xs ++ x ∷ []) ≡ map make (take (i + 1) ys)
mapped_more seen make xs x ys i d within known same =
    map-append seen xs (x ∷ [])
    ∙ ap (λ zs. zs ++ seen x ∷ []) known
    ∙ ap (λ z. map make (take i ys) ++ z ∷ []) same
    ∙ sym (ap (map make) (one_more ys i (get_or ys i d) (slice_get-get_or ys i d within)) ∙ map-append make (take i ys) (get_or ys i d ∷ []))

-- a list written over the front of another
pub front : {A : Type 0} (xs ys : List A) (n : ℕ) → length xs ≡ n → take n (xs ++ ys) ≡ xs
front [] ys zero e = refl
front [] ys (suc n) e = absurd (omega (arith, e))
front (x ∷ xs) ys zero e = absurd (omega (arith, e))
front (x ∷ xs) ys (suc n) e = ap (λ zs. x ∷ zs) (front xs ys n (omega (arith, e)))

pub all_taken : {A : Type 0} (xs : List A) (n : ℕ) → length xs ≤ n → take n xs ≡ xs
all_taken [] zero h = refl
all_taken [] (suc n) h = refl
all_taken (x ∷ xs) zero h = absurd (omega (arith, h))
all_taken (x ∷ xs) (suc n) h = ap (λ zs. x ∷ zs) (all_taken xs n (omega (arith, h)))

module _ {A : Type 0} (test : A → Bool) where
  -- the first one of a list without any isn't one
  apart : (x : A) (xs : List A) → position test (x ∷ xs) ≡ None → (test x ≡ false) × (position test xs ≡ None)
  apart x xs e = by (test x) refl (position test xs) refl (sym (position_step test x xs) ∙ e)
    where
      by : (b : Bool) → test x ≡ b → (o : Option ℕ) → position test xs ≡ o → cond b (Some 0) (option_map suc o) ≡ None → (test x ≡ false) × (position test xs ≡ None)
      by true t o g h = absurd (cc h)
      by false t None g h = (t, g)
      by false t (Some n) g h = absurd (cc h)

  joined : (x : A) (xs : List A) (o : Option ℕ) → test x ≡ false → position test xs ≡ o → position test (x ∷ xs) ≡ option_map suc o
  joined x xs o t e = position_step test x xs ∙ ap (λ b. cond b (Some 0) (option_map suc (position test xs))) t ∙ ap (option_map suc) e

  pub place_found : (xs : List A) (n : ℕ) (x : A) → position test (take n xs) ≡ None → slice_get xs n ≡ Some x → test x ≡ true → position test xs ≡ Some n
  place_found [] n x none e t = absurd (cc e)
  place_found (y ∷ ys) zero x none e t =
      let same : y ≡ x = cc e in
      position_step test y ys ∙ ap (λ b. cond b (Some 0) (option_map suc (position test ys))) (ap test same ∙ t)
  place_found (y ∷ ys) (suc n) x none e t =
      let w = apart y (take n ys) none in
      joined y ys (Some n) w.0 (place_found ys n x w.1 e t)

  place_next : (xs : List A) (n : ℕ) (x : A) → position test (take n xs) ≡ None → slice_get xs n ≡ Some x → test x ≡ false → position test (take (suc n) xs) ≡ None
  place_next [] n x none e t = absurd (cc e)
  place_next (y ∷ ys) zero x none e t = let same : y ≡ x = cc e in joined y [] None (ap test same ∙ t) refl
  place_next (y ∷ ys) (suc n) x none e t =
      let w = apart y (take n ys) none in
      joined y (take (suc n) ys) None w.0 (place_next ys n x w.1 e t)

  pub place_more : (xs : List A) (n : ℕ) (x : A) → position test (take n xs) ≡ None → slice_get xs n ≡ Some x → test x ≡ false → position test (take (n + 1) xs) ≡ None
  place_more xs n x none e t = ap (λ k. position test (take k xs)) (add-one n) ∙ place_next xs n x none e t

  pub place_none : (xs : List A) (n : ℕ) → position test (take n xs) ≡ None → length xs ≤ n → position test xs ≡ None
  place_none xs n none past = ap (position test) (sym (all_taken xs n past)) ∙ none

module _ {A B : Type 0} (test : B → Bool) (g : A → B) where
  parted : (x : A) (xs : List A) → find test (map g (x ∷ xs)) ≡ None → (test (g x) ≡ false) × (find test (map g xs) ≡ None)
  parted x xs e = by (test (g x)) refl e
    where
      by : (b : Bool) → test (g x) ≡ b → cond b (Some (g x)) (find test (map g xs)) ≡ None → (test (g x) ≡ false) × (find test (map g xs) ≡ None)
      by true t h = absurd (cc h)
      by false t h = (t, h)

  passed : (x : A) (xs : List A) → test (g x) ≡ false → find test (map g (x ∷ xs)) ≡ find test (map g xs)
  passed x xs t = ap (λ b. cond b (Some (g x)) (find test (map g xs))) t

  pub first_found : (xs : List A) (n : ℕ) (x : A) → find test (map g (take n xs)) ≡ None → slice_get xs n ≡ Some x → test (g x) ≡ true → find test (map g xs) ≡ Some (g x)
  first_found [] n x none e t = absurd (cc e)
  first_found (y ∷ ys) zero x none e t =
      let same : y ≡ x = cc e in
      ap (λ b. cond b (Some (g y)) (find test (map g ys))) (ap (λ z. test (g z)) same ∙ t) ∙ ap (λ z. Some (g z)) same
  first_found (y ∷ ys) (suc n) x none e t = let w = parted y (take n ys) none in passed y ys w.0 ∙ first_found ys n x w.1 e t

  none_next : (xs : List A) (n : ℕ) (x : A) → find test (map g (take n xs)) ≡ None → slice_get xs n ≡ Some x → test (g x) ≡ false → find test (map g (take (suc n) xs)) ≡ None
  none_next [] n x none e t = absurd (cc e)
  none_next (y ∷ ys) zero x none e t = let same : y ≡ x = cc e in passed y [] (ap (λ z. test (g z)) same ∙ t)
  none_next (y ∷ ys) (suc n) x none e t = let w = parted y (take n ys) none in passed y (take (suc n) ys) w.0 ∙ none_next ys n x w.1 e t

  pub none_more : (xs : List A) (n : ℕ) (x : A) → find test (map g (take n xs)) ≡ None → slice_get xs n ≡ Some x → test (g x) ≡ false → find test (map g (take (n + 1) xs)) ≡ None
  none_more xs n x none e t = ap (λ k. find test (map g (take k xs))) (add-one n) ∙ none_next xs n x none e t

  pub none_found : (xs : List A) (n : ℕ) → find test (map g (take n xs)) ≡ None → length xs ≤ n → find test (map g xs) ≡ None
  none_found xs n none past = ap (λ ys. find test (map g ys)) (sym (all_taken xs n past)) ∙ none
