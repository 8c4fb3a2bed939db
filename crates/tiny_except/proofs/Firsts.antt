-- The first clause that is looked for.
use Rattle.std.proofs.Common.{◌≡◌, ℕ, zero, suc, ◌<◌, ◌≤◌, Bool, true, false, List, [], ◌∷◌, length, take, drop, Some, None, refl, sym, ap, ◌∙◌, subst, arith}
use Rattle.std.specs.Prelude.{if◌then◌else◌, slice_get}
use Rattle.std.proofs.Math.Seq.{drop-cons}
use Rattle.std.proofs.lemmas.Option.{slice_get_within, get_or_from_slice_get, slice_get_past}
use Rattle.board_types.specs.declared.board.ClauseAt.{ClauseAt}
use Rattle.memory_states.specs.Told.{Told}
use Rattle.tiny_except.specs.declared.clauses.Found.{Found}
use Rattle.tiny_except.specs.declared.clauses.Sought.{Sought}
use Rattle.tiny_except.specs.Clauses.{is_sought, first_sought}

pub drop_here : {A : Type 0} (xs : List A) (k : ℕ) (x : A) → slice_get xs k ≡ Some x → drop k xs ≡ x ∷ drop (suc k) xs
drop_here xs k x e = drop-cons xs k x (slice_get_within xs k x e) ∙ ap (λ y. y ∷ drop (suc k) xs) (get_or_from_slice_get xs k x x e)

pub drop_past : {A : Type 0} (xs : List A) (k : ℕ) → slice_get xs k ≡ None → drop k xs ≡ []
drop_past [] zero e = refl
drop_past [] (suc k) e = refl
drop_past (x ∷ xs) zero e = absurd (cc e)
drop_past (x ∷ xs) (suc k) e = drop_past xs k e

pub drop_all : {A : Type 0} (xs : List A) (k : ℕ) → length xs ≤ k → drop k xs ≡ []
drop_all xs k l = drop_past xs k (slice_get_past xs k l)

pub take_here : {A : Type 0} (n : ℕ) (xs : List A) (k : ℕ) → k < n → slice_get (take n xs) k ≡ slice_get xs k
take_here zero xs k l = absurd (omega (arith, l))
take_here (suc n) [] k l = refl
take_here (suc n) (x ∷ xs) zero l = refl
take_here (suc n) (x ∷ xs) (suc k) l = take_here n xs k (omega (arith, l))

pub take_most : {A : Type 0} (n : ℕ) (xs : List A) → length (take n xs) ≤ n
take_most zero xs = omega arith
take_most (suc n) [] = omega arith
take_most (suc n) (x ∷ xs) = let most = take_most n xs in omega (arith, most)

pub drop_next : {A : Type 0} (all : List A) (k : ℕ) (c : A) (cs : List A) → drop k all ≡ c ∷ cs → drop (suc k) all ≡ cs
drop_next [] zero c cs q = absurd (cc q)
drop_next [] (suc k) c cs q = absurd (cc q)
drop_next (d ∷ ds) zero c cs q = cc q
drop_next (d ∷ ds) (suc k) c cs q = drop_next ds k c cs q

pub drop_at : {A : Type 0} (all : List A) (k : ℕ) (c : A) (cs : List A) → drop k all ≡ c ∷ cs → slice_get all k ≡ Some c
drop_at [] zero c cs q = absurd (cc q)
drop_at [] (suc k) c cs q = absurd (cc q)
drop_at (d ∷ ds) zero c cs q = let same : d ≡ c = cc q in ap Some same
drop_at (d ∷ ds) (suc k) c cs q = drop_at ds k c cs q

module _ (t : Told) (s : Sought) where
  pub passed : (cs : List ClauseAt) (k : ℕ) (c : ClauseAt) → slice_get cs k ≡ Some c → is_sought t s c ≡ false → first_sought t s (suc k) (drop (suc k) cs) ≡ first_sought t s k (drop k cs)
  passed cs k c e b =
      sym (ap (first_sought t s k) (drop_here cs k c e)
      ∙ ap (λ (x : Bool). if x then Some (let z : Found = record { number = k; clause = c } in z) else first_sought t s (suc k) (drop (suc k) cs)) b)

  pub here : (cs : List ClauseAt) (k : ℕ) (c : ClauseAt) → slice_get cs k ≡ Some c → is_sought t s c ≡ true → first_sought t s k (drop k cs) ≡ Some (record { number = k; clause = c })
  here cs k c e b =
      ap (first_sought t s k) (drop_here cs k c e)
      ∙ ap (λ (x : Bool). if x then Some (let z : Found = record { number = k; clause = c } in z) else first_sought t s (suc k) (drop (suc k) cs)) b

  pub none : (cs : List ClauseAt) (k : ℕ) → slice_get cs k ≡ None → first_sought t s k (drop k cs) ≡ None
  none cs k e = ap (first_sought t s k) (drop_past cs k e)

  pub ends : (cs : List ClauseAt) (k : ℕ) → length cs ≤ k → first_sought t s k (drop k cs) ≡ None
  ends cs k l = ap (first_sought t s k) (drop_all cs k l)

  -- what is found is a clause of the list
  pub is_clause : (all : List ClauseAt) (k : ℕ) (cs : List ClauseAt) → drop k all ≡ cs → (x : Found) → first_sought t s k cs ≡ Some x → slice_get all x.number ≡ Some x.clause
  is_clause all k [] q x e = absurd (cc e)
  is_clause all k (c ∷ cs) q x e = by (is_sought t s c) (λ g. is_clause all (suc k) cs (drop_next all k c cs q) x g) e
    where
      by : (b : Bool) → (first_sought t s (suc k) cs ≡ Some x → slice_get all x.number ≡ Some x.clause) → (if b then Some (let z : Found = record { number = k; clause = c } in z) else first_sought t s (suc k) cs) ≡ Some x → slice_get all x.number ≡ Some x.clause
      by true ih g =
          let same : (let z : Found = record { number = k; clause = c } in z) ≡ x = cc g in
          subst (λ (z : Found). slice_get all z.number ≡ Some z.clause) same (drop_at all k c cs q)
      by false ih g = ih g

  -- and is what is looked for
  pub is_met : (k : ℕ) (cs : List ClauseAt) (x : Found) → first_sought t s k cs ≡ Some x → is_sought t s x.clause ≡ true
  is_met k [] x e = absurd (cc e)
  is_met k (c ∷ cs) x e = by (is_sought t s c) refl (λ g. is_met (suc k) cs x g) e
    where
      by : (b : Bool) → is_sought t s c ≡ b → (first_sought t s (suc k) cs ≡ Some x → is_sought t s x.clause ≡ true) → (if b then Some (let z : Found = record { number = k; clause = c } in z) else first_sought t s (suc k) cs) ≡ Some x → is_sought t s x.clause ≡ true
      by true q ih g =
          let same : (let z : Found = record { number = k; clause = c } in z) ≡ x = cc g in
          subst (λ (z : Found). is_sought t s z.clause ≡ true) same q
      by false q ih g = ih g
