-- Those of a list that pass a test, by their number among them.
use Rattle.std.proofs.Common.{◌≡◌, ℕ, zero, suc, ◌≤◌, Bool, true, false, cond, List, [], ◌∷◌, length, take, Some, None, sym, ap, ◌∙◌, arith}
use Rattle.std.specs.Prelude.{slice_get, count_by}
use Rattle.std.specs.List.{filter}
use Rattle.std.proofs.lemmas.List.{take_all}
use Rattle.std.proofs.lemmas.List.Sums.{length-filter}
use Rattle.assemblies.proofs.Back.{get_past}

passing : {A : Type 0} (test : A → Bool) (xs : List A) (n : ℕ) (x : A) → slice_get xs n ≡ Some x → test x ≡ true → slice_get (filter test xs) (length (filter test (take n xs))) ≡ Some x
passing test [] n x e t = absurd (cc e)
passing {A} test (y ∷ ys) zero x e t = go (test y) (let same : y ≡ x = cc e in ap test same ∙ t)
  where
    go : (b : Bool) → b ≡ true → slice_get (cond b (y ∷ filter test ys) (filter test ys)) 0 ≡ Some x
    go true k = e
    go false k = absurd (cc k)
passing {A} test (y ∷ ys) (suc n) x e t = go (test y) (passing test ys n x e t)
  where
    go : (b : Bool) → slice_get (filter test ys) (length (filter test (take n ys))) ≡ Some x → slice_get (cond b (y ∷ filter test ys) (filter test ys)) (length (cond b (y ∷ filter test (take n ys)) (filter test (take n ys)))) ≡ Some x
    go true h = h
    go false h = h

-- one that passes
pub passing_there : {A : Type 0} (test : A → Bool) (xs : List A) (n : ℕ) (x : A) → slice_get xs n ≡ Some x → test x ≡ true → slice_get (filter test xs) (count_by test (take n xs)) ≡ Some x
passing_there test xs n x e t = ap (slice_get (filter test xs)) (sym (length-filter test (take n xs))) ∙ passing test xs n x e t

-- past the last there is none
pub passing_past : {A : Type 0} (test : A → Bool) (xs : List A) (n : ℕ) → length xs ≤ n → slice_get (filter test xs) (count_by test (take n xs)) ≡ None
passing_past test xs n h =
    let all : count_by test (take n xs) ≡ count_by test xs = ap (count_by test) (take_all n xs h) in
    get_past (filter test xs) (count_by test (take n xs)) (omega (arith, all, length-filter test xs))
