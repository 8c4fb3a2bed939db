-- Heights by the edges that were taken.
use Rattle.std.proofs.Common.{◌≡◌, ℕ, zero, suc, ◌<◌, ◌≤◌, ◌⊎◌, inl, inr, max, Bool, true, false, ◌&&◌, List, [], ◌∷◌, length, take, Some, refl, sym, ap, ◌∙◌, arith}
use Rattle.std.specs.Prelude.{slice_get}
use Rattle.std.specs.List.{list_all}
use Rattle.std.proofs.lemmas.Bool.{cases_lt}
use Rattle.ways.specs.Heights.{ends, HoldsFrom, HasHeight}
use Rattle.ways.specs.Walk.{HasTaken}

all_one_more : (f : ℕ → Bool) (xs : List ℕ) (e b : ℕ) → slice_get xs e ≡ Some b → list_all f (take (suc e) xs) ≡ (list_all f (take e xs) && f b)
all_one_more f [] e b h = cc h
all_one_more f (x ∷ xs) zero b h = go (f x) (ap f (some_inj h))
  where
    some_inj : Some x ≡ Some b → x ≡ b
    some_inj e = cc e

    go : (o : Bool) → o ≡ f b → (o && list_all f (take zero xs)) ≡ (true && f b)
    go true e = e
    go false e = e
all_one_more f (x ∷ xs) (suc e) b h = go (f x) (all_one_more f xs e b h)
  where
    go : (o : Bool) → list_all f (take (suc e) xs) ≡ (list_all f (take e xs) && f b) → (o && list_all f (take (suc e) xs)) ≡ ((o && list_all f (take e xs)) && f b)
    go true ih = ih
    go false ih = refl

both_from : (h o : ℕ) (f g : ℕ → Bool) → HoldsFrom h f → HoldsFrom o g → HoldsFrom (max h o) (λ n. f n && g n)
both_from h o f g hf hg = λ n. (
  (λ low. let e = (hf n).0 (omega (arith, low)) in ap (λ x. x && g n) e ∙ (hg n).0 (omega (arith, low))),
  (λ high. by_first n high (cases_lt n h)),
)
  where
    by_first : (n : ℕ) → n < max h o → (n < h) ⊎ (h ≤ n) → (f n && g n) ≡ false
    by_first n high (inl below) = ap (λ x. x && g n) ((hf n).1 below)
    by_first n high (inr above) = ap (λ x. x && g n) ((hf n).0 above) ∙ (hg n).1 (omega (arith, high, above))

same_from : (h : ℕ) (f g : ℕ → Bool) → ((n : ℕ) → g n ≡ f n) → HoldsFrom h f → HoldsFrom h g
same_from h f g same from = λ n. ((λ low. same n ∙ (from n).0 low), (λ high. same n ∙ (from n).1 high))

pub taken_more : (next : ℕ → List ℕ) (a e b h o : ℕ) → slice_get (next a) e ≡ Some b → HasTaken next a e h → HasHeight next b o → HasTaken next a (suc e) (max h o)
taken_more next a e b h o there taken height =
    same_from (max h o) (λ n. list_all (ends n next) (take e (next a)) && ends n next b) (λ n. list_all (ends n next) (take (suc e) (next a))) (λ n. all_one_more (ends n next) (next a) e b there)
    (both_from h o (λ n. list_all (ends n next) (take e (next a))) (λ n. ends n next b) taken height)

take_all : (xs : List ℕ) → take (length xs) xs ≡ xs
take_all [] = refl
take_all (x ∷ xs) = ap (λ ys. x ∷ ys) (take_all xs)

pub height_all : (next : ℕ → List ℕ) (a h : ℕ) → HasTaken next a (length (next a)) h → HasHeight next a (suc h)
height_all next a h taken zero = ((λ low. absurd (omega (arith, low))), (λ high. refl))
height_all next a h taken (suc n) =
    let same = ap (list_all (λ x. ends n next x)) (sym (take_all (next a))) in
    ((λ low. same ∙ (taken n).0 (omega (arith, low))), (λ high. same ∙ (taken n).1 (omega (arith, high))))

pub nothing_taken : (next : ℕ → List ℕ) (a : ℕ) → HasTaken next a 0 0
nothing_taken next a = λ n. ((λ low. refl), (λ high. absurd (omega (arith, high))))

all_not : (f : ℕ → Bool) (xs : List ℕ) (e b : ℕ) → slice_get xs e ≡ Some b → f b ≡ false → list_all f xs ≡ false
all_not f [] e b h fails = cc h
all_not f (x ∷ xs) zero b h fails = ap (λ y. y && list_all f xs) (ap f (some_inj h) ∙ fails)
  where
    some_inj : Some x ≡ Some b → x ≡ b
    some_inj e = cc e
all_not f (x ∷ xs) (suc e) b h fails = go (f x) (all_not f xs e b h fails)
  where
    go : (o : Bool) → list_all f xs ≡ false → (o && list_all f xs) ≡ false
    go true ih = ih
    go false ih = refl

-- one edge to a way that is too long is enough
pub too_long : (next : ℕ → List ℕ) (a e b n : ℕ) → slice_get (next a) e ≡ Some b → ends n next b ≡ false → ends (suc n) next a ≡ false
too_long next a e b n there fails = all_not (λ x. ends n next x) (next a) e b there fails
