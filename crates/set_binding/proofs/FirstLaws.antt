-- The first of numbered things.
use Rattle.std.proofs.Common.{◌≡◌, ℕ, zero, suc, ◌+◌, ◌<◌, ◌≤◌, ◌⊎◌, inl, inr, Option, Some, None, refl, sym, ap, ◌∙◌, arith}
use Rattle.std.specs.Option.{option_map}
use Rattle.std.proofs.lemmas.Bool.{cases_eq}
use Rattle.board_model.specs.First.{or_else, first_from}

-- nothing is there before a number
abbrev pub NoneBelow : {A : Type 0} → (ℕ → Option A) → ℕ → Type 0
NoneBelow thing n = (k : ℕ) → k < n → thing k ≡ None

pub none_at_start : {A : Type 0} (thing : ℕ → Option A) → NoneBelow thing 0
none_at_start thing k h = absurd (omega (arith, h))

pub none_more : {A : Type 0} (thing : ℕ → Option A) (n : ℕ) → NoneBelow thing n → thing n ≡ None → NoneBelow thing (n + 1)
none_more thing n none e k h = go (cases_eq k n)
  where
    go : (k ≡ n) ⊎ (k ≡ n → ⊥) → thing k ≡ None
    go (inl same) = ap thing same ∙ e
    go (inr apart) = none k (omega (arith, h, apart))

first_at_from : {A : Type 0} (thing : ℕ → Option A) (x : A) (k at n : ℕ) → at ≤ n → n < at + k → NoneBelow thing n → thing n ≡ Some x → first_from k at thing ≡ Some x
first_at_from thing x zero at n low high none e = absurd (omega (arith, low, high))
first_at_from thing x (suc k) at n low high none e = go (cases_eq at n) (λ next. first_at_from thing x k (suc at) n next (omega (arith, high)) none e)
  where
    go : (at ≡ n) ⊎ (at ≡ n → ⊥) → (suc at ≤ n → first_from k (suc at) thing ≡ Some x) → or_else (thing at) (first_from k (suc at) thing) ≡ Some x
    go (inl same) behind = ap (λ o. or_else o (first_from k (suc at) thing)) (ap thing same ∙ e)
    go (inr apart) behind = ap (λ o. or_else o (first_from k (suc at) thing)) (none at (omega (arith, low, apart))) ∙ behind (omega (arith, low, apart))

pub first_at : {A : Type 0} (thing : ℕ → Option A) (x : A) (end n : ℕ) → n < end → NoneBelow thing n → thing n ≡ Some x → first_from end 0 thing ≡ Some x
first_at thing x end n h none e = first_at_from thing x end 0 n (omega arith) (omega (arith, h)) none e

none_from : {A : Type 0} (thing : ℕ → Option A) (k at : ℕ) → ((j : ℕ) → j < at + k → thing j ≡ None) → first_from k at thing ≡ None
none_from thing zero at none = refl
none_from thing (suc k) at none = ap (λ o. or_else o (first_from k (suc at) thing)) (none at (omega arith)) ∙ none_from thing k (suc at) (λ j h. none j (omega (arith, h)))

pub first_none : {A : Type 0} (thing : ℕ → Option A) (end : ℕ) → NoneBelow thing end → first_from end 0 thing ≡ None
first_none thing end none = none_from thing end 0 (λ j h. none j (omega (arith, h)))

pub first_mapped : {A B : Type 0} (f : ℕ → Option B) (g : ℕ → Option A) (make : A → B) → ((n : ℕ) → f n ≡ option_map make (g n)) → (k at : ℕ) → first_from k at f ≡ option_map make (first_from k at g)
first_mapped f g make same zero at = refl
first_mapped {A} {B} f g make same (suc k) at =
    ap (λ o. or_else o (first_from k (suc at) f)) (same at)
    ∙ ap (or_else (option_map make (g at))) (first_mapped f g make same k (suc at))
    ∙ go (g at)
  where
    go : (o : Option A) → or_else (option_map make o) (option_map make (first_from k (suc at) g)) ≡ option_map make (or_else o (first_from k (suc at) g))
    go None = refl
    go (Some x) = refl
