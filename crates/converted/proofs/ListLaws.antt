-- What holds of each of a list holds of each that is selected, numbered or paired.
use Rattle.std.proofs.Common.{ℕ, suc, Bool, true, false, List, [], ◌∷◌}
use Rattle.std.specs.Prelude.{if◌then◌else◌}
use Rattle.std.specs.List.{zip}
use Rattle.kept_rows.specs.Select.{select}
use Rattle.assemblies.specs.Binding.{numbered}
use Rattle.assemblies.specs.Closed.{Each}

pub each_selected : {A : Type 0} (P : A → Type 0) (keep : ℕ → Bool) (xs : List A) → Each P xs → Each P (select keep xs)
each_selected P keep [] h = tt
each_selected P keep (x ∷ xs) h = go (keep 0) (each_selected P (λ k. keep (suc k)) xs h.1)
  where
    go : (b : Bool) → Each P (select (λ k. keep (suc k)) xs) → Each P (if b then x ∷ select (λ k. keep (suc k)) xs else select (λ k. keep (suc k)) xs)
    go true r = (h.0, r)
    go false r = r

pub each_numbered : {A B : Type 0} (P : A → Type 0) (Q : B → Type 0) (make : ℕ → A → B) → ((n : ℕ) (x : A) → P x → Q (make n x)) → (n : ℕ) (xs : List A) → Each P xs → Each Q (numbered make n xs)
each_numbered P Q make h n [] each = tt
each_numbered P Q make h n (x ∷ xs) each = (h n x each.0, each_numbered P Q make h (suc n) xs each.1)

pub each_of_all : {A : Type 0} (P : A → Type 0) → ((x : A) → P x) → (xs : List A) → Each P xs
each_of_all P h [] = tt
each_of_all P h (x ∷ xs) = (h x, each_of_all P h xs)

pub each_paired : {A B : Type 0} (P : B → Type 0) (xs : List A) (ys : List B) → Each P ys → Each (λ (x : A × B). P x.1) (zip xs ys)
each_paired P [] ys each = tt
each_paired P (x ∷ xs) [] each = tt
each_paired P (x ∷ xs) (y ∷ ys) each = (each.0, each_paired P xs ys each.1)
