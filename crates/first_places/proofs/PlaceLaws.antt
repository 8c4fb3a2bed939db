-- The place of the first key that is equal to one, where a key is added before those that were looked at.
use Rattle.std.proofs.Common.{◌≡◌, ℕ, suc, Bool, true, false, cond, List, [], ◌∷◌, ◌++◌, length, Option, Some, None, refl, sym, ap, ◌∙◌}
use Rattle.std.specs.List.{position}
use Rattle.std.specs.Option.{option_map, option_or}
use Rattle.std.specs.Cmp.{IsEquivalence, IsTotalOrder, eq_by_cmp_equiv}
use Rattle.std.specs.Ordering.{eq_by_cmp}
use Rattle.std.specs.declared.cmp.Ordering.{Ordering}
use Rattle.std.specs.BTreeMap.{BTreeMap, get, is_at, Updates}
use Rattle.std.specs.Map.{lookup}
use Rattle.kept_rows.proofs.SelectLaws.{position_step}
use Rattle.first_places.specs.Places.{FindsFirst}

-- the added key counts only where none before it passes
abbrev pub or_last : Option ℕ → Bool → ℕ → Option ℕ
or_last found last n = option_or found (cond last (Some n) None)

join : (b c : Bool) (o : Option ℕ) (n : ℕ) → cond b (Some 0) (option_map suc (or_last o c n)) ≡ or_last (cond b (Some 0) (option_map suc o)) c (suc n)
join true c o n = refl
join false c (Some k) n = refl
join false true None n = refl
join false false None n = refl

pub position_push : {A : Type 0} (test : A → Bool) (xs : List A) (y : A) → position test (xs ++ y ∷ []) ≡ or_last (position test xs) (test y) (length xs)
position_push test [] y = position_step test y []
position_push test (x ∷ xs) y =
    position_step test x (xs ++ y ∷ [])
    ∙ ap (λ o. cond (test x) (Some 0) (option_map suc o)) (position_push test xs y)
    ∙ join (test x) (test y) (position test xs) (length xs)
    ∙ ap (λ o. or_last o (test y) (suc (length xs))) (sym (position_step test x xs))

pub position_same : {A : Type 0} (test test' : A → Bool) → ((x : A) → test x ≡ test' x) → (xs : List A) → position test xs ≡ position test' xs
position_same test test' same [] = refl
position_same test test' same (x ∷ xs) =
    position_step test x xs
    ∙ ap (λ b. cond b (Some 0) (option_map suc (position test xs))) (same x)
    ∙ ap (λ o. cond (test' x) (Some 0) (option_map suc o)) (position_same test test' same xs)
    ∙ sym (position_step test' x xs)

-- the places of the keys behind some first ones are in a map
abbrev pub FindsBehind : {K : Type 0} → (K → K → Ordering) → List K → List K → BTreeMap K ℕ → Type 0
FindsBehind {K} cmp keys before places = (wanted : K) → option_or (position (eq_by_cmp cmp wanted) before) (get cmp places wanted) ≡ position (eq_by_cmp cmp wanted) keys

or_absent : (o g : Option ℕ) → g ≡ None → option_or o g ≡ o
or_absent None g e = e
or_absent (Some n) g e = refl

or_added : (o : Option ℕ) (b : Bool) (n : ℕ) (g : Option ℕ) → option_or o (cond b (Some n) g) ≡ option_or (or_last o b n) g
or_added (Some k) b n g = refl
or_added None true n g = refl
or_added None false n g = refl

module _ {K : Type 0} (cmp : K → K → Ordering) where
  pub behind_all : (keys : List K) (m : BTreeMap K ℕ) → m.entries ≡ [] → FindsBehind cmp keys keys m
  behind_all keys m empty wanted = or_absent (position (eq_by_cmp cmp wanted) keys) (get cmp m wanted) (ap (lookup (is_at (cmp wanted))) empty)

  pub behind_none : (m : BTreeMap K ℕ) (keys before : List K) → before ≡ [] → FindsBehind cmp keys before m → FindsFirst cmp keys m
  behind_none m keys before none finds wanted = ap (λ xs. option_or (position (eq_by_cmp cmp wanted) xs) (get cmp m wanted)) (sym none) ∙ finds wanted

module _ {K : Type 0} (cmp : K → K → Ordering) (order : IsTotalOrder cmp) where
  abbrev same_key : K → K → Bool
  same_key = eq_by_cmp cmp

  abbrev laws : IsEquivalence same_key
  laws = eq_by_cmp_equiv order

  pub behind_more : (m n : BTreeMap K ℕ) (keys before front : List K) (key : K) (place : ℕ) → before ≡ front ++ key ∷ [] → place ≡ length front → Updates cmp m n key (Some place) → FindsBehind cmp keys before m → FindsBehind cmp keys front n
  behind_more m n keys before front key place is counted updates finds wanted =
      ap (option_or (position (same_key wanted) front))
      (updates.0 wanted
      ∙ ap (λ b. cond b (Some place) (get cmp m wanted)) (laws.symm key wanted)
      ∙ ap (λ p. cond (same_key wanted key) (Some p) (get cmp m wanted)) counted)
      ∙ or_added (position (same_key wanted) front) (same_key wanted key) (length front) (get cmp m wanted)
      ∙ ap (λ o. option_or o (get cmp m wanted)) (sym (position_push (same_key wanted) front key) ∙ ap (position (same_key wanted)) (sym is))
      ∙ finds wanted
