-- Arguments off a stack, and what their places keep of them.
use Rattle.std.proofs.Common.{◌≡◌, ℕ, zero, suc, ◌+◌, ◌-◌, ◌<◌, ◌≤◌, inl, inr, List, [], ◌∷◌, length, Option, Some, None, refl, sym, ap, ◌∙◌, subst, arith}
use Rattle.std.specs.Prelude.{◌⊎◌, slice_get}
use Rattle.std.specs.Option.{option_map}
use Rattle.machine.specs.Data.{PlaceType, Value}
use Rattle.machine.specs.Numbers.{kept}
use Rattle.machine.specs.Throw.{on_some}
use Rattle.machine.specs.Rows.{take_arguments, keep_all}

pub some_same : {A : Type 0} (x y : A) → Some x ≡ Some y → x ≡ y
some_same x y e = cc e

pub get_some : {A : Type 0} (xs : List A) (i : ℕ) → i < length xs → (x : A) × (slice_get xs i ≡ Some x)
get_some [] i l = absurd (omega (arith, l))
get_some (x ∷ xs) zero l = (x, refl)
get_some (x ∷ xs) (suc i) l = get_some xs i (omega (arith, l))

last_or_before : (i n : ℕ) → i < suc n → (i < n) ⊎ (i ≡ n)
last_or_before zero zero l = inr refl
last_or_before zero (suc n) l = inl (omega arith)
last_or_before (suc i) zero l = absurd (omega (arith, l))
last_or_before (suc i) (suc n) l = by (last_or_before i n (omega (arith, l)))
  where
    by : (i < n) ⊎ (i ≡ n) → (suc i < suc n) ⊎ (suc i ≡ suc n)
    by (inl q) = inl (omega (arith, q))
    by (inr q) = inr (ap suc q)

-- n arguments off the stack, before those that were taken
pub record Taking (n : ℕ) (stack taken : List Value) : Type 0 where
  pub arguments : List Value
  pub rest : List Value
  pub is : take_arguments n stack taken ≡ Some (record { arguments = arguments; rest = rest })
  pub count : length arguments ≡ n + length taken
  pub own : (i : ℕ) → i < n → slice_get arguments i ≡ slice_get stack (n - (i + 1))
  pub old : (i : ℕ) → slice_get arguments (n + i) ≡ slice_get taken i
  pub rest_at : (i : ℕ) → slice_get rest i ≡ slice_get stack (n + i)
  pub rest_count : n + length rest ≡ length stack

more : (n : ℕ) (v : Value) (stack taken : List Value) → Taking n stack (v ∷ taken) → Taking (suc n) (v ∷ stack) taken
more n v stack taken r = record {
  arguments = r.arguments;
  rest = r.rest;
  is = r.is;
  count = let count = r.count in omega (arith, count);
  own = λ i b. by i (last_or_before i n b);
  old = λ i. let same : suc n + i ≡ n + suc i = omega arith in ap (slice_get r.arguments) same ∙ r.old (suc i);
  rest_at = λ i. let same : suc n + i ≡ suc (n + i) = omega arith in r.rest_at i ∙ sym (ap (slice_get (v ∷ stack)) same);
  rest_count = let count = r.rest_count in omega (arith, count);
}
  where
    by : (i : ℕ) → (i < n) ⊎ (i ≡ n) → slice_get r.arguments i ≡ slice_get (v ∷ stack) (suc n - (i + 1))
    by i (inl q) = let at : suc n - (i + 1) ≡ suc (n - (i + 1)) = omega (arith, q) in r.own i q ∙ sym (ap (slice_get (v ∷ stack)) at)
    by i (inr q) =
        let at : suc n - (i + 1) ≡ 0 = omega (arith, q) in
        let last : i ≡ n + 0 = omega (arith, q) in
        ap (slice_get r.arguments) last ∙ r.old 0 ∙ sym (ap (slice_get (v ∷ stack)) at)

pub taking : (n : ℕ) (stack taken : List Value) → n ≤ length stack → Taking n stack taken
taking zero stack taken l = record {
  arguments = taken;
  rest = stack;
  is = refl;
  count = omega arith;
  own = λ i b. absurd (omega (arith, b));
  old = λ i. let same : 0 + i ≡ i = omega arith in ap (slice_get taken) same;
  rest_at = λ i. let same : i ≡ 0 + i = omega arith in ap (slice_get stack) same;
  rest_count = omega arith;
}
taking (suc n) [] taken l = absurd (omega (arith, l))
taking (suc n) (v ∷ stack) taken l = more n v stack taken (taking n stack (v ∷ taken) (omega (arith, l)))

pub too_few : (n : ℕ) (stack taken : List Value) → length stack < n → take_arguments n stack taken ≡ None
too_few zero stack taken l = absurd (omega (arith, l))
too_few (suc n) [] taken l = refl
too_few (suc n) (v ∷ stack) taken l = too_few n stack (v ∷ taken) (omega (arith, l))

-- every place keeps its argument, as something good
pub record KeptAll (good : ℕ → Value → Type 0) (ks : List PlaceType) (vs : List Value) : Type 0 where
  pub values : List Value
  pub is : keep_all ks vs ≡ Some values
  pub count : length values ≡ length ks
  pub each : (i : ℕ) (w : Value) → slice_get values i ≡ Some w → good i w

kept_more : (good : ℕ → Value → Type 0) (k : PlaceType) (ks : List PlaceType) (v : Value) (vs : List Value) → ((w : Value) × (kept k v ≡ Some w) × good 0 w) → KeptAll (λ i. good (suc i)) ks vs → KeptAll good (k ∷ ks) (v ∷ vs)
kept_more good k ks v vs first r = record {
  values = first.0 ∷ r.values;
  is = ap (λ (o : Option Value). on_some o (λ w. option_map (λ ws. w ∷ ws) (keep_all ks vs))) first.1 ∙ ap (λ (o : Option (List Value)). option_map (λ ws. first.0 ∷ ws) o) r.is;
  count = ap suc r.count;
  each = each;
}
  where
    each : (i : ℕ) (w : Value) → slice_get (first.0 ∷ r.values) i ≡ Some w → good i w
    each zero w q = let same : first.0 ≡ w = some_same first.0 w q in subst (good 0) same first.2
    each (suc i) w q = r.each i w q

pub kept_all : (good : ℕ → Value → Type 0) (ks : List PlaceType) (vs : List Value) → length vs ≡ length ks
    → ((i : ℕ) (k : PlaceType) (v : Value) → slice_get ks i ≡ Some k → slice_get vs i ≡ Some v → (w : Value) × (kept k v ≡ Some w) × good i w) → KeptAll good ks vs
kept_all good [] [] e h = record { values = []; is = refl; count = refl; each = λ i w q. absurd (cc q) }
kept_all good [] (v ∷ vs) e h = absurd (omega (arith, e))
kept_all good (k ∷ ks) [] e h = absurd (omega (arith, e))
kept_all good (k ∷ ks) (v ∷ vs) e h = kept_more good k ks v vs (h 0 k v refl refl) (kept_all (λ i. good (suc i)) ks vs (omega (arith, e)) (λ i k v a b. h (suc i) k v a b))

pub not_kept : (ks : List PlaceType) (vs : List Value) (i : ℕ) (k : PlaceType) (v : Value) → slice_get ks i ≡ Some k → slice_get vs i ≡ Some v → kept k v ≡ None → keep_all ks vs ≡ None
not_kept [] vs i k v a b e = absurd (cc a)
not_kept (x ∷ ks) [] i k v a b e = absurd (cc b)
not_kept (x ∷ ks) (y ∷ vs) zero k v a b e =
    let one : x ≡ k = some_same x k a in
    let two : y ≡ v = some_same y v b in
    ap (λ (o : Option Value). on_some o (λ w. option_map (λ ws. w ∷ ws) (keep_all ks vs))) (ap (λ z. kept z y) one ∙ ap (kept k) two ∙ e)
not_kept (x ∷ ks) (y ∷ vs) (suc i) k v a b e =
    ap (λ (o : Option (List Value)). on_some (kept x y) (λ w. option_map (λ ws. w ∷ ws) o)) (not_kept ks vs i k v a b e) ∙ by (kept x y)
  where
    by : (o : Option Value) → on_some o (λ w. option_map (λ ws. w ∷ ws) (let z : Option (List Value) = None in z)) ≡ None
    by None = refl
    by (Some w) = refl
