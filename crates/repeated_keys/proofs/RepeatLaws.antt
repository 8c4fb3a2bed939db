-- One key more, from the last one on.
use Rattle.std.proofs.Common.{◌≡◌, ◌≢◌, ℕ, zero, suc, ◌+◌, ◌<◌, ◌≤◌, ◌⊎◌, inl, inr, Bool, true, false, cond, List, [], ◌∷◌, ◌++◌, length, length-append, take, replicate, get_or, get_or-set_same, get_or-set_other, Option, Some, None, refl, sym, ap, ◌∙◌, arith}
use Rattle.std.specs.Prelude.{◌||◌, slice_get}
use Rattle.std.specs.List.{list_any, position}
use Rattle.std.specs.Option.{option_map}
use Rattle.std.specs.Cmp.{IsEquivalence, IsTotalOrder, eq_by_cmp_equiv}
use Rattle.std.specs.Ordering.{eq_by_cmp}
use Rattle.std.specs.declared.cmp.Ordering.{Ordering}
use Rattle.std.specs.BTreeMap.{BTreeMap, get, is_at, Updates}
use Rattle.std.specs.Map.{lookup}
use Rattle.std.proofs.lemmas.Bool.{cases_lt}
use Rattle.std.proofs.lemmas.List.{append-nil, length-replicate}
use Rattle.std.proofs.lemmas.List.Quantifiers.{position-Some}
use Rattle.std.proofs.lemmas.Option.{slice_get_within, slice_get-get_or}
use Rattle.kept_rows.proofs.SelectLaws.{position_step}
use Rattle.repeated_keys.specs.Repeats.{AreRepeats, marked}

-- The keys behind some first ones are told apart: where each of them stands first is in a map, and whether it stands behind one
-- that is equal to it in bits, which are false for the first ones.
pub record IsTold {K : Type 0} (cmp : K → K → Ordering) (keys before : List K) (nearest : BTreeMap K ℕ) (repeats : List Bool) : Type 0 where
  pub behind : List K
  pub whole : keys ≡ before ++ behind
  pub size : length repeats ≡ length keys
  pub finds : (wanted : K) → get cmp nearest wanted ≡ option_map (λ i. length before + i) (position (eq_by_cmp cmp wanted) behind)
  pub unset : (i : ℕ) → i < length before → get_or repeats i false ≡ false
  pub told : (i : ℕ) (key : K) → slice_get behind i ≡ Some key → get_or repeats (length before + i) false ≡ list_any (eq_by_cmp cmp key) (take i behind)

-- ---- which elements of a list pass

there : {A : Type 0} (xs : List A) (i : ℕ) (x : A) → slice_get xs i ≡ Some x → i < length xs → get_or xs i x ≡ x
there xs i x at low = cc (sym (slice_get-get_or xs i x low) ∙ at)

first_passes : {A : Type 0} (test : A → Bool) (xs : List A) (p : ℕ) (x : A) → position test xs ≡ Some p → slice_get xs p ≡ Some x → test x ≡ true
first_passes test xs p x e at =
    let first = position-Some test xs p x e in
    ap test (sym (there xs p x at first.0)) ∙ first.1

first_is_least : {A : Type 0} (test : A → Bool) (xs : List A) (p i : ℕ) (x : A) → position test xs ≡ Some p → slice_get xs i ≡ Some x → test x ≡ true → p ≤ i
first_is_least test xs p i x e at passes = go (cases_lt i p)
  where
    go : (i < p) ⊎ (p ≤ i) → p ≤ i
    go (inr high) = high
    go (inl low) =
        let fails : test x ≡ false = ap test (sym (there xs i x at (slice_get_within xs i x at))) ∙ (position-Some test xs p x e).2 i low in
        absurd (cc (sym passes ∙ fails))

unmapped : (o : Option ℕ) → option_map suc o ≡ None → o ≡ None
unmapped None e = refl
unmapped (Some n) e = absurd (cc e)

none_passes : {A : Type 0} (test : A → Bool) (xs : List A) (i : ℕ) (x : A) → position test xs ≡ None → slice_get xs i ≡ Some x → test x ≡ false
none_passes test [] i x e at = absurd (cc at)
none_passes test (y ∷ ys) i x e at = go (test y) refl i (λ j. none_passes test ys j x) (sym (position_step test y ys) ∙ e) at
  where
    go : (b : Bool) → test y ≡ b → (j : ℕ) → ((n : ℕ) → position test ys ≡ None → slice_get ys n ≡ Some x → test x ≡ false) → cond b (Some 0) (option_map suc (position test ys)) ≡ None → slice_get (y ∷ ys) j ≡ Some x → test x ≡ false
    go true t j rest f here = absurd (cc f)
    go false t zero rest f here = let same : y ≡ x = cc here in ap test (sym same) ∙ t
    go false t (suc j) rest f here = rest j (unmapped (position test ys) f) here

or_true : (b : Bool) → (b || true) ≡ true
or_true true = refl
or_true false = refl

any_passes : {A : Type 0} (test : A → Bool) (xs : List A) (p i : ℕ) (x : A) → slice_get xs p ≡ Some x → test x ≡ true → p < i → list_any test (take i xs) ≡ true
any_passes test [] p i x at passes low = absurd (cc at)
any_passes test (y ∷ ys) p zero x at passes low = absurd (omega (arith, low))
any_passes test (y ∷ ys) zero (suc i) x at passes low = let same : y ≡ x = cc at in ap (λ b. b || list_any test (take i ys)) (ap test same ∙ passes)
any_passes test (y ∷ ys) (suc p) (suc i) x at passes low = ap (λ b. test y || b) (any_passes test ys p i x at passes (omega (arith, low))) ∙ or_true (test y)

-- ---- places

snoc_front : {A : Type 0} (xs : List A) (x : A) (ys : List A) → (xs ++ x ∷ []) ++ ys ≡ xs ++ x ∷ ys
snoc_front [] x ys = refl
snoc_front (z ∷ xs) x ys = ap (λ zs. z ∷ zs) (snoc_front xs x ys)

all_unset : (n i : ℕ) → get_or (replicate n false) i false ≡ false
all_unset zero i = refl
all_unset (suc n) zero = refl
all_unset (suc n) (suc i) = all_unset n i

shifted : (b : Bool) (o : Option ℕ) (place l l' : ℕ) → place ≡ l → l' ≡ suc l → cond b (Some place) (option_map (λ i. l' + i) o) ≡ option_map (λ i. l + i) (cond b (Some 0) (option_map suc o))
shifted true o place l l' e f = let same : place ≡ l + 0 = omega (arith, e) in ap Some same
shifted false None place l l' e f = refl
shifted false (Some i) place l l' e f = let same : l' + i ≡ l + suc i = omega (arith, f) in ap Some same

behind_place : (o : Option ℕ) (l p : ℕ) → option_map (λ i. l + i) o ≡ Some p → (i : ℕ) × (o ≡ Some i) × (p ≡ l + i)
behind_place None l p e = absurd (cc e)
behind_place (Some i) l p e = let same : l + i ≡ p = cc e in (i, refl, sym same)

unmarked : (later : Option ℕ) (bits : List Bool) (j : ℕ) → ((p : ℕ) → later ≡ Some p → j ≢ p) → get_or (marked later bits) j false ≡ get_or bits j false
unmarked None bits j apart = refl
unmarked (Some p) bits j apart = get_or-set_other bits p j true false (apart p refl)

module _ {K : Type 0} (cmp : K → K → Ordering) where
  pub told_none : (keys : List K) (m : BTreeMap K ℕ) (repeats : List Bool) → m.entries ≡ [] → repeats ≡ replicate (length keys) false → IsTold cmp keys keys m repeats
  told_none keys m repeats empty e =
      record {
        behind = [];
        whole = sym (append-nil keys);
        size = ap length e ∙ length-replicate (length keys) false;
        finds = λ wanted. ap (lookup (is_at (cmp wanted))) empty;
        unset = λ i low. ap (λ bits. get_or bits i false) e ∙ all_unset (length keys) i;
        told = λ i key at. absurd (cc at);
      }

  pub told_all : (keys before : List K) (m : BTreeMap K ℕ) (repeats : List Bool) → before ≡ [] → IsTold cmp keys before m repeats → AreRepeats cmp keys repeats
  told_all keys before m repeats none t n key at =
      let same : keys ≡ t.behind = t.whole ∙ ap (λ xs. xs ++ t.behind) none in
      let place : n ≡ length before + n = omega (arith, ap length none) in
      slice_get-get_or repeats n false (omega (arith, t.size, slice_get_within keys n key at))
      ∙ ap Some
      (ap (λ i. get_or repeats i false) place
      ∙ t.told n key (ap (λ xs. slice_get xs n) (sym same) ∙ at)
      ∙ ap (λ xs. list_any (eq_by_cmp cmp key) (take n xs)) (sym same))

  pub inside : (keys before : List K) (m : BTreeMap K ℕ) (repeats : List Bool) (key : K) (p : ℕ) → get cmp m key ≡ Some p → IsTold cmp keys before m repeats → p < length repeats
  inside keys before m repeats key p found t =
      let place = behind_place (position (eq_by_cmp cmp key) t.behind) (length before) p (sym (t.finds key) ∙ found) in
      let low = (position-Some (eq_by_cmp cmp key) t.behind place.0 key place.1).0 in
      omega (arith, low, place.2, t.size, ap length t.whole, length-append before t.behind)

module _ {K : Type 0} (cmp : K → K → Ordering) (order : IsTotalOrder cmp) where
  abbrev same_key : K → K → Bool
  same_key = eq_by_cmp cmp

  abbrev laws : IsEquivalence same_key
  laws = eq_by_cmp_equiv order

  module _ (keys before front : List K) (key : K) (m : BTreeMap K ℕ) (repeats : List Bool) (is : before ≡ front ++ key ∷ []) (t : IsTold cmp keys before m repeats) where
    one : length before ≡ suc (length front)
    one = omega (arith, ap length is, length-append front (key ∷ []))

    found_at : (p : ℕ) → get cmp m key ≡ Some p → (i : ℕ) × (position (same_key key) t.behind ≡ Some i) × (p ≡ length before + i)
    found_at p found = behind_place (position (same_key key) t.behind) (length before) p (sym (t.finds key) ∙ found)

    -- the bits of those before stay as they are
    stays : (j : ℕ) → j < length before → get_or (marked (get cmp m key) repeats) j false ≡ false
    stays j low = unmarked (get cmp m key) repeats j (λ p found. let far = (found_at p found).2 in omega (arith, far, low)) ∙ t.unset j low

    -- another key behind
    other : (j : ℕ) (k : K) → slice_get t.behind j ≡ Some k → (b : Bool) → same_key k key ≡ b → get_or (marked (get cmp m key) repeats) (length before + j) false ≡ (b || list_any (same_key k) (take j t.behind))
    other j k at false differs =
        unmarked (get cmp m key) repeats (length before + j)
        (λ p found same.
        let place = found_at p found in
        let here : j ≡ place.0 = omega (arith, same, place.2) in
        let passes = first_passes (same_key key) t.behind j k (place.1 ∙ ap Some (sym here)) at in
        absurd (cc (sym passes ∙ laws.symm key k ∙ differs)))
        ∙ t.told j k at
    other j k at true equal = go (position (same_key key) t.behind) refl
      where
        go : (o : Option ℕ) → position (same_key key) t.behind ≡ o → get_or (marked (get cmp m key) repeats) (length before + j) false ≡ true
        go None none = absurd (cc (sym (none_passes (same_key key) t.behind j k none at) ∙ laws.symm key k ∙ equal))
        go (Some i) first = from (cases_lt i j)
          where
            known : get cmp m key ≡ Some (length before + i)
            known = t.finds key ∙ ap (option_map (λ n. length before + n)) first

            low : i < length t.behind
            low = (position-Some (same_key key) t.behind i k first).0

            within : length before + i < length repeats
            within = omega (arith, low, t.size, ap length t.whole, length-append before t.behind)

            from : (i < j) ⊎ (j ≤ i) → get_or (marked (get cmp m key) repeats) (length before + j) false ≡ true
            from (inr high) =
                let least = first_is_least (same_key key) t.behind i j k first at (laws.symm key k ∙ equal) in
                let here : length before + j ≡ length before + i = omega (arith, least, high) in
                ap (λ o. get_or (marked o repeats) (length before + j) false) known
                ∙ ap (λ n. get_or (marked (Some (length before + i)) repeats) n false) here
                ∙ get_or-set_same repeats (length before + i) true false within
            from (inl after) =
                let nearest = slice_get-get_or t.behind i k low in
                let passes = laws.congr k key (get_or t.behind i k) equal ∙ (position-Some (same_key key) t.behind i k first).1 in
                let apart : length before + j ≢ length before + i = omega (arith, after) in
                ap (λ o. get_or (marked o repeats) (length before + j) false) known
                ∙ get_or-set_other repeats (length before + i) (length before + j) true false apart
                ∙ t.told j k at
                ∙ any_passes (same_key k) t.behind i j (get_or t.behind i k) nearest passes after

    each : (i : ℕ) (k : K) → slice_get (key ∷ t.behind) i ≡ Some k → get_or (marked (get cmp m key) repeats) (length front + i) false ≡ list_any (same_key k) (take i (key ∷ t.behind))
    each zero k at = stays (length front + 0) (omega (arith, one))
    each (suc j) k at =
        let place : length front + suc j ≡ length before + j = omega (arith, one) in
        ap (λ n. get_or (marked (get cmp m key) repeats) n false) place ∙ other j k at (same_key k key) refl

  pub told_more : (keys before front : List K) (key : K) (m n : BTreeMap K ℕ) (repeats bits : List Bool) (place : ℕ) (later : Option ℕ) → before ≡ front ++ key ∷ [] → place ≡ length front → later ≡ get cmp m key → Updates cmp m n key (Some place) → bits ≡ marked later repeats → length bits ≡ length repeats → IsTold cmp keys before m repeats → IsTold cmp keys front n bits
  told_more keys before front key m n repeats bits place later is counted found updates made kept t =
      let now : bits ≡ marked (get cmp m key) repeats = made ∙ ap (λ o. marked o repeats) found in
      record {
        behind = key ∷ t.behind;
        whole = t.whole ∙ ap (λ xs. xs ++ t.behind) is ∙ snoc_front front key t.behind;
        size = kept ∙ t.size;
        finds = λ wanted.
            updates.0 wanted
            ∙ ap (λ b. cond b (Some place) (get cmp m wanted)) (laws.symm key wanted)
            ∙ ap (cond (same_key wanted key) (Some place)) (t.finds wanted)
            ∙ shifted (same_key wanted key) (position (same_key wanted) t.behind) place (length front) (length before) counted (one keys before front key m repeats is t)
            ∙ ap (option_map (λ i. length front + i)) (sym (position_step (same_key wanted) key t.behind));
        unset = λ i low. ap (λ xs. get_or xs i false) now ∙ stays keys before front key m repeats is t i (omega (arith, low, one keys before front key m repeats is t));
        told = λ i k at. ap (λ xs. get_or xs (length front + i) false) now ∙ each keys before front key m repeats is t i k at;
      }
