-- Marks of rows.
use Rattle.std.proofs.Common.{◌≡◌, ◌≢◌, ◌⊎◌, inl, inr, ℕ, zero, suc, ◌+◌, ◌<◌, ◌≤◌, Bool, true, false, List, [], ◌∷◌, ◌++◌, length, map, drop, get_or, set, Option, Some, None, refl, sym, ap, subst, ◌∙◌, arith}
use Rattle.std.specs.Prelude.{slice_get, nat_lt, if◌then◌else◌}
use Rattle.std.proofs.lemmas.Bool.{cases_eq, lt-ltb}
use Rattle.std.specs.List.{flat_map}
use Rattle.std.proofs.lemmas.List.{length-set, get_or-set_same, get_or-set_other, set_past, drop_more, drop_all}
use Rattle.machine.specs.Throw.{on_some}
use Rattle.assemblies.specs.Rows.{Assembly}
use Rattle.row_closure.specs.Closure.{holds}
use Rattle.row_numbers.specs.declared.table.Table.{Table}
use Rattle.row_numbers.specs.Tables.{row_in, table_length, found_number}
use Rattle.kept_rules.specs.Row.{Row}
use Rattle.kept_numbers.specs.Numbers.{number_of}
use Rattle.row_rules.specs.Links.{number_there}
use Rattle.member_rules.proofs.Among.{Among, later}
use Rattle.root_marks.specs.Roots.{marked_at, marked}

module _ (ps : List Assembly) where
  pub marked_more : (xs ys : List Row) (bits : List Bool) → marked ps (xs ++ ys) bits ≡ marked ps ys (marked ps xs bits)
  marked_more [] ys bits = refl
  marked_more (x ∷ xs) ys bits = marked_more xs ys (marked_at (number_there ps x) bits)

  -- ---- one more mark

  at_length : (o : Option ℕ) (bits : List Bool) → length (marked_at o bits) ≡ length bits
  at_length None bits = refl
  at_length (Some n) bits = length-set bits n true

  inside : (bits : List Bool) (n : ℕ) → holds bits n ≡ true → n < length bits
  inside [] n e = absurd (cc e)
  inside (b ∷ bits) zero e = omega arith
  inside (b ∷ bits) (suc n) e = let low = inside bits n e in omega (arith, low)

  at_here : (bits : List Bool) (n : ℕ) → n < length bits → holds (marked_at (Some n) bits) n ≡ true
  at_here bits n low = get_or-set_same bits n true false low

  at_stays : (o : Option ℕ) (bits : List Bool) (k : ℕ) → holds bits k ≡ true → holds (marked_at o bits) k ≡ true
  at_stays None bits k e = e
  at_stays (Some n) bits k e = go (cases_eq k n)
    where
      go : (k ≡ n) ⊎ (k ≢ n) → holds (marked_at (Some n) bits) k ≡ true
      go (inl same) = subst (λ j. holds (marked_at (Some n) bits) j ≡ true) (sym same) (at_here bits n (subst (λ j. j < length bits) same (inside bits k e)))
      go (inr apart) = get_or-set_other bits n k true false apart ∙ e

  at_is : (o : Option ℕ) (bits : List Bool) (k : ℕ) → holds (marked_at o bits) k ≡ true → (holds bits k ≡ true) ⊎ (o ≡ Some k)
  at_is None bits k e = inl e
  at_is (Some n) bits k e = go (cases_eq k n)
    where
      go : (k ≡ n) ⊎ (k ≢ n) → (holds bits k ≡ true) ⊎ (Some n ≡ Some k)
      go (inl same) = inr (ap Some (sym same))
      go (inr apart) = inl (sym (get_or-set_other bits n k true false apart) ∙ e)

  -- ---- many

  stays : (rows : List Row) (bits : List Bool) (k : ℕ) → holds bits k ≡ true → holds (marked ps rows bits) k ≡ true
  stays [] bits k e = e
  stays (r ∷ rs) bits k e = stays rs (marked_at (number_there ps r) bits) k (at_stays (number_there ps r) bits k e)

  pub has_mark : (rows : List Row) (bits : List Bool) (r : Row) (k : ℕ) → Among rows r → number_there ps r ≡ Some k → k < length bits → holds (marked ps rows bits) k ≡ true
  has_mark [] bits r k (i, e) is low = absurd (cc e)
  has_mark (x ∷ xs) bits r k (zero, e) is low =
      let same : x ≡ r = cc e in
      stays xs (marked_at (number_there ps x) bits) k (ap (λ o. holds (marked_at o bits) k) (ap (number_there ps) same ∙ is) ∙ at_here bits k low)
  has_mark (x ∷ xs) bits r k (suc i, e) is low =
      let same = at_length (number_there ps x) bits in
      has_mark xs (marked_at (number_there ps x) bits) r k (i, e) is (omega (arith, low, same))

  pub is_mark : (rows : List Row) (bits : List Bool) (k : ℕ) → holds (marked ps rows bits) k ≡ true → (holds bits k ≡ true) ⊎ ((r : Row) × (Among rows r × (number_there ps r ≡ Some k)))
  is_mark [] bits k e = inl e
  is_mark (x ∷ xs) bits k e = go (is_mark xs (marked_at (number_there ps x) bits) k e)
    where
      here : (holds bits k ≡ true) ⊎ (number_there ps x ≡ Some k) → (holds bits k ≡ true) ⊎ ((r : Row) × (Among (x ∷ xs) r × (number_there ps r ≡ Some k)))
      here (inl old) = inl old
      here (inr is) = inr (x, ((zero, refl), is))

      go : (holds (marked_at (number_there ps x) bits) k ≡ true) ⊎ ((r : Row) × (Among xs r × (number_there ps r ≡ Some k))) → (holds bits k ≡ true) ⊎ ((r : Row) × (Among (x ∷ xs) r × (number_there ps r ≡ Some k)))
      go (inl old) = here (at_is (number_there ps x) bits k old)
      go (inr (r, (among, is))) = inr (r, (later x xs r among, is))

  -- ---- the number of a row that is there

  pub found_is : (t : Table) (f n k : ℕ) → found_number ps t f n ≡ Some k → k ≡ number_of ps (row_in t f n)
  found_is t f n k e = go (slice_get ps f) e
    where
      by : (b : Bool) → (if b then Some (number_of ps (row_in t f n)) else None) ≡ Some k → k ≡ number_of ps (row_in t f n)
      by true h = let same : number_of ps (row_in t f n) ≡ k = cc h in sym same
      by false h = absurd (cc h)

      go : (o : Option Assembly) → on_some o (λ p. if nat_lt n (table_length p t) then Some (number_of ps (row_in t f n)) else None) ≡ Some k → k ≡ number_of ps (row_in t f n)
      go None h = absurd (cc h)
      go (Some p) h = by (nat_lt n (table_length p t)) h

  pub is_found : (t : Table) (f n : ℕ) (p : Assembly) → slice_get ps f ≡ Some p → n < table_length p t → found_number ps t f n ≡ Some (number_of ps (row_in t f n))
  is_found t f n p at low =
      ap (λ o. on_some o (λ q. if nat_lt n (table_length q t) then Some (number_of ps (row_in t f n)) else None)) at
      ∙ ap (λ b. if b then Some (number_of ps (row_in t f n)) else None) (lt-ltb n (table_length p t) low)

  -- ---- row by row

  pub mark_none : (r : Row) (bits : List Bool) → number_there ps r ≡ None → bits ≡ marked ps (r ∷ []) bits
  mark_none r bits e = ap (λ o. marked_at o bits) (sym e)

  pub mark_some : (r : Row) (bits : List Bool) (n : ℕ) → number_there ps r ≡ Some n → set bits n true ≡ marked ps (r ∷ []) bits
  mark_some r bits n e = ap (λ o. marked_at o bits) (sym e)

  pub mark_past : (r : Row) (bits : List Bool) (n : ℕ) → number_there ps r ≡ Some n → length bits ≤ n → bits ≡ marked ps (r ∷ []) bits
  mark_past r bits n e past = sym (set_past bits n true past) ∙ mark_some r bits n e

-- the rows that the texts of a list tell, from one place on and from the next one
pub texts_on : {A : Type 0} (ps : List Assembly) (rows : List ℕ → List Row) (xs : List A) (text : A → List ℕ) (i : ℕ) (d : A) (bits more : List Bool) → i < length xs → more ≡ marked ps (rows (text (get_or xs i d))) bits → marked ps (flat_map rows (map text (drop (i + 1) xs))) more ≡ marked ps (flat_map rows (map text (drop i xs))) bits
texts_on ps rows xs text i d bits more low is =
    ap (marked ps (flat_map rows (map text (drop (i + 1) xs)))) is
    ∙ sym (marked_more ps (rows (text (get_or xs i d))) (flat_map rows (map text (drop (i + 1) xs))) bits)
    ∙ ap (λ ys. marked ps (flat_map rows (map text ys)) bits) (sym (drop_more xs i d low))

pub texts_end : {A : Type 0} (ps : List Assembly) (rows : List ℕ → List Row) (xs : List A) (text : A → List ℕ) (i : ℕ) (bits : List Bool) → length xs ≤ i → bits ≡ marked ps (flat_map rows (map text (drop i xs))) bits
texts_end ps rows xs text i bits past = ap (λ ys. marked ps (flat_map rows (map text ys)) bits) (sym (drop_all i xs past))

pub set_behind : (bits : List Bool) (n : ℕ) → length bits ≤ n → bits ≡ set bits n true
set_behind bits n past = sym (set_past bits n true past)
