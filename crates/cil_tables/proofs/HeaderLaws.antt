-- Stream headers in the order of their names: where one has an earlier one's name.
use Rattle.std.proofs.Common.{◌≡◌, ℕ, ◌+◌, ◌-◌, ◌<◌, ◌≤◌, ◌≢◌, ⊎_elim, Bool, true, false, List, length, get_or, eqb, eq-eqb, Option, Some, None, refl, ap, sym, ◌∙◌, subst, arith, min, max, Decides, below_more, ◌⊎◌, inl, inr}
use Rattle.std.specs.Prelude.{MatchOption}
use Rattle.std.specs.Cmp.{IsTotalOrder}
use Rattle.std.specs.Cmp.Lexicographic.{slice_cmp, texts_ties, bytes_decides}
use Rattle.std.specs.Str.{bytes_eq}
use Rattle.std.proofs.lemmas.Slice.Eq.{bytes_eq-Decides}
use Rattle.file_tables.specs.Streams as streams
use Rattle.std.specs.List.{IsDistinct}
use Rattle.std.specs.List.Sorted.{IsPermutation, IsSortedBy, IsStrictlyIncreasing}
use Rattle.std.specs.Ordering.{is_lt, is_eq, nat_cmp, ordering_then, ordering_reverse}
use Rattle.std.specs.declared.cmp.Ordering.{Ordering}
use Rattle.std.specs.declared.cmp.Ordering.TheVariants.{Less, Equal, Greater}
use Rattle.std.proofs.lemmas.Bool.{cases_lt, false≢true, ne_eqb}
use Rattle.std.proofs.lemmas.Cmp.{nat_eq_equiv, nat_cmp_total, nat_list_cmp_total, on_total, then_total, tied_itself}
use Rattle.std.proofs.lemmas.List.{get_or_default}
use Rattle.std.proofs.lemmas.List.Elements.{Contains-get_or}
use Rattle.std.proofs.lemmas.List.Kept.{AllPairs-from_increasing}
use Rattle.std.proofs.lemmas.List.Sorted.{ranks_by, sorted_far, IsPermutation-sym, Contains-permutation}
use Rattle.std.proofs.lemmas.Map.Keys.{IsDistinct-from_apart, IsDistinct-IsPermutation, apart_from_distinct, ge_from_not_lt, non_decreasing_from_sorted, sorted_from_strictly_increasing}
use Rattle.cil_tables.specs.Headers.{name_of, header_order, Repeats, IsFirstRepeat, Follows, IsLeast, LeastBelow}

abbrev IsSortedByName : List ℕ → List ℕ → Type 0
IsSortedByName region xs = IsSortedBy (λ a b. is_lt (header_order region a b)) xs

-- headers have an order
pub order_total : (region : List ℕ) → IsTotalOrder (header_order region)
order_total region = then_total (on_total (name_of region) nat_list_cmp_total) nat_cmp_total

-- what the first part of an order says
not_before : (r s : Ordering) → is_lt (ordering_then r s) ≡ false → is_lt r ≡ false
not_before Less s h = h
not_before Equal s h = refl
not_before Greater s h = refl

level : (r : Ordering) → is_lt (ordering_reverse r) ≡ false → is_lt r ≡ false → is_eq (ordering_reverse r) ≡ true
level Less h k = cc
level Equal h k = refl
level Greater h k = cc

-- two texts of which neither is before the other are one text
same_text : (a b : List ℕ) → is_lt (slice_cmp nat_cmp a b) ≡ false → is_lt (slice_cmp nat_cmp b a) ≡ false → a ≡ b
same_text a b h k =
    let back : slice_cmp nat_cmp a b ≡ ordering_reverse (slice_cmp nat_cmp b a) = nat_list_cmp_total.antisymm a b in
    let tied : is_eq (ordering_reverse (slice_cmp nat_cmp b a)) ≡ true = level (slice_cmp nat_cmp b a) (ap is_lt (sym back) ∙ h) k in
    (bytes_decides a b).0 (texts_ties a b ∙ ap is_eq back ∙ tied)

module _ (region xs : List ℕ) (up : IsSortedByName region xs) where
  -- a later header is not before an earlier one
  not_later : (i j : ℕ) → i ≤ j → j < length xs → is_lt (header_order region (get_or xs j 0) (get_or xs i 0)) ≡ false
  not_later i j order below = sorted_far (λ a b. is_lt (header_order region a b)) (ranks_by (order_total region) (λ x. x)) xs up i j 0 order below

  -- headers of one name stand one behind the other
  neighbours : (i j : ℕ) → i < j → j < length xs → name_of region (get_or xs i 0) ≡ name_of region (get_or xs j 0) → Follows region xs j
  neighbours i j order below same =
      let near : is_lt (slice_cmp nat_cmp (name_of region (get_or xs j 0)) (name_of region (get_or xs (j - 1) 0))) ≡ false =
      not_before _ (nat_cmp (get_or xs j 0) (get_or xs (j - 1) 0)) (not_later (j - 1) j (omega arith) below) in
      let far : is_lt (slice_cmp nat_cmp (name_of region (get_or xs (j - 1) 0)) (name_of region (get_or xs i 0))) ≡ false =
      not_before _ (nat_cmp (get_or xs (j - 1) 0) (get_or xs i 0)) (not_later i (j - 1) (omega arith) (omega arith)) in
      (omega arith, same_text (name_of region (get_or xs (j - 1) 0)) (name_of region (get_or xs j 0)) (subst (λ n. is_lt (slice_cmp nat_cmp (name_of region (get_or xs (j - 1) 0)) n) ≡ false) same far) near)

  -- and in the order of their offsets
  in_order : (i j : ℕ) → i ≤ j → j < length xs → name_of region (get_or xs i 0) ≡ name_of region (get_or xs j 0) → get_or xs i 0 ≤ get_or xs j 0
  in_order i j order below same =
      let tied : slice_cmp nat_cmp (name_of region (get_or xs j 0)) (name_of region (get_or xs i 0)) ≡ Equal =
      subst (λ n. slice_cmp nat_cmp (name_of region (get_or xs j 0)) n ≡ Equal) (sym same) (tied_itself nat_list_cmp_total (name_of region (get_or xs j 0))) in
      ge_from_not_lt (get_or xs j 0) (get_or xs i 0) (subst (λ r. is_lt (ordering_then r (nat_cmp (get_or xs j 0) (get_or xs i 0))) ≡ false) tied (not_later i j order below))

-- where an element of a list stands in another order
place_in : (xs ys : List ℕ) (i : ℕ) → IsPermutation xs ys → i < length xs → (p : ℕ) × (p < length ys) × (get_or ys p 0 ≡ get_or xs i 0)
place_in xs ys i moved below =
    let there = Contains-permutation xs ys (get_or xs i 0) moved (Contains-get_or xs i 0 below) in
    (there.0, there.1, get_or_default ys there.0 0 (get_or xs i 0) there.1 ∙ there.2)

-- the lesser of two numbers is one of them
one_of : (r m n : ℕ) → r ≡ min m n → (r ≡ m) ⊎ (r ≡ n)
one_of r m n e = ⊎_elim (λ (h : m < n). inl (omega (arith, e))) (λ (h : n ≤ m). inr (omega (arith, e))) (cases_lt m n)

-- the least offset of a header behind one of its name, one header on
module _ (region xs : List ℕ) (k : ℕ) where
  pub least_none : k ≤ 1 → LeastBelow region xs k None
  least_none early j below (least, same) = omega arith

  -- whether two texts are equal tells it
  pub follows_is : (a b : List ℕ) (r : Bool) → 1 ≤ k → a ≡ (streams.stream_at region (get_or xs (k - 1) 0)).name → b ≡ (streams.stream_at region (get_or xs k 0)).name → r ≡ bytes_eq a b → Decides r (Follows region xs k)
  unfolding name_of
  follows_is a b r least first second e =
      let told = bytes_eq-Decides a b in
      (λ h. (least, sym first ∙ told.0 (sym e ∙ h) ∙ second), λ (follows : Follows region xs k). e ∙ told.1 (first ∙ follows.1 ∙ sym second))

  pub least_kept : (found : Option ℕ) → LeastBelow region xs k found → ¬ (Follows region xs k) → LeastBelow region xs (k + 1) found
  least_kept None none other = below_more (λ j. ¬ (Follows region xs j)) k none other
  least_kept (Some at) least other =
      record {
        place = least.place;
        inside = omega (arith, least.inside);
        begins = least.begins;
        follows = least.follows;
        least = below_more (λ j. Follows region xs j → at ≤ get_or xs j 0) k least.least (λ follows. absurd (other follows));
      }

  pub least_more : (found : Option ℕ) (r : ℕ) → LeastBelow region xs k found → Follows region xs k → MatchOption found (r ≡ get_or xs k 0) (λ other. r ≡ min other (get_or xs k 0)) → LeastBelow region xs (k + 1) (Some r)
  least_more None r none follows e =
      record {
        place = k;
        inside = omega arith;
        begins = sym e;
        follows = follows;
        least = below_more (λ j. Follows region xs j → r ≤ get_or xs j 0) k (λ j below again. absurd (none j below again)) (λ again. omega (arith, e));
      }
  least_more (Some at) r least follows e =
      let lower = below_more (λ j. Follows region xs j → r ≤ get_or xs j 0) k (λ j below again. omega (arith, e, least.least j below again)) (λ again. omega (arith, e)) in
      ⊎_elim
      (λ (same : r ≡ at). record { place = least.place; inside = omega (arith, least.inside); begins = least.begins ∙ sym same; follows = least.follows; least = lower })
      (λ (same : r ≡ get_or xs k 0). record { place = k; inside = omega arith; begins = sym same; follows = follows; least = lower })
      (one_of r at (get_or xs k 0) e)

-- the whole list is looked at
pub least_all : (region xs : List ℕ) (k n : ℕ) (found : Option ℕ) → LeastBelow region xs k found → n ≤ k → k ≤ max 1 n → LeastBelow region xs n found
least_all region xs k n None none past most = λ j below follows. none j (omega arith) follows
least_all region xs k n (Some at) least past most =
    let inner : 1 ≤ least.place = least.follows.0 in
    let same : k ≡ n = omega (arith, least.inside) in
    subst (λ m. IsLeast region xs m at) same least

module _ (region starts xs : List ℕ) (rising : IsStrictlyIncreasing starts) (moved : IsPermutation starts xs) (up : IsSortedByName region xs) where
  -- a header that has an earlier one's name stands behind one of that name
  found : (j : ℕ) → j < length starts → Repeats region starts j → (q : ℕ) × (q < length xs) × Follows region xs q × (get_or xs q 0 ≡ get_or starts j 0)
  found j below (i, order, same) =
      let p = place_in starts xs i moved (omega arith) in
      let q = place_in starts xs j moved below in
      let less : get_or starts i 0 < get_or starts j 0 = AllPairs-from_increasing starts rising i j 0 order below in
      let alike : name_of region (get_or xs p.0 0) ≡ name_of region (get_or xs q.0 0) = ap (name_of region) p.2 ∙ same ∙ ap (name_of region) (sym q.2) in
      let before : p.0 < q.0 =
      ⊎_elim (λ (h : p.0 < q.0). h) (λ (h : q.0 ≤ p.0). absurd (omega (arith, in_order region xs up q.0 p.0 h p.1 (sym alike), p.2, q.2))) (cases_lt p.0 q.0) in
      (q.0, q.1, neighbours region xs up p.0 q.0 before q.1 alike, q.2)

  -- no offset stands there twice
  apart : (q : ℕ) → 1 ≤ q → q < length xs → get_or xs (q - 1) 0 ≢ get_or xs q 0
  apart q least below e =
      let differ : IsDistinct eqb starts =
      IsDistinct-from_apart eqb starts (λ i j d order under. let less : get_or starts i d < get_or starts j d = AllPairs-from_increasing starts rising i j d order under in ne_eqb (get_or starts i d) (get_or starts j d) (omega arith)) in
      let other : eqb (get_or xs (q - 1) 0) (get_or xs q 0) ≡ false =
      apart_from_distinct eqb xs (q - 1) q 0 (IsDistinct-IsPermutation eqb nat_eq_equiv.symm starts xs moved differ) (omega arith) below in
      false≢true (sym other ∙ eq-eqb (get_or xs (q - 1) 0) (get_or xs q 0) e)

  -- a header behind one of its name has an earlier one's name
  told : (q : ℕ) → q < length xs → Follows region xs q → (j : ℕ) × (j < length starts) × Repeats region starts j × (get_or starts j 0 ≡ get_or xs q 0)
  told q below (least, same) =
      let back = IsPermutation-sym starts xs moved in
      let i = place_in xs starts (q - 1) back (omega arith) in
      let j = place_in xs starts q back below in
      let no_more : get_or xs (q - 1) 0 ≤ get_or xs q 0 = in_order region xs up (q - 1) q (omega arith) below same in
      let other = apart q least below in
      let order : i.0 < j.0 =
      ⊎_elim (λ (h : i.0 < j.0). h) (λ (h : j.0 ≤ i.0). absurd (other (omega (arith, non_decreasing_from_sorted starts (sorted_from_strictly_increasing starts rising) j.0 i.0 0 h i.1, i.2, j.2)))) (cases_lt i.0 j.0) in
      (j.0, j.1, (i.0, order, ap (name_of region) i.2 ∙ same ∙ ap (name_of region) (sym j.2)), j.2)

  first_is : (at : ℕ) → IsLeast region xs (length xs) at → IsFirstRepeat region starts at
  first_is at least =
      let t = told least.place least.inside least.follows in
      record {
        place = t.0;
        inside = t.1;
        begins = t.3 ∙ least.begins;
        repeats = t.2;
        first = λ j order again.
            let f = found j (omega arith) again in
            let less : get_or starts j 0 < get_or starts t.0 0 = AllPairs-from_increasing starts rising j t.0 0 order t.1 in
            omega (arith, least.least f.0 f.1 f.2, f.3, t.3, least.begins);
      }

  none_is : ((j : ℕ) → j < length xs → Follows region xs j → ⊥) → (j : ℕ) → j < length starts → Repeats region starts j → ⊥
  none_is none j below again = let f = found j below again in none f.0 f.1 f.2

  -- the least of the headers behind one of their name is the first that has an earlier one's name
  pub first_repeat_is : (found : Option ℕ) → LeastBelow region xs (length xs) found → MatchOption found ((j : ℕ) → j < length starts → Repeats region starts j → ⊥) (IsFirstRepeat region starts)
  first_repeat_is None none = none_is none
  first_repeat_is (Some at) least = first_is at least
