-- Starts that rise, and what is found among them.
use Rattle.std.proofs.Common.{◌≡◌, ⊎_elim, inl, inr, ℕ, zero, suc, ◌+◌, ◌-◌, ◌<◌, ◌≤◌, List, [], ◌∷◌, length, Option, Some, None, refl, sym, ap, ◌∙◌, arith}
use Rattle.std.specs.Prelude.{nat_eq, nat_lt, get_or, slice_get}
use Rattle.std.proofs.lemmas.Option.{slice_get-get_or}
use Rattle.std.proofs.lemmas.Bool.{lt-ltb, le-ltb, eq-eqb, ne_eqb, cases_lt}
use Rattle.machine_rename.specs.Places.{Piece, AreShorter}
use Rattle.machine_rename.proofs.PlaceLaws.{if_true, if_false}
use Rattle.short_code.specs.Short.{to_short, IsBound}
use Rattle.code_shrink.specs.declared.starts.Start.{Start}
use Rattle.code_shrink.specs.Starts.{short_in, starts_from, Rise, Pairs}

pub none_found : (starts : List Start) (at : ℕ) → ((k : ℕ) (s : Start) → slice_get starts k ≡ Some s → s.long ≡ at → ⊥) → short_in starts at ≡ None
none_found [] at h = refl
none_found (s ∷ ss) at h =
    if_false (nat_eq s.long at) (Some s.short) (short_in ss at) (ne_eqb s.long at (λ e. h 0 s refl e))
    ∙ none_found ss at (λ k t e. h (suc k) t e)

tail_rises : (s : Start) (ss : List Start) → Rise (s ∷ ss) → Rise ss
tail_rises s ss h = λ i j a b lt p q. h (suc i) (suc j) a b (omega arith) p q

pub some_found : (starts : List Start) (at k : ℕ) (s : Start) → Rise starts → slice_get starts k ≡ Some s → s.long ≡ at → short_in starts at ≡ Some s.short
some_found [] at k s h e q = absurd (let none : Path (Option Start) None (Some s) = e in cc)
some_found (t ∷ ss) at zero s h e q =
    let here : Path (Option Start) (Some t) (Some s) = e in
    let same : t ≡ s = cc in
    if_true (nat_eq t.long at) (Some t.short) (short_in ss at) (eq-eqb t.long at (ap (λ (x : Start). x.long) same ∙ q))
    ∙ ap (λ (x : Start). Some x.short) same
some_found (t ∷ ss) at (suc k) s h e q =
    let lt = h 0 (suc k) t s (omega arith) refl e in
    if_false (nat_eq t.long at) (Some t.short) (short_in ss at) (ne_eqb t.long at (λ r. omega (arith, lt, r, q)))
    ∙ some_found ss at k s (tail_rises t ss h) e q

-- ---- the starts of pieces

module _ {A : Type 0} where
  at_least : (xs : List (Piece A)) (l s k : ℕ) (t : Start) → slice_get (starts_from l s xs) k ≡ Some t → l ≤ t.long
  at_least [] l s zero t e = let here : Path (Option Start) (Some (record { long = l; short = s })) (Some t) = e in let same : record { long = l; short = s } ≡ t = cc in omega (arith, ap (λ (x : Start). x.long) same)
  at_least [] l s (suc k) t e = absurd (let none : Path (Option Start) None (Some t) = e in cc)
  at_least (x ∷ xs) l s zero t e = let here : Path (Option Start) (Some (record { long = l; short = s })) (Some t) = e in let same : record { long = l; short = s } ≡ t = cc in omega (arith, ap (λ (x : Start). x.long) same)
  at_least (x ∷ xs) l s (suc k) t e = omega (arith, at_least xs (l + x.long) (s + x.short) k t e)

  rises : (xs : List (Piece A)) (l s : ℕ) → AreShorter xs → (i j : ℕ) (a b : Start) → i < j → slice_get (starts_from l s xs) i ≡ Some a → slice_get (starts_from l s xs) j ≡ Some b → a.long < b.long
  rises [] l s h i zero a b lt p q = absurd (omega (arith, lt))
  rises [] l s h i (suc j) a b lt p q = absurd (let none : Path (Option Start) None (Some b) = q in cc)
  rises (x ∷ xs) l s h i zero a b lt p q = absurd (omega (arith, lt))
  rises (x ∷ xs) l s h zero (suc j) a b lt p q =
      let here : Path (Option Start) (Some (record { long = l; short = s })) (Some a) = p in
      let same : record { long = l; short = s } ≡ a = cc in
      omega (arith, ap (λ (y : Start). y.long) same, at_least xs (l + x.long) (s + x.short) j b q, h.0, h.1)
  rises (x ∷ xs) l s h (suc i) (suc j) a b lt p q = rises xs (l + x.long) (s + x.short) h.2 i j a b (omega (arith, lt)) p q

  pub starts_rise : (xs : List (Piece A)) (l s : ℕ) → AreShorter xs → Rise (starts_from l s xs)
  starts_rise xs l s h = λ i j a b lt p q. rises xs l s h i j a b lt p q

  none_before : (xs : List (Piece A)) (l s y : ℕ) → y < l → short_in (starts_from l s xs) y ≡ None
  none_before xs l s y lt = none_found (starts_from l s xs) y (λ k t e q. omega (arith, at_least xs l s k t e, q, lt))

  -- an instruction's start or the end, or neither
  pub record Paired (xs : List (Piece A)) (l s at : ℕ) : Type 0 where
    pub there : IsBound xs at → short_in (starts_from l s xs) (l + at) ≡ Some (s + to_short xs at)
    pub elsewhere : (IsBound xs at → ⊥) → short_in (starts_from l s xs) (l + at) ≡ None

  pub paired : (xs : List (Piece A)) (l s at : ℕ) → AreShorter xs → Paired xs l s at
  paired [] l s at h =
      record {
        there = λ b. if_true (nat_eq l (l + at)) (Some s) None (eq-eqb l (l + at) (omega (arith, b))) ∙ ap (λ (n : ℕ). Some n) (omega (arith, b));
        elsewhere = λ no. if_false (nat_eq l (l + at)) (Some s) None (ne_eqb l (l + at) (λ e. no (omega (arith, e))));
      }
  paired (x ∷ xs) l s zero h =
      record {
        there = λ b. if_true (nat_eq l (l + 0)) (Some s) (short_in (starts_from (l + x.long) (s + x.short) xs) (l + 0)) (eq-eqb l (l + 0) (omega arith)) ∙ ap (λ (n : ℕ). Some n) (omega (arith, if_true (nat_lt 0 x.long) 0 (x.short + to_short xs (0 - x.long)) (lt-ltb 0 x.long (omega (arith, h.0, h.1)))));
        elsewhere = λ no. absurd (no (inl refl));
      }
  paired (x ∷ xs) l s (suc n) h =
      let at = suc n in
      let past = if_false (nat_eq l (l + at)) (Some s) (short_in (starts_from (l + x.long) (s + x.short) xs) (l + at)) (ne_eqb l (l + at) (λ e. omega (arith, e))) in
      ⊎_elim
      (λ lt. record {
        there = λ b. absurd (⊎_elim (λ (z : at ≡ 0). let q : ⊥ = omega (arith, z) in q) (λ (p : (x.long ≤ at) × IsBound xs (at - x.long)). let q : ⊥ = omega (arith, p.0, lt) in q) b);
        elsewhere = λ no. past ∙ none_before xs (l + x.long) (s + x.short) (l + at) (omega (arith, lt));
      })
      (λ le.
      let ih = paired xs (l + x.long) (s + x.short) (at - x.long) h.2 in
      let place : l + x.long + (at - x.long) ≡ l + at = omega (arith, le) in
      let moved = ap (short_in (starts_from (l + x.long) (s + x.short) xs)) place in
      let short = if_false (nat_lt at x.long) 0 (x.short + to_short xs (at - x.long)) (le-ltb at x.long le) in
      record {
        there = λ b. past ∙ sym moved ∙ ih.there (⊎_elim (λ (z : at ≡ 0). absurd (omega (arith, z))) (λ (p : (x.long ≤ at) × IsBound xs (at - x.long)). p.1) b) ∙ ap (λ (n : ℕ). Some n) (omega (arith, short));
        elsewhere = λ no. past ∙ sym moved ∙ ih.elsewhere (λ b. no (inr (le, b)));
      })
      (cases_lt at x.long)

  pub pairs : (xs : List (Piece A)) → AreShorter xs → Pairs xs (starts_from 0 0 xs)
  pairs xs h =
      record {
        starts_there = λ at b. ap (short_in (starts_from 0 0 xs)) (omega arith) ∙ (paired xs 0 0 at h).there b ∙ ap (λ (n : ℕ). Some n) (omega arith);
        nowhere_else = λ at no. ap (short_in (starts_from 0 0 xs)) (omega arith) ∙ (paired xs 0 0 at h).elsewhere no;
      }

-- ---- by the last start up to a place

abbrev pub Before : List Start → ℕ → ℕ → Type 0
Before starts at k = (j : ℕ) (t : Start) → 0 < j → j ≤ k → slice_get starts j ≡ Some t → t.long ≤ at

abbrev pub Behind : List Start → ℕ → ℕ → Type 0
Behind starts at k = (j : ℕ) (t : Start) → k < j → slice_get starts j ≡ Some t → at < t.long

one_there : (starts : List Start) (m : ℕ) (d s : Start) → m < length starts → slice_get starts m ≡ Some s → get_or starts m d ≡ s
one_there starts m d s lt e =
    let both : Path (Option Start) (Some (get_or starts m d)) (Some s) = sym (slice_get-get_or starts m d lt) ∙ e in
    cc

pub nowhere : (starts : List Start) (at k : ℕ) (d : Start) → Rise starts → k < length starts → Before starts at k → Behind starts at k → ((get_or starts k d).long ≡ at → ⊥) → short_in starts at ≡ None
nowhere starts at k d rise inside before behind other =
    none_found starts at (λ j s e q.
    ⊎_elim
    (λ lt.
    let low = before k (get_or starts k d) (omega (arith, lt)) (omega arith) (slice_get-get_or starts k d inside) in
    let less = rise j k s (get_or starts k d) lt e (slice_get-get_or starts k d inside) in
    let b : ⊥ = omega (arith, low, less, q) in
    b)
    (λ ge.
    ⊎_elim
    (λ lt. let high = behind j s lt e in let b : ⊥ = omega (arith, high, q) in b)
    (λ le.
    let same : j ≡ k = omega (arith, ge, le) in
    let is = one_there starts k d s inside (ap (slice_get starts) (sym same) ∙ e) in
    other (ap (λ (x : Start). x.long) is ∙ q))
    (cases_lt k j))
    (cases_lt j k))
