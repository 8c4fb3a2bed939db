-- What work on rules does.
use Rattle.std.proofs.Common.{◌≡◌, ◌⊎◌, inl, inr, ⊎_elim, ℕ, suc, ◌+◌, ◌<◌, ◌≤◌, Bool, true, false, not, cond, List, [], ◌∷◌, ◌++◌, length, length-append, Some, refl, sym, ap, ◌∙◌, subst, arith}
use Rattle.std.specs.Prelude.{count_by, slice_get, slice_set, slice_index_or}
use Rattle.std.proofs.lemmas.Bool.{cases_lt}
use Rattle.std.proofs.lemmas.List.{length-set}
use Rattle.std.proofs.lemmas.List.Sums.{sum_by-set}
use Rattle.std.proofs.lemmas.Option.{slice_get-get_or, slice_get_within}
use Rattle.row_closure.specs.declared.rule.Rule.{Rule}
use Rattle.row_closure.specs.declared.rule.Premise.{Premise}
use Rattle.row_closure.specs.declared.chains.Chains.{Chains}
use Rattle.row_closure.specs.Closure.{holds, AreWithin, IsClosed, IsWithin}
use Rattle.row_closure.specs.Chains.{row_of, IsLast, AreChains}
use Rattle.row_closure.specs.Work.{Lists, Grows, IsDone, IsSettled}
use Rattle.row_closure.proofs.Places.{get_push, get_front, get_end, set_holds, set_held, set_back, held_within}

module _ (rules : List Rule) where
  pub unchanged : (kept : List Bool) (met : List ℕ) → Grows rules kept met kept met
  unchanged kept met = record { size = refl; stays = λ n e. e; within = λ s c h. h; lists = λ h. h; front = λ i n e. e; less = omega arith }

  pub grows_on : (a : List Bool) (x : List ℕ) (b : List Bool) (y : List ℕ) (c : List Bool) (z : List ℕ) → Grows rules a x b y → Grows rules b y c z → Grows rules a x c z
  grows_on a x b y c z f g = record {
    size = g.size ∙ f.size;
    stays = λ n e. g.stays n (f.stays n e);
    within = λ s h i. g.within s h (f.within s h i);
    lists = λ h. g.lists (f.lists h);
    front = λ i n e. g.front i n (f.front i n e);
    less = let l = f.less in let m = g.less in omega (arith, l, m);
  }

  module _ (kept : List Bool) (met : List ℕ) (r : Rule) (k : ℕ) (there : slice_get rules k ≡ Some r) (inside : AreWithin (length kept) rules) (first : holds kept r.first ≡ true) (second : holds kept r.second ≡ true) (fresh : holds kept r.then ≡ false) where
    abbrev new : List Bool
    new = slice_set kept r.then true

    abbrev now : List ℕ
    now = met ++ r.then ∷ []

    is_there : r.then < length kept
    is_there = (inside k r there).2

    abbrev weight_of : Bool → ℕ
    weight_of b = cond (not b) 1 0

    counts : count_by not new + 1 ≡ count_by not kept
    counts = let sums = sum_by-set (λ (b : Bool). weight_of b) kept r.then true false is_there in let weight = ap (λ (b : Bool). weight_of b) fresh in omega (arith, sums, weight)

    place : Lists kept met → (n : ℕ) → (n ≡ r.then) ⊎ (holds kept n ≡ true) → (i : ℕ) × (slice_get now i ≡ Some n)
    place l n (inl h) = (length met, get_end met r.then ∙ ap Some (sym h))
    place l n (inr h) = let w = l.place n h in (w.0, get_front met (r.then ∷ []) w.0 n w.1)

    held : Lists kept met → (i n : ℕ) → (slice_get met i ≡ Some n) ⊎ ((i ≡ length met) × (n ≡ r.then)) → holds new n ≡ true
    held l i n (inl h) = set_holds kept r.then n (l.held i n h)
    held l i n (inr h) = subst (λ x. holds new x ≡ true) (sym h.1) (set_held kept r.then is_there)

    pub fires : Grows rules kept met new now
    fires = record {
      size = length-set kept r.then true;
      stays = λ n e. set_holds kept r.then n e;
      within = λ s c h n e. ⊎_elim (λ at. subst (λ x. s x ≡ true) (sym at) (c k r there (h r.first first) (h r.second second))) (λ f. h n f) (set_back kept r.then n e);
      lists = λ l. record { place = λ n e. place l n (set_back kept r.then n e); held = λ i n e. held l i n (get_push met r.then i n e) };
      front = λ i n e. get_front met (r.then ∷ []) i n e;
      less = let c = counts in omega (arith, c, length-append met (r.then ∷ []));
    }

    pub fired : holds new r.then ≡ true
    fired = set_held kept r.then is_there

-- ---- the rules of one chain

pub record Follows (p : Premise) (rules : List Rule) (row : ℕ) (old kept : List Bool) (number : ℕ) : Type 0 where
  pub inside : number ≤ length rules
  pub names : (k : ℕ) (r : Rule) → number ≡ suc k → slice_get rules k ≡ Some r → row_of p r ≡ row
  pub given : (k : ℕ) (r : Rule) → number ≤ k → slice_get rules k ≡ Some r → row_of p r ≡ row → holds old r.first ≡ true → holds old r.second ≡ true → holds kept r.then ≡ true

module _ (p : Premise) (rules : List Rule) (row : ℕ) where
  pub follows_first : (count : ℕ) (c : Chains) (old : List Bool) (l : ℕ) → AreChains p rules count (length rules) c → slice_get c.last.items row ≡ Some l → Follows p rules row old old l
  follows_first count c old l chains at =
      let w = chains.last row l at in
      record {
        inside = w.inside;
        names = w.names;
        given = λ k r le e f g h. absurd (w.behind k r le (slice_get_within rules k r e) e f);
      }

  module _ (count : ℕ) (c : Chains) (old kept new : List Bool) (number k l : ℕ) (r : Rule) (chains : AreChains p rules count (length rules) c) (w : Follows p rules row old kept number) (is : number ≡ suc k) (there : slice_get rules k ≡ Some r) (before : slice_get c.before.items k ≡ Some l) (more : IsWithin (holds old) (holds new)) (stays : IsWithin (holds kept) (holds new)) (gives : (s : Rule) → slice_get rules k ≡ Some s → holds new s.first ≡ true → holds new s.second ≡ true → holds new s.then ≡ true) where
    here : row_of p r ≡ row
    here = w.names k r is there

    link : IsLast p rules k row l
    link = subst (λ x. IsLast p rules k x l) here (chains.before k l r before there)

    pub follows_next : Follows p rules row old new l
    follows_next = record {
      inside = let i = link.inside in let j = w.inside in omega (arith, i, j, is);
      names = link.names;
      given = λ j s le e f g h.
          ⊎_elim
          (λ lt. absurd (link.behind j s le lt e f))
          (λ ge.
          ⊎_elim
          (λ at. gives s (ap (slice_get rules) (sym at) ∙ e) (more s.first g) (more s.second h))
          (λ past. stays s.then (w.given j s past e f g h))
          (same_or_past j ge))
          (cases_lt j k);
    }
      where
        same_or_past : (j : ℕ) → k ≤ j → (j ≡ k) ⊎ (number ≤ j)
        same_or_past j ge = ⊎_elim (λ lt. inr (omega (arith, lt, is))) (λ le. inl (omega (arith, ge, le))) (cases_lt k j)

-- ---- all rules

module _ (rules : List Rule) (kept : List Bool) (met : List ℕ) (done row : ℕ) (here : slice_get met done ≡ Some row) (lists : Lists kept met) (settled : IsSettled rules kept met done) (mid : List Bool) (met_mid : List ℕ) (first_grows : Grows rules kept met mid met_mid) (by_first : (k : ℕ) (r : Rule) → slice_get rules k ≡ Some r → r.first ≡ row → holds kept r.first ≡ true → holds kept r.second ≡ true → holds mid r.then ≡ true) (new : List Bool) (now : List ℕ) (second_grows : Grows rules mid met_mid new now) (by_second : (k : ℕ) (r : Rule) → slice_get rules k ≡ Some r → r.second ≡ row → holds mid r.first ≡ true → holds mid r.second ≡ true → holds new r.then ≡ true) where
  grows : Grows rules kept met new now
  grows = grows_on rules kept met mid met_mid new now first_grows second_grows

  -- a row that is done now stood there before
  was : (n : ℕ) → IsDone now (done + 1) n → (i : ℕ) × (i < done + 1) × (slice_get met i ≡ Some n)
  was n d =
      let inside = slice_get_within met done row here in
      let there = slice_get-get_or met d.0 0 (omega (arith, d.1, inside)) in
      let same : Some (slice_index_or met d.0 0) ≡ Some n = sym (grows.front d.0 (slice_index_or met d.0 0) there) ∙ d.2 in
      (d.0, d.1, there ∙ same)

  done_or_here : (n : ℕ) → (i : ℕ) × (i < done + 1) × (slice_get met i ≡ Some n) → IsDone met done n ⊎ (n ≡ row)
  done_or_here n d =
      ⊎_elim
      (λ lt. inl (d.0, lt, d.2))
      (λ le. let at : d.0 ≡ done = omega (arith, d.1, le) in let same : Some n ≡ Some row = sym d.2 ∙ ap (slice_get met) at ∙ here in inr (cc same))
      (cases_lt d.0 done)

  pub settled_next : IsSettled rules new now (done + 1)
  settled_next k r there first second =
      let f = was r.first first in
      let s = was r.second second in
      let has_first = lists.held f.0 r.first f.2 in
      let has_second = lists.held s.0 r.second s.2 in
      go (done_or_here r.first f) (done_or_here r.second s) has_first has_second
    where
      go : IsDone met done r.first ⊎ (r.first ≡ row) → IsDone met done r.second ⊎ (r.second ≡ row) → holds kept r.first ≡ true → holds kept r.second ≡ true → holds new r.then ≡ true
      go (inl f) (inl s) h i = grows.stays r.then (settled k r there f s)
      go (inr f) s h i = second_grows.stays r.then (by_first k r there f h i)
      go (inl f) (inr s) h i = by_second k r there s (first_grows.stays r.first h) (first_grows.stays r.second i)

-- nothing is left to do
pub all_settled : (rules : List Rule) (kept : List Bool) (met : List ℕ) (done : ℕ) → length met ≤ done → Lists kept met → IsSettled rules kept met done → IsClosed rules (holds kept)
all_settled rules kept met done le lists settled k r there f s = settled k r there (found r.first f) (found r.second s)
  where
    found : (n : ℕ) → holds kept n ≡ true → IsDone met done n
    found n h = let w = lists.place n h in let inside = slice_get_within met w.0 n w.1 in (w.0, omega (arith, inside, le), w.1)

-- ---- the rows that are kept at first

pub record ListsFront (kept : List Bool) (met : List ℕ) (done : ℕ) : Type 0 where
  pub place : (n : ℕ) → n < done → holds kept n ≡ true → (i : ℕ) × (slice_get met i ≡ Some n)
  pub held : (i n : ℕ) → slice_get met i ≡ Some n → holds kept n ≡ true

pub lists_none : (kept : List Bool) → ListsFront kept [] 0
lists_none kept = record { place = λ n lt. absurd (omega (arith, lt)); held = λ i n e. cc e }

pub lists_more : (kept : List Bool) (met : List ℕ) (row : ℕ) → holds kept row ≡ true → ListsFront kept met row → ListsFront kept (met ++ row ∷ []) (row + 1)
lists_more kept met row h l = record { place = λ n lt e. ⊎_elim (λ less. let w = l.place n less e in (w.0, get_front met (row ∷ []) w.0 n w.1)) (λ le. let at : row ≡ n = omega (arith, lt, le) in (length met, get_end met row ∙ ap Some at)) (cases_lt n row); held = λ i n e. held i n (get_push met row i n e) }
  where
    held : (i n : ℕ) → (slice_get met i ≡ Some n) ⊎ ((i ≡ length met) × (n ≡ row)) → holds kept n ≡ true
    held i n (inl f) = l.held i n f
    held i n (inr f) = subst (λ x. holds kept x ≡ true) (sym f.1) h

pub lists_same : (kept : List Bool) (met : List ℕ) (row : ℕ) → holds kept row ≡ false → ListsFront kept met row → ListsFront kept met (row + 1)
lists_same kept met row h l = record { place = λ n lt e. ⊎_elim (λ less. l.place n less e) (λ le. let at : n ≡ row = omega (arith, lt, le) in let no : holds kept n ≡ false = ap (holds kept) at ∙ h in cc (sym no ∙ e)) (cases_lt n row); held = l.held }

pub lists_all : (kept : List Bool) (met : List ℕ) (done : ℕ) → length kept ≤ done → ListsFront kept met done → Lists kept met
lists_all kept met done le l = record { place = λ n e. let inside = held_within kept n e in l.place n (omega (arith, inside, le)) e; held = l.held }
