-- What each move of a walk keeps.
use Rattle.std.proofs.Common.{◌≡◌, ℕ, zero, suc, ◌+◌, ◌<◌, ◌≤◌, ◌⊎◌, inl, inr, cond, not, false, List, [], ◌∷◌, ◌++◌, length, take, drop, Option, Some, None, refl, sym, ap, ◌∙◌, arith, length-append, get_or, subst}
use Rattle.std.specs.Prelude.{slice_get, slice_set, count_by}
use Rattle.std.specs.Option.{option_to_list}
use Rattle.std.proofs.lemmas.Bool.{cases_eq}
use Rattle.std.proofs.lemmas.List.{length-set}
use Rattle.std.proofs.lemmas.List.Sums.{sum_by-set}
use Rattle.std.proofs.lemmas.Option.{slice_get_within, get_or_from_slice_get, slice_get-get_or}
use Rattle.ways.specs.Heights.{HasHeight, IsEndless}
use Rattle.ways.specs.declared.walk.Mark.{Mark}
use Rattle.ways.specs.declared.walk.Mark.TheVariants as mark
use Rattle.ways.specs.declared.walk.Place.{Place}
use Rattle.ways.specs.declared.walk.Walk.{Walk}
use Rattle.ways.specs.Walk.{is_unknown, MarkFits, HasTaken, IsMet, PlaceFits, IsOn, AllFit, AreLinked, AreMet, AreEnded, whole_path, IsWalk, Walks, StaysMet, GoesOn}
use Rattle.ways.specs.Looked.{MeetsCircle}
use Rattle.ways.proofs.WaysLaws.{height_all, nothing_taken}
use Rattle.ways.proofs.PathLaws.{path_endless}

-- ---- lists

get_set_same : {A : Type 0} (xs : List A) (n : ℕ) (x : A) → n < length xs → slice_get (slice_set xs n x) n ≡ Some x
get_set_same [] n x h = absurd (omega (arith, h))
get_set_same (y ∷ xs) zero x h = refl
get_set_same (y ∷ xs) (suc n) x h = get_set_same xs n x (omega (arith, h))

get_set_other : {A : Type 0} (xs : List A) (n k : ℕ) (x : A) → (k ≡ n → ⊥) → slice_get (slice_set xs n x) k ≡ slice_get xs k
get_set_other [] n k x h = refl
get_set_other (y ∷ xs) zero zero x h = absurd (h refl)
get_set_other (y ∷ xs) zero (suc k) x h = refl
get_set_other (y ∷ xs) (suc n) zero x h = refl
get_set_other (y ∷ xs) (suc n) (suc k) x h = get_set_other xs n k x (λ e. h (ap suc e))

-- what stands somewhere after one place was set
set_cases : (xs : List Mark) (n a : ℕ) (x m : Mark) → n < length xs → slice_get (slice_set xs n x) a ≡ Some m → ((a ≡ n) × (m ≡ x)) ⊎ ((a ≡ n → ⊥) × (slice_get xs a ≡ Some m))
set_cases xs n a x m inside there = go (cases_eq a n)
  where
    go : (a ≡ n) ⊎ (a ≡ n → ⊥) → ((a ≡ n) × (m ≡ x)) ⊎ ((a ≡ n → ⊥) × (slice_get xs a ≡ Some m))
    go (inl same) = inl (same, cc (sym there ∙ ap (slice_get (slice_set xs n x)) same ∙ get_set_same xs n x inside))
    go (inr apart) = inr (apart, sym (get_set_other xs n a x apart) ∙ there)

abbrev weight : Mark → ℕ
weight m = cond (is_unknown m) 1 0

count_set : (xs : List Mark) (n : ℕ) (x y : Mark) → slice_get xs n ≡ Some y → count_by is_unknown (slice_set xs n x) + weight y ≡ count_by is_unknown xs + weight x
count_set xs n x y e =
    let within = slice_get_within xs n y e in
    let was = get_or_from_slice_get xs n y y e in
    let sums = sum_by-set (λ (m : Mark). cond {A = ℕ} (is_unknown m) 1 0) xs n x y within in
    let same : ◌≡◌ {A = ℕ} (cond (is_unknown (get_or xs n y)) 1 0) (weight y) = ap (λ (m : Mark). cond {A = ℕ} (is_unknown m) 1 0) was in
    omega (arith, sums, same)

-- ---- paths

on_longer : (ps : List Place) (p r q : Place) (a : ℕ) → r.node ≡ p.node → IsOn (ps ++ p ∷ []) a → IsOn ((ps ++ r ∷ []) ++ q ∷ []) a
on_longer [] p r q a same (inl is) = inl (same ∙ is)
on_longer [] p r q a same (inr on) = absurd on
on_longer (s ∷ ps) p r q a same (inl is) = inl is
on_longer (s ∷ ps) p r q a same (inr on) = inr (on_longer ps p r q a same on)

on_last : (ps : List Place) (q : Place) → IsOn (ps ++ q ∷ []) q.node
on_last [] q = inl refl
on_last (s ∷ ps) q = inr (on_last ps q)

on_shorter : (ps : List Place) (p : Place) (a : ℕ) → (a ≡ p.node → ⊥) → IsOn (ps ++ p ∷ []) a → IsOn ps a
on_shorter [] p a apart (inl is) = absurd (apart (sym is))
on_shorter [] p a apart (inr on) = absurd on
on_shorter (s ∷ ps) p a apart (inl is) = inl is
on_shorter (s ∷ ps) p a apart (inr on) = inr (on_shorter ps p a apart on)

linked_longer : (next : ℕ → List ℕ) (ps : List Place) (p r q : Place) → r.node ≡ p.node → slice_get (next r.node) r.taken ≡ Some q.node → AreLinked next (ps ++ p ∷ []) → AreLinked next ((ps ++ r ∷ []) ++ q ∷ [])
linked_longer next [] p r q same leads linked = (leads, tt)
linked_longer next (s ∷ []) p r q same leads linked = (linked.0 ∙ ap Some (sym same), linked_longer next [] p r q same leads linked.1)
linked_longer next (s ∷ t ∷ ps) p r q same leads linked = (linked.0, linked_longer next (t ∷ ps) p r q same leads linked.1)

linked_shorter : (next : ℕ → List ℕ) (ps : List Place) (p : Place) → AreLinked next (ps ++ p ∷ []) → AreLinked next ps
linked_shorter next [] p linked = tt
linked_shorter next (s ∷ []) p linked = tt
linked_shorter next (s ∷ t ∷ ps) p linked = (linked.0, linked_shorter next (t ∷ ps) p linked.1)

module _ (next : ℕ → List ℕ) where
  fit_longer : (known : ℕ) (marks : List Mark) (ps : List Place) (p : Place) → AllFit next known marks ps → PlaceFits next known marks p → AllFit next known marks (ps ++ p ∷ [])
  fit_longer known marks [] p fit last = (last, tt)
  fit_longer known marks (s ∷ ps) p fit last = (fit.0, fit_longer known marks ps p fit.1 last)

  fit_shorter : (known : ℕ) (marks : List Mark) (ps : List Place) (p : Place) → AllFit next known marks (ps ++ p ∷ []) → AllFit next known marks ps × PlaceFits next known marks p
  fit_shorter known marks [] p fit = (tt, fit.0)
  fit_shorter known marks (s ∷ ps) p fit = let rest = fit_shorter known marks ps p fit.1 in ((fit.0, rest.0), rest.1)

  fit_other : (known more : ℕ) (old new : List Mark) (ps : List Place) → ((p : Place) → PlaceFits next known old p → PlaceFits next more new p) → AllFit next known old ps → AllFit next more new ps
  fit_other known more old new [] go fit = tt
  fit_other known more old new (p ∷ ps) go fit = (go p fit.0, fit_other known more old new ps go fit.1)

  mark_more : (known : ℕ) (a : ℕ) (m : Mark) → MarkFits next known a m → MarkFits next (known + 1) a m
  mark_more known a (mark.Height h) fits = (fits.0, omega (arith, fits.1))
  mark_more known a mark.Endless fits = fits
  mark_more known a mark.Unknown fits = tt
  mark_more known a mark.Open fits = tt

  -- ---- a mark is set that isn't unknown
  module _ (marks : List Mark) (n : ℕ) (x : Mark) (inside : n < length marks) (is_met : is_unknown x ≡ false) where
    pub stays_met : StaysMet marks (slice_set marks n x)
    stays_met a m k was known now = go (set_cases marks n a x k inside now)
      where
        go : ((a ≡ n) × (k ≡ x)) ⊎ ((a ≡ n → ⊥) × (slice_get marks a ≡ Some k)) → is_unknown k ≡ false
        go (inl (same, is)) = ap is_unknown is ∙ is_met
        go (inr (apart, there)) = let same : k ≡ m = cc (sym there ∙ was) in ap is_unknown same ∙ known

    pub set_met : IsMet (slice_set marks n x) n
    set_met = (omega (arith, inside, length-set marks n x), λ m there. let same : m ≡ x = cc (sym there ∙ get_set_same marks n x inside) in ap is_unknown same ∙ is_met)

    pub met_stays : (a : ℕ) → IsMet marks a → IsMet (slice_set marks n x) a
    met_stays a met = (omega (arith, met.0, length-set marks n x), λ m there. go m (set_cases marks n a x m inside there))
      where
        go : (m : Mark) → ((a ≡ n) × (m ≡ x)) ⊎ ((a ≡ n → ⊥) × (slice_get marks a ≡ Some m)) → is_unknown m ≡ false
        go m (inl (same, is)) = ap is_unknown is ∙ is_met
        go m (inr (apart, there)) = met.1 m there

  module _ (marks : List Mark) (known : ℕ) (ps : List Place) (p : Place) (walk : IsWalk next marks known (ps ++ p ∷ [])) where
    pub last_fits : PlaceFits next known marks p
    last_fits = (fit_shorter known marks ps p walk.places).1

    -- ---- down to a node that wasn't met
    module _ (edge node height : ℕ) (edges : edge ≤ length (next p.node)) (taken : HasTaken next p.node edge height) (small : height ≤ known) (leads : slice_get (next p.node) edge ≡ Some node) (fresh : slice_get marks node ≡ Some mark.Unknown) where
      abbrev from : Place
      from = record { node = p.node; taken = edge; height = height }

      abbrev to : Place
      to = record { node = node; taken = 0; height = 0 }

      abbrev opened : List Mark
      opened = slice_set marks node mark.Open

      inside : node < length marks
      inside = slice_get_within marks node mark.Unknown fresh

      pub fewer : count_by is_unknown opened + 1 ≡ count_by is_unknown marks
      fewer =
          let sums : count_by is_unknown opened + 1 ≡ count_by is_unknown marks + 0 = count_set marks node mark.Open mark.Unknown fresh in
          omega (arith, sums)

      place_stays : (q : Place) → PlaceFits next known marks q → PlaceFits next known opened q
      place_stays q fits = record { met = met_stays marks node mark.Open inside refl q.node fits.met; edges = fits.edges; taken = fits.taken; small = fits.small }

      pub descended : IsWalk next opened known ((ps ++ from ∷ []) ++ to ∷ [])
      descended = record {
        marked = λ a m there. by_mark a m (set_cases marks node a mark.Open m inside there);
        on_path = λ a there. by_node a (set_cases marks node a mark.Open mark.Open inside there);
        places = fit_longer known opened (ps ++ from ∷ []) to (fit_longer known opened ps from (fit_other known known marks opened ps place_stays before.0) from_fits) to_fits;
        links = linked_longer next ps p from to refl leads walk.links;
        counted = omega (arith, walk.counted, fewer, length-set marks node mark.Open, length-append ps (p ∷ []), length-append ps (from ∷ []), length-append (ps ++ from ∷ []) (to ∷ []));
      }
        where
          before : AllFit next known marks ps × PlaceFits next known marks p
          before = fit_shorter known marks ps p walk.places

          from_fits : PlaceFits next known opened from
          from_fits = record { met = met_stays marks node mark.Open inside refl p.node before.1.met; edges = edges; taken = taken; small = small }

          to_fits : PlaceFits next known opened to
          to_fits = record { met = set_met marks node mark.Open inside refl; edges = omega arith; taken = nothing_taken next node; small = omega arith }

          by_mark : (a : ℕ) (m : Mark) → ((a ≡ node) × (m ≡ mark.Open)) ⊎ ((a ≡ node → ⊥) × (slice_get marks a ≡ Some m)) → MarkFits next known a m
          by_mark a m (inl (same, is)) = subst (λ x. MarkFits next known a x) (sym is) tt
          by_mark a m (inr (apart, there)) = walk.marked a m there

          by_node : (a : ℕ) → ((a ≡ node) × (mark.Open ≡ mark.Open)) ⊎ ((a ≡ node → ⊥) × (slice_get marks a ≡ Some mark.Open)) → IsOn ((ps ++ from ∷ []) ++ to ∷ []) a
          by_node a (inl (same, is)) = subst (λ x. IsOn ((ps ++ from ∷ []) ++ to ∷ []) x) (sym same) (on_last (ps ++ from ∷ []) to)
          by_node a (inr (apart, there)) = on_longer ps p from to a refl (walk.on_path a there)

    -- ---- back from a node whose ways are known
    module _ (height : ℕ) (taken : HasTaken next p.node (length (next p.node)) height) (small : height ≤ known) where
      abbrev closed : List Mark
      closed = slice_set marks p.node (mark.Height (height + 1))

      at_last : IsMet marks p.node
      at_last = last_fits.met

      pub room : height + 1 ≤ length marks
      room = omega (arith, walk.counted, small, length-append ps (p ∷ []))

      pub as_many : count_by is_unknown closed ≡ count_by is_unknown marks
      as_many =
          let there = slice_get-get_or marks p.node mark.Unknown at_last.0 in
          let sums = count_set marks p.node (mark.Height (height + 1)) (get_or marks p.node mark.Unknown) there in
          let known_mark : weight (get_or marks p.node mark.Unknown) ≡ 0 = ap (λ b. cond {A = ℕ} b 1 0) (at_last.1 (get_or marks p.node mark.Unknown) there) in
          omega (arith, sums, known_mark)

      place_rises : (q : Place) → PlaceFits next known marks q → PlaceFits next (known + 1) closed q
      place_rises q fits = record { met = met_stays marks p.node (mark.Height (height + 1)) at_last.0 refl q.node fits.met; edges = fits.edges; taken = fits.taken; small = omega (arith, fits.small) }

      pub risen : IsWalk next closed (known + 1) ps
      risen = record {
        marked = λ a m there. by_mark a m (set_cases marks p.node a (mark.Height (height + 1)) m at_last.0 there);
        on_path = λ a there. by_node a (set_cases marks p.node a (mark.Height (height + 1)) mark.Open at_last.0 there);
        places = fit_other known (known + 1) marks closed ps place_rises (fit_shorter known marks ps p walk.places).0;
        links = linked_shorter next ps p walk.links;
        counted = omega (arith, walk.counted, as_many, length-set marks p.node (mark.Height (height + 1)), length-append ps (p ∷ []));
      }
        where
          higher : HasHeight next p.node (height + 1)
          higher = let same : suc height ≡ height + 1 = omega arith in subst (λ h. HasHeight next p.node h) same (height_all next p.node height taken)

          by_mark : (a : ℕ) (m : Mark) → ((a ≡ p.node) × (m ≡ mark.Height (height + 1))) ⊎ ((a ≡ p.node → ⊥) × (slice_get marks a ≡ Some m)) → MarkFits next (known + 1) a m
          by_mark a m (inl (same, is)) = subst (λ x. MarkFits next (known + 1) a x) (sym is) (subst (λ b. HasHeight next b (height + 1)) (sym same) higher, omega (arith, small))
          by_mark a m (inr (apart, there)) = mark_more known a m (walk.marked a m there)

          by_node : (a : ℕ) → ((a ≡ p.node) × (mark.Open ≡ mark.Height (height + 1))) ⊎ ((a ≡ p.node → ⊥) × (slice_get marks a ≡ Some mark.Open)) → IsOn ps a
          by_node a (inl (same, is)) = cc is
          by_node a (inr (apart, there)) = on_shorter ps p a apart (walk.on_path a there)

    -- ---- a way that doesn't end
    module _ (meets : MeetsCircle next marks p.node) (new : List Mark) (size : length new ≡ length marks) (ended : AreEnded (ps ++ p ∷ []) marks new) (count : count_by is_unknown new ≡ count_by is_unknown marks) where
      given_circle : IsOn (ps ++ p ∷ []) meets.1 ⊎ IsEndless next meets.1
      given_circle = go meets.3
        where
          go : (slice_get marks meets.1 ≡ Some mark.Open) ⊎ (slice_get marks meets.1 ≡ Some mark.Endless) → IsOn (ps ++ p ∷ []) meets.1 ⊎ IsEndless next meets.1
          go (inl now) = inl (walk.on_path meets.1 now)
          go (inr endless) = inr (walk.marked meets.1 mark.Endless endless)

      pub given_up : IsWalk next new known []
      given_up = record {
        marked = λ a m there. by_mark a m (ended a m there);
        on_path = λ a there. by_node a (ended a mark.Open there);
        places = tt;
        links = tt;
        counted = omega (arith, walk.counted, count, size, length-append ps (p ∷ []));
      }
        where
          by_mark : (a : ℕ) (m : Mark) → ((m ≡ mark.Endless) × IsOn (ps ++ p ∷ []) a) ⊎ ((slice_get marks a ≡ Some m) × (IsOn (ps ++ p ∷ []) a → ⊥)) → MarkFits next known a m
          by_mark a m (inl (is, on)) = subst (λ x. MarkFits next known a x) (sym is) (path_endless next ps p walk.links meets.0 meets.1 meets.2 given_circle a on)
          by_mark a m (inr (there, off)) = walk.marked a m there

          by_node : (a : ℕ) → ((mark.Open ≡ mark.Endless) × IsOn (ps ++ p ∷ []) a) ⊎ ((slice_get marks a ≡ Some mark.Open) × (IsOn (ps ++ p ∷ []) a → ⊥)) → IsOn [] a
          by_node a (inl (is, on)) = cc is
          by_node a (inr (there, off)) = off (walk.on_path a there)

      pub ends_met : StaysMet marks new
      ends_met a m k was met now = go (ended a k now)
        where
          go : ((k ≡ mark.Endless) × IsOn (ps ++ p ∷ []) a) ⊎ ((slice_get marks a ≡ Some k) × (IsOn (ps ++ p ∷ []) a → ⊥)) → is_unknown k ≡ false
          go (inl (is, on)) = ap is_unknown is
          go (inr (there, off)) = let same : k ≡ m = cc (sym there ∙ was) in ap is_unknown same ∙ met

    pub met_path : AreMet marks (ps ++ p ∷ [])
    met_path = go (ps ++ p ∷ []) walk.places
      where
        go : (qs : List Place) → AllFit next known marks qs → AreMet marks qs
        go [] fit = tt
        go (q ∷ qs) fit = (fit.0.met, go qs fit.1)

  -- ---- the first node
  pub first_opened : (marks : List Mark) (known root : ℕ) → IsWalk next marks known [] → slice_get marks root ≡ Some mark.Unknown → IsWalk next (slice_set marks root mark.Open) known (record { node = root; taken = 0; height = 0 } ∷ [])
  first_opened marks known root walk fresh = record {
    marked = λ a m there. by_mark a m (set_cases marks root a mark.Open m inside there);
    on_path = λ a there. by_node a (set_cases marks root a mark.Open mark.Open inside there);
    places = (record { met = set_met marks root mark.Open inside refl; edges = omega arith; taken = nothing_taken next root; small = omega arith }, tt);
    links = tt;
    counted = let sums : count_by is_unknown (slice_set marks root mark.Open) + 1 ≡ count_by is_unknown marks + 0 = count_set marks root mark.Open mark.Unknown fresh in omega (arith, walk.counted, sums, length-set marks root mark.Open);
  }
    where
      inside : root < length marks
      inside = slice_get_within marks root mark.Unknown fresh

      by_mark : (a : ℕ) (m : Mark) → ((a ≡ root) × (m ≡ mark.Open)) ⊎ ((a ≡ root → ⊥) × (slice_get marks a ≡ Some m)) → MarkFits next known a m
      by_mark a m (inl (same, is)) = subst (λ x. MarkFits next known a x) (sym is) tt
      by_mark a m (inr (apart, there)) = walk.marked a m there

      by_node : (a : ℕ) → ((a ≡ root) × (mark.Open ≡ mark.Open)) ⊎ ((a ≡ root → ⊥) × (slice_get marks a ≡ Some mark.Open)) → IsOn (record { node = root; taken = 0; height = 0 } ∷ []) a
      by_node a (inl (same, is)) = inl (sym same)
      by_node a (inr (apart, there)) = absurd (walk.on_path a there)

-- ---- one node more is given up

on_taken : (path : List Place) (k a : ℕ) (p : Place) → slice_get path k ≡ Some p → IsOn (take (suc k) path) a → IsOn (take k path) a ⊎ (p.node ≡ a)
on_taken [] k a p there on = cc there
on_taken (q ∷ path) zero a p there (inl is) = let same : q ≡ p = cc there in inr (ap (λ (x : Place). x.node) (sym same) ∙ is)
on_taken (q ∷ path) zero a p there (inr on) = absurd on
on_taken (q ∷ path) (suc k) a p there (inl is) = inl (inl is)
on_taken (q ∷ path) (suc k) a p there (inr on) = go (on_taken path k a p there on)
  where
    go : IsOn (take k path) a ⊎ (p.node ≡ a) → IsOn (take (suc k) (q ∷ path)) a ⊎ (p.node ≡ a)
    go (inl on) = inl (inr on)
    go (inr is) = inr is

taken_on : (path : List Place) (k a : ℕ) (p : Place) → slice_get path k ≡ Some p → IsOn (take k path) a ⊎ (p.node ≡ a) → IsOn (take (suc k) path) a
taken_on [] k a p there on = cc there
taken_on (q ∷ path) zero a p there (inl on) = absurd on
taken_on (q ∷ path) zero a p there (inr is) = let same : q ≡ p = cc there in inl (ap (λ (x : Place). x.node) same ∙ is)
taken_on (q ∷ path) (suc k) a p there (inl (inl is)) = inl is
taken_on (q ∷ path) (suc k) a p there (inl (inr on)) = inr (taken_on path k a p there (inl on))
taken_on (q ∷ path) (suc k) a p there (inr is) = inr (taken_on path k a p there (inr is))

met_at : (marks : List Mark) (path : List Place) (k : ℕ) (p : Place) → slice_get path k ≡ Some p → AreMet marks path → IsMet marks p.node
met_at marks [] k p there met = cc there
met_at marks (q ∷ path) zero p there met = let same : q ≡ p = cc there in subst (λ (x : Place). IsMet marks x.node) same met.0
met_at marks (q ∷ path) (suc k) p there met = met_at marks path k p there met.1

module _ (path : List Place) (old mid : List Mark) (k : ℕ) (p : Place) (there : slice_get path k ≡ Some p) (met : AreMet old path) (size : length mid ≡ length old) (ended : AreEnded (take k path) old mid) where
  pub end_inside : p.node < length mid
  end_inside = omega (arith, (met_at old path k p there met).0, size)

  pub one_more_ended : AreEnded (take (suc k) path) old (slice_set mid p.node mark.Endless)
  one_more_ended a m at = go (set_cases mid p.node a mark.Endless m end_inside at)
    where
      keep : (a ≡ p.node → ⊥) → ((m ≡ mark.Endless) × IsOn (take k path) a) ⊎ ((slice_get old a ≡ Some m) × (IsOn (take k path) a → ⊥)) → ((m ≡ mark.Endless) × IsOn (take (suc k) path) a) ⊎ ((slice_get old a ≡ Some m) × (IsOn (take (suc k) path) a → ⊥))
      keep apart (inl (is, on)) = inl (is, taken_on path k a p there (inl on))
      keep apart (inr (was, off)) = inr (was, λ on. elim (on_taken path k a p there on) [ inl before ↦ off before | inr here ↦ apart (sym here) ])

      go : ((a ≡ p.node) × (m ≡ mark.Endless)) ⊎ ((a ≡ p.node → ⊥) × (slice_get mid a ≡ Some m)) → ((m ≡ mark.Endless) × IsOn (take (suc k) path) a) ⊎ ((slice_get old a ≡ Some m) × (IsOn (take (suc k) path) a → ⊥))
      go (inl (same, is)) = inl (is, taken_on path k a p there (inr (sym same)))
      go (inr (apart, was)) = keep apart (ended a m was)

  pub still_counted : count_by is_unknown (slice_set mid p.node mark.Endless) ≡ count_by is_unknown mid
  still_counted =
      let here = slice_get-get_or mid p.node mark.Unknown end_inside in
      let sums = count_set mid p.node mark.Endless (get_or mid p.node mark.Unknown) here in
      let known_mark : weight (get_or mid p.node mark.Unknown) ≡ 0 = ap (λ b. cond {A = ℕ} b 1 0) (go (get_or mid p.node mark.Unknown) (ended p.node (get_or mid p.node mark.Unknown) here)) in
      omega (arith, sums, known_mark)
    where
      go : (m : Mark) → ((m ≡ mark.Endless) × IsOn (take k path) p.node) ⊎ ((slice_get old p.node ≡ Some m) × (IsOn (take k path) p.node → ⊥)) → is_unknown m ≡ false
      go m (inl (is, on)) = ap is_unknown is
      go m (inr (was, off)) = (met_at old path k p there met).1 m was

pub none_ended : (marks : List Mark) → AreEnded [] marks marks
none_ended marks a m at = inr (at, λ on. on)

pub take_whole : {A : Type 0} (xs : List A) (k : ℕ) → length xs ≤ k → take k xs ≡ xs
take_whole [] zero h = refl
take_whole [] (suc k) h = refl
take_whole (x ∷ xs) zero h = absurd (omega (arith, h))
take_whole (x ∷ xs) (suc k) h = ap (λ ys. x ∷ ys) (take_whole xs k (omega (arith, h)))

-- ---- the moves of the code

module _ (next : ℕ → List ℕ) (old new : Walk) (p : Place) (walk : Walks next old (Some p)) where
  pub went_down : (edge node height : ℕ) → HasTaken next p.node edge height → height ≤ old.known → slice_get (next p.node) edge ≡ Some node → slice_get old.marks.items node ≡ Some mark.Unknown → new.marks.items ≡ slice_set old.marks.items node mark.Open → new.path.items ≡ old.path.items ++ record { node = p.node; taken = edge; height = height } ∷ [] → new.known ≡ old.known → GoesOn next old new (Some p) (Some (record { node = node; taken = 0; height = 0 }))
  went_down edge node height taken small leads fresh marks path known =
      let within = slice_get_within (next p.node) edge node leads in
      let inside = slice_get_within old.marks.items node mark.Unknown fresh in
      let edges : edge ≤ length (next p.node) = omega (arith, within) in
      let fewer_now = fewer next old.marks.items old.known old.path.items p walk edge node height edges taken small leads fresh in
      let is = descended next old.marks.items old.known old.path.items p walk edge node height edges taken small leads fresh in
      let counts = ap (count_by is_unknown) marks in
      let lengths = ap (λ (xs : List Place). length xs) path in
      record {
        walks = subst (λ k. IsWalk next new.marks.items k (new.path.items ++ to_place ∷ [])) (sym known) (subst (λ xs. IsWalk next new.marks.items old.known (xs ++ to_place ∷ [])) (sym path) (subst (λ ms. IsWalk next ms old.known ((old.path.items ++ from_place ∷ []) ++ to_place ∷ [])) (sym marks) is));
        size = ap (λ (ms : List Mark). length ms) marks ∙ length-set old.marks.items node mark.Open;
        met = subst (λ ms. StaysMet old.marks.items ms) (sym marks) (stays_met next old.marks.items node mark.Open inside refl);
        less = omega (arith, fewer_now, counts, lengths, length-append old.path.items (from_place ∷ []), length-append old.path.items (p ∷ []), length-append new.path.items (to_place ∷ []));
        empty = λ e. cc e;
      }
    where
      to_place : Place
      to_place = record { node = node; taken = 0; height = 0 }

      from_place : Place
      from_place = record { node = p.node; taken = edge; height = height }

  pub went_up : (after : Option Place) (height : ℕ) → HasTaken next p.node (length (next p.node)) height → height ≤ old.known → new.marks.items ≡ slice_set old.marks.items p.node (mark.Height (height + 1)) → whole_path new.path.items after ≡ old.path.items → (after ≡ None → new.path.items ≡ []) → new.known ≡ old.known + 1 → GoesOn next old new (Some p) after
  went_up after height taken small marks path empty known =
      let inside = (last_fits next old.marks.items old.known old.path.items p walk).met.0 in
      let same = as_many next old.marks.items old.known old.path.items p walk height taken small in
      let counts = ap (count_by is_unknown) marks in
      let lengths = ap (λ (xs : List Place). length xs) path in
      record {
        walks = subst (λ k. IsWalk next new.marks.items k (whole_path new.path.items after)) (sym known) (subst (λ xs. IsWalk next new.marks.items (old.known + 1) xs) (sym path) (subst (λ ms. IsWalk next ms (old.known + 1) old.path.items) (sym marks) (risen next old.marks.items old.known old.path.items p walk height taken small)));
        size = ap (λ (ms : List Mark). length ms) marks ∙ length-set old.marks.items p.node (mark.Height (height + 1));
        met = subst (λ ms. StaysMet old.marks.items ms) (sym marks) (stays_met next old.marks.items p.node (mark.Height (height + 1)) inside refl);
        less = omega (arith, same, counts, lengths, length-append old.path.items (p ∷ []));
        empty = empty;
      }

  pub gave_up : MeetsCircle next old.marks.items p.node → length new.marks.items ≡ length old.marks.items → AreEnded (old.path.items ++ p ∷ []) old.marks.items new.marks.items → count_by is_unknown new.marks.items ≡ count_by is_unknown old.marks.items → new.path.items ≡ [] → new.known ≡ old.known → GoesOn next old new (Some p) None
  gave_up meets size ended count path known =
      let lengths = ap (λ (xs : List Place). length xs) path in
      record {
        walks = subst (λ k. IsWalk next new.marks.items k new.path.items) (sym known) (subst (λ xs. IsWalk next new.marks.items old.known xs) (sym path) (given_up next old.marks.items old.known old.path.items p walk meets new.marks.items size ended count));
        size = size;
        met = ends_met next old.marks.items old.known old.path.items p walk meets new.marks.items size ended count;
        less = omega (arith, count, lengths, length-append old.path.items (p ∷ []));
        empty = λ e. path;
      }

pub none_left : (new : List Place) → length new ≡ 0 → new ≡ []
none_left [] e = refl
none_left (p ∷ ps) e = absurd (omega (arith, e))

pub fresh_at : (marks : List Mark) (a : ℕ) → a < length marks → (m : Mark) → m ≡ get_or marks a m → not (is_unknown m) ≡ false → slice_get marks a ≡ Some mark.Unknown
fresh_at marks a inside m is fresh = slice_get-get_or marks a m inside ∙ ap Some (sym is ∙ go m fresh)
  where
    go : (m : Mark) → not (is_unknown m) ≡ false → m ≡ mark.Unknown
    go mark.Unknown e = refl
    go mark.Open e = cc e
    go (mark.Height h) e = cc e
    go mark.Endless e = cc e

pub popped : (old new : List Place) (after : Option Place) → old ≡ new ++ option_to_list after → whole_path new after ≡ old
popped old new None e = sym (e ∙ append_nothing new)
  where
    append_nothing : (xs : List Place) → xs ++ [] ≡ xs
    append_nothing [] = refl
    append_nothing (x ∷ xs) = ap (λ ys. x ∷ ys) (append_nothing xs)
popped old new (Some p) e = sym e

pub stays_same : (marks : List Mark) → StaysMet marks marks
stays_same marks a m k was met now = let same : k ≡ m = cc (sym now ∙ was) in ap is_unknown same ∙ met

-- what was met by one move is by the next
pub still_met : (old new : List Mark) (a : ℕ) → a < length old → ((m : Mark) → slice_get old a ≡ Some m → is_unknown m ≡ false) → StaysMet old new → (m : Mark) → slice_get new a ≡ Some m → is_unknown m ≡ false
still_met old new a inside met stays m now = let there = slice_get-get_or old a mark.Unknown inside in stays a (get_or old a mark.Unknown) m there (met (get_or old a mark.Unknown) there) now

pub stays_twice : (old mid new : List Mark) → length mid ≡ length old → StaysMet old mid → StaysMet mid new → StaysMet old new
stays_twice old mid new size first second a m k was met now =
    let inside = slice_get_within old a m was in
    still_met mid new a (omega (arith, inside, size)) (λ j at. first a m j was met at) second k now

-- a list that is written over another of its length is all that is left
pub written_whole : {A : Type 0} (n : ℕ) (new old : List A) → length new ≡ length old → length new ≤ n → take n (new ++ drop (length new) old) ≡ new
written_whole zero [] [] size fits = refl
written_whole (suc n) [] [] size fits = refl
written_whole n [] (y ∷ old) size fits = absurd (omega (arith, size))
written_whole n (x ∷ new) [] size fits = absurd (omega (arith, size))
written_whole zero (x ∷ new) (y ∷ old) size fits = absurd (omega (arith, fits))
written_whole (suc n) (x ∷ new) (y ∷ old) size fits = ap (λ xs. x ∷ xs) (written_whole n new old (omega (arith, size)) (omega (arith, fits)))
