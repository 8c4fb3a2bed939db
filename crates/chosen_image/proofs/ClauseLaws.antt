-- Clauses that nest in a file's code nest in the image's, since the order of bounds is kept.
use Rattle.std.proofs.Common.{◌≡◌, ℕ, Bool, ◌&&◌, ◌||◌, not, List, [], ◌∷◌, map, refl, ap, ◌∙◌}
use Rattle.std.specs.Prelude.{nat_eq, nat_lt, nat_le}
use Rattle.std.specs.List.{list_all, list_any}
use Rattle.classes.specs.Code.{CodeClause}
use Rattle.classes.specs.Clauses.{Region, try_of, handler_of, holds, overlap, same_region, nest, keeps_whole, try_keeps_whole, is_in, is_inside, lies_well, is_proper, lie_well}
use Rattle.assemblies.specs.Rows.{RawKind, RawCatch, RawFinally, RawOther, RawClause}
use Rattle.assemblies.specs.Chosen.{Choice, kind_to, clause_to}
use Rattle.assemblies.specs.Closed.{Each}
use Rattle.image_form.specs.Codes.{Instr}
use Rattle.image_form.specs.Form.{is_known_kind, regions_of, lies_in, clauses_nest, is_catch, has_room}
use Rattle.short_code.specs.Short.{to_short, long_end, IsBound}
use Rattle.short_code.specs.Pieces.{pieces}
use Rattle.chosen_image.specs.Spells.{ClauseSpells}
use Rattle.chosen_image.proofs.PlaceLaws.{end_bound, lt_same, le_same, eq_same}

and_same : (a b c d : Bool) → a ≡ b → c ≡ d → (a && c) ≡ (b && d)
and_same a b c d p q = ap (λ x. x && c) p ∙ ap (λ x. b && x) q

or_same : (a b c d : Bool) → a ≡ b → c ≡ d → (a || c) ≡ (b || d)
or_same a b c d p q = ap (λ x. x || c) p ∙ ap (λ x. b || x) q

known_same : (k : Choice) (x : RawKind) → is_known_kind (kind_to k x) ≡ is_known_kind x
known_same k (RawCatch t) = refl
known_same k RawFinally = refl
known_same k RawOther = refl

-- the kind of a clause's regions isn't looked at
module _ (k : Choice) (place : ℕ → ℕ) where
  catch_same : (c : RawClause) → is_catch (clause_to k place c) ≡ is_catch c
  catch_same c = go c.kind
    where
      go : (x : RawKind) → is_catch (record c { kind = kind_to k x }) ≡ is_catch (record c { kind = x })
      go (RawCatch t) = refl
      go RawFinally = refl
      go RawOther = refl

  any_catch : (cs : List RawClause) → list_any is_catch (map (clause_to k place) cs) ≡ list_any is_catch cs
  any_catch [] = refl
  any_catch (c ∷ cs) = or_same (is_catch (clause_to k place c)) (is_catch c) (list_any is_catch (map (clause_to k place) cs)) (list_any is_catch cs) (catch_same c) (any_catch cs)

  pub room_same : (max_stack : ℕ) (cs : List RawClause) → has_room max_stack (map (clause_to k place) cs) ≡ has_room max_stack cs
  room_same max_stack cs = ap (λ b. not (nat_eq max_stack 0 && b)) (any_catch cs)

module _ (k : Choice) (is : List Instr) (place : ℕ → ℕ) (places : (at : ℕ) → place at ≡ to_short (pieces is) at) where
  abbrev B : ℕ → Type 0
  B at = IsBound (pieces is) at

  record In (r : Region) : Type 0 where
    from : B r.from
    to : B r.to

  abbrev moved : Region → Region
  moved r = record { from = place r.from; to = place r.to }

  lt : (a b : ℕ) → B a → B b → nat_lt (place a) (place b) ≡ nat_lt a b
  lt a b p q = lt_same is place places a b p q

  le : (a b : ℕ) → B a → B b → nat_le (place a) (place b) ≡ nat_le a b
  le a b p q = le_same is place places a b p q

  eq : (a b : ℕ) → B a → B b → nat_eq (place a) (place b) ≡ nat_eq a b
  eq a b p q = eq_same is place places a b p q

  holds_same : (r x : Region) → In r → In x → holds (moved r) (moved x) ≡ holds r x
  holds_same r x p q = and_same (nat_le (place r.from) (place x.from)) (nat_le r.from x.from) (nat_le (place x.to) (place r.to)) (nat_le x.to r.to) (le r.from x.from p.from q.from) (le x.to r.to q.to p.to)

  overlap_same : (r x : Region) → In r → In x → overlap (moved r) (moved x) ≡ overlap r x
  overlap_same r x p q = and_same (nat_lt (place r.from) (place x.to)) (nat_lt r.from x.to) (nat_lt (place x.from) (place r.to)) (nat_lt x.from r.to) (lt r.from x.to p.from q.to) (lt x.from r.to q.from p.to)

  same_same : (r x : Region) → In r → In x → same_region (moved r) (moved x) ≡ same_region r x
  same_same r x p q = and_same (nat_eq (place r.from) (place x.from)) (nat_eq r.from x.from) (nat_eq (place r.to) (place x.to)) (nat_eq r.to x.to) (eq r.from x.from p.from q.from) (eq r.to x.to p.to q.to)

  nest_same : (r x : Region) → In r → In x → nest (moved r) (moved x) ≡ nest r x
  nest_same r x p q =
      or_same (not (overlap (moved r) (moved x))) (not (overlap r x)) (holds (moved r) (moved x) || holds (moved x) (moved r)) (holds r x || holds x r) (ap not (overlap_same r x p q))
      (or_same (holds (moved r) (moved x)) (holds r x) (holds (moved x) (moved r)) (holds x r) (holds_same r x p q) (holds_same x r q p))

  -- ---- a clause and one behind it

  record ClauseIn (c : RawClause) : Type 0 where
    tries : In (try_of (regions_of c))
    handles : In (handler_of (regions_of c))

  abbrev low : RawClause → CodeClause
  low c = regions_of (clause_to k place c)

  abbrev high : RawClause → CodeClause
  high c = regions_of c

  implied_same : (a b c d : Bool) → a ≡ b → c ≡ d → (not a || c) ≡ (not b || d)
  implied_same a b c d p q = or_same (not a) (not b) c d (ap not p) q

  keeps_same : (r : Region) (c : RawClause) → In r → ClauseIn c → keeps_whole (moved r) (low c) ≡ keeps_whole r (high c)
  keeps_same r c p q =
      let t = holds_same r (try_of (high c)) p q.tries in
      let h = holds_same r (handler_of (high c)) p q.handles in
      and_same (not (holds (moved r) (try_of (low c))) || holds (moved r) (handler_of (low c))) (not (holds r (try_of (high c))) || holds r (handler_of (high c))) (not (holds (moved r) (handler_of (low c))) || holds (moved r) (try_of (low c))) (not (holds r (handler_of (high c))) || holds r (try_of (high c)))
      (implied_same (holds (moved r) (try_of (low c))) (holds r (try_of (high c))) (holds (moved r) (handler_of (low c))) (holds r (handler_of (high c))) t h)
      (implied_same (holds (moved r) (handler_of (low c))) (holds r (handler_of (high c))) (holds (moved r) (try_of (low c))) (holds r (try_of (high c))) h t)

  try_keeps_same : (r : Region) (c : RawClause) → In r → ClauseIn c → try_keeps_whole (moved r) (low c) ≡ try_keeps_whole r (high c)
  try_keeps_same r c p q = or_same (same_region (moved r) (try_of (low c))) (same_region r (try_of (high c))) (keeps_whole (moved r) (low c)) (keeps_whole r (high c)) (same_same r (try_of (high c)) p q.tries) (keeps_same r c p q)

  in_same : (r : Region) (c : RawClause) → In r → ClauseIn c → is_in (moved r) (low c) ≡ is_in r (high c)
  in_same r c p q = and_same (holds (moved r) (try_of (low c))) (holds r (try_of (high c))) (holds (moved r) (handler_of (low c))) (holds r (handler_of (high c))) (holds_same r (try_of (high c)) p q.tries) (holds_same r (handler_of (high c)) p q.handles)

  inside_same : (c b : RawClause) → ClauseIn c → ClauseIn b → is_inside (low c) (low b) ≡ is_inside (high c) (high b)
  inside_same c b p q =
      or_same (not (same_region (try_of (low b)) (try_of (low c))) && is_in (try_of (low b)) (low c)) (not (same_region (try_of (high b)) (try_of (high c))) && is_in (try_of (high b)) (high c)) (is_in (handler_of (low b)) (low c)) (is_in (handler_of (high b)) (high c))
      (and_same (not (same_region (try_of (low b)) (try_of (low c)))) (not (same_region (try_of (high b)) (try_of (high c)))) (is_in (try_of (low b)) (low c)) (is_in (try_of (high b)) (high c)) (ap not (same_same (try_of (high b)) (try_of (high c)) q.tries p.tries)) (in_same (try_of (high b)) c q.tries p))
      (in_same (handler_of (high b)) c q.handles p)

  well_same : (b c : RawClause) → ClauseIn b → ClauseIn c → lies_well (low b) (low c) ≡ lies_well (high b) (high c)
  well_same b c p q =
      let n1 = nest_same (try_of (high b)) (try_of (high c)) p.tries q.tries in
      let n2 = nest_same (try_of (high b)) (handler_of (high c)) p.tries q.handles in
      let n3 = nest_same (handler_of (high b)) (try_of (high c)) p.handles q.tries in
      let n4 = nest_same (handler_of (high b)) (handler_of (high c)) p.handles q.handles in
      let k1 = try_keeps_same (try_of (high b)) c p.tries q in
      let k2 = keeps_same (handler_of (high b)) c p.handles q in
      let k3 = try_keeps_same (try_of (high c)) b q.tries p in
      let k4 = keeps_same (handler_of (high c)) b q.handles p in
      let i1 = ap not (inside_same c b q p) in
      let e1 = ap not (eq b.start c.start p.handles.from q.handles.from) in
      all10 (nest (try_of (low b)) (try_of (low c))) _ (nest (try_of (low b)) (handler_of (low c))) _ (nest (handler_of (low b)) (try_of (low c))) _ (nest (handler_of (low b)) (handler_of (low c))) _ (try_keeps_whole (try_of (low b)) (low c)) _ (keeps_whole (handler_of (low b)) (low c)) _ (try_keeps_whole (try_of (low c)) (low b)) _ (keeps_whole (handler_of (low c)) (low b)) _ (not (is_inside (low c) (low b))) _ (not (nat_eq (place b.start) (place c.start))) _
      n1 n2 n3 n4 k1 k2 k3 k4 i1 e1
    where
      all10 : (a a' b b' c c' d d' e e' f f' g g' h h' i i' j j' : Bool) → a ≡ a' → b ≡ b' → c ≡ c' → d ≡ d' → e ≡ e' → f ≡ f' → g ≡ g' → h ≡ h' → i ≡ i' → j ≡ j'
          → (a && (b && (c && (d && (e && (f && (g && (h && (i && j))))))))) ≡ (a' && (b' && (c' && (d' && (e' && (f' && (g' && (h' && (i' && j')))))))))
      all10 a a' b b' c c' d d' e e' f f' g g' h h' i i' j j' pa pb pc pd pe pf pg ph pi pj = cc (pa, pb, pc, pd, pe, pf, pg, ph, pi, pj)

  proper_same : (c : RawClause) → ClauseIn c → is_proper (low c) ≡ is_proper (high c)
  proper_same c p =
      and_same (nat_lt (place c.try_start) (place c.try_end)) (nat_lt c.try_start c.try_end) (nat_lt (place c.start) (place c.end) && not (overlap (try_of (low c)) (handler_of (low c)))) (nat_lt c.start c.end && not (overlap (try_of (high c)) (handler_of (high c)))) (lt c.try_start c.try_end p.tries.from p.tries.to)
      (and_same (nat_lt (place c.start) (place c.end)) (nat_lt c.start c.end) (not (overlap (try_of (low c)) (handler_of (low c)))) (not (overlap (try_of (high c)) (handler_of (high c)))) (lt c.start c.end p.handles.from p.handles.to) (ap not (overlap_same (try_of (high c)) (handler_of (high c)) p.tries p.handles)))

  all_well : (b : RawClause) (cs : List RawClause) → ClauseIn b → Each ClauseIn cs → list_all (lies_well (low b)) (map regions_of (map (clause_to k place) cs)) ≡ list_all (lies_well (high b)) (map regions_of cs)
  all_well b [] p h = refl
  all_well b (c ∷ cs) p h = and_same (lies_well (low b) (low c)) (lies_well (high b) (high c)) (list_all (lies_well (low b)) (map regions_of (map (clause_to k place) cs))) (list_all (lies_well (high b)) (map regions_of cs)) (well_same b c p h.0) (all_well b cs p h.1)

  lie_same : (cs : List RawClause) → Each ClauseIn cs → lie_well (map regions_of (map (clause_to k place) cs)) ≡ lie_well (map regions_of cs)
  lie_same [] h = refl
  lie_same (c ∷ cs) h =
      and_same (is_proper (low c)) (is_proper (high c)) (list_all (lies_well (low c)) (map regions_of (map (clause_to k place) cs)) && lie_well (map regions_of (map (clause_to k place) cs))) (list_all (lies_well (high c)) (map regions_of cs) && lie_well (map regions_of cs)) (proper_same c h.0)
      (and_same (list_all (lies_well (low c)) (map regions_of (map (clause_to k place) cs))) (list_all (lies_well (high c)) (map regions_of cs)) (lie_well (map regions_of (map (clause_to k place) cs))) (lie_well (map regions_of cs)) (all_well c cs h.0 h.1) (lie_same cs h.1))

  -- ---- in code up to its end

  all_in : (n : ℕ) (cs : List RawClause) → B n → Each ClauseIn cs → list_all (lies_in (place n)) (map (clause_to k place) cs) ≡ list_all (lies_in n) cs
  all_in n [] b h = refl
  all_in n (c ∷ cs) b h =
      and_same (lies_in (place n) (clause_to k place c)) (lies_in n c) (list_all (lies_in (place n)) (map (clause_to k place) cs)) (list_all (lies_in n) cs)
      (and_same (is_known_kind (kind_to k c.kind) && nat_le (place c.try_end) (place n)) (is_known_kind c.kind && nat_le c.try_end n) (nat_le (place c.end) (place n)) (nat_le c.end n)
      (and_same (is_known_kind (kind_to k c.kind)) (is_known_kind c.kind) (nat_le (place c.try_end) (place n)) (nat_le c.try_end n) (known_same k c.kind) (le c.try_end n h.0.tries.to b))
      (le c.end n h.0.handles.to b))
      (all_in n cs b h.1)

  bounds : (cs : List RawClause) → Each (ClauseSpells (pieces is)) cs → Each ClauseIn cs
  bounds [] h = tt
  bounds (c ∷ cs) h = (record { tries = record { from = h.0.try_start; to = h.0.try_end }; handles = record { from = h.0.start; to = h.0.end } }, bounds cs h.1)

  pub nest_law : (cs : List RawClause) → Each (ClauseSpells (pieces is)) cs → clauses_nest (place (long_end (pieces is))) (map (clause_to k place) cs) ≡ clauses_nest (long_end (pieces is)) cs
  nest_law cs h =
      and_same (list_all (lies_in (place (long_end (pieces is)))) (map (clause_to k place) cs)) (list_all (lies_in (long_end (pieces is))) cs) (lie_well (map regions_of (map (clause_to k place) cs))) (lie_well (map regions_of cs)) (all_in (long_end (pieces is)) cs (end_bound is) (bounds cs h)) (lie_same cs (bounds cs h))
