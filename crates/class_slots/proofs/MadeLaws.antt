-- The nearest class above of which objects are made, a step at a time; what is reached to before it is reached.
use Rattle.std.proofs.Common.{◌≡◌, ⊎_elim, ℕ, zero, suc, ◌-◌, Bool, true, false, cond, List, [], ◌∷◌, ◌++◌, Option, Some, None, refl, ap, ◌∙◌, arith}
use Rattle.std.specs.Prelude.{◌||◌, ◌&&◌, not, if◌then◌else◌, slice_get, unwrap_or}
use Rattle.std.specs.List.{find, list_any}
use Rattle.std.specs.Option.{option_map}
use Rattle.std.proofs.lemmas.Bool.{or_cases}
use Rattle.machine.specs.Data.{Id, id_eq}
use Rattle.machine.specs.Throw.{on_some}
use Rattle.classes.specs.Classes.{Classes}
use Rattle.classes.specs.Queries.{reaches, listed, superclass_of, interfaces_of, parents, chain_within}
use Rattle.class_rules.specs.Facts.{is_reference_class}
use Rattle.class_rules.specs.Rules.{holds_some}
use Rattle.class_table.specs.declared.rows.ClassRow.{ClassRow}
use Rattle.class_table.specs.declared.rows.FileRows.{FileRows}
use Rattle.class_table.specs.declared.rows.ClassTable.{ClassTable}
use Rattle.class_table.specs.Seen.{classes_seen, row_seen}
use Rattle.class_queries.specs.Found.{found_row}
use Rattle.class_rules.proofs.Ways.{any_at, at_any, or_left, or_right}
use Rattle.class_reach.specs.Until.{parents_until, until}
use Rattle.class_slots.specs.Added.{is_made, has_objects}

-- ---- ways from class to class

module _ (next : Id → List Id) where
  pub reach_here : (n : ℕ) (a b : Id) → id_eq a b ≡ true → reaches n next a b ≡ true
  reach_here zero a b e = e
  reach_here (suc n) a b e = or_left (id_eq a b) (list_any (λ c. reaches n next c b) (next a)) e

  pub reach_on : (n i : ℕ) (a b c : Id) → slice_get (next a) i ≡ Some c → reaches n next c b ≡ true → reaches (suc n) next a b ≡ true
  reach_on n i a b c at r = or_right (id_eq a b) (list_any (λ d. reaches n next d b) (next a)) (at_any (λ d. reaches n next d b) (next a) i c at r)

-- ---- classes of which objects are made

module _ (cs : Classes) where
  -- of a class and those above it, so many steps up
  abbrev pub made_within : ℕ → Id → Option Id
  made_within n c = find (has_objects cs) (chain_within n cs c)

  one_class : (c : Id) (b : Bool) → has_objects cs c ≡ b → (up : List Id) → find (has_objects cs) (c ∷ up) ≡ cond b (Some c) (find (has_objects cs) up)
  one_class c b e up = ap (λ t. cond t (Some c) (find (has_objects cs) up)) e

  pub made_here : (n : ℕ) (c : Id) → has_objects cs c ≡ true → made_within n c ≡ Some c
  made_here zero c e = one_class c true e []
  made_here (suc n) c e = one_class c true e (unwrap_or (option_map (chain_within n cs) (superclass_of cs c)) [])

  pub made_ends : (c : Id) → has_objects cs c ≡ false → made_within zero c ≡ None
  made_ends c e = one_class c false e []

  pub made_top : (n : ℕ) (c : Id) → has_objects cs c ≡ false → superclass_of cs c ≡ None → made_within n c ≡ None
  made_top zero c e s = made_ends c e
  made_top (suc n) c e s = one_class c false e (unwrap_or (option_map (chain_within n cs) (superclass_of cs c)) []) ∙ ap (λ o. find (has_objects cs) (unwrap_or (option_map (chain_within n cs) o) [])) s

  pub made_on : (n : ℕ) (c next : Id) → has_objects cs c ≡ false → (n ≡ 0 → ⊥) → superclass_of cs c ≡ Some next → made_within n c ≡ made_within (n - 1) next
  made_on zero c next e more s = absurd (more refl)
  made_on (suc n) c next e more s =
      let less : n ≡ suc n - 1 = omega arith in
      one_class c false e (unwrap_or (option_map (chain_within n cs) (superclass_of cs c)) [])
      ∙ ap (λ o. find (has_objects cs) (unwrap_or (option_map (chain_within n cs) o) [])) s
      ∙ ap (λ k. made_within k next) less

  -- ---- where steps to before a class lead, steps lead

  parent_until : (top : Option Id) (c : Id) (i : ℕ) (z : Id) → slice_get (parents_until cs top c) i ≡ Some z → (j : ℕ) × (slice_get (parents cs c) j ≡ Some z)
  parent_until None c i z at = (i, at)
  parent_until (Some top) c i z at = by_super (superclass_of cs c) at
    where
      by_super : (o : Option Id) → slice_get (listed (until (Some top) o) ++ interfaces_of cs c) i ≡ Some z → (j : ℕ) × (slice_get (listed o ++ interfaces_of cs c) j ≡ Some z)
      by_super None h = (i, h)
      by_super (Some d) h = by (id_eq d top) h
        where
          by : (b : Bool) → slice_get (listed (if b then None else Some d) ++ interfaces_of cs c) i ≡ Some z → (j : ℕ) × (slice_get (d ∷ interfaces_of cs c) j ≡ Some z)
          by true h = (suc i, h)
          by false h = (i, h)

  pub reach_less : (top : Option Id) (n : ℕ) (a b : Id) → reaches n (parents_until cs top) a b ≡ true → reaches n (parents cs) a b ≡ true
  reach_less top zero a b r = r
  reach_less top (suc n) a b r =
      ⊎_elim (λ same. reach_here (parents cs) (suc n) a b same)
      (λ on.
      let w = any_at (λ c. reaches n (parents_until cs top) c b) (parents_until cs top a) on in
      let p = parent_until top a w.0 w.1 w.2 in
      reach_on (parents cs) n p.0 a b w.1 p.1 (reach_less top n w.1 b w.3))
      (or_cases (id_eq a b) (list_any (λ c. reaches n (parents_until cs top) c b) (parents_until cs top a)) r)

-- whether objects are made of a class, by its row
module _ (t : ClassTable) (c : Id) where
  pub objects_found : has_objects (classes_seen t) c ≡ holds_some (found_row t c) (λ (r : ClassRow). not (r.is_interface || (r.is_abstract && is_reference_class (classes_seen t) c)))
  objects_found = go (slice_get t.files.items c.file)
    where
      in_file : (f : FileRows) (o : Option ClassRow) → holds_some (option_map (row_seen c.file f) o) (is_made (classes_seen t) c) ≡ holds_some o (λ (r : ClassRow). not (r.is_interface || (r.is_abstract && is_reference_class (classes_seen t) c)))
      in_file f None = refl
      in_file f (Some r) = refl

      go : (o : Option FileRows) → holds_some (on_some o (λ (f : FileRows). option_map (row_seen c.file f) (slice_get f.classes.items c.row))) (is_made (classes_seen t) c) ≡ holds_some (on_some o (λ (f : FileRows). slice_get f.classes.items c.row)) (λ (r : ClassRow). not (r.is_interface || (r.is_abstract && is_reference_class (classes_seen t) c)))
      go None = refl
      go (Some f) = in_file f (slice_get f.classes.items c.row)
