-- A kept member has its type's number as owner.
use Rattle.std.proofs.Common.{◌≡◌, ⊎_elim, ℕ, zero, suc, ◌+◌, ◌-◌, ◌<◌, ◌≤◌, Bool, true, false, ◌&&◌, List, [], ◌∷◌, map, length, Option, Some, None, refl, sym, ap, ◌∙◌, subst, arith}
use Rattle.std.specs.Prelude.{if◌then◌else◌, nat_lt, nat_le, slice_get}
use Rattle.std.specs.Option.{option_map}
use Rattle.std.specs.List.{position}
use Rattle.std.proofs.lemmas.Bool.{lt-ltb, le-ltb, lt-leb, cases_lt}
use Rattle.std.proofs.lemmas.Option.{slice_get-map}
use Rattle.machine.specs.Data.{Id}
use Rattle.machine.specs.Throw.{on_some}
use Rattle.machine_rename.specs.Rename.{Renaming}
use Rattle.alike.proofs.Lists.{position_map}
use Rattle.alike.proofs.Programs.{le_law}
use Rattle.kept_rows.specs.Select.{select, below, rows, behind}
use Rattle.kept_rows.proofs.SelectLaws as kept_rows
use Rattle.assemblies.specs.Rows.{TypeRow, FieldRow, MethodRow, Assembly}
use Rattle.assemblies.specs.Binding.{id_at, numbered, holds, method_owner, field_owner}
use Rattle.assemblies.specs.Chosen.{Choice, first_of, type_row_to, field_row_to, method_row_to, chosen, chosen_set, renaming, count_of}
use Rattle.assemblies.specs.Closed.{Closed}
use Rattle.assemblies.proofs.Binds.{chosen_at}
use Rattle.assemblies.proofs.Back.{get_past, get_there, count_law, IsRow, number_view, past_selected}
use Rattle.assemblies.proofs.Signatures.{type_back}
use Rattle.assemblies.proofs.Numbered.{below_next, get_numbered}

pub below_add : (keep : ℕ → Bool) (first count : ℕ) → below keep first + below (behind first keep) count ≡ below keep (first + count)
below_add keep zero count = let same : 0 + count ≡ count = omega arith in let zero_is : 0 + below keep count ≡ below keep count = omega arith in zero_is ∙ sym (ap (below keep) same)
below_add keep (suc first) count =
    let same : suc first + count ≡ suc (first + count) = omega arith in
    go (keep 0) (below_add (λ k. keep (suc k)) first count) ∙ sym (ap (below keep) same)
  where
    go : (b : Bool) → below (λ k. keep (suc k)) first + below (behind first (λ k. keep (suc k))) count ≡ below (λ k. keep (suc k)) (first + count) → (if b then suc (below (λ k. keep (suc k)) first) else below (λ k. keep (suc k)) first) + below (behind first (λ k. keep (suc k))) count ≡ (if b then suc (below (λ k. keep (suc k)) (first + count)) else below (λ k. keep (suc k)) (first + count))
    go true e = omega (arith, e)
    go false e = e

grows_with : (keep : ℕ → Bool) (m n : ℕ) → m ≤ n → below keep m ≤ below keep n
grows_with keep m n h = let whole : m + (n - m) ≡ n = omega arith in let sum = below_add keep m (n - m) ∙ ap (below keep) whole in omega (arith, sum)

below_lt : (keep : ℕ → Bool) (n m : ℕ) → keep n ≡ true → nat_lt (below keep n) (below keep m) ≡ nat_lt n m
below_lt keep n m k =
    ⊎_elim
    (λ lt.
    let next : below keep (suc n) ≡ suc (below keep n) = below_next keep n ∙ ap (λ (c : Bool). if c then suc (below keep n) else below keep n) k in
    let up = grows_with keep (suc n) m lt in
    lt-ltb (below keep n) (below keep m) (omega (arith, next, up)) ∙ sym (lt-ltb n m lt))
    (λ le. le-ltb (below keep n) (below keep m) (grows_with keep m n le) ∙ sym (le-ltb n m le))
    (cases_lt n m)

pub holds_law : (keep : ℕ → Bool) (first count n : ℕ) → keep n ≡ true → holds (below keep first) (below (behind first keep) count) (below keep n) ≡ holds first count n
holds_law keep first count n k =
    ap (λ b. b && nat_lt (below keep n) (below keep first + below (behind first keep) count)) (le_law first n (below keep first) (below keep n) (below_lt keep n first k))
    ∙ ap (λ m. nat_le first n && nat_lt (below keep n) m) (below_add keep first count)
    ∙ ap (λ b. nat_le first n && b) (below_lt keep n (first + count) k)

and_false : (b : Bool) → (b && false) ≡ false
and_false true = refl
and_false false = refl

-- a range without rows holds none, wherever it is from
holds_none : (first n : ℕ) → holds first 0 n ≡ false
holds_none first n =
    ⊎_elim
    (λ lt. ap (λ b. b && nat_lt n (first + 0)) (lt-leb first n lt))
    (λ le. ap (λ b. nat_le first n && b) (le-ltb n (first + 0) (omega (arith, le))) ∙ and_false (nat_le first n))
    (cases_lt n first)

holds_first : (first count n : ℕ) → holds (first_of first count) count n ≡ holds first count n
holds_first first zero n = holds_none 0 n ∙ sym (holds_none first n)
holds_first first (suc k) n = refl

pub chosen_holds : (keep : ℕ → Bool) (first count n : ℕ) → keep n ≡ true → holds (first_of (below keep first) (below (behind first keep) count)) (below (behind first keep) count) (below keep n) ≡ holds first count n
chosen_holds keep first count n k = holds_first (below keep first) (below (behind first keep) count) (below keep n) ∙ holds_law keep first count n k

module _ (keep : ℕ → Choice) (ps : List Assembly) (size more : ℕ) (closed : Closed size keep ps) (grows : size ≤ more) where
  abbrev cs : List Assembly
  cs = chosen_set keep ps

  abbrev r : Renaming
  r = renaming keep ps

  -- the type in whose range a kept member lies
  found : (f : ℕ) (p : Assembly) (test : TypeRow → Bool) (low_test : TypeRow → Bool) → slice_get ps f ≡ Some p → ((t : TypeRow) → low_test (type_row_to (keep f) t) ≡ test t) → ((k : ℕ) → position test p.types ≡ Some k → (keep f).types k ≡ true) → option_map (id_at f) (position test p.types) ≡ option_map r.type (option_map (id_at f) (position low_test (map (type_row_to (keep f)) (select (keep f).types p.types))))
  found f p test low_test at same kept =
      go (position test p.types) refl
      ∙ sym (ap (λ o. option_map r.type (option_map (id_at f) o)) (position_map (type_row_to (keep f)) low_test test (select (keep f).types p.types) same))
    where
      go : (o : Option ℕ) → position test p.types ≡ o → option_map (id_at f) (position test p.types) ≡ option_map r.type (option_map (id_at f) (position test (select (keep f).types p.types)))
      go None e = ap (option_map (id_at f)) e ∙ sym (ap (λ o. option_map r.type (option_map (id_at f) o)) (kept_rows.missing (keep f).types test p.types e))
      go (Some k) e =
          let w = kept_rows.passes test p.types k e in
          ap (option_map (id_at f)) e
          ∙ sym (ap (λ o. option_map r.type (option_map (id_at f) o)) (kept_rows.first (keep f).types test p.types k e (kept k e)) ∙ ap Some (type_back keep ps size more closed grows (id_at f k) p w.0 at w.1 (kept k e)))

  abbrev low_methods : ℕ → Assembly → List MethodRow
  low_methods f p = select (keep f).methods (numbered (method_row_to (keep f)) 0 p.methods)

  abbrev in_methods : ℕ → List TypeRow → List MethodRow → ℕ → Option Id
  in_methods f types methods n =
      on_some (slice_get methods n) (λ x. option_map (id_at f) (position (λ (t : TypeRow). holds t.first_method t.method_count n) types))

  numbered_length : {A B : Type 0} (make : ℕ → A → B) (n : ℕ) (xs : List A) → length (numbered make n xs) ≡ length xs
  numbered_length make n [] = refl
  numbered_length make n (x ∷ xs) = ap suc (numbered_length make (suc n) xs)

  pub method_owner_law : (c : Id) → method_owner ps (r.method c) ≡ option_map r.type (method_owner cs c)
  method_owner_law c = go (slice_get ps c.file) refl
    where
      low_is : (p : Assembly) → slice_get ps c.file ≡ Some p → method_owner cs c ≡ in_methods c.file (map (type_row_to (keep c.file)) (select (keep c.file).types p.types)) (low_methods c.file p) c.row
      low_is p at = ap (λ o. on_some o (λ (q : Assembly). in_methods c.file q.types q.methods c.row)) (chosen_at keep ps c.file ∙ ap (option_map (chosen (keep c.file))) at)

      there : (p : Assembly) → slice_get ps c.file ≡ Some p → IsRow (keep c.file).methods (count_of (λ (q : Assembly). q.methods) ps c.file) c.row → method_owner ps (r.method c) ≡ option_map r.type (method_owner cs c)
      there p at w =
          let x = get_there p.methods w.row (subst (λ m. w.row < m) (count_law (λ (q : Assembly). q.methods) ps c.file p at) w.within) in
          ap (λ j. method_owner ps (id_at c.file j)) w.back
          ∙ ap (λ o. on_some o (λ (q : Assembly). in_methods c.file q.types q.methods w.row)) at
          ∙ ap (λ o. on_some o (λ y. option_map (id_at c.file) (position (λ (t : TypeRow). holds t.first_method t.method_count w.row) p.types))) x.1
          ∙ found c.file p (λ (t : TypeRow). holds t.first_method t.method_count w.row) (λ (t : TypeRow). holds t.first_method t.method_count (below (keep c.file).methods w.row)) at
          (λ t. chosen_holds (keep c.file).methods t.first_method t.method_count w.row w.kept) (λ k e. closed.method_type c.file w.row k p at w.kept e)
          ∙ sym (ap (option_map r.type)
          (low_is p at
          ∙ ap (in_methods c.file (map (type_row_to (keep c.file)) (select (keep c.file).types p.types)) (low_methods c.file p)) (sym w.number)
          ∙ ap (λ o. on_some o (λ y. option_map (id_at c.file) (position (λ (t : TypeRow). holds t.first_method t.method_count (below (keep c.file).methods w.row)) (map (type_row_to (keep c.file)) (select (keep c.file).types p.types)))))
          (kept_rows.there (keep c.file).methods (numbered (method_row_to (keep c.file)) 0 p.methods) w.row w.kept ∙ get_numbered (method_row_to (keep c.file)) 0 w.row p.methods ∙ ap (option_map (method_row_to (keep c.file) (0 + w.row))) x.1)))

      past : (p : Assembly) → slice_get ps c.file ≡ Some p → (length (rows (keep c.file).methods (count_of (λ (q : Assembly). q.methods) ps c.file)) ≤ c.row) × (count_of (λ (q : Assembly). q.methods) ps c.file ≤ (r.method c).row) → method_owner ps (r.method c) ≡ option_map r.type (method_owner cs c)
      past p at w =
          let len = count_law (λ (q : Assembly). q.methods) ps c.file p at in
          ap (λ o. on_some o (λ (q : Assembly). in_methods c.file q.types q.methods (r.method c).row)) at
          ∙ ap (λ o. on_some o (λ y. option_map (id_at c.file) (position (λ (t : TypeRow). holds t.first_method t.method_count (r.method c).row) p.types))) (get_past p.methods (r.method c).row (subst (λ m. m ≤ (r.method c).row) len w.1))
          ∙ sym (ap (option_map r.type) (low_is p at
          ∙ ap (λ o. on_some o (λ y. option_map (id_at c.file) (position (λ (t : TypeRow). holds t.first_method t.method_count c.row) (map (type_row_to (keep c.file)) (select (keep c.file).types p.types)))))
          (past_selected (keep c.file).methods (numbered (method_row_to (keep c.file)) 0 p.methods) c.row (subst (λ m. length (rows (keep c.file).methods m) ≤ c.row) (len ∙ sym (numbered_length (method_row_to (keep c.file)) 0 p.methods)) w.0))))

      go : (o : Option Assembly) → slice_get ps c.file ≡ o → method_owner ps (r.method c) ≡ option_map r.type (method_owner cs c)
      go None e =
          ap (λ o. on_some o (λ (q : Assembly). in_methods c.file q.types q.methods (r.method c).row)) e
          ∙ sym (ap (option_map r.type) (ap (λ o. on_some o (λ (q : Assembly). in_methods c.file q.types q.methods c.row)) (chosen_at keep ps c.file ∙ ap (option_map (chosen (keep c.file))) e)))
      go (Some p) e = ⊎_elim (there p e) (past p e) (number_view (keep c.file).methods (count_of (λ (q : Assembly). q.methods) ps c.file) c.row)

  abbrev in_fields : ℕ → List TypeRow → List FieldRow → ℕ → Option Id
  in_fields f types fields n = on_some (slice_get fields n) (λ x. option_map (id_at f) (position (λ (t : TypeRow). holds t.first_field t.field_count n) types))

  pub field_owner_law : (c : Id) → field_owner ps (r.field c) ≡ option_map r.type (field_owner cs c)
  field_owner_law c = go (slice_get ps c.file) refl
    where
      low_is : (p : Assembly) → slice_get ps c.file ≡ Some p → field_owner cs c ≡ in_fields c.file (map (type_row_to (keep c.file)) (select (keep c.file).types p.types)) (map (field_row_to (keep c.file)) (select (keep c.file).fields p.fields)) c.row
      low_is p at = ap (λ o. on_some o (λ (q : Assembly). in_fields c.file q.types q.fields c.row)) (chosen_at keep ps c.file ∙ ap (option_map (chosen (keep c.file))) at)

      there : (p : Assembly) → slice_get ps c.file ≡ Some p → IsRow (keep c.file).fields (count_of (λ (q : Assembly). q.fields) ps c.file) c.row → field_owner ps (r.field c) ≡ option_map r.type (field_owner cs c)
      there p at w =
          let x = get_there p.fields w.row (subst (λ m. w.row < m) (count_law (λ (q : Assembly). q.fields) ps c.file p at) w.within) in
          ap (λ j. field_owner ps (id_at c.file j)) w.back
          ∙ ap (λ o. on_some o (λ (q : Assembly). in_fields c.file q.types q.fields w.row)) at
          ∙ ap (λ o. on_some o (λ y. option_map (id_at c.file) (position (λ (t : TypeRow). holds t.first_field t.field_count w.row) p.types))) x.1
          ∙ found c.file p (λ (t : TypeRow). holds t.first_field t.field_count w.row) (λ (t : TypeRow). holds t.first_field t.field_count (below (keep c.file).fields w.row)) at
          (λ t. chosen_holds (keep c.file).fields t.first_field t.field_count w.row w.kept) (λ k e. closed.field_type c.file w.row k p at w.kept e)
          ∙ sym (ap (option_map r.type)
          (low_is p at
          ∙ ap (in_fields c.file (map (type_row_to (keep c.file)) (select (keep c.file).types p.types)) (map (field_row_to (keep c.file)) (select (keep c.file).fields p.fields))) (sym w.number)
          ∙ ap (λ o. on_some o (λ y. option_map (id_at c.file) (position (λ (t : TypeRow). holds t.first_field t.field_count (below (keep c.file).fields w.row)) (map (type_row_to (keep c.file)) (select (keep c.file).types p.types)))))
          (slice_get-map (field_row_to (keep c.file)) (select (keep c.file).fields p.fields) (below (keep c.file).fields w.row) ∙ ap (option_map (field_row_to (keep c.file))) (kept_rows.there (keep c.file).fields p.fields w.row w.kept ∙ x.1))))

      past : (p : Assembly) → slice_get ps c.file ≡ Some p → (length (rows (keep c.file).fields (count_of (λ (q : Assembly). q.fields) ps c.file)) ≤ c.row) × (count_of (λ (q : Assembly). q.fields) ps c.file ≤ (r.field c).row) → field_owner ps (r.field c) ≡ option_map r.type (field_owner cs c)
      past p at w =
          let len = count_law (λ (q : Assembly). q.fields) ps c.file p at in
          ap (λ o. on_some o (λ (q : Assembly). in_fields c.file q.types q.fields (r.field c).row)) at
          ∙ ap (λ o. on_some o (λ y. option_map (id_at c.file) (position (λ (t : TypeRow). holds t.first_field t.field_count (r.field c).row) p.types))) (get_past p.fields (r.field c).row (subst (λ m. m ≤ (r.field c).row) len w.1))
          ∙ sym (ap (option_map r.type) (low_is p at
          ∙ ap (λ o. on_some o (λ y. option_map (id_at c.file) (position (λ (t : TypeRow). holds t.first_field t.field_count c.row) (map (type_row_to (keep c.file)) (select (keep c.file).types p.types)))))
          (slice_get-map (field_row_to (keep c.file)) (select (keep c.file).fields p.fields) c.row ∙ ap (option_map (field_row_to (keep c.file))) (past_selected (keep c.file).fields p.fields c.row (subst (λ m. length (rows (keep c.file).fields m) ≤ c.row) len w.0)))))

      go : (o : Option Assembly) → slice_get ps c.file ≡ o → field_owner ps (r.field c) ≡ option_map r.type (field_owner cs c)
      go None e =
          ap (λ o. on_some o (λ (q : Assembly). in_fields c.file q.types q.fields (r.field c).row)) e
          ∙ sym (ap (option_map r.type) (ap (λ o. on_some o (λ (q : Assembly). in_fields c.file q.types q.fields c.row)) (chosen_at keep ps c.file ∙ ap (option_map (chosen (keep c.file))) e)))
      go (Some p) e = ⊎_elim (there p e) (past p e) (number_view (keep c.file).fields (count_of (λ (q : Assembly). q.fields) ps c.file) c.row)
