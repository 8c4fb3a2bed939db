-- A method is found in its class by its number.
use Rattle.std.proofs.Common.{◌≡◌, ◌∙◌, ◌⊎◌, inl, inr, ℕ, zero, suc, ◌+◌, ◌-◌, ◌<◌, ◌≤◌, Bool, cond, true, false, List, [], ◌∷◌, take, drop, Option, Some, None, refl, sym, ap, arith, eq-eqb}
use Rattle.std.specs.Prelude.{◌&&◌, ◌==◌, nat_le, nat_lt, slice_get, unwrap_or}
use Rattle.std.specs.List.{find}
use Rattle.std.specs.Option.{option_map}
use Rattle.std.proofs.lemmas.Bool.{cases_lt, le-leb, lt-leb, lt-ltb, le-ltb, ne_eqb, and_right}
use Rattle.machine.specs.Data.{id_eq}
use Rattle.machine.specs.Throw.{on_some}
use Rattle.classes.specs.Classes.{OwnMethod}
use Rattle.classes.specs.Queries.{method_at, methods_of}
use Rattle.assemblies.specs.Binding.{id_at, holds, numbered, range}
use Rattle.class_table.specs.declared.rows.ClassRow.{ClassRow}
use Rattle.class_table.specs.declared.rows.FileRows.{FileRows}
use Rattle.class_table.specs.declared.rows.MethodRow.{MethodRow}
use Rattle.class_table.specs.declared.rows.ClassTable.{ClassTable}
use Rattle.class_table.specs.Seen.{classes_seen, method_owner, method_seen, row_seen}
use Rattle.class_rules.specs.Rules.{holds_some, is_main}
use Rattle.class_queries.specs.Found.{found_row}
use Rattle.class_checks.specs.Entry.{entry_test, method_found}

differs : (file n row : ℕ) → (n ≡ row → ⊥) → id_eq (id_at file n) (id_at file row) ≡ false
differs file n row apart = and_right (file == file) (n == row) (ne_eqb n row apart)

equals : (file n row : ℕ) → n ≡ row → id_eq (id_at file n) (id_at file row) ≡ true
equals file n row same = ap (λ b. b && (n == row)) (eq-eqb file file refl) ∙ eq-eqb n row same

take_past : {A : Type 0} (n : ℕ) (xs : List A) (i : ℕ) → n ≤ i → slice_get (take n xs) i ≡ None
take_past zero xs i h = refl
take_past (suc n) [] i h = refl
take_past (suc n) (x ∷ xs) zero h = absurd (omega (arith, h))
take_past (suc n) (x ∷ xs) (suc i) h = take_past n xs i (omega (arith, h))

take_within : {A : Type 0} (n : ℕ) (xs : List A) (i : ℕ) → i < n → slice_get (take n xs) i ≡ slice_get xs i
take_within zero xs i h = absurd (omega (arith, h))
take_within (suc n) [] i h = refl
take_within (suc n) (x ∷ xs) zero h = refl
take_within (suc n) (x ∷ xs) (suc i) h = take_within n xs i (omega (arith, h))

get_drop : {A : Type 0} (first : ℕ) (xs : List A) (i : ℕ) → slice_get (drop first xs) i ≡ slice_get xs (first + i)
get_drop zero xs i = let same : i ≡ 0 + i = omega arith in ap (slice_get xs) same
get_drop (suc first) [] i = refl
get_drop (suc first) (y ∷ ys) i = let same : suc first + i ≡ suc (first + i) = omega arith in get_drop first ys i ∙ sym (ap (slice_get (y ∷ ys)) same)

module _ (file row : ℕ) where
  abbrev is_it : OwnMethod → Bool
  is_it m = id_eq m.id (id_at file row)

  behind : (xs : List MethodRow) (n : ℕ) → row < n → find is_it (numbered (method_seen file) n xs) ≡ None
  behind [] n h = refl
  behind (x ∷ xs) n h =
      ap (λ b. cond b (Some (method_seen file n x)) (find is_it (numbered (method_seen file) (suc n) xs))) (differs file n row (λ e. omega (arith, h, e))) ∙ behind xs (suc n) (omega (arith, h))

  ahead : (xs : List MethodRow) (n i : ℕ) → n + i ≡ row → find is_it (numbered (method_seen file) n xs) ≡ option_map (method_seen file row) (slice_get xs i)
  ahead [] n i e = refl
  ahead (x ∷ xs) n zero e =
      let same : n ≡ row = omega (arith, e) in
      ap (λ b. cond b (Some (method_seen file n x)) (find is_it (numbered (method_seen file) (suc n) xs))) (equals file n row same) ∙ ap (λ r. Some (method_seen file r x)) same
  ahead (x ∷ xs) n (suc i) e =
      ap (λ b. cond b (Some (method_seen file n x)) (find is_it (numbered (method_seen file) (suc n) xs))) (differs file n row (λ s. omega (arith, e, s))) ∙ ahead xs (suc n) i (omega (arith, e))

  in_range : (first count : ℕ) (xs : List MethodRow) (m : MethodRow) → slice_get xs row ≡ Some m → find is_it (numbered (method_seen file) first (range first count xs)) ≡ cond (nat_le first row && nat_lt row (first + count)) (Some (method_seen file row m)) None
  in_range first count xs m at = go (cases_lt row first)
    where
      flag : (a b : Bool) → nat_le first row ≡ a → nat_lt row (first + count) ≡ b → cond (nat_le first row && nat_lt row (first + count)) (Some (method_seen file row m)) None ≡ cond (a && b) (Some (method_seen file row m)) None
      flag a b p q = ap (λ x. cond (x && nat_lt row (first + count)) (Some (method_seen file row m)) None) p ∙ ap (λ x. cond (a && x) (Some (method_seen file row m)) None) q

      inside : first ≤ row → (row < first + count) ⊎ (first + count ≤ row) → find is_it (numbered (method_seen file) first (range first count xs)) ≡ cond (nat_le first row && nat_lt row (first + count)) (Some (method_seen file row m)) None
      inside low (inl high) =
          let there : first + (row - first) ≡ row = omega (arith, low) in
          ahead (range first count xs) first (row - first) there
          ∙ ap (option_map (method_seen file row)) (take_within count (drop first xs) (row - first) (omega (arith, low, high)) ∙ get_drop first xs (row - first) ∙ ap (slice_get xs) there ∙ at)
          ∙ sym (flag true true (le-leb first row low) (lt-ltb row (first + count) high))
      inside low (inr high) =
          let there : first + (row - first) ≡ row = omega (arith, low) in
          ahead (range first count xs) first (row - first) there
          ∙ ap (option_map (method_seen file row)) (take_past count (drop first xs) (row - first) (omega (arith, low, high)))
          ∙ sym (flag true false (le-leb first row low) (le-ltb row (first + count) high))

      go : (row < first) ⊎ (first ≤ row) → find is_it (numbered (method_seen file) first (range first count xs)) ≡ cond (nat_le first row && nat_lt row (first + count)) (Some (method_seen file row m)) None
      go (inl low) = behind (range first count xs) first low ∙ sym (ap (λ x. cond (x && nat_lt row (first + count)) (Some (method_seen file row m)) None) (lt-leb first row low))
      go (inr high) = inside high (cases_lt row (first + count))

  -- what the entry's method is, by the rows that the test looks at
  module _ (t : ClassTable) where
    without_owner : method_owner t (id_at file row) ≡ None → entry_test t (id_at file row) ≡ false
    without_owner e = ap (λ o. holds_some o (λ owner. holds_some (method_at (classes_seen t) (id_at file row)) (is_main (classes_seen t) owner))) e

    no_file : slice_get t.files.items file ≡ None → entry_test t (id_at file row) ≡ false
    no_file e = without_owner (ap (λ o. on_some o (λ (f : FileRows). on_some (slice_get f.methods.items row) (λ (x : MethodRow). option_map (id_at file) x.owner))) e)

    module _ (f : FileRows) (at : slice_get t.files.items file ≡ Some f) where
      owner_by : method_owner t (id_at file row) ≡ on_some (slice_get f.methods.items row) (λ (x : MethodRow). option_map (id_at file) x.owner)
      owner_by = ap (λ o. on_some o (λ (f : FileRows). on_some (slice_get f.methods.items row) (λ (x : MethodRow). option_map (id_at file) x.owner))) at

      no_method : slice_get f.methods.items row ≡ None → entry_test t (id_at file row) ≡ false
      no_method e = without_owner (owner_by ∙ ap (λ o. on_some o (λ (x : MethodRow). option_map (id_at file) x.owner)) e)

      module _ (m : MethodRow) (there : slice_get f.methods.items row ≡ Some m) where
        owner_is : method_owner t (id_at file row) ≡ option_map (id_at file) m.owner
        owner_is = owner_by ∙ ap (λ o. on_some o (λ (x : MethodRow). option_map (id_at file) x.owner)) there

        no_owner : m.owner ≡ None → entry_test t (id_at file row) ≡ false
        no_owner e = without_owner (owner_is ∙ ap (option_map (id_at file)) e)

        module _ (o : ℕ) (has : m.owner ≡ Some o) where
          owned : method_owner t (id_at file row) ≡ Some (id_at file o)
          owned = owner_is ∙ ap (option_map (id_at file)) has

          test_by : entry_test t (id_at file row) ≡ holds_some (find is_it (methods_of (classes_seen t) (id_at file o))) (is_main (classes_seen t) (id_at file o))
          test_by =
              ap (λ x. holds_some x (λ owner. holds_some (method_at (classes_seen t) (id_at file row)) (is_main (classes_seen t) owner))) owned
              ∙ ap (λ x. holds_some (on_some x (λ c. find is_it (methods_of (classes_seen t) c))) (is_main (classes_seen t) (id_at file o))) owned

          methods_by : methods_of (classes_seen t) (id_at file o) ≡ unwrap_or (option_map (λ k. k.methods) (option_map (row_seen file f) (slice_get f.classes.items o))) []
          methods_by = ap (λ x. unwrap_or (option_map (λ k. k.methods) (on_some x (λ (f : FileRows). option_map (row_seen file f) (slice_get f.classes.items o)))) []) at

          no_class : slice_get f.classes.items o ≡ None → entry_test t (id_at file row) ≡ false
          no_class e = test_by ∙ ap (λ ms. holds_some (find is_it ms) (is_main (classes_seen t) (id_at file o))) (methods_by ∙ ap (λ x. unwrap_or (option_map (λ k. k.methods) (option_map (row_seen file f) x)) []) e)

          by_flag : (b : Bool) → holds_some (cond b (Some (method_seen file row m)) None) (is_main (classes_seen t) (id_at file o)) ≡ (b && is_main (classes_seen t) (id_at file o) (method_seen file row m))
          by_flag true = refl
          by_flag false = refl

          whole_test : (k : ClassRow) → slice_get f.classes.items o ≡ Some k → entry_test t (id_at file row) ≡ ((nat_le k.first_method row && nat_lt row (k.first_method + k.method_count)) && is_main (classes_seen t) (id_at file o) (method_seen file row m))
          whole_test k e =
              test_by
              ∙ ap (λ ms. holds_some (find is_it ms) (is_main (classes_seen t) (id_at file o))) (methods_by ∙ ap (λ x. unwrap_or (option_map (λ k. k.methods) (option_map (row_seen file f) x)) []) e)
              ∙ ap (λ x. holds_some x (is_main (classes_seen t) (id_at file o))) (in_range k.first_method k.method_count f.methods.items m there)
              ∙ by_flag (nat_le k.first_method row && nat_lt row (k.first_method + k.method_count))

    -- the whole test, by the rows that are found
    abbrev by_class : MethodRow → ℕ → Option ClassRow → Bool
    by_class m o found = holds_some found (λ (k : ClassRow). holds k.first_method k.method_count row && is_main (classes_seen t) (id_at file o) (method_seen file row m))

    pub no_method_found : method_found t (id_at file row) ≡ None → entry_test t (id_at file row) ≡ false
    no_method_found e = go (slice_get t.files.items file) refl e
      where
        go : (o : Option FileRows) → slice_get t.files.items file ≡ o → on_some o (λ (f : FileRows). slice_get f.methods.items row) ≡ None → entry_test t (id_at file row) ≡ false
        go None at h = no_file at
        go (Some f) at h = no_method f at h

    method_tested : (m : MethodRow) → method_found t (id_at file row) ≡ Some m → entry_test t (id_at file row) ≡ holds_some m.owner (λ o. by_class m o (found_row t (id_at file o)))
    method_tested m e = go (slice_get t.files.items file) refl e
      where
        of_class : (f : FileRows) (at : slice_get t.files.items file ≡ Some f) (h : slice_get f.methods.items row ≡ Some m) (o : ℕ) → m.owner ≡ Some o → (x : Option ClassRow) → slice_get f.classes.items o ≡ x → entry_test t (id_at file row) ≡ by_class m o x
        of_class f at h o has None k = no_class f at m h o has k
        of_class f at h o has (Some c) k = whole_test f at m h o has c k

        of_owner : (f : FileRows) → slice_get t.files.items file ≡ Some f → slice_get f.methods.items row ≡ Some m → (o : Option ℕ) → m.owner ≡ o → entry_test t (id_at file row) ≡ holds_some o (λ o. by_class m o (found_row t (id_at file o)))
        of_owner f at h None has = no_owner f at m h has
        of_owner f at h (Some o) has =
            of_class f at h o has (slice_get f.classes.items o) refl
            ∙ sym (ap (λ x. by_class m o (on_some x (λ (f : FileRows). slice_get f.classes.items o))) at)

        go : (o : Option FileRows) → slice_get t.files.items file ≡ o → on_some o (λ (f : FileRows). slice_get f.methods.items row) ≡ Some m → entry_test t (id_at file row) ≡ holds_some m.owner (λ o. by_class m o (found_row t (id_at file o)))
        go None at h = cc h
        go (Some f) at h = of_owner f at h m.owner refl

    pub method_with : (m : MethodRow) → method_found t (id_at file row) ≡ Some m → (o : Option ℕ) → m.owner ≡ o → entry_test t (id_at file row) ≡ holds_some o (λ o. by_class m o (found_row t (id_at file o)))
    method_with m e o has = method_tested m e ∙ ap (λ o. holds_some o (λ o. by_class m o (found_row t (id_at file o)))) has
