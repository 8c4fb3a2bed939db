-- The virtual method of a name and a signature, where a class has but one method of them.
use Rattle.std.proofs.Common.{◌≡◌, ℕ, zero, suc, ◌+◌, ◌<◌, Bool, true, false, ◌&&◌, cond, List, [], ◌∷◌, take, drop, Option, Some, None, refl, sym, ap, ◌∙◌, subst, arith}
use Rattle.std.specs.Prelude.{slice_get, unwrap_or}
use Rattle.std.specs.List.{find}
use Rattle.std.specs.Option.{option_map}
use Rattle.std.proofs.lemmas.Bool.{and_parts, eqb-true}
use Rattle.std.proofs.Math.Bool.{and-false}
use Rattle.machine.specs.Data.{Id}
use Rattle.machine.specs.Texts.{same_text}
use Rattle.machine.specs.Throw.{on_some}
use Rattle.classes.specs.Classes.{Class, OwnMethod, Signature}
use Rattle.classes.specs.Queries.{is_named, own_virtual, methods_of, method_signature_eq}
use Rattle.assemblies.specs.Binding.{id_at, range}
use Rattle.assemblies.proofs.Belong.{some_map}
use Rattle.assemblies.proofs.Numbered.{get_numbered}
use Rattle.class_rules.proofs.Signatures.{method_signature_same}
use Rattle.class_rules.proofs.Slots.{found}
use Rattle.member_keys.specs.declared.keys.MemberKey.{MemberKey}
use Rattle.class_table.specs.declared.rows.ClassRow.{ClassRow}
use Rattle.class_table.specs.declared.rows.MethodRow.{MethodRow}
use Rattle.class_table.specs.declared.rows.FileRows.{FileRows}
use Rattle.class_table.specs.declared.rows.ClassTable.{ClassTable}
use Rattle.class_table.specs.Seen.{method_seen, row_seen, classes_seen}
use Rattle.member_search.specs.declared.sort.Sort.TheVariants.{Method}
use Rattle.member_search.specs.Shown.{key_shown, own_member}
use Rattle.member_search.proofs.SearchLaws.{own_method_is}
use Rattle.class_targets.specs.Owned.{method_found}
use Rattle.class_targets.specs.Virtual.{AreApart, IsKeyOf}
use Rattle.class_targets.proofs.RowLaws.{dropped_get}

-- ---- lists

pub find_none : (test : OwnMethod → Bool) (xs : List OwnMethod) → find test xs ≡ None → find (λ x. x.is_virtual && test x) xs ≡ None
find_none test [] e = refl
find_none test (x ∷ xs) e = go (test x) refl e (find_none test xs)
  where
    go : (b : Bool) → test x ≡ b → cond b (Some x) (find test xs) ≡ None → (find test xs ≡ None → find (λ y. y.is_virtual && test y) xs ≡ None) → cond (x.is_virtual && test x) (Some x) (find (λ y. y.is_virtual && test y) xs) ≡ None
    go true t h rest = absurd (cc h)
    go false t h rest = ap (λ b. cond b (Some x) (find (λ y. y.is_virtual && test y) xs)) (ap (λ b. x.is_virtual && b) t ∙ and-false x.is_virtual) ∙ rest h

pub find_virtual : (test : OwnMethod → Bool) (xs : List OwnMethod) (y : OwnMethod) → find test xs ≡ Some y → y.is_virtual ≡ true → find (λ x. x.is_virtual && test x) xs ≡ Some y
find_virtual test [] y e v = absurd (cc e)
find_virtual test (x ∷ xs) y e v = go (test x) refl e (λ h. find_virtual test xs y h v)
  where
    go : (b : Bool) → test x ≡ b → cond b (Some x) (find test xs) ≡ Some y → (find test xs ≡ Some y → find (λ z. z.is_virtual && test z) xs ≡ Some y) → cond (x.is_virtual && test x) (Some x) (find (λ z. z.is_virtual && test z) xs) ≡ Some y
    go true t h rest =
        let same : x ≡ y = cc h in
        ap (λ b. cond b (Some x) (find (λ z. z.is_virtual && test z) xs)) (ap (λ b. b && test x) (ap (λ (z : OwnMethod). z.is_virtual) same ∙ v) ∙ t) ∙ h
    go false t h rest = ap (λ b. cond b (Some x) (find (λ z. z.is_virtual && test z) xs)) (ap (λ b. x.is_virtual && b) t ∙ and-false x.is_virtual) ∙ rest h

-- none behind the first that passes does
none_passes : (test : OwnMethod → Bool) (xs : List OwnMethod) → ((j : ℕ) (z : OwnMethod) → slice_get xs j ≡ Some z → test z ≡ false) → find test xs ≡ None
none_passes test [] h = refl
none_passes test (x ∷ xs) h = ap (λ b. cond b (Some x) (find test xs)) (h 0 x refl) ∙ none_passes test xs (λ j z e. h (suc j) z e)

pub find_plain : (test : OwnMethod → Bool) (xs : List OwnMethod) (y : OwnMethod) → find test xs ≡ Some y → y.is_virtual ≡ false → ((i j : ℕ) (x z : OwnMethod) → i < j → slice_get xs i ≡ Some x → slice_get xs j ≡ Some z → test x ≡ true → test z ≡ false) → find (λ x. x.is_virtual && test x) xs ≡ None
find_plain test [] y e v apart = refl
find_plain test (x ∷ xs) y e v apart = go (test x) refl e (λ h. find_plain test xs y h v (λ i j a b below ea eb ta. apart (suc i) (suc j) a b (omega (arith, below)) ea eb ta))
  where
    go : (b : Bool) → test x ≡ b → cond b (Some x) (find test xs) ≡ Some y → (find test xs ≡ Some y → find (λ z. z.is_virtual && test z) xs ≡ None) → cond (x.is_virtual && test x) (Some x) (find (λ z. z.is_virtual && test z) xs) ≡ None
    go true t h rest =
        let same : x ≡ y = cc h in
        ap (λ b. cond b (Some x) (find (λ z. z.is_virtual && test z) xs)) (ap (λ b. b && test x) (ap (λ (z : OwnMethod). z.is_virtual) same ∙ v))
        ∙ find_none test xs (none_passes test xs (λ j z at. apart 0 (suc j) x z (omega arith) refl at t))
    go false t h rest = ap (λ b. cond b (Some x) (find (λ z. z.is_virtual && test z) xs)) (ap (λ b. x.is_virtual && b) t ∙ and-false x.is_virtual) ∙ rest h

-- ---- names

text_same : (a b : List ℕ) → same_text a b ≡ true → a ≡ b
text_same [] [] e = refl
text_same [] (y ∷ ys) e = absurd (cc e)
text_same (x ∷ xs) [] e = absurd (cc e)
text_same (x ∷ xs) (y ∷ ys) e =
    let both = and_parts _ (same_text xs ys) e in
    ap (λ z. z ∷ xs) (eqb-true x y both.0) ∙ ap (λ zs. y ∷ zs) (text_same xs ys both.1)

-- two methods of one name and signature have each other's
same_named : (name : List ℕ) (signature : Option Signature) (x y : OwnMethod) → is_named name signature x ≡ true → is_named name signature y ≡ true → is_named y.name y.signature x ≡ true
same_named name signature x y e f =
    let a = and_parts (same_text y.name name) (method_signature_eq y.signature signature) f in
    let s = method_signature_same y.signature signature a.1 in
    let name_is : y.name ≡ name = text_same y.name name a.0 in
    let signature_is : y.signature ≡ signature = s.1 ∙ sym s.2 in
    ap (λ n. is_named n y.signature x) name_is ∙ ap (λ o. is_named name o x) signature_is ∙ e

-- ---- a class

module _ (t : ClassTable) (apart : AreApart (classes_seen t)) (m : OwnMethod) (c : Id) where
  abbrev ms : List OwnMethod
  ms = methods_of (classes_seen t) c

  -- of the first one of the name and signature
  pub by_first : (o : Option OwnMethod) → find (is_named m.name m.signature) ms ≡ o → own_virtual (classes_seen t) m c ≡ on_some o (λ x. cond x.is_virtual (Some x) None)
  by_first None e = find_none (is_named m.name m.signature) ms e
  by_first (Some x) e = go x.is_virtual refl
    where
      of_class : (o : Option Class) → (classes_seen t).class c ≡ o → (i j : ℕ) (a b : OwnMethod) → i < j → slice_get ms i ≡ Some a → slice_get ms j ≡ Some b → is_named m.name m.signature a ≡ true → is_named m.name m.signature b ≡ true → ⊥
      of_class None h i j a b below ea eb ta tb =
          let empty : ms ≡ [] = ap (λ (o : Option Class). unwrap_or (option_map (λ (k : Class). k.methods) o) []) h in
          let gone : None ≡ Some a = sym (ap (λ xs. slice_get xs i) empty) ∙ ea in
          cc gone
      of_class (Some k) h i j a b below ea eb ta tb =
          let are : ms ≡ k.methods = ap (λ (o : Option Class). unwrap_or (option_map (λ (k : Class). k.methods) o) []) h in
          let no = apart c k i j a b h below (sym (ap (λ xs. slice_get xs i) are) ∙ ea) (sym (ap (λ xs. slice_get xs j) are) ∙ eb) in
          cc (sym no ∙ same_named m.name m.signature a b ta tb)

      pass : (b : Bool) → (b ≡ true → ⊥) → b ≡ false
      pass true h = absurd (h refl)
      pass false h = refl

      go : (b : Bool) → x.is_virtual ≡ b → own_virtual (classes_seen t) m c ≡ cond x.is_virtual (Some x) None
      go true v = find_virtual (is_named m.name m.signature) ms x e v ∙ sym (ap (λ b. cond b (Some x) None) v)
      go false v =
          find_plain (is_named m.name m.signature) ms x e v (λ i j a b below ea eb ta. pass (is_named m.name m.signature b) (λ tb. of_class ((classes_seen t).class c) refl i j a b below ea eb ta tb))
          ∙ sym (ap (λ b. cond b (Some x) None) v)

  -- a method of the class is that of its row
  pub is_row : (i : ℕ) (x : OwnMethod) → slice_get ms i ≡ Some x → (r : MethodRow) × (method_found t x.id ≡ Some r) × (x ≡ method_seen x.id.file x.id.row r)
  is_row i x e = by (slice_get t.files.items c.file) refl e
    where
      get_within : {A : Type 0} (count : ℕ) (xs : List A) (n : ℕ) (y : A) → slice_get (take count xs) n ≡ Some y → slice_get xs n ≡ Some y
      get_within zero xs n y h = absurd (cc h)
      get_within (suc count) [] n y h = absurd (cc h)
      get_within (suc count) (z ∷ zs) zero y h = h
      get_within (suc count) (z ∷ zs) (suc n) y h = get_within count zs n y h

      of_type : (f : FileRows) → slice_get t.files.items c.file ≡ Some f → (o : Option ClassRow) → slice_get (unwrap_or (option_map (λ (k : Class). k.methods) (option_map (row_seen c.file f) o)) []) i ≡ Some x → (r : MethodRow) × (method_found t x.id ≡ Some r) × (x ≡ method_seen x.id.file x.id.row r)
      of_type f here None h = absurd (cc h)
      of_type f here (Some k) h =
          let row = k.first_method + i in
          let p = some_map (method_seen c.file row) (slice_get (range k.first_method k.method_count f.methods.items) i) x (sym (get_numbered (method_seen c.file) k.first_method i (range k.first_method k.method_count f.methods.items)) ∙ h) in
          let there : slice_get f.methods.items row ≡ Some p.0 = sym (dropped_get k.first_method f.methods.items i) ∙ get_within k.method_count (drop k.first_method f.methods.items) i p.0 p.1 in
          let found : method_found t (id_at c.file row) ≡ Some p.0 = ap (λ o. on_some o (λ (g : FileRows). slice_get g.methods.items row)) here ∙ there in
          (p.0, subst (λ (z : OwnMethod). method_found t z.id ≡ Some p.0) p.2 found, subst (λ (z : OwnMethod). z ≡ method_seen z.id.file z.id.row p.0) p.2 refl)

      by : (o : Option FileRows) → slice_get t.files.items c.file ≡ o → slice_get (unwrap_or (option_map (λ (k : Class). k.methods) (on_some o (λ (f : FileRows). option_map (row_seen c.file f) (slice_get f.classes.items c.row)))) []) i ≡ Some x → (r : MethodRow) × (method_found t x.id ≡ Some r) × (x ≡ method_seen x.id.file x.id.row r)
      by None here h = absurd (cc h)
      by (Some f) here h = of_type f here (slice_get f.classes.items c.row) h

  -- what the index finds
  module _ (key : MemberKey) (is : IsKeyOf key m) where
    own_is : own_member Method t (key_shown key) c ≡ option_map (λ (x : OwnMethod). x.id) (find (is_named m.name m.signature) ms)
    own_is =
        own_method_is t key.name.now (key_shown key).signature c
        ∙ ap (λ n. option_map (λ (x : OwnMethod). x.id) (find (is_named n (key_shown key).signature) ms)) (sym is.name)
        ∙ ap (λ o. option_map (λ (x : OwnMethod). x.id) (find (is_named m.name o) ms)) (sym is.signature)

    none_found : own_member Method t (key_shown key) c ≡ None → find (is_named m.name m.signature) ms ≡ None
    none_found e = go (find (is_named m.name m.signature) ms) (sym own_is ∙ e)
      where
        go : (o : Option OwnMethod) → option_map (λ (x : OwnMethod). x.id) o ≡ None → o ≡ None
        go None h = refl
        go (Some x) h = absurd (cc h)

    pub no_own : own_member Method t (key_shown key) c ≡ None → own_virtual (classes_seen t) m c ≡ None
    no_own e = by_first None (none_found e)

    -- the row of what it finds is there
    at_row : (id : Id) → own_member Method t (key_shown key) c ≡ Some id → (r : MethodRow) × (method_found t id ≡ Some r) × (own_virtual (classes_seen t) m c ≡ cond r.is_virtual (Some (method_seen id.file id.row r)) None)
    at_row id e =
        let p = some_map (λ (x : OwnMethod). x.id) (find (is_named m.name m.signature) ms) id (sym own_is ∙ e) in
        let at = found (is_named m.name m.signature) ms p.0 p.1 in
        let r = is_row at.0 p.0 at.1 in
        let is_seen : p.0 ≡ method_seen id.file id.row r.0 = r.2 ∙ ap (λ (z : Id). method_seen z.file z.row r.0) p.2 in
        (r.0, ap (method_found t) (sym p.2) ∙ r.1, by_first (Some p.0) p.1 ∙ ap (λ (z : OwnMethod). cond z.is_virtual (Some z) None) is_seen)

    pub row_there : (id : Id) → own_member Method t (key_shown key) c ≡ Some id → method_found t id ≡ None → ⊥
    row_there id e gone = let r = at_row id e in let both : None ≡ Some r.0 = sym gone ∙ r.1 in cc both

    pub some_own : (id : Id) (r : MethodRow) → own_member Method t (key_shown key) c ≡ Some id → method_found t id ≡ Some r → own_virtual (classes_seen t) m c ≡ cond r.is_virtual (Some (method_seen id.file id.row r)) None
    some_own id r e here =
        let w = at_row id e in
        let both : Some w.0 ≡ Some r = sym w.1 ∙ here in
        let same : w.0 ≡ r = cc both in
        w.2 ∙ ap (λ (z : MethodRow). cond z.is_virtual (Some (method_seen id.file id.row z)) None) same
