-- Where the ranges of methods follow one another, each method belongs to the class that lists it, and is found there by its number.
use Rattle.std.proofs.Common.{◌≡◌, ℕ, zero, suc, ◌+◌, ◌<◌, Bool, true, false, List, [], ◌∷◌, take, drop, Option, Some, None, refl, sym, ap, ◌∙◌, subst, arith, cond}
use Rattle.std.specs.Prelude.{◌&&◌, ◌==◌, nat_le, nat_lt, slice_get, unwrap_or}
use Rattle.std.specs.List.{find, position}
use Rattle.std.specs.Option.{option_map}
use Rattle.std.proofs.lemmas.Bool.{eq-eqb, ne_eqb, lt-ltb, le-ltb, le-leb}
use Rattle.machine.specs.Data.{Id, id_eq}
use Rattle.machine.specs.Throw.{on_some}
use Rattle.classes.specs.Classes.{OwnMethod, Class}
use Rattle.classes.specs.Queries.{methods_of, method_at}
use Rattle.kept_rows.proofs.SelectLaws.{position_step}
use Rattle.assemblies.specs.Rows.{TypeRow, MethodRow, Assembly}
use Rattle.assemblies.specs.Binding.{id_at, own_method, numbered, range, class_with, holds, method_owner, classes_of}
use Rattle.assemblies.specs.Ranges.{MethodsRise}
use Rattle.assemblies.proofs.Numbered.{get_numbered}

-- ---- lists

position_is : {A : Type 0} (test : A → Bool) (xs : List A) (n : ℕ) (x : A) → slice_get xs n ≡ Some x → test x ≡ true → ((i : ℕ) (y : A) → i < n → slice_get xs i ≡ Some y → test y ≡ false) → position test xs ≡ Some n
position_is test [] n x e t before = absurd (cc e)
position_is test (y ∷ ys) zero x e t before =
    let same : y ≡ x = cc e in
    position_step test y ys ∙ ap (λ b. cond b (Some 0) (option_map suc (position test ys))) (ap test same ∙ t)
position_is test (y ∷ ys) (suc n) x e t before =
    position_step test y ys
    ∙ (ap (λ b. cond b (Some 0) (option_map suc (position test ys))) (before 0 y (omega arith) refl)
    ∙ ap (option_map suc) (position_is test ys n x e t (λ i z below at. before (suc i) z (omega (arith, below)) at)))

get_take : {A : Type 0} (count : ℕ) (xs : List A) (i : ℕ) (x : A) → slice_get (take count xs) i ≡ Some x → (i < count) × (slice_get xs i ≡ Some x)
get_take zero xs i x e = absurd (cc e)
get_take (suc count) [] i x e = absurd (cc e)
get_take (suc count) (y ∷ ys) zero x e = (omega arith, e)
get_take (suc count) (y ∷ ys) (suc i) x e = let r = get_take count ys i x e in (let h = r.0 in omega (arith, h), r.1)

get_drop : {A : Type 0} (first : ℕ) (xs : List A) (i : ℕ) → slice_get (drop first xs) i ≡ slice_get xs (first + i)
get_drop zero xs i = let same : i ≡ 0 + i = omega arith in ap (slice_get xs) same
get_drop (suc first) [] i = refl
get_drop (suc first) (y ∷ ys) i = let same : suc first + i ≡ suc (first + i) = omega arith in get_drop first ys i ∙ sym (ap (slice_get (y ∷ ys)) same)

pub some_map : {A B : Type 0} (f : A → B) (o : Option A) (y : B) → option_map f o ≡ Some y → (x : A) × (o ≡ Some x) × (f x ≡ y)
some_map f None y e = absurd (cc e)
some_map f (Some x) y e = (x, refl, let same : f x ≡ y = cc e in same)

-- ---- the rows of a class

module _ (k : ℕ) (ps : List Assembly) where
  -- the row of the i-th method of a class
  pub record Listed (c : Id) (i : ℕ) (m : OwnMethod) : Type 0 where
    pub assembly : Assembly
    pub type : TypeRow
    pub row : MethodRow
    pub is_assembly : slice_get ps c.file ≡ Some assembly
    pub is_type : slice_get assembly.types c.row ≡ Some type
    pub below : i < type.method_count
    pub is_row : slice_get assembly.methods (type.first_method + i) ≡ Some row
    pub is : own_method k ps c.file (type.first_method + i) row ≡ m

  pub listed : (c : Id) (i : ℕ) (m : OwnMethod) → slice_get (methods_of (classes_of k ps) c) i ≡ Some m → Listed c i m
  listed c i m e = by (slice_get ps c.file) refl e
    where
      of_type : (p : Assembly) → slice_get ps c.file ≡ Some p → (o : Option TypeRow) → slice_get p.types c.row ≡ o → slice_get (unwrap_or (option_map (λ (z : Class). z.methods) (option_map (class_with k ps c.file p) o)) []) i ≡ Some m → Listed c i m
      of_type p here None there h = absurd (cc h)
      of_type p here (Some t) there h =
          let f = some_map (own_method k ps c.file (t.first_method + i)) (slice_get (range t.first_method t.method_count p.methods) i) m (sym (get_numbered (own_method k ps c.file) t.first_method i (range t.first_method t.method_count p.methods)) ∙ h) in
          let r = get_take t.method_count (drop t.first_method p.methods) i f.0 f.1 in
          record { assembly = p; type = t; row = f.0; is_assembly = here; is_type = there; below = r.0; is_row = sym (get_drop t.first_method p.methods i) ∙ r.1; is = f.2 }

      by : (o : Option Assembly) → slice_get ps c.file ≡ o → slice_get (unwrap_or (option_map (λ (z : Class). z.methods) (on_some o (λ p. option_map (class_with k ps c.file p) (slice_get p.types c.row)))) []) i ≡ Some m → Listed c i m
      by None here h = absurd (cc h)
      by (Some p) here h = of_type p here (slice_get p.types c.row) refl h

  -- of rows with rising numbers, that of the number
  by_number : (file n : ℕ) (xs : List MethodRow) (i : ℕ) (m : OwnMethod) → slice_get (numbered (own_method k ps file) n xs) i ≡ Some m → find (λ z. id_eq z.id m.id) (numbered (own_method k ps file) n xs) ≡ Some m
  by_number file n [] i m e = absurd (cc e)
  by_number file n (x ∷ xs) zero m e =
      let same : own_method k ps file n x ≡ m = cc e in
      let here : id_eq (id_at file n) m.id ≡ true = subst (λ (z : OwnMethod). id_eq (id_at file n) z.id ≡ true) same (ap (λ b. b && (n == n)) (eq-eqb file file refl) ∙ eq-eqb n n refl) in
      ap (λ b. cond b (Some (own_method k ps file n x)) (find (λ z. id_eq z.id m.id) (numbered (own_method k ps file) (suc n) xs))) here ∙ ap Some same
  by_number file n (x ∷ xs) (suc i) m e =
      let r = some_map (own_method k ps file (suc n + i)) (slice_get xs i) m (sym (get_numbered (own_method k ps file) (suc n) i xs) ∙ e) in
      let apart : id_eq (id_at file n) m.id ≡ false = subst (λ (z : OwnMethod). id_eq (id_at file n) z.id ≡ false) r.2 (ap (λ b. b && (n == suc n + i)) (eq-eqb file file refl) ∙ ne_eqb n (suc n + i) (λ same. omega (arith, same))) in
      ap (λ b. cond b (Some (own_method k ps file n x)) (find (λ z. id_eq z.id m.id) (numbered (own_method k ps file) (suc n) xs))) apart ∙ by_number file (suc n) xs i m e

  module _ (rise : (f : ℕ) (p : Assembly) → slice_get ps f ≡ Some p → MethodsRise p) where
    pub owner : (c : Id) (i : ℕ) (m : OwnMethod) → slice_get (methods_of (classes_of k ps) c) i ≡ Some m → method_owner ps m.id ≡ Some c
    owner c i m e = subst (λ (z : OwnMethod). method_owner ps z.id ≡ Some c) l.is at
      where
        l : Listed c i m
        l = listed c i m e

        row : ℕ
        row = l.type.first_method + i

        owns : TypeRow → Bool
        owns t = holds t.first_method t.method_count row

        mine : owns l.type ≡ true
        mine = ap (λ b. b && nat_lt row (l.type.first_method + l.type.method_count)) (le-leb l.type.first_method row (omega arith)) ∙ lt-ltb row (l.type.first_method + l.type.method_count) (let h = l.below in omega (arith, h))

        and_false : (b : Bool) → (b && false) ≡ false
        and_false true = refl
        and_false false = refl

        earlier : (j : ℕ) (t : TypeRow) → j < c.row → slice_get l.assembly.types j ≡ Some t → owns t ≡ false
        earlier j t below there =
            let up = (rise c.file l.assembly l.is_assembly).rise j c.row t l.type below there l.is_type in
            ap (λ b. nat_le t.first_method row && b) (le-ltb row (t.first_method + t.method_count) (omega (arith, up))) ∙ and_false (nat_le t.first_method row)

        at : method_owner ps (id_at c.file row) ≡ Some c
        at =
            ap (λ o. on_some o (λ (p : Assembly). on_some (slice_get p.methods row) (λ x. option_map (id_at c.file) (position (λ (t : TypeRow). holds t.first_method t.method_count row) p.types)))) l.is_assembly
            ∙ (ap (λ o. on_some o (λ (x : MethodRow). option_map (id_at c.file) (position owns l.assembly.types))) l.is_row
            ∙ ap (option_map (id_at c.file)) (position_is owns l.assembly.types c.row l.type l.is_type mine earlier))

    pub entry : (c : Id) (i : ℕ) (m : OwnMethod) → slice_get (methods_of (classes_of k ps) c) i ≡ Some m → method_at (classes_of k ps) m.id ≡ Some m
    entry c i m e =
        ap (λ o. on_some o (λ c. find (λ z. id_eq z.id m.id) (methods_of (classes_of k ps) c))) (owner c i m e) ∙ by (slice_get ps c.file) refl e
      where
        of_type : (p : Assembly) (o : Option TypeRow) → slice_get (unwrap_or (option_map (λ (z : Class). z.methods) (option_map (class_with k ps c.file p) o)) []) i ≡ Some m → find (λ z. id_eq z.id m.id) (unwrap_or (option_map (λ (z : Class). z.methods) (option_map (class_with k ps c.file p) o)) []) ≡ Some m
        of_type p None h = absurd (cc h)
        of_type p (Some t) h = by_number c.file t.first_method (range t.first_method t.method_count p.methods) i m h

        by : (o : Option Assembly) → slice_get ps c.file ≡ o → slice_get (unwrap_or (option_map (λ (z : Class). z.methods) (on_some o (λ p. option_map (class_with k ps c.file p) (slice_get p.types c.row)))) []) i ≡ Some m → find (λ z. id_eq z.id m.id) (methods_of (classes_of k ps) c) ≡ Some m
        by None here h = absurd (cc h)
        by (Some p) here h =
            ap (λ o. find (λ z. id_eq z.id m.id) (unwrap_or (option_map (λ (z : Class). z.methods) (on_some o (λ p. option_map (class_with k ps c.file p) (slice_get p.types c.row)))) [])) here
            ∙ of_type p (slice_get p.types c.row) h
