-- Where a field stands among its class's instance fields.
use Rattle.std.proofs.Common.{◌≡◌, ⊎_elim, ℕ, zero, suc, Bool, true, false, List, [], ◌∷◌, ◌++◌, length, Option, Some, None, refl, sym, ap, ◌∙◌}
use Rattle.std.specs.Prelude.{slice_get, unwrap_or, cond}
use Rattle.std.specs.Option.{option_map}
use Rattle.std.specs.List.{find, filter, position, position_or_len}
use Rattle.std.proofs.lemmas.Bool.{lt-ltb}
use Rattle.std.proofs.lemmas.List.Folds.{find_at}
use Rattle.std.proofs.lemmas.Option.{slice_get_within}
use Rattle.machine.specs.Data.{Id, CliType}
use Rattle.classes.specs.Classes.{Classes, OwnField, SigType}
use Rattle.classes.specs.Queries.{type_of, superclass_of, fields_of, is_instance, own_instance_fields, instance_fields_within, instance_fields, cons_some, field_types}
use Rattle.class_rules.proofs.Kept.{split_list}
use Rattle.class_rules.proofs.ProgramLaws.{filter_in}
use Rattle.class_rules.proofs.Slots.{found}

-- what holds of the fields of classes holds of a class's instance fields
module _ (cs : Classes) (Q : OwnField → Type 0) (each : (c : Id) (i : ℕ) (g : OwnField) → slice_get (fields_of cs c) i ≡ Some g → is_instance g ≡ true → Q g) where
  own_each : (c : Id) (i : ℕ) (g : OwnField) → slice_get (own_instance_fields cs c) i ≡ Some g → Q g
  own_each c i g e = let q = filter_in is_instance (fields_of cs c) i g e in each c q.0 g q.1 q.2

  pub instance_each : (m : ℕ) (c : Id) (i : ℕ) (g : OwnField) → slice_get (instance_fields_within m cs c) i ≡ Some g → Q g
  instance_each zero c i g e = own_each c i g e
  instance_each (suc m) c i g e =
      ⊎_elim (λ h. by (superclass_of cs c) h (λ d w. instance_each m d i g w)) (λ h. own_each c h.0 g h.1)
      (split_list (unwrap_or (option_map (instance_fields_within m cs) (superclass_of cs c)) []) (own_instance_fields cs c) i g e)
    where
      by : (q : Option Id) → slice_get (unwrap_or (option_map (instance_fields_within m cs) q) []) i ≡ Some g → ((d : Id) → slice_get (instance_fields_within m cs d) i ≡ Some g → Q g) → Q g
      by None h go = absurd (cc h)
      by (Some d) h go = go d h

-- signed fields have types, each at its place
abbrev pub Signed : OwnField → Type 0
Signed g = (s : SigType) × (g.signature ≡ Some s)

module _ (cs : Classes) where
  abbrev pub TypesOf : List OwnField → List CliType → Type 0
  TypesOf fs ts = (i : ℕ) (g : OwnField) (s : SigType) → slice_get fs i ≡ Some g → g.signature ≡ Some s → slice_get ts i ≡ Some (type_of cs s)

  pub typed_fields : (fs : List OwnField) → ((i : ℕ) (g : OwnField) → slice_get fs i ≡ Some g → Signed g) → (ts : List CliType) × (field_types cs fs ≡ Some ts) × TypesOf fs ts
  typed_fields [] each = ([], refl, λ i g s e h. absurd (cc e))
  typed_fields (f ∷ fs) each =
      let w = each 0 f refl in
      let rest = typed_fields fs (λ i g e. each (suc i) g e) in
      (type_of cs w.0 ∷ rest.0, ap (λ z. cons_some (option_map (type_of cs) z) (field_types cs fs)) w.1 ∙ ap (cons_some (Some (type_of cs w.0))) rest.1, placed w.0 rest.0 w.1 rest.2)
    where
      placed : (t : SigType) (ts : List CliType) → f.signature ≡ Some t → TypesOf fs ts → TypesOf (f ∷ fs) (type_of cs t ∷ ts)
      placed t ts w go zero g s e h =
          let same : f ≡ g = cc e in
          let both : Some t ≡ Some s = sym w ∙ (ap (λ (z : OwnField). z.signature) same ∙ h) in
          ap (option_map (type_of cs)) both
      placed t ts w go (suc i) g s e h = go i g s e h

-- ---- a place in a list

filter_at : {A : Type 0} (test : A → Bool) (xs : List A) (j : ℕ) (f : A) → slice_get xs j ≡ Some f → test f ≡ true → (i : ℕ) × (slice_get (filter test xs) i ≡ Some f)
filter_at test [] j f e h = absurd (cc e)
filter_at {A = A} test (x ∷ xs) j f e h = by (test x) refl j e (λ k w. filter_at test xs k f w h)
  where
    by : (b : Bool) → test x ≡ b → (j : ℕ) → slice_get (x ∷ xs) j ≡ Some f → ((k : ℕ) → slice_get xs k ≡ Some f → (i : ℕ) × (slice_get (filter test xs) i ≡ Some f)) → (i : ℕ) × (slice_get (cond b (x ∷ filter test xs) (filter test xs)) i ≡ Some f)
    by true t zero w rest = (0, w)
    by true t (suc k) w rest = let r = rest k w in (suc r.0, r.1)
    by false t zero w rest =
        let same : x ≡ f = cc w in
        absurd (let no : false ≡ true = sym t ∙ (ap test same ∙ h) in cc no)
    by false t (suc k) w rest = rest k w

behind_at : {A : Type 0} (xs ys : List A) (j : ℕ) (f : A) → slice_get ys j ≡ Some f → (i : ℕ) × (slice_get (xs ++ ys) i ≡ Some f)
behind_at [] ys j f e = (j, e)
behind_at (x ∷ xs) ys j f e = let r = behind_at xs ys j f e in (suc r.0, r.1)

find_some : {A : Type 0} (test : A → Bool) (xs : List A) (i : ℕ) (f : A) → slice_get xs i ≡ Some f → test f ≡ true → (g : A) × (find test xs ≡ Some g)
find_some test [] i f e h = absurd (cc e)
find_some {A = A} test (x ∷ xs) i f e h = by (test x) refl i e (λ k w. find_some test xs k f w h)
  where
    by : (b : Bool) → test x ≡ b → (i : ℕ) → slice_get (x ∷ xs) i ≡ Some f → ((k : ℕ) → slice_get xs k ≡ Some f → (g : A) × (find test xs ≡ Some g)) → (g : A) × (cond b (Some x) (find test xs) ≡ Some g)
    by true t i w rest = (x, refl)
    by false t (suc k) w rest = rest k w
    by false t zero w rest =
        let same : x ≡ f = cc w in
        absurd (let no : false ≡ true = sym t ∙ (ap test same ∙ h) in cc no)

pub position_found : {A : Type 0} (test : A → Bool) (xs : List A) (i : ℕ) (f : A) → slice_get xs i ≡ Some f → test f ≡ true → (n : ℕ) × (g : A) × (position test xs ≡ Some n) × (slice_get xs n ≡ Some g) × (test g ≡ true)
position_found test xs i f e h =
    let g = find_some test xs i f e h in
    let n = position_or_len test xs in
    let s : slice_get xs n ≡ Some g.0 = sym (find_at test xs) ∙ g.1 in
    (n, g.0, ap (λ b. cond b (Some n) None) (lt-ltb n (length xs) (slice_get_within xs n g.0 s)), s, (found test xs g.0 g.1).2)

-- a class's own instance field is among its instance fields
pub among : (cs : Classes) (c : Id) (j : ℕ) (f : OwnField) → slice_get (fields_of cs c) j ≡ Some f → is_instance f ≡ true → (i : ℕ) × (slice_get (instance_fields cs c) i ≡ Some f)
among cs c j f e h = by cs.size
  where
    by : (m : ℕ) → (i : ℕ) × (slice_get (instance_fields_within m cs c) i ≡ Some f)
    by zero = filter_at is_instance (fields_of cs c) j f e h
    by (suc m) = let r = filter_at is_instance (fields_of cs c) j f e h in behind_at (unwrap_or (option_map (instance_fields_within m cs) (superclass_of cs c)) []) (own_instance_fields cs c) r.0 f r.1
