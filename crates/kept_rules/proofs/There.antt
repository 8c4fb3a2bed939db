-- What is found by a name, a number or a signature is a row that is there.
use Rattle.std.proofs.Common.{◌≡◌, ℕ, zero, suc, ◌+◌, Bool, true, false, cond, List, [], ◌∷◌, Option, Some, None, refl, sym, ap, ◌∙◌, subst, arith}
use Rattle.std.specs.Prelude.{codes, slice_get, unwrap_or}
use Rattle.std.specs.List.{find, position}
use Rattle.std.specs.Option.{option_map}
use Rattle.machine.specs.Data.{Id}
use Rattle.machine.specs.Texts.{same_text}
use Rattle.machine.specs.Throw.{on_some}
use Rattle.classes.specs.Classes.{OwnMethod}
use Rattle.classes.specs.Queries.{or_else, first_some, own_virtual, is_virtual_named, is_named, methods_of, chain, find_method, has_name, library_class}
use Rattle.kept_rows.proofs.SelectLaws.{passes}
use Rattle.assemblies.specs.Rows.{Scope, OfAssembly, Inside, Nowhere, Reference, TypeRefRow, MethodRefRow, TypeRow, MethodRow, Assembly}
use Rattle.assemblies.specs.Binding.{id_at, assembly_of, is_type, type_in, in_scope, resolve_ref, resolve, resolve_method, expanded_signature, numbered, range, first_number, library, classes_of}
use Rattle.assemblies.proofs.Binds.{on_some_back, map_back}
use Rattle.assemblies.proofs.Numbered.{get_numbered}
use Rattle.assemblies.proofs.Belong.{listed}
use Rattle.kept_closure.specs.Named.{Stands}

-- ---- what a search finds is one of those that it looks through

pub find_one : {A : Type 0} (P : A → Type 0) (test : A → Bool) (xs : List A) (x : A) → ((i : ℕ) (y : A) → slice_get xs i ≡ Some y → P y) → find test xs ≡ Some x → P x
find_one P test [] x h e = absurd (cc e)
find_one P test (y ∷ ys) x h e = go (test y) e (λ f. find_one P test ys x (λ i z at. h (suc i) z at) f)
  where
    go : (b : Bool) → cond b (Some y) (find test ys) ≡ Some x → (find test ys ≡ Some x → P x) → P x
    go true f rest = let same : y ≡ x = cc f in subst P same (h 0 y refl)
    go false f rest = rest f

pub first_one : {A B : Type 0} (P : B → Type 0) (look : A → Option B) (xs : List A) (y : B) → ((x : A) (z : B) → look x ≡ Some z → P z) → first_some look xs ≡ Some y → P y
first_one P look [] y h e = absurd (cc e)
first_one {A} {B} P look (x ∷ xs) y h e = go (look x) refl e (λ f. first_one P look xs y h f)
  where
    go : (o : Option B) → look x ≡ o → or_else o (first_some look xs) ≡ Some y → (first_some look xs ≡ Some y → P y) → P y
    go None at f rest = rest f
    go (Some z) at f rest = let same : z ≡ y = cc f in subst P same (h x z at)

pub range_one : {A : Type 0} (first count : ℕ) (xs : List A) (i : ℕ) (x : A) → slice_get (range first count xs) i ≡ Some x → slice_get xs (first + i) ≡ Some x
range_one zero zero xs i x e = absurd (cc e)
range_one zero (suc count) [] i x e = absurd (cc e)
range_one zero (suc count) (y ∷ ys) zero x e = e
range_one zero (suc count) (y ∷ ys) (suc i) x e = let same : suc (0 + i) ≡ 0 + suc i = omega arith in ap (slice_get (y ∷ ys)) (sym same) ∙ range_one zero count ys i x e
range_one (suc first) zero xs i x e = absurd (cc e)
range_one (suc first) (suc count) [] i x e = absurd (cc e)
range_one (suc first) (suc count) (y ∷ ys) i x e = let same : suc (first + i) ≡ suc first + i = omega arith in ap (slice_get (y ∷ ys)) (sym same) ∙ range_one first (suc count) ys i x e

module _ (size : ℕ) (ps : List Assembly) where
  abbrev pub TypeThere : Id → Type 0
  TypeThere c = (p : Assembly) × ((t : TypeRow) × Stands ps (λ q. q.types) c.file c.row p t)

  abbrev pub MethodThere : Id → Type 0
  MethodThere c = (p : Assembly) × ((m : MethodRow) × Stands ps (λ q. q.methods) c.file c.row p m)

  -- ---- types

  position_there : (f k : ℕ) (p : Assembly) (test : TypeRow → Bool) → slice_get ps f ≡ Some p → position test p.types ≡ Some k → TypeThere (id_at f k)
  position_there f k p test at e = let w = passes test p.types k e in (p, (w.0, (at, w.1)))

  in_there : (f : ℕ) (outer : Option ℕ) (r : TypeRefRow) (c : Id) → type_in ps f outer r ≡ Some c → TypeThere c
  in_there f outer r c e =
      let w = on_some_back (slice_get ps f) (λ (p : Assembly). option_map (id_at f) (position (is_type outer r) p.types)) c e in
      let v = map_back (id_at f) (position (is_type outer r) w.0.types) c w.2 in
      subst TypeThere v.2 (position_there f v.0 w.0 (is_type outer r) w.1 v.1)

  pub ref_there : (j f n : ℕ) (c : Id) → resolve_ref j ps f n ≡ Some c → TypeThere c
  ref_there zero f n c e = absurd (cc e)
  ref_there (suc j) f n c e =
      let w = on_some_back (slice_get ps f) (λ (p : Assembly). on_some (slice_get p.refs n) (λ r. in_scope ps f (resolve_ref j ps f) r r.scope)) c e in
      let v = on_some_back (slice_get w.0.refs n) (λ r. in_scope ps f (resolve_ref j ps f) r r.scope) c w.2 in
      scoped v.0 v.0.scope v.2
    where
      scoped : (r : TypeRefRow) (s : Scope) → in_scope ps f (resolve_ref j ps f) r s ≡ Some c → TypeThere c
      scoped r (OfAssembly b) t = let o = on_some_back (assembly_of ps f b) (λ g. type_in ps g None r) c t in in_there o.0 None r c o.2
      scoped r (Inside m) t = let o = on_some_back (resolve_ref j ps f m) (λ (d : Id). type_in ps d.file (Some d.row) r) c t in in_there o.0.file (Some o.0.row) r c o.2
      scoped r Nowhere t = absurd (cc t)

  library_row : (i : ℕ) (c : Id) → slice_get (library ps) i ≡ Some c → TypeThere c
  library_row i c e = by (first_number (λ (p : Assembly). same_text p.name (codes "mscorlib")) ps) e
    where
      of : (f : ℕ) (o : Option Assembly) → slice_get ps f ≡ o → slice_get (unwrap_or (option_map (λ (p : Assembly). numbered (λ n (t : TypeRow). id_at f n) 0 p.types) o) []) i ≡ Some c → TypeThere c
      of f None at e = absurd (cc e)
      of f (Some p) at e =
          let w = map_back (λ (t : TypeRow). id_at f (0 + i)) (slice_get p.types i) c (sym (get_numbered (λ n (t : TypeRow). id_at f n) 0 i p.types) ∙ e) in
          let same : i ≡ 0 + i = omega arith in
          subst TypeThere w.2 (p, (w.0, (at, ap (slice_get p.types) (sym same) ∙ w.1)))

      by : (o : Option ℕ) → slice_get (unwrap_or (on_some o (λ f. option_map (λ (p : Assembly). numbered (λ n (t : TypeRow). id_at f n) 0 p.types) (slice_get ps f))) []) i ≡ Some c → TypeThere c
      by None e = absurd (cc e)
      by (Some f) e = of f (slice_get ps f) refl e

  pub library_there : (name : List ℕ) (c : Id) → library_class (classes_of size ps) name ≡ Some c → TypeThere c
  library_there name c e = find_one TypeThere (has_name (classes_of size ps) name) (library ps) c library_row e

  -- ---- methods

  pub listed_there : (c : Id) (i : ℕ) (m : OwnMethod) → slice_get (methods_of (classes_of size ps) c) i ≡ Some m → MethodThere m.id
  listed_there c i m e = let l = listed size ps c i m e in subst (λ (z : OwnMethod). MethodThere z.id) l.is (l.assembly, (l.row, (l.is_assembly, l.is_row)))

  pub virtual_there : (m : OwnMethod) (cs : List Id) (u : OwnMethod) → first_some (own_virtual (classes_of size ps) m) cs ≡ Some u → MethodThere u.id
  virtual_there m cs u e = first_one (λ (z : OwnMethod). MethodThere z.id) (own_virtual (classes_of size ps) m) cs u (λ c z f. find_one (λ (z : OwnMethod). MethodThere z.id) (is_virtual_named m) (methods_of (classes_of size ps) c) z (λ i y at. listed_there c i y at) f) e

  pub method_there : (f n : ℕ) (c : Id) → resolve_method size ps f (Reference n) ≡ Some c → MethodThere c
  method_there f n c e =
      let w = on_some_back (slice_get ps f) (λ (p : Assembly). on_some (slice_get p.method_refs n) (λ (r : MethodRefRow). on_some (resolve size ps f r.parent) (λ d. option_map (λ (m : OwnMethod). m.id) (find_method (classes_of size ps) d r.name (expanded_signature size ps f r.signature))))) c e in
      let v = on_some_back (slice_get w.0.method_refs n) (λ (r : MethodRefRow). on_some (resolve size ps f r.parent) (λ d. option_map (λ (m : OwnMethod). m.id) (find_method (classes_of size ps) d r.name (expanded_signature size ps f r.signature)))) c w.2 in
      let d = on_some_back (resolve size ps f v.0.parent) (λ d. option_map (λ (m : OwnMethod). m.id) (find_method (classes_of size ps) d v.0.name (expanded_signature size ps f v.0.signature))) c v.2 in
      let m = map_back (λ (m : OwnMethod). m.id) (find_method (classes_of size ps) d.0 v.0.name (expanded_signature size ps f v.0.signature)) c d.2 in
      subst MethodThere m.2 (first_one (λ (z : OwnMethod). MethodThere z.id) (λ x. find (is_named v.0.name (expanded_signature size ps f v.0.signature)) (methods_of (classes_of size ps) x)) (chain (classes_of size ps) d.0) m.0 (λ x z h. find_one (λ (z : OwnMethod). MethodThere z.id) (is_named v.0.name (expanded_signature size ps f v.0.signature)) (methods_of (classes_of size ps) x) z (λ i y at. listed_there x i y at) h) m.1)
