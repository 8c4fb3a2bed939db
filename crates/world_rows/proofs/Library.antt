-- The types of the base library: a name finds the same one among the classes of a world as among the rows of each file alone, and the
-- class of an element is of no other.
use Rattle.std.proofs.Common.{◌≡◌, ℕ, zero, suc, ◌+◌, Bool, true, false, List, [], ◌∷◌, Option, Some, None, refl, sym, ap, ◌∙◌, subst, arith, cond}
use Rattle.std.specs.Prelude.{codes, ◌&&◌, ◌==◌, is_some, slice_get, unwrap_or}
use Rattle.std.specs.List.{find, position}
use Rattle.std.specs.Option.{option_map, option_map_or}
use Rattle.std.proofs.lemmas.Bool.{and_parts, both_ways, eqb-true, eq-eqb}
use Rattle.std.proofs.lemmas.Option.{slice_get-map}
use Rattle.plain_types.specs.declared.elem.Elem.{Elem}
use Rattle.plain_types.specs.declared.elem.Elem.TheVariants as elem
use Rattle.file_tables.specs.Metadata.{rows_of}
use Rattle.file_tables.specs.File.{FilePart}
use Rattle.machine.specs.Data.{Id, id_eq}
use Rattle.machine.specs.Texts.{same_text}
use Rattle.machine.specs.Throw.{on_some}
use Rattle.classes.specs.Classes.{Reference, Class, Classes}
use Rattle.classes.specs.Queries as queries
use Rattle.classes.specs.Queries.{basic, basic_name, elements, library_class, some_eq}
use Rattle.kept_rows.proofs.SelectLaws.{passes, position_step}
use Rattle.assemblies.specs.Rows.{TypeRow, Assembly}
use Rattle.assemblies.specs.Binding.{first_number, id_at, numbered, class_with}
use Rattle.assemblies.proofs.Numbered.{get_numbered}
use Rattle.assemblies.proofs.Binds.{on_some_back, map_back}
use Rattle.world_rows.specs.Tokens.{type_defs}
use Rattle.world_rows.specs.Rows.{type_row, alone}
use Rattle.world_rows.specs.Kinds.{is_system, library_type, is_class_of, element_of, type_at, kind_of}
use Rattle.world_rows.specs.World.{size_of, assembly_with, rows_alone, assemblies_of, ecma_sources}
use Rattle.world_rows.proofs.Alone.{same_position, same_number}

-- ---- equal names, numbers and lists

pub text_same : (a b : List ℕ) → same_text a b ≡ true → a ≡ b
text_same [] [] e = refl
text_same [] (y ∷ ys) e = absurd (cc e)
text_same (x ∷ xs) [] e = absurd (cc e)
text_same (x ∷ xs) (y ∷ ys) e =
    let both = and_parts (x == y) (same_text xs ys) e in
    ap (λ z. z ∷ xs) (eqb-true x y both.0) ∙ ap (λ zs. y ∷ zs) (text_same xs ys both.1)

pub id_here : (c : Id) → id_eq c c ≡ true
id_here c = ap (λ b. b && (c.row == c.row)) (eq-eqb c.file c.file refl) ∙ eq-eqb c.row c.row refl

id_same : (a b : Id) → id_eq a b ≡ true → a ≡ b
id_same a b e =
    let both = and_parts (a.file == b.file) (a.row == b.row) e in
    ap (λ n. id_at n a.row) (eqb-true a.file b.file both.0) ∙ ap (id_at b.file) (eqb-true a.row b.row both.1)

pub some_same : (a b : Option Id) → some_eq a b ≡ true → a ≡ b
some_same None b e = absurd (cc e)
some_same (Some a) None e = absurd (cc e)
some_same (Some a) (Some b) e = ap Some (id_same a b e)

pub found_at : {A : Type 0} (test : A → Bool) (es : List A) (e : A) → find test es ≡ Some e → test e ≡ true
found_at test [] e h = absurd (cc h)
found_at test (x ∷ xs) e h = by (test x) refl (found_at test xs e) h
  where
    by : (b : Bool) → test x ≡ b → (find test xs ≡ Some e → test e ≡ true) → cond b (Some x) (find test xs) ≡ Some e → test e ≡ true
    by true t rest g = let same : x ≡ e = cc g in subst (λ z. test z ≡ true) same t
    by false t rest g = rest g

-- a list has the first that passes
find_there : {A : Type 0} (test : A → Bool) (xs : List A) (i : ℕ) (x : A) → slice_get xs i ≡ Some x → test x ≡ true → (y : A) × (find test xs ≡ Some y)
find_there test [] i x e t = absurd (cc e)
find_there {A = A} test (z ∷ zs) i x e t = by (test z) refl i e (λ j h. find_there test zs j x h t)
  where
    by : (b : Bool) → test z ≡ b → (i : ℕ) → slice_get (z ∷ zs) i ≡ Some x → ((j : ℕ) → slice_get zs j ≡ Some x → (y : A) × (find test zs ≡ Some y)) → (y : A) × (cond b (Some z) (find test zs) ≡ Some y)
    by true h i e rest = (z, refl)
    by false h zero e rest = let same : z ≡ x = cc e in absurd (both_ways (test z) h (subst (λ w. test w ≡ true) (sym same) t))
    by false h (suc i) e rest = rest i e

-- the number of the first row that passes is that of the position
find_numbered : {A : Type 0} (test : Id → Bool) (own : A → Bool) (f n : ℕ) (xs : List A) → ((i : ℕ) (x : A) → slice_get xs i ≡ Some x → test (id_at f (n + i)) ≡ own x) → find test (numbered (λ k x. id_at f k) n xs) ≡ option_map (λ i. id_at f (n + i)) (position own xs)
find_numbered test own f n [] same = refl
find_numbered test own f n (x ∷ xs) same =
    ap (λ b. cond b (Some (id_at f n)) (find test (numbered (λ k x. id_at f k) (suc n) xs))) (sym (ap (λ k. test (id_at f k)) at) ∙ same 0 x refl)
    ∙ ap (cond (own x) (Some (id_at f n))) (find_numbered test own f (suc n) xs (λ i y e. ap (λ k. test (id_at f k)) (moved i) ∙ same (suc i) y e))
    ∙ by (own x) (position own xs)
    ∙ sym (ap (option_map (λ i. id_at f (n + i))) (position_step own x xs))
  where
    at : n + 0 ≡ n
    at = omega arith

    moved : (i : ℕ) → suc n + i ≡ n + suc i
    moved i = omega arith

    by : (b : Bool) (o : Option ℕ) → cond b (Some (id_at f n)) (option_map (λ i. id_at f (suc n + i)) o) ≡ option_map (λ i. id_at f (n + i)) (cond b (Some 0) (option_map suc o))
    by true o = ap (λ k. Some (id_at f k)) (sym at)
    by false None = refl
    by false (Some i) = ap (λ k. Some (id_at f k)) (moved i)

-- ---- a type that is found stands there, with the name

module _ (ps : List Assembly) where
  pub type_there : (name : List ℕ) (c : Id) → library_type ps name ≡ Some c → (t : TypeRow) × (type_at ps c ≡ Some t) × (name ≡ t.name)
  type_there name c h =
      let f = on_some_back (first_number (λ (p : Assembly). same_text p.name (codes "mscorlib")) ps) (λ f. on_some (slice_get ps f) (λ (p : Assembly). option_map (id_at f) (position (is_system name) p.types))) c h in
      let p = on_some_back (slice_get ps f.0) (λ (p : Assembly). option_map (id_at f.0) (position (is_system name) p.types)) c f.2 in
      let i = map_back (id_at f.0) (position (is_system name) p.0.types) c p.2 in
      let t = passes (is_system name) p.0.types i.0 i.1 in (
        t.0,
        ap (type_at ps) (sym i.2) ∙ (ap (λ o. on_some o (λ (q : Assembly). slice_get q.types i.0)) p.1 ∙ t.1),
        sym (text_same t.0.name name (and_parts (same_text t.0.namespace (codes "System")) (same_text t.0.name name) t.2).1),
      )

  one_name : (a b : List ℕ) (c : Id) → library_type ps a ≡ Some c → library_type ps b ≡ Some c → a ≡ b
  one_name a b c h g =
      let x = type_there a c h in
      let y = type_there b c g in
      let type : x.0 ≡ y.0 = (let both : Some x.0 ≡ Some y.0 = sym x.1 ∙ y.1 in cc both) in
      x.2 ∙ (ap (λ (t : TypeRow). t.name) type ∙ sym y.2)

-- ---- the class that a name finds

module _ (files : List FilePart) where
  abbrev ps : List Assembly
  ps = rows_alone files

  abbrev qs : List Assembly
  qs = assemblies_of files

  abbrev size : ℕ
  size = size_of (rows_alone files)

  abbrev cs : Classes
  cs = (ecma_sources files).classes

  abbrev whole : ℕ → FilePart → Assembly
  whole n f = assembly_with size files ps n f

  abbrev is_library : Assembly → Bool
  is_library p = same_text p.name (codes "mscorlib")

  whole_at : (f : ℕ) → slice_get qs f ≡ option_map (whole f) (slice_get files f)
  unfolding assemblies_of
  whole_at f = let same : 0 + f ≡ f = omega arith in get_numbered whole 0 f files ∙ ap (λ n. option_map (whole n) (slice_get files f)) same

  number_is : first_number is_library qs ≡ first_number is_library ps
  unfolding assemblies_of
  number_is = same_number is_library whole alone (λ n x. refl) 0 files

  named_at : (name : List ℕ) (f n : ℕ) (q : Assembly) (t : TypeRow) → slice_get qs f ≡ Some q → slice_get q.types n ≡ Some t → queries.has_name cs name (id_at f n) ≡ is_system name t
  named_at name f n q t here there =
      ap (λ o. by_class (on_some o (λ (p : Assembly). option_map (class_with size qs f p) (slice_get p.types n)))) here
      ∙ ap (λ o. by_class (option_map (class_with size qs f q) o)) there
    where
      by_class : Option Class → Bool
      by_class o = unwrap_or (option_map (λ (k : Class). same_text k.namespace (codes "System") && same_text k.name name) o) false

  pub library_found : (name : List ℕ) → library_class cs name ≡ library_type ps name
  library_found name = ap (λ o. by_number o) number_is ∙ in_file (first_number is_library ps)
    where
      by_number : Option ℕ → Option Id
      by_number o = find (queries.has_name cs name) (unwrap_or (on_some o (λ f. option_map (λ (p : Assembly). numbered (λ n t. id_at f n) 0 p.types) (slice_get qs f))) [])

      first : (f : ℕ) (o : Option ℕ) → option_map (λ i. id_at f (0 + i)) o ≡ option_map (id_at f) o
      first f None = refl
      first f (Some i) = let same : 0 + i ≡ i = omega arith in ap (λ k. Some (id_at f k)) same

      in_rows : (f : ℕ) (x : FilePart) → slice_get files f ≡ Some x → find (queries.has_name cs name) (numbered (λ n t. id_at f n) 0 (whole f x).types) ≡ option_map (id_at f) (position (is_system name) (alone x).types)
      in_rows f x here =
          find_numbered (queries.has_name cs name) (is_system name) f 0 (whole f x).types (λ i t e. ap (λ k. queries.has_name cs name (id_at f k)) (behind i) ∙ named_at name f i (whole f x) t (whole_at f ∙ ap (option_map (whole f)) here) e)
          ∙ first f (position (is_system name) (whole f x).types)
          ∙ ap (option_map (id_at f)) (same_position (is_system name) (type_row x.metadata (λ n. kind_of size ps (id_at f n))) (type_row x.metadata (λ n. Reference)) (λ n row. refl) 0 (rows_of x.metadata type_defs))
        where
          behind : (i : ℕ) → 0 + i ≡ i
          behind i = omega arith

      in_file : (o : Option ℕ) → by_number o ≡ on_some o (λ f. on_some (slice_get ps f) (λ (p : Assembly). option_map (id_at f) (position (is_system name) p.types)))
      in_file None = refl
      in_file (Some f) =
          ap (λ o. find (queries.has_name cs name) (unwrap_or (option_map (λ (p : Assembly). numbered (λ n t. id_at f n) 0 p.types) o) [])) (whole_at f)
          ∙ by (slice_get files f) refl
          ∙ sym (ap (λ o. on_some o (λ (p : Assembly). option_map (id_at f) (position (is_system name) p.types))) (slice_get-map alone files f))
        where
          by : (o : Option FilePart) → slice_get files f ≡ o → find (queries.has_name cs name) (unwrap_or (option_map (λ (p : Assembly). numbered (λ n t. id_at f n) 0 p.types) (option_map (whole f) o)) []) ≡ on_some (option_map alone o) (λ (p : Assembly). option_map (id_at f) (position (is_system name) p.types))
          by None here = refl
          by (Some x) here = in_rows f x here

  pub basic_found : (e : Elem) → basic cs e ≡ on_some (basic_name e) (library_type ps)
  basic_found e = by (basic_name e)
    where
      by : (o : Option (List ℕ)) → on_some o (library_class cs) ≡ on_some o (library_type ps)
      by None = refl
      by (Some name) = library_found name

-- ---- elements and their names

element_at : (e : Elem) → is_some (basic_name e) ≡ true → (i : ℕ) × (slice_get elements i ≡ Some e)
element_at elem.Bool h = (0, refl)
element_at elem.Char h = (1, refl)
element_at elem.I1 h = (2, refl)
element_at elem.U1 h = (3, refl)
element_at elem.I2 h = (4, refl)
element_at elem.U2 h = (5, refl)
element_at elem.I4 h = (6, refl)
element_at elem.U4 h = (7, refl)
element_at elem.I8 h = (8, refl)
element_at elem.U8 h = (9, refl)
element_at elem.String h = (10, refl)
element_at elem.Object h = (11, refl)
element_at elem.Void h = absurd (cc h)
element_at elem.Class h = absurd (cc h)
element_at elem.Value h = absurd (cc h)

has_name : List ℕ → Elem → Bool
has_name name e = option_map_or (λ own. same_text own name) (basic_name e) false

-- the element of a name
named : List ℕ → Option Elem
named name = find (has_name name) elements

named_back : (e : Elem) → is_some (basic_name e) ≡ true → on_some (basic_name e) named ≡ Some e
unfolding named has_name
named_back elem.Bool h = refl
named_back elem.Char h = refl
named_back elem.I1 h = refl
named_back elem.U1 h = refl
named_back elem.I2 h = refl
named_back elem.U2 h = refl
named_back elem.I4 h = refl
named_back elem.U4 h = refl
named_back elem.I8 h = refl
named_back elem.U8 h = refl
named_back elem.String h = refl
named_back elem.Object h = refl
named_back elem.Void h = absurd (cc h)
named_back elem.Class h = absurd (cc h)
named_back elem.Value h = absurd (cc h)

module _ (ps : List Assembly) where
  one_element : (g e : Elem) (c : Id) → on_some (basic_name g) (library_type ps) ≡ Some c → on_some (basic_name e) (library_type ps) ≡ Some c → g ≡ e
  one_element g e c h k =
      let a = on_some_back (basic_name g) (library_type ps) c h in
      let b = on_some_back (basic_name e) (library_type ps) c k in
      let same : a.0 ≡ b.0 = one_name ps a.0 b.0 c a.2 b.2 in
      let left : named a.0 ≡ Some g = sym (ap (λ o. on_some o named) a.1) ∙ named_back g (ap is_some a.1) in
      let right : named b.0 ≡ Some e = sym (ap (λ o. on_some o named) b.1) ∙ named_back e (ap is_some b.1) in
      let both : Some g ≡ Some e = sym left ∙ (ap named same ∙ right) in
      cc both

  -- the type that the name of an element finds is of that element
  pub element_is : (e : Elem) (c : Id) → on_some (basic_name e) (library_type ps) ≡ Some c → element_of ps c ≡ Some e
  element_is e c h =
      let name = on_some_back (basic_name e) (library_type ps) c h in
      let i = element_at e (ap is_some name.1) in
      let g = find_there (is_class_of ps c) elements i.0 e i.1 (ap (some_eq (Some c)) h ∙ id_here c) in
      let its : Some c ≡ on_some (basic_name g.0) (library_type ps) = some_same (Some c) (on_some (basic_name g.0) (library_type ps)) (found_at (is_class_of ps c) elements g.0 g.1) in
      g.1 ∙ ap Some (one_element g.0 e c (sym its) h)
