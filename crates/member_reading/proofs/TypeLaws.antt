-- The types of a world as its rows alone tell them, by their outlines.
use Rattle.std.proofs.Common.{◌≡◌, ℕ, suc, ◌+◌, ◌<◌, Bool, true, false, List, [], ◌∷◌, map, length, Option, Some, None, refl, sym, ap, ◌∙◌, arith, cond}
use Rattle.std.specs.Prelude.{codes, slice_get, unwrap_or, if◌then◌else◌, ◌||◌, ◌&&◌, not, is_none}
use Rattle.std.specs.List.{find, position}
use Rattle.std.specs.Option.{option_map}
use Rattle.std.proofs.lemmas.Option.{slice_get-map, slice_get_within}
use Rattle.plain_types.specs.declared.elem.Elem.{Elem}
use Rattle.file_tables.specs.Metadata.{rows_of}
use Rattle.file_tables.specs.File.{FilePart}
use Rattle.machine.specs.Data.{Id, id_eq}
use Rattle.machine.specs.Throw.{on_some}
use Rattle.classes.specs.Classes.{TypeKind, Reference, Enumeration, OtherValue}
use Rattle.classes.specs.Queries.{basic_name, elements, some_eq}
use Rattle.alike.proofs.Members.{id_same}
use Rattle.kept_rows.proofs.SelectLaws.{position_step}
use Rattle.assemblies.specs.Rows.{TypeRow, TypeRefRow, Nowhere, Assembly}
use Rattle.assemblies.specs.Binding.{id_at, numbered, resolve, same_row, is_type}
use Rattle.assemblies.proofs.Numbered.{get_numbered}
use Rattle.world_rows.specs.Tokens.{type_defs}
use Rattle.world_rows.specs.Rows.{type_row, alone}
use Rattle.world_rows.specs.Kinds.{library_type, is_class_of, type_at, enum_element, number_of, derived_kind, kind_by, kind_of, size_by}
use Rattle.world_rows.specs.World.{assembly_with, rows_alone, assemblies_of}
use Rattle.world_rows.proofs.Library.{type_there}
use Rattle.alike.proofs.Lists.{position_map}
use Rattle.assemblies.proofs.Back.{get_there}
use Rattle.machine.specs.Texts.{same_text}
use Rattle.class_table.specs.declared.rows.ClassRow.{ClassRow}
use Rattle.member_reading.specs.Natives.{type_named, is_class}
use Rattle.class_table.specs.Outlines.{Outline, outline_seen, outline_of, outlines_at}
use Rattle.member_reading.specs.Meant.{scopes}
use Rattle.member_reading.specs.Data.{class_size}

find_none : {A : Type 0} (test : A → Bool) → ((x : A) → test x ≡ false) → (xs : List A) → find test xs ≡ None
find_none test never [] = refl
find_none test never (x ∷ xs) = ap (λ (b : Bool). if b then Some x else find test xs) (never x) ∙ find_none test never xs

-- what is found stands there
found_within : {A : Type 0} (test : A → Bool) (xs : List A) (i : ℕ) → position test xs ≡ Some i → (x : A) × (slice_get xs i ≡ Some x)
found_within test [] i e = absurd (cc e)
found_within {A} test (x ∷ xs) i e = by (test x) (found_within test xs) (sym (position_step test x xs) ∙ e)
  where
    behind : ((j : ℕ) → position test xs ≡ Some j → (y : A) × (slice_get xs j ≡ Some y)) → (o : Option ℕ) → position test xs ≡ o → option_map suc o ≡ Some i → (y : A) × (slice_get (x ∷ xs) i ≡ Some y)
    behind rest None g h = absurd (cc h)
    behind rest (Some j) g h = let w = rest j g in let same : suc j ≡ i = cc h in (w.0, ap (slice_get (x ∷ xs)) (sym same) ∙ w.1)

    by : (b : Bool) → ((j : ℕ) → position test xs ≡ Some j → (y : A) × (slice_get xs j ≡ Some y)) → cond b (Some 0) (option_map suc (position test xs)) ≡ Some i → (y : A) × (slice_get (x ∷ xs) i ≡ Some y)
    by true rest h = let same : 0 ≡ i = cc h in (x, ap (slice_get (x ∷ xs)) (sym same))
    by false rest h = behind rest (position test xs) refl h

-- tests that can't tell two lists of rows apart
pub same_position : {A B : Type 0} (test : B → Bool) (make make' : ℕ → A → B) → ((n : ℕ) (x : A) → test (make n x) ≡ test (make' n x)) → (n : ℕ) (xs : List A) → position test (numbered make n xs) ≡ position test (numbered make' n xs)
same_position test make make' same n [] = refl
same_position test make make' same n (x ∷ xs) =
    position_step test (make n x) (numbered make (suc n) xs)
    ∙ ap (λ b. cond b (Some 0) (option_map suc (position test (numbered make (suc n) xs)))) (same n x)
    ∙ ap (λ o. cond (test (make' n x)) (Some 0) (option_map suc o)) (same_position test make make' same (suc n) xs)
    ∙ sym (position_step test (make' n x) (numbered make' (suc n) xs))

pub position_within : {A : Type 0} (test : A → Bool) (xs : List A) (i : ℕ) → position test xs ≡ Some i → i < length xs
position_within test xs i e = let w = found_within test xs i e in slice_get_within xs i w.0 w.1

module _ (files : List FilePart) where
  abbrev k : ℕ
  k = scopes files

  abbrev ps : List Assembly
  ps = rows_alone files

  abbrev qs : List Assembly
  qs = assemblies_of files

  abbrev whole : ℕ → FilePart → Assembly
  whole n f = assembly_with k files ps n f

  pub whole_at : (f : ℕ) → slice_get qs f ≡ option_map (whole f) (slice_get files f)
  unfolding assemblies_of
  whole_at f = let same : 0 + f ≡ f = omega arith in get_numbered whole 0 f files ∙ ap (λ n. option_map (whole n) (slice_get files f)) same

  pub alone_at : (f : ℕ) → slice_get ps f ≡ option_map alone (slice_get files f)
  alone_at f = slice_get-map alone files f

  abbrev kinds : ℕ → ℕ → TypeKind
  kinds file n = kind_of k ps (id_at file n)

  -- ---- outlines

  pub outlines_are : (file : ℕ) (f : FilePart) → slice_get files file ≡ Some f → outlines_at files file ≡ map (outline_of k qs file) (numbered (type_row f.metadata (kinds file)) 0 (rows_of f.metadata type_defs))
  outlines_are file f there =
      ap (λ o. unwrap_or (option_map (λ (p : Assembly). map (outline_of k qs file) p.types) o) []) (whole_at file ∙ ap (option_map (whole file)) there)

  pub outline_row : (file : ℕ) (f : FilePart) → slice_get files file ≡ Some f → (n : ℕ) → slice_get (outlines_at files file) n ≡ option_map (outline_of k qs file) (option_map (type_row f.metadata (kinds file) n) (slice_get (rows_of f.metadata type_defs) n))
  outline_row file f there n =
      ap (λ os. slice_get os n) (outlines_are file f there)
      ∙ slice_get-map (outline_of k qs file) (numbered (type_row f.metadata (kinds file)) 0 (rows_of f.metadata type_defs)) n
      ∙ ap (option_map (outline_of k qs file)) (let same : 0 + n ≡ n = omega arith in get_numbered (type_row f.metadata (kinds file)) 0 n (rows_of f.metadata type_defs) ∙ ap (λ i. option_map (type_row f.metadata (kinds file) i) (slice_get (rows_of f.metadata type_defs) n)) same)

  pub type_alone : (c : Id) (f : FilePart) → slice_get files c.file ≡ Some f → type_at ps c ≡ option_map (type_row f.metadata (λ n. Reference) c.row) (slice_get (rows_of f.metadata type_defs) c.row)
  type_alone c f there =
      ap (λ o. on_some o (λ (p : Assembly). slice_get p.types c.row)) (alone_at c.file ∙ ap (option_map alone) there)
      ∙ (let same : 0 + c.row ≡ c.row = omega arith in get_numbered (type_row f.metadata (λ n. Reference)) 0 c.row (rows_of f.metadata type_defs) ∙ ap (λ i. option_map (type_row f.metadata (λ n. Reference) i) (slice_get (rows_of f.metadata type_defs) c.row)) same)

  -- a class that is there
  pub record IsThere (c : Id) (o : Outline) : Type 0 where
    pub file : FilePart
    pub row : List ℕ
    pub is_file : slice_get files c.file ≡ Some file
    pub is_row : slice_get (rows_of file.metadata type_defs) c.row ≡ Some row
    pub is : outline_of k qs c.file (type_row file.metadata (kinds c.file) c.row row) ≡ o

  pub there : (c : Id) (o : Outline) → slice_get (outlines_at files c.file) c.row ≡ Some o → IsThere c o
  there c o e = by (slice_get files c.file) refl
    where
      of_row : (f : FilePart) → slice_get files c.file ≡ Some f → (r : Option (List ℕ)) → slice_get (rows_of f.metadata type_defs) c.row ≡ r → option_map (outline_of k qs c.file) (option_map (type_row f.metadata (kinds c.file) c.row) r) ≡ Some o → IsThere c o
      of_row f here None at h = absurd (cc h)
      of_row f here (Some row) at h = record { file = f; row = row; is_file = here; is_row = at; is = cc h }

      by : (x : Option FilePart) → slice_get files c.file ≡ x → IsThere c o
      by None here = absurd (cc (sym (ap (λ y. slice_get (unwrap_or (option_map (λ (p : Assembly). map (outline_of k qs c.file) p.types) y) []) c.row) (whole_at c.file ∙ ap (option_map (whole c.file)) here)) ∙ e))
      by (Some f) here = of_row f here (slice_get (rows_of f.metadata type_defs) c.row) refl (sym (outline_row c.file f here c.row) ∙ e)

  pub kind_there : (c : Id) (o : Outline) → slice_get (outlines_at files c.file) c.row ≡ Some o → kind_of k ps c ≡ o.kind
  kind_there c o e = ap (λ (x : Outline). x.kind) (there c o e).is

  pub size_there : (c : Id) (o : Outline) → slice_get (outlines_at files c.file) c.row ≡ Some o → class_size files c ≡ size_by files ps c o.kind
  size_there c o e = ap (size_by files ps c) (kind_there c o e)

  -- ---- a class that is not there

  module _ (c : Id) (absent : type_at ps c ≡ None) where
    other : (o : Option Id) → ((d : Id) → o ≡ Some d → (t : TypeRow) × (type_at ps d ≡ Some t)) → some_eq (Some c) o ≡ false
    other None found = refl
    other (Some d) found = by (id_eq c d) refl
      where
        by : (b : Bool) → id_eq c d ≡ b → id_eq c d ≡ false
        by false e = e
        by true e = let t = found d refl in absurd (cc (sym absent ∙ ap (type_at ps) (id_same c d e) ∙ t.1))

    no_class_of : (e : Elem) → is_class_of ps c e ≡ false
    no_class_of e = by (basic_name e)
      where
        by : (o : Option (List ℕ)) → some_eq (Some c) (on_some o (library_type ps)) ≡ false
        by None = refl
        by (Some name) = other (library_type ps name) (λ d h. let t = type_there ps name d h in (t.0, t.1))

    abbrev derived_by : Option Id → TypeKind
    derived_by s =
        if some_eq s (library_type ps (codes "Enum")) then Enumeration (enum_element (number_of ps c))
        else if some_eq s (library_type ps (codes "Enum")) || (some_eq s (library_type ps (codes "ValueType")) && not (some_eq (Some c) (library_type ps (codes "Enum")))) then OtherValue
        else Reference

    pub kind_absent : kind_of k ps c ≡ Reference
    unfolding kind_of
    kind_absent =
        ap (λ o. kind_by o (derived_kind k ps c)) (find_none (is_class_of ps c) no_class_of elements)
        ∙ ap (λ o. derived_by (on_some o (λ (t : TypeRow). on_some t.extends (resolve k ps c.file)))) absent

  pub size_absent : (c : Id) → slice_get (outlines_at files c.file) c.row ≡ None → class_size files c ≡ None
  size_absent c e = ap (size_by files ps c) (kind_absent c (by (slice_get files c.file) refl))
    where
      of_row : (f : FilePart) (o : Option (List ℕ)) → option_map (outline_of k qs c.file) (option_map (type_row f.metadata (kinds c.file) c.row) o) ≡ None → option_map (type_row f.metadata (λ n. Reference) c.row) o ≡ None
      of_row f None h = refl
      of_row f (Some row) h = absurd (cc h)

      by : (o : Option FilePart) → slice_get files c.file ≡ o → type_at ps c ≡ None
      by None here = ap (λ o. on_some o (λ (p : Assembly). slice_get p.types c.row)) (alone_at c.file ∙ ap (option_map alone) here)
      by (Some f) here = type_alone c f here ∙ of_row f (slice_get (rows_of f.metadata type_defs) c.row) (sym (outline_row c.file f here c.row) ∙ e)

  -- ---- names

  abbrev named : List ℕ → List ℕ → TypeRefRow
  named namespace name = record { scope = Nowhere; namespace = namespace; name = name }

  abbrev has_name : List ℕ → List ℕ → Outline → Bool
  has_name namespace name o = is_none o.enclosing && (same_text namespace o.namespace && same_text name o.name)

  pub named_is : (file : ℕ) (namespace name : List ℕ) (rows : List ClassRow) → file < length files → map outline_seen rows ≡ outlines_at files file → type_named files file namespace name ≡ option_map (id_at file) (position (is_class namespace name) rows)
  named_is file namespace name rows within read = by (get_there files file within)
    where
      outer : (o : Option ℕ) (b : Bool) → (same_row None o && b) ≡ (is_none o && b)
      outer None b = refl
      outer (Some n) b = refl

      by : (f : FilePart) × (slice_get files file ≡ Some f) → type_named files file namespace name ≡ option_map (id_at file) (position (is_class namespace name) rows)
      by (f, here) =
          ap (λ o. on_some o (λ (p : Assembly). option_map (id_at file) (position (is_type None (named namespace name)) p.types))) (alone_at file ∙ ap (option_map alone) here)
          ∙ ap (option_map (id_at file))
          (same_position (is_type None (named namespace name)) (type_row f.metadata (λ n. Reference)) (type_row f.metadata (kinds file)) (λ n x. refl) 0 (rows_of f.metadata type_defs)
          ∙ sym (position_map (outline_of k qs file) (has_name namespace name) (is_type None (named namespace name)) (numbered (type_row f.metadata (kinds file)) 0 (rows_of f.metadata type_defs)) (λ (t : TypeRow). sym (outer t.enclosing (same_text namespace t.namespace && same_text name t.name))))
          ∙ ap (position (has_name namespace name)) (sym (read ∙ outlines_are file f here))
          ∙ position_map outline_seen (has_name namespace name) (is_class namespace name) rows (λ c. refl))
