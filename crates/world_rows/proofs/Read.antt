-- The classes of a world have what reading gives: members belong to one class, and kinds are told by names and superclasses.
use Rattle.std.proofs.Common.{◌≡◌, ℕ, zero, suc, ◌+◌, ◌-◌, ◌<◌, ◌≤◌, Bool, true, false, List, [], ◌∷◌, Option, Some, None, refl, sym, ap, ◌∙◌, subst, arith}
use Rattle.std.specs.Prelude.{codes, ◌&&◌, ◌||◌, not, max, nat_le, if◌then◌else◌, slice_get, slice_index, unwrap_or}
use Rattle.std.specs.List.{list_all, enumerate_from}
use Rattle.std.specs.Option.{option_map, option_map_or}
use Rattle.std.proofs.lemmas.Bool.{and_parts, both_ways, leb-true}
use Rattle.std.proofs.lemmas.Option.{slice_get-map, get_or_from_slice_get}
use Rattle.plain_types.specs.declared.elem.Elem.{Elem}
use Rattle.file_tables.specs.declared.schema.Column.TheVariants.{ListOf}
use Rattle.file_tables.specs.Schema.{columns_of}
use Rattle.file_tables.specs.Metadata.{MetadataPart, rows_of, row_count, column_of, is_column, is_row}
use Rattle.file_tables.specs.File.{FilePart}
use Rattle.machine.specs.Data.{Id}
use Rattle.machine.specs.Throw.{on_some}
use Rattle.machine.specs.Texts.{same_text}
use Rattle.classes.specs.Classes.{TypeKind, Reference, Builtin, Enumeration, OtherValue, Class, Classes}
use Rattle.classes.specs.Queries as queries
use Rattle.classes.specs.Queries.{basic_name, elements, some_eq}
use Rattle.classes.specs.Reading.{IsRead}
use Rattle.assemblies.specs.Rows.{TypeToken, TypeRow, Assembly}
use Rattle.assemblies.specs.Binding.{id_at, numbered, resolve, class_with}
use Rattle.assemblies.specs.Ranges.{MethodsRise}
use Rattle.assemblies.proofs.Numbered.{get_numbered}
use Rattle.assemblies.proofs.Back.{get_within, get_there}
use Rattle.assemblies.proofs.Belong.{some_map, owner, entry}
use Rattle.world_rows.specs.Tokens.{type_defs, methods}
use Rattle.world_rows.specs.Rows.{list_first, list_end, list_count, type_row, alone}
use Rattle.world_rows.specs.Kinds.{library_type, is_class_of, element_of, superclass_of, extends, is_enum, is_value, enum_element, number_of, derived_kind, kind_by, kind_of}
use Rattle.world_rows.specs.World.{type_count, size_of, assembly_with, rows_alone, assemblies_of, ecma_sources}
use Rattle.world_rows.specs.Read.{TypesStand}
use Rattle.world_rows.proofs.Alone.{resolve_alone}
use Rattle.world_rows.proofs.Library.{id_here, some_same, found_at, library_found, basic_found, element_is}

-- ---- lists of methods rise

all_at : {A : Type 0} (test : A → Bool) (xs : List A) (n : ℕ) (x : A) → list_all test xs ≡ true → slice_get xs n ≡ Some x → test x ≡ true
all_at test [] n x h e = absurd (cc e)
all_at test (y ∷ ys) zero x h e = let same : y ≡ x = cc e in subst (λ z. test z ≡ true) same (and_parts (test y) (list_all test ys) h).0
all_at test (y ∷ ys) (suc n) x h e = all_at test ys n x (and_parts (test y) (list_all test ys) h).1 e

-- the column of the list of methods
list_column : (m : MetadataPart) (k : ℕ) → is_row m type_defs (suc k) ≡ true → (nat_le (max 1 (column_of m type_defs k 5)) (column_of m type_defs (suc k) 5) && nat_le (column_of m type_defs (suc k) 5) (row_count m methods + 1)) ≡ true
unfolding is_row columns_of is_column
list_column m k e = all_at (λ c. is_column m c.1 (column_of m type_defs k c.0) (column_of m type_defs (suc k) c.0)) (enumerate_from 0 (columns_of type_defs)) 5 (5, ListOf methods) e refl

module _ (m : MetadataPart) (kept : (row : ℕ) → row ≤ row_count m type_defs → is_row m type_defs row ≡ true) where
  column : ℕ → ℕ
  column j = column_of m type_defs (suc j) 5

  bounds : (j : ℕ) → j < row_count m type_defs → (1 ≤ column j) × (column j ≤ row_count m methods + 1)
  unfolding column
  bounds j below =
      let b = and_parts (nat_le (max 1 (column_of m type_defs j 5)) (column j)) (nat_le (column j) (row_count m methods + 1)) (list_column m j (kept (suc j) (omega (arith, below)))) in
      let low = leb-true (max 1 (column_of m type_defs j 5)) (column j) b.0 in
      (omega (arith, low), leb-true (column j) (row_count m methods + 1) b.1)

  next : (j : ℕ) → suc j < row_count m type_defs → column j ≤ column (suc j)
  unfolding column
  next j below =
      let b = and_parts (nat_le (max 1 (column j)) (column (suc j))) (nat_le (column (suc j)) (row_count m methods + 1)) (list_column m (suc j) (kept (suc (suc j)) (omega (arith, below)))) in
      let low = leb-true (max 1 (column j)) (column (suc j)) b.0 in
      omega (arith, low)

  upward : (i d : ℕ) → i + d < row_count m type_defs → column i ≤ column (i + d)
  upward i zero below = let same : i + 0 ≡ i = omega arith in subst (λ z. column i ≤ column z) (sym same) (omega arith)
  upward i (suc d) below =
      let same : i + suc d ≡ suc (i + d) = omega arith in
      let here = upward i d (omega (arith, below)) in
      let on = next (i + d) (omega (arith, below)) in
      subst (λ z. column i ≤ column z) (sym same) (omega (arith, here, on))

  -- the row's own column
  row_column : (j : ℕ) (row : List ℕ) → slice_get (rows_of m type_defs) j ≡ Some row → slice_index row 5 ≡ column j
  unfolding column
  row_column j row e = sym (ap (λ r. slice_index r 5) (get_or_from_slice_get (rows_of m type_defs) j row [] e))

  pub list_rises : (i j : ℕ) (a b : List ℕ) → i < j → slice_get (rows_of m type_defs) i ≡ Some a → slice_get (rows_of m type_defs) j ≡ Some b → list_first 5 a + list_count m methods 5 i a ≤ list_first 5 b
  list_rises i j a b below ea eb = by (get_there (rows_of m type_defs) (suc i) (omega (arith, within, below)))
    where
      within : j < row_count m type_defs
      within = get_within (rows_of m type_defs) j b eb

      by : (c : List ℕ) × (slice_get (rows_of m type_defs) (suc i) ≡ Some c) → list_first 5 a + list_count m methods 5 i a ≤ list_first 5 b
      by (c, ec) =
          let end : list_end m methods 5 i ≡ list_first 5 c = ap (λ o. option_map_or (list_first 5) o (row_count m methods)) ec in
          let fa = row_column i a ea in
          let fb = row_column j b eb in
          let fc = row_column (suc i) c ec in
          let one = bounds i (omega (arith, within, below)) in
          let up = next i (omega (arith, within, below)) in
          let whole : suc i + (j - suc i) ≡ j = omega (arith, below) in
          let far = subst (λ z. column (suc i) ≤ column z) whole (upward (suc i) (j - suc i) (omega (arith, within, below))) in
          omega (arith, end, fa, fb, fc, one.0, up, far)

-- ---- what names give

same_some : (a : Option Id) (b : Id) → a ≡ Some b → some_eq a (Some b) ≡ true
same_some a b e = subst (λ z. some_eq z (Some b) ≡ true) (sym e) (id_here b)

module _ (files : List FilePart) where
  abbrev ps : List Assembly
  ps = rows_alone files

  abbrev size : ℕ
  size = size_of (rows_alone files)

  abbrev cs : Classes
  cs = (ecma_sources files).classes

  abbrev whole : ℕ → FilePart → Assembly
  whole n f = assembly_with size files ps n f

  whole_at : (f : ℕ) → slice_get (assemblies_of files) f ≡ option_map (whole f) (slice_get files f)
  unfolding assemblies_of
  whole_at f = let same : 0 + f ≡ f = omega arith in get_numbered whole 0 f files ∙ ap (λ n. option_map (whole n) (slice_get files f)) same

  alone_at : (f : ℕ) → slice_get ps f ≡ option_map alone (slice_get files f)
  alone_at f = slice_get-map alone files f

  -- the row of a class, with the kind that it is given
  pub record ClassRow (c : Id) (z : Class) : Type 0 where
    pub file : FilePart
    pub row : List ℕ
    pub is_file : slice_get files c.file ≡ Some file
    pub is_row : slice_get (rows_of file.metadata type_defs) c.row ≡ Some row
    pub is : z ≡ class_with size (assemblies_of files) c.file (whole c.file file) (type_row file.metadata (λ n. kind_of size ps (id_at c.file n)) c.row row)

  pub class_row : (c : Id) (z : Class) → cs.class c ≡ Some z → ClassRow c z
  class_row c z e = by (slice_get files c.file) refl (sym (ap (λ o. on_some o (λ p. option_map (class_with size (assemblies_of files) c.file p) (slice_get p.types c.row))) (whole_at c.file)) ∙ e)
    where
      types : FilePart → List TypeRow
      types f = numbered (type_row f.metadata (λ n. kind_of size ps (id_at c.file n))) 0 (rows_of f.metadata type_defs)

      at : (f : FilePart) → slice_get (types f) c.row ≡ option_map (type_row f.metadata (λ n. kind_of size ps (id_at c.file n)) c.row) (slice_get (rows_of f.metadata type_defs) c.row)
      at f = let same : 0 + c.row ≡ c.row = omega arith in get_numbered (type_row f.metadata (λ n. kind_of size ps (id_at c.file n))) 0 c.row (rows_of f.metadata type_defs) ∙ ap (λ n. option_map (type_row f.metadata (λ n. kind_of size ps (id_at c.file n)) n) (slice_get (rows_of f.metadata type_defs) c.row)) same

      of_row : (f : FilePart) → slice_get files c.file ≡ Some f → (o : Option (List ℕ)) → slice_get (rows_of f.metadata type_defs) c.row ≡ o → option_map (class_with size (assemblies_of files) c.file (whole c.file f)) (option_map (type_row f.metadata (λ n. kind_of size ps (id_at c.file n)) c.row) o) ≡ Some z → ClassRow c z
      of_row f here None there h = absurd (cc h)
      of_row f here (Some row) there h = record { file = f; row = row; is_file = here; is_row = there; is = let same : class_with size (assemblies_of files) c.file (whole c.file f) (type_row f.metadata (λ n. kind_of size ps (id_at c.file n)) c.row row) ≡ z = cc h in sym same }

      by : (o : Option FilePart) → slice_get files c.file ≡ o → on_some (option_map (whole c.file) o) (λ p. option_map (class_with size (assemblies_of files) c.file p) (slice_get p.types c.row)) ≡ Some z → ClassRow c z
      by None here h = absurd (cc h)
      by (Some f) here h = of_row f here (slice_get (rows_of f.metadata type_defs) c.row) refl (sym (ap (option_map (class_with size (assemblies_of files) c.file (whole c.file f))) (at f)) ∙ h)

  -- the kind of a class that is there is what names and superclasses tell
  kind_is : (c : Id) (z : Class) → cs.class c ≡ Some z → z.kind ≡ kind_of size ps c
  kind_is c z e = ap (λ (x : Class). x.kind) (class_row c z e).is

  kind_there : (c : Id) (q : TypeKind) → queries.kind_of cs c ≡ Some q → q ≡ kind_of size ps c
  kind_there c q e = by (cs.class c) refl e
    where
      by : (o : Option Class) → cs.class c ≡ o → option_map (λ (x : Class). x.kind) o ≡ Some q → q ≡ kind_of size ps c
      by None here h = absurd (cc h)
      by (Some z) here h = let same : z.kind ≡ q = cc h in sym same ∙ kind_is c z here

  -- and so is its superclass
  superclass_is : (c : Id) (z : Class) → cs.class c ≡ Some z → z.superclass ≡ superclass_of size ps c
  superclass_is c z e = ap (λ (x : Class). x.superclass) r.is ∙ (by own.extends ∙ sym there)
    where
      r : ClassRow c z
      r = class_row c z e

      own : TypeRow
      own = type_row r.file.metadata (λ n. kind_of size ps (id_at c.file n)) c.row r.row

      by : (t : Option TypeToken) → on_some t (resolve size (assemblies_of files) c.file) ≡ on_some t (resolve size ps c.file)
      by None = refl
      by (Some t) = resolve_alone files size c.file t

      there : superclass_of size ps c ≡ on_some own.extends (resolve size ps c.file)
      there =
          ap (λ o. on_some (on_some o (λ (p : Assembly). slice_get p.types c.row)) (λ (t : TypeRow). on_some t.extends (resolve size ps c.file))) (alone_at c.file ∙ ap (option_map alone) r.is_file)
          ∙ (let same : 0 + c.row ≡ c.row = omega arith in
          ap (λ o. on_some o (λ (t : TypeRow). on_some t.extends (resolve size ps c.file))) (get_numbered (type_row r.file.metadata (λ n. Reference)) 0 c.row (rows_of r.file.metadata type_defs) ∙ ap (option_map (type_row r.file.metadata (λ n. Reference) (0 + c.row))) r.is_row))

  superclass_there : (c : Id) (z : Class) → cs.class c ≡ Some z → queries.superclass_of cs c ≡ superclass_of size ps c
  superclass_there c z e = ap (λ o. on_some o (λ (x : Class). x.superclass)) e ∙ superclass_is c z e

  -- a class that has a kind is there
  class_there : (c : Id) (q : TypeKind) → queries.kind_of cs c ≡ Some q → (z : Class) × (cs.class c ≡ Some z)
  class_there c q e = by (cs.class c) refl e
    where
      by : (o : Option Class) → cs.class c ≡ o → option_map (λ (x : Class). x.kind) o ≡ Some q → (z : Class) × (cs.class c ≡ Some z)
      by None here h = absurd (cc h)
      by (Some z) here h = (z, here)

  -- ---- what each kind says

  pub data Told (c : Id) : TypeKind → Type 0 where
    ByName : (e : Elem) → element_of ps c ≡ Some e → Told c (Builtin e)
    ByEnum : (e : Elem) → superclass_of size ps c ≡ library_type ps (codes "Enum") → Told c (Enumeration e)
    ByValue : superclass_of size ps c ≡ library_type ps (codes "ValueType") → Told c OtherValue
    ByClass : is_enum size ps c ≡ false → Told c Reference

  told : (c : Id) → Told c (kind_of size ps c)
  unfolding kind_of
  told c = by_name (element_of ps c) refl
    where
      by_value : (b : Bool) → is_enum size ps c ≡ false → is_value size ps c ≡ b → Told c (if b then OtherValue else Reference)
      by_value false none e = ByClass none
      by_value true none e = ByValue (some_same _ _ (and_parts (extends size ps c (codes "ValueType")) _ (sym (ap (λ b. b || (extends size ps c (codes "ValueType") && not (some_eq (Some c) (library_type ps (codes "Enum"))))) none) ∙ e)).0)

      by_enum : (b : Bool) → is_enum size ps c ≡ b → Told c (if b then Enumeration (enum_element (number_of ps c)) else if is_value size ps c then OtherValue else Reference)
      by_enum true e = ByEnum (enum_element (number_of ps c)) (some_same _ _ e)
      by_enum false e = by_value (is_value size ps c) e refl

      by_name : (o : Option Elem) → element_of ps c ≡ o → Told c (kind_by o (derived_kind size ps c))
      by_name (Some e) h = ByName e h
      by_name None h = by_enum (is_enum size ps c) refl

  told_there : (c : Id) (q : TypeKind) → queries.kind_of cs c ≡ Some q → Told c q
  told_there c q e = subst (Told c) (sym (kind_there c q e)) (told c)

  -- a class that is found by name is there
  named_there : (name : List ℕ) (c : Id) → queries.library_class cs name ≡ Some c → (z : Class) × (cs.class c ≡ Some z)
  named_there name c h = by (cs.class c) refl (found_at (queries.has_name cs name) cs.library c h)
    where
      by : (o : Option Class) → cs.class c ≡ o → queries.has_name cs name c ≡ true → (z : Class) × (cs.class c ≡ Some z)
      by None here t = absurd (both_ways (queries.has_name cs name c) (ap (λ o. unwrap_or (option_map (λ (k : Class). same_text k.namespace (codes "System") && same_text k.name name) o) false) here) t)
      by (Some z) here t = (z, here)

  basic_there : (e : Elem) (c : Id) → queries.basic cs e ≡ Some c → (z : Class) × (cs.class c ≡ Some z)
  basic_there e c h = by (basic_name e) h
    where
      by : (o : Option (List ℕ)) → on_some o (queries.library_class cs) ≡ Some c → (z : Class) × (cs.class c ≡ Some z)
      by None g = absurd (cc g)
      by (Some name) g = named_there name c g

  -- ---- ranges

  row_at : (x : FilePart) (kind : ℕ → TypeKind) (i : ℕ) (t : TypeRow) → slice_get (numbered (type_row x.metadata kind) 0 (rows_of x.metadata type_defs)) i ≡ Some t → (row : List ℕ) × (slice_get (rows_of x.metadata type_defs) i ≡ Some row) × (type_row x.metadata kind (0 + i) row ≡ t)
  row_at x kind i t h = some_map (type_row x.metadata kind (0 + i)) (slice_get (rows_of x.metadata type_defs) i) t (sym (get_numbered (type_row x.metadata kind) 0 i (rows_of x.metadata type_defs)) ∙ h)

  file_rises : (f : ℕ) (x : FilePart) → ((row : ℕ) → row ≤ row_count x.metadata type_defs → is_row x.metadata type_defs row ≡ true) → MethodsRise (whole f x)
  file_rises f x stand = record { rise = rises }
    where
      rises : (i j : ℕ) (t u : TypeRow) → i < j → slice_get (whole f x).types i ≡ Some t → slice_get (whole f x).types j ≡ Some u → t.first_method + t.method_count ≤ u.first_method
      rises i j t u below et eu =
          let a = row_at x (λ n. kind_of size ps (id_at f n)) i t et in
          let b = row_at x (λ n. kind_of size ps (id_at f n)) j u eu in
          let zero_i : 0 + i ≡ i = omega arith in
          let up = list_rises x.metadata stand i j a.0 b.0 below a.1 b.1 in
          let first_a = ap (λ (z : TypeRow). z.first_method) a.2 in
          let count_a = ap (λ (z : TypeRow). z.method_count) a.2 in
          let count_i = ap (λ n. list_count x.metadata methods 5 n a.0) zero_i in
          let first_b = ap (λ (z : TypeRow). z.first_method) b.2 in
          omega (arith, up, first_a, count_a, count_i, first_b)

  rise : TypesStand files → (f : ℕ) (p : Assembly) → slice_get (assemblies_of files) f ≡ Some p → MethodsRise p
  rise stand f p e = by (slice_get files f) refl (sym (whole_at f) ∙ e)
    where
      by : (o : Option FilePart) → slice_get files f ≡ o → option_map (whole f) o ≡ Some p → MethodsRise p
      by None here h = absurd (cc h)
      by (Some x) here h = let same : whole f x ≡ p = cc h in subst MethodsRise same (file_rises f x (stand f x here))

  builtin : (c : Id) (e : Elem) → Told c (Builtin e) → queries.basic cs e ≡ Some c
  builtin c _ (ByName e h) = basic_found files e ∙ sym (some_same (Some c) (on_some (basic_name e) (library_type ps)) (found_at (is_class_of ps c) elements e h))

  enumeration : (c : Id) (e : Elem) → Told c (Enumeration e) → superclass_of size ps c ≡ queries.library_class cs (codes "Enum")
  enumeration c _ (ByEnum e h) = h ∙ sym (library_found files (codes "Enum"))

  other : (c : Id) → Told c OtherValue → superclass_of size ps c ≡ queries.library_class cs (codes "ValueType")
  other c (ByValue h) = h ∙ sym (library_found files (codes "ValueType"))

  reference : (c d : Id) → Told c Reference → superclass_of size ps c ≡ Some d → queries.library_class cs (codes "Enum") ≡ Some d → ⊥
  reference c d (ByClass h) up enums =
      both_ways (is_enum size ps c) h (subst (λ z. some_eq z (library_type ps (codes "Enum")) ≡ true) (sym up) (subst (λ z. some_eq (Some d) z ≡ true) (sym (sym (library_found files (codes "Enum")) ∙ enums)) (id_here d)))

  named : (c : Id) (e : Elem) → queries.basic cs e ≡ Some c → queries.kind_of cs c ≡ Some (Builtin e)
  unfolding kind_of
  named c e h =
      let z = basic_there e c h in
      ap (option_map (λ (x : Class). x.kind)) z.1 ∙ ap Some (kind_is c z.0 z.1 ∙ kind_from c e (element_is ps e c (sym (basic_found files e) ∙ h)))
    where
      kind_from : (c : Id) (e : Elem) → element_of ps c ≡ Some e → kind_of size ps c ≡ Builtin e
      kind_from c e h = ap (λ o. kind_by o (derived_kind size ps c)) h

  pub world_is_read : TypesStand files → IsRead (type_count (rows_alone files)) cs
  world_is_read stand =
      record {
        room = omega arith;
        owner = owner size (assemblies_of files) (rise stand);
        entry = entry size (assemblies_of files) (rise stand);
        builtin = λ c e h. builtin c e (told_there c (Builtin e) h);
        basic_kind = named;
        enumeration = λ c e h. let z = class_there c (Enumeration e) h in superclass_there c z.0 z.1 ∙ enumeration c e (told_there c (Enumeration e) h);
        other = λ c h. let z = class_there c OtherValue h in superclass_there c z.0 z.1 ∙ other c (told_there c OtherValue h);
        reference = λ c d h up enums. let z = class_there c Reference h in reference c d (told_there c Reference h) (sym (superclass_there c z.0 z.1) ∙ up) enums;
      }
