-- The rules of a table's rows are those by which they keep the rows that they name.
use Rattle.std.proofs.Common.{◌≡◌, ℕ, zero, suc, ◌+◌, List, [], ◌∷◌, ◌++◌, map, length, Option, Some, None, refl, sym, ap, subst, ◌∙◌, arith}
use Rattle.std.specs.Prelude.{slice_get, slice_index, unwrap_or}
use Rattle.std.specs.List.{filter}
use Rattle.std.specs.Option.{option_map}
use Rattle.file_tables.specs.Metadata.{rows_of}
use Rattle.file_tables.specs.File.{FilePart}
use Rattle.machine.specs.Throw.{on_some}
use Rattle.assemblies.specs.Rows.{Assembly}
use Rattle.assemblies.specs.Binding.{id_at, numbered}
use Rattle.assemblies.proofs.Numbered.{get_numbered}
use Rattle.kept_rules.specs.Row.{Row, TypeRefAt, FieldRefAt, MethodRefAt, FieldAt, SpecAt, names_of, of_row, of_ref, of_field_ref, of_method_ref, of_field, in_type}
use Rattle.world_rows.specs.Rows.{type_ref, field_ref, method_ref, field_row}
use Rattle.world_rows.specs.Tokens.{type_refs, type_specs, fields, member_refs, is_field_ref, is_method_ref, bytes_at}
use Rattle.world_rows.specs.Signatures.{spec_signature}
use Rattle.world_rows.specs.Kinds.{data_of}
use Rattle.world_rows.specs.World.{size_of, assembly_with, rows_alone, assemblies_of}
use Rattle.row_rules.specs.Links.{Link, keeps, keeps_each, links_from}
use Rattle.row_rules.specs.Named.{named_by_ref, named_by_field_ref, named_by_method_ref, named_by_field, named_by_spec}
use Rattle.row_rules.specs.Rules.{AreNames}

pub get_map : {A B : Type 0} (g : A → B) (xs : List A) (i : ℕ) → slice_get (map g xs) i ≡ option_map g (slice_get xs i)
get_map g [] i = refl
get_map g (x ∷ xs) zero = refl
get_map g (x ∷ xs) (suc i) = get_map g xs i

pub get_front : {A : Type 0} (xs ys : List A) (i : ℕ) (x : A) → slice_get xs i ≡ Some x → slice_get (xs ++ ys) i ≡ Some x
get_front [] ys i x e = absurd (cc e)
get_front (y ∷ xs) ys zero x e = e
get_front (y ∷ xs) ys (suc i) x e = get_front xs ys i x e

pub get_behind : {A : Type 0} (xs ys : List A) (k : ℕ) → slice_get (xs ++ ys) (length xs + k) ≡ slice_get ys k
get_behind [] ys k = let same : 0 + k ≡ k = omega arith in ap (slice_get ys) same
get_behind (x ∷ xs) ys k = let same : suc (length xs) + k ≡ suc (length xs + k) = omega arith in ap (slice_get (x ∷ (xs ++ ys))) same ∙ get_behind xs ys k

-- a rule of a row: the row's place, which of the rows that it names, and that one
abbrev pub IsOf : {A : Type 0} → (ℕ → Row) → (A → List Row) → ℕ → List A → Link → Type 0
IsOf {A} at names b xs l = (n : ℕ) × ((i : ℕ) × ((x : A) × ((c : Row) × ((slice_get xs n ≡ Some x) × ((slice_get (names x) i ≡ Some c) × (l ≡ keeps (at (b + n)) c))))))

module _ {A : Type 0} (at : ℕ → Row) (names : A → List Row) where
  pub has_link : (b : ℕ) (xs : List A) (n i : ℕ) (x : A) (c : Row) → slice_get xs n ≡ Some x → slice_get (names x) i ≡ Some c → (k : ℕ) × (slice_get (links_from at names b xs) k ≡ Some (keeps (at (b + n)) c))
  has_link b [] n i x c e f = absurd (cc e)
  has_link b (y ∷ ys) zero i x c e f =
      let same : y ≡ x = cc e in
      let here : b ≡ b + 0 = omega arith in
      let there : slice_get (keeps_each (at b) (names y)) i ≡ Some (keeps (at (b + 0)) c) =
      get_map (keeps (at b)) (names y) i ∙ ap (λ z. option_map (keeps (at b)) (slice_get (names z) i)) same ∙ ap (option_map (keeps (at b))) f ∙ ap (λ k. Some (keeps (at k) c)) here in
      (i, get_front (keeps_each (at b) (names y)) (links_from at names (suc b) ys) i (keeps (at (b + 0)) c) there)
  has_link b (y ∷ ys) (suc n) i x c e f =
      let w = has_link (suc b) ys n i x c e f in
      let here : suc b + n ≡ b + suc n = omega arith in
      (length (keeps_each (at b) (names y)) + w.0, get_behind (keeps_each (at b) (names y)) (links_from at names (suc b) ys) w.0 ∙ w.1 ∙ ap (λ k. Some (keeps (at k) c)) here)

  later : (b : ℕ) (y : A) (ys : List A) (l : Link) → IsOf at names (suc b) ys l → IsOf at names b (y ∷ ys) l
  later b y ys l (n, (i, (x, (c, (e, (f, g)))))) = let here : suc b + n ≡ b + suc n = omega arith in (suc n, (i, (x, (c, (e, (f, g ∙ ap (λ k. keeps (at k) c) here))))))

  pub is_link : (b : ℕ) (xs : List A) (k : ℕ) (l : Link) → slice_get (links_from at names b xs) k ≡ Some l → IsOf at names b xs l
  is_link b [] k l e = absurd (cc e)
  is_link b (y ∷ ys) k l e = go (names y) 0 k (λ j c f. let z : j ≡ 0 + j = omega arith in subst (λ i. slice_get (names y) i ≡ Some c) z f) (λ j f. is_link (suc b) ys j l f) e
    where
      go : (cs : List Row) (from k : ℕ) → ((j : ℕ) (c : Row) → slice_get cs j ≡ Some c → slice_get (names y) (from + j) ≡ Some c) → ((j : ℕ) → slice_get (links_from at names (suc b) ys) j ≡ Some l → IsOf at names (suc b) ys l) → slice_get (keeps_each (at b) cs ++ links_from at names (suc b) ys) k ≡ Some l → IsOf at names b (y ∷ ys) l
      go [] from k h rest f = later b y ys l (rest k f)
      go (c ∷ cs) from zero h rest f =
          let same : keeps (at b) c ≡ l = cc f in
          let here : b ≡ b + 0 = omega arith in
          (0, (from + 0, (y, (c, (refl, (h 0 c refl, sym same ∙ ap (λ z. keeps (at z) c) here))))))
      go (c ∷ cs) from (suc k) h rest f = go cs (suc from) k (λ j d g. let z : from + suc j ≡ suc from + j = omega arith in subst (λ i. slice_get (names y) i ≡ Some d) z (h (suc j) d g)) rest f

-- where the rows that stand at the places name what the items do
module _ {A : Type 0} (ps : List Assembly) (at : ℕ → Row) (names : A → List Row) (xs : List A) (is : (n : ℕ) → names_of ps (at n) ≡ unwrap_or (option_map names (slice_get xs n)) []) where
  has : (n i : ℕ) (c : Row) → slice_get (names_of ps (at n)) i ≡ Some c → (k : ℕ) × (slice_get (links_from at names 0 xs) k ≡ Some (keeps (at n) c))
  has n i c e = go (slice_get xs n) refl (ap (λ cs. slice_get cs i) (sym (is n)) ∙ e)
    where
      go : (o : Option A) → slice_get xs n ≡ o → slice_get (unwrap_or (option_map names o) []) i ≡ Some c → (k : ℕ) × (slice_get (links_from at names 0 xs) k ≡ Some (keeps (at n) c))
      go None f h = absurd (cc h)
      go (Some x) f h =
          let w = has_link at names 0 xs n i x c f h in
          let here : 0 + n ≡ n = omega arith in
          (w.0, w.1 ∙ ap (λ k. Some (keeps (at k) c)) here)

  are : (k : ℕ) (l : Link) → slice_get (links_from at names 0 xs) k ≡ Some l → (n : ℕ) × ((i : ℕ) × ((c : Row) × ((slice_get (names_of ps (at n)) i ≡ Some c) × (l ≡ keeps (at n) c))))
  are k l e = go (is_link at names 0 xs k l e)
    where
      go : IsOf at names 0 xs l → (n : ℕ) × ((i : ℕ) × ((c : Row) × ((slice_get (names_of ps (at n)) i ≡ Some c) × (l ≡ keeps (at n) c))))
      go (n, (i, (x, (c, (f, (g, h)))))) =
          let here : 0 + n ≡ n = omega arith in
          (n, (i, (c, (ap (λ cs. slice_get cs i) (is n) ∙ ap (λ o. slice_get (unwrap_or (option_map names o) []) i) f ∙ g, h ∙ ap (λ z. keeps (at z) c) here))))

  pub are_names : AreNames ps at (links_from at names 0 xs)
  are_names = record { has = has; are = are }

-- ---- a file of a world

module _ (files : List FilePart) (f : ℕ) (x : FilePart) (e : slice_get files f ≡ Some x) where
  abbrev pub row : ℕ → FilePart → Assembly
  row n y = assembly_with (size_of (rows_alone files)) files (rows_alone files) n y

  pub stands : slice_get (assemblies_of files) f ≡ Some (row f x)
  unfolding assemblies_of
  stands = let here : 0 + f ≡ f = omega arith in get_numbered row 0 f files ∙ ap (option_map (row (0 + f))) e ∙ ap (λ n. Some (row n x)) here

  pub by_table : {A B : Type 0} (table : Assembly → List B) (of : B → List Row) (make : ℕ → A → B) (names : A → List Row) (xs : List A)
      → ((n : ℕ) → slice_get (table (row f x)) n ≡ option_map (make n) (slice_get xs n)) → ((n : ℕ) (y : A) → of (make n y) ≡ names y)
      → (n : ℕ) → of_row (assemblies_of files) table of f n ≡ unwrap_or (option_map names (slice_get xs n)) []
  by_table {A} table of make names xs made named n =
      ap (λ o. unwrap_or (option_map of (on_some o (λ p. slice_get (table p) n))) []) stands
      ∙ ap (λ o. unwrap_or (option_map of o) []) (made n)
      ∙ go (slice_get xs n)
    where
      go : (o : Option A) → unwrap_or (option_map of (option_map (make n) o)) [] ≡ unwrap_or (option_map names o) []
      go None = refl
      go (Some y) = named n y

  pub refs : AreNames (assemblies_of files) (TypeRefAt f) (links_from (TypeRefAt f) (named_by_ref f x.metadata) 0 (rows_of x.metadata type_refs))
  refs =
      are_names (assemblies_of files) (TypeRefAt f) (named_by_ref f x.metadata) (rows_of x.metadata type_refs)
      (by_table (λ p. p.refs) (of_ref f) (λ n. type_ref x.metadata) (named_by_ref f x.metadata) (rows_of x.metadata type_refs) (get_map (type_ref x.metadata) (rows_of x.metadata type_refs)) (λ n y. refl))

  pub field_refs : AreNames (assemblies_of files) (FieldRefAt f) (links_from (FieldRefAt f) (named_by_field_ref f x.metadata) 0 (filter (is_field_ref x.metadata) (rows_of x.metadata member_refs)))
  field_refs =
      are_names (assemblies_of files) (FieldRefAt f) (named_by_field_ref f x.metadata) (filter (is_field_ref x.metadata) (rows_of x.metadata member_refs))
      (by_table (λ p. p.field_refs) (of_field_ref f) (λ n. field_ref x.metadata) (named_by_field_ref f x.metadata) (filter (is_field_ref x.metadata) (rows_of x.metadata member_refs)) (get_map (field_ref x.metadata) (filter (is_field_ref x.metadata) (rows_of x.metadata member_refs))) (λ n y. refl))

  pub method_refs : AreNames (assemblies_of files) (MethodRefAt f) (links_from (MethodRefAt f) (named_by_method_ref f x.metadata) 0 (filter (is_method_ref x.metadata) (rows_of x.metadata member_refs)))
  method_refs =
      are_names (assemblies_of files) (MethodRefAt f) (named_by_method_ref f x.metadata) (filter (is_method_ref x.metadata) (rows_of x.metadata member_refs))
      (by_table (λ p. p.method_refs) (of_method_ref f) (λ n. method_ref x.metadata) (named_by_method_ref f x.metadata) (filter (is_method_ref x.metadata) (rows_of x.metadata member_refs)) (get_map (method_ref x.metadata) (filter (is_method_ref x.metadata) (rows_of x.metadata member_refs))) (λ n y. refl))

  pub specs : AreNames (assemblies_of files) (SpecAt f) (links_from (SpecAt f) (named_by_spec f x.metadata) 0 (rows_of x.metadata type_specs))
  specs =
      are_names (assemblies_of files) (SpecAt f) (named_by_spec f x.metadata) (rows_of x.metadata type_specs)
      (by_table (λ p. p.specs) (in_type f) (λ n row. spec_signature x.metadata (bytes_at x.metadata (slice_index row 0))) (named_by_spec f x.metadata) (rows_of x.metadata type_specs) (get_map (λ row. spec_signature x.metadata (bytes_at x.metadata (slice_index row 0))) (rows_of x.metadata type_specs)) (λ n y. refl))

  pub field_types : AreNames (assemblies_of files) (FieldAt f) (links_from (FieldAt f) (named_by_field f x.metadata) 0 (rows_of x.metadata fields))
  field_types =
      are_names (assemblies_of files) (FieldAt f) (named_by_field f x.metadata) (rows_of x.metadata fields)
      (by_table (λ p. p.fields) (of_field f) (λ n. field_row x.metadata (filled f) n) (named_by_field f x.metadata) (rows_of x.metadata fields) numbers (λ n y. refl))
    where
      filled : ℕ → ℕ → List ℕ
      filled g row = unwrap_or (data_of (size_of (rows_alone files)) files (rows_alone files) (id_at g row)) []

      numbers : (n : ℕ) → slice_get (numbered (field_row x.metadata (filled f)) 0 (rows_of x.metadata fields)) n ≡ option_map (field_row x.metadata (filled f) n) (slice_get (rows_of x.metadata fields) n)
      numbers n = let here : 0 + n ≡ n = omega arith in get_numbered (field_row x.metadata (filled f)) 0 n (rows_of x.metadata fields) ∙ ap (λ k. option_map (field_row x.metadata (filled f) k) (slice_get (rows_of x.metadata fields) n)) here
