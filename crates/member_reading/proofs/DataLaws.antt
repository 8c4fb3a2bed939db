-- The sizes of types and the bytes of fields, as the code finds them.
use Rattle.std.proofs.Common.{◌≡◌, ◌⊎◌, inl, inr, ℕ, zero, suc, ◌+◌, ◌-◌, ◌<◌, ◌≤◌, min, Bool, true, false, List, [], ◌∷◌, ◌++◌, map, length, drop, subst, Option, Some, None, refl, sym, ap, ◌∙◌, arith, add-one}
use Rattle.std.specs.Prelude.{◌&&◌, nat_lt, slice_get, slice_index, unwrap_or, if◌then◌else◌}
use Rattle.std.specs.Option.{option_map}
use Rattle.std.specs.BTreeMap.{BTreeMap}
use Rattle.std.proofs.lemmas.List.{length-take, length-drop, length-map}
use Rattle.std.proofs.lemmas.Bool.{eq-eqb, ne_eqb}
use Rattle.std.proofs.lemmas.Bool.Decides.{nat_tests}
use Rattle.std.proofs.lemmas.Option.{slice_get-map, slice_get_past, slice_get_within}
use Rattle.file_tables.specs.Metadata.{MetadataPart, rows_of, row_count}
use Rattle.file_tables.specs.File.{FilePart}
use Rattle.machine.specs.Data.{Id}
use Rattle.machine.specs.Throw.{on_some}
use Rattle.classes.specs.Classes.{SigType, ClassToken, ValueToken, ArraySig, Reference}
use Rattle.assemblies.specs.Rows.{RawType, RawSpelt, RawClass, RawValue, RawArray, TypeRow, FieldRow, Assembly}
use Rattle.assemblies.specs.Binding.{id_at, numbered, range, resolve, expanded}
use Rattle.assemblies.proofs.Numbered.{get_numbered}
use Rattle.world_rows.specs.Tokens.{fields, type_defs, class_layouts, field_rvas, bytes_at}
use Rattle.world_rows.specs.Rows.{row_with, list_first, list_count, field_row, type_row, alone}
use Rattle.world_rows.specs.Kinds.{fields_in, layout_size, data_size, size_of_type, rva_of, bytes_by, data_of}
use Rattle.world_rows.specs.Signatures.{field_signature}
use Rattle.world_rows.specs.World.{assembly_with, rows_alone, assemblies_of}
use Rattle.world_rows.proofs.Alone.{resolve_alone}
use Rattle.class_table.specs.declared.rows.ClassRow.{ClassRow}
use Rattle.class_table.specs.Outlines.{Outline, outline_seen, outline_of, outlines_at, AreRead}
use Rattle.member_reading.specs.Columns.{FindsRows}
use Rattle.member_reading.specs.Meant.{scopes, field_type_meant}
use Rattle.member_reading.specs.Data.{AreLayouts, class_size, signature_size, data_by}
use Rattle.member_keys.specs.declared.keys.ClassId.{ClassId}
use Rattle.member_keys.specs.declared.keys.TypeKey.{TypeKey}
use Rattle.member_keys.specs.declared.keys.ElementKey.TheVariants.{Value}
use Rattle.member_keys.specs.Seen.{class_seen, element_seen, arrays, type_seen}
use Rattle.member_reading.proofs.TypeLaws.{IsThere, there, whole_at, alone_at, outlines_are}

pub numbered_length : {A B : Type 0} (make : ℕ → A → B) (n : ℕ) (xs : List A) → length (numbered make n xs) ≡ length xs
numbered_length make n [] = refl
numbered_length make n (x ∷ xs) = ap suc (numbered_length make (suc n) xs)

range_length : {A : Type 0} (first count : ℕ) (xs : List A) → length (range first count xs) ≡ min count (length xs - first)
range_length first count xs = length-take count (drop first xs) ∙ ap (min count) (length-drop first xs)

-- what the tables of a file say, of the file
pub finds_file : (files : List FilePart) (file table column : ℕ) (m : MetadataPart) (places : BTreeMap ℕ ℕ) → option_map (λ (f : FilePart). f.metadata) (slice_get files file) ≡ Some m → FindsRows m table column places → (f : FilePart) → slice_get files file ≡ Some f → FindsRows f.metadata table column places
finds_file files file table column m places tables finds f here =
    let same : f.metadata ≡ m = cc (sym (ap (option_map (λ (f : FilePart). f.metadata)) here) ∙ tables) in
    subst (λ x. FindsRows x table column places) (sym same) finds

-- a list with one more at its end
got_last : {A : Type 0} (xs : List A) (x : A) (i : ℕ) (y : A) → slice_get (xs ++ x ∷ []) i ≡ Some y → (slice_get xs i ≡ Some y) ⊎ ((i ≡ length xs) × (x ≡ y))
got_last [] x zero y e = inr (refl, cc e)
got_last [] x (suc i) y e = absurd (cc e)
got_last (z ∷ xs) x zero y e = inl e
got_last (z ∷ xs) x (suc i) y e = go (got_last xs x i y e)
  where
    go : (slice_get xs i ≡ Some y) ⊎ ((i ≡ length xs) × (x ≡ y)) → (slice_get (z ∷ xs) (suc i) ≡ Some y) ⊎ ((suc i ≡ length (z ∷ xs)) × (x ≡ y))
    go (inl f) = inl f
    go (inr (f, g)) = inr (ap suc f, g)

abbrev pub Finds : List FilePart → List (BTreeMap ℕ ℕ) → Type 0
Finds files layouts = (file : ℕ) (f : FilePart) (places : BTreeMap ℕ ℕ) → slice_get files file ≡ Some f → slice_get layouts file ≡ Some places → FindsRows f.metadata class_layouts 2 places

pub layouts_more : (files : List FilePart) (layouts : List (BTreeMap ℕ ℕ)) (added : BTreeMap ℕ ℕ) (n : ℕ) → length layouts ≡ n → Finds files layouts → ((f : FilePart) → slice_get files n ≡ Some f → FindsRows f.metadata class_layouts 2 added) → Finds files (layouts ++ added ∷ [])
layouts_more files layouts added n count known finds file f places here at = by (got_last layouts added file places at)
  where
    by : (slice_get layouts file ≡ Some places) ⊎ ((file ≡ length layouts) × (added ≡ places)) → FindsRows f.metadata class_layouts 2 places
    by (inl e) = known file f places here e
    by (inr (e, g)) = subst (λ x. FindsRows f.metadata class_layouts 2 x) g (finds f (ap (slice_get files) (sym (e ∙ count)) ∙ here))

module _ (files : List FilePart) where
  abbrev k : ℕ
  k = scopes files

  abbrev ps : List Assembly
  ps = rows_alone files

  -- ---- layouts

  type_here : (c : Id) (f : FilePart) (row : List ℕ) → slice_get (rows_of f.metadata type_defs) c.row ≡ Some row → slice_get (alone f).types c.row ≡ Some (type_row f.metadata (λ n. Reference) c.row row)
  type_here c f row at =
      let same : 0 + c.row ≡ c.row = omega arith in
      get_numbered (type_row f.metadata (λ n. Reference)) 0 c.row (rows_of f.metadata type_defs)
      ∙ ap (λ i. option_map (type_row f.metadata (λ n. Reference) i) (slice_get (rows_of f.metadata type_defs) c.row)) same
      ∙ ap (option_map (type_row f.metadata (λ n. Reference) c.row)) at

  fields_alone : (c : Id) (f : FilePart) (row : List ℕ) → slice_get files c.file ≡ Some f → slice_get (rows_of f.metadata type_defs) c.row ≡ Some row → fields_in ps c ≡ range (list_first 4 row) (list_count f.metadata fields 4 c.row row) (alone f).fields
  fields_alone c f row here at =
      ap (λ o. unwrap_or (on_some o (λ (p : Assembly). option_map (λ (t : TypeRow). range t.first_field t.field_count p.fields) (slice_get p.types c.row))) []) (alone_at files c.file ∙ ap (option_map alone) here)
      ∙ ap (λ o. unwrap_or (option_map (λ (t : TypeRow). range t.first_field t.field_count (alone f).fields) o) []) (type_here c f row at)

  pub fields_there : (c : Id) (o : Outline) (m : MetadataPart) → slice_get (outlines_at files c.file) c.row ≡ Some o → option_map (λ (f : FilePart). f.metadata) (slice_get files c.file) ≡ Some m → length (fields_in ps c) ≡ min o.field_count (row_count m fields - o.first_field)
  fields_there c o m e tables = by (there files c o e)
    where
      by : IsThere files c o → length (fields_in ps c) ≡ min o.field_count (row_count m fields - o.first_field)
      by w =
          let same : w.file.metadata ≡ m = cc (sym (ap (option_map (λ (f : FilePart). f.metadata)) w.is_file) ∙ tables) in
          ap length (fields_alone c w.file w.row w.is_file w.is_row)
          ∙ range_length (list_first 4 w.row) (list_count w.file.metadata fields 4 c.row w.row) (alone w.file).fields
          ∙ ap (λ n. min (list_count w.file.metadata fields 4 c.row w.row) (n - list_first 4 w.row)) (numbered_length (field_row w.file.metadata (λ n. [])) 0 (rows_of w.file.metadata fields) ∙ ap (λ z. row_count z fields) same)
          ∙ ap (λ (x : Outline). min x.field_count (row_count m fields - x.first_field)) w.is

  module _ (c : Id) (o : Outline) (m : MetadataPart) (e : slice_get (outlines_at files c.file) c.row ≡ Some o) (tables : option_map (λ (f : FilePart). f.metadata) (slice_get files c.file) ≡ Some m) where
    pub size_by_fields : data_size files ps c ≡ (if nat_lt 0 o.field_count && nat_lt o.first_field (row_count m fields) then None else layout_size files c)
    size_by_fields = by (nat_lt 0 o.field_count && nat_lt o.first_field (row_count m fields)) refl
      where
        by : (b : Bool) → (nat_lt 0 o.field_count && nat_lt o.first_field (row_count m fields)) ≡ b → data_size files ps c ≡ (if b then None else layout_size files c)
        by true t =
            let counted = fields_there c o m e tables in
            ap (λ (b : Bool). if b then layout_size files c else None) (ne_eqb (length (fields_in ps c)) 0 (some t counted))
          where
            some : (nat_lt 0 o.field_count && nat_lt o.first_field (row_count m fields)) ≡ true → length (fields_in ps c) ≡ min o.field_count (row_count m fields - o.first_field) → length (fields_in ps c) ≡ 0 → ⊥
            some t counted z = grind (arith, nat_tests)
        by false t =
            let counted = fields_there c o m e tables in
            ap (λ (b : Bool). if b then layout_size files c else None) (eq-eqb (length (fields_in ps c)) 0 (none t counted))
          where
            none : (nat_lt 0 o.field_count && nat_lt o.first_field (row_count m fields)) ≡ false → length (fields_in ps c) ≡ min o.field_count (row_count m fields - o.first_field) → length (fields_in ps c) ≡ 0
            none t counted = grind (arith, nat_tests)

    pub row_within : c.row < row_count m type_defs
    row_within =
        let w = there files c o e in
        let same : w.file.metadata ≡ m = cc (sym (ap (option_map (λ (f : FilePart). f.metadata)) w.is_file) ∙ tables) in
        let h = slice_get_within (rows_of w.file.metadata type_defs) c.row w.row w.is_row in
        subst (λ x. c.row < row_count x type_defs) same h

  pub layout_is : (c : Id) (m : MetadataPart) → option_map (λ (f : FilePart). f.metadata) (slice_get files c.file) ≡ Some m → layout_size files c ≡ option_map (λ row. slice_index row 1) (row_with 2 (c.row + 1) (rows_of m class_layouts))
  layout_is c m tables = go (slice_get files c.file) tables
    where
      go : (x : Option FilePart) → option_map (λ (f : FilePart). f.metadata) x ≡ Some m → on_some x (λ f. option_map (λ row. slice_index row 1) (row_with 2 (suc c.row) (rows_of f.metadata class_layouts))) ≡ option_map (λ row. slice_index row 1) (row_with 2 (c.row + 1) (rows_of m class_layouts))
      go None e = absurd (cc e)
      go (Some f) e =
          let same : f.metadata ≡ m = cc e in
          ap (λ z. option_map (λ row. slice_index row 1) (row_with 2 (suc c.row) (rows_of z class_layouts))) same
          ∙ ap (λ n. option_map (λ row. slice_index row 1) (row_with 2 n (rows_of m class_layouts))) (sym (add-one c.row))

  -- ---- sizes

  pub size_is : (file : ℕ) (raw : RawType) → size_of_type k files ps file raw ≡ on_some (expanded k (assemblies_of files) file raw) (signature_size files)
  size_is file (RawSpelt e) = refl
  size_is file (RawClass t) = go (resolve k (assemblies_of files) file t)
    where
      go : (o : Option Id) → None ≡ on_some (option_map ClassToken o) (signature_size files)
      go None = refl
      go (Some c) = refl
  size_is file (RawValue t) = ap (λ o. on_some o (class_size files)) (sym (resolve_alone files k file t)) ∙ go (resolve k (assemblies_of files) file t)
    where
      go : (o : Option Id) → on_some o (class_size files) ≡ on_some (option_map ValueToken o) (signature_size files)
      go None = refl
      go (Some c) = refl
  size_is file (RawArray s) = go (expanded k (assemblies_of files) file s)
    where
      go : (o : Option SigType) → None ≡ on_some (option_map ArraySig o) (signature_size files)
      go None = refl
      go (Some c) = refl

  -- ---- classes that the code has

  module _ (classes : List (List ClassRow)) (read : AreRead files classes) where
    pub outline_found : (c : Id) (rows : List ClassRow) (row : ClassRow) → slice_get classes c.file ≡ Some rows → slice_get rows c.row ≡ Some row → slice_get (outlines_at files c.file) c.row ≡ Some (outline_seen row)
    outline_found c rows row here at =
        ap (λ os. slice_get os c.row) (sym (read c.file rows here)) ∙ slice_get-map outline_seen rows c.row ∙ ap (option_map outline_seen) at

    pub outline_past : (c : Id) (rows : List ClassRow) → slice_get classes c.file ≡ Some rows → slice_get rows c.row ≡ None → slice_get (outlines_at files c.file) c.row ≡ None
    outline_past c rows here at =
        ap (λ os. slice_get os c.row) (sym (read c.file rows here)) ∙ slice_get-map outline_seen rows c.row ∙ ap (option_map outline_seen) at

  pub no_outline : (c : Id) → length files ≤ c.file → slice_get (outlines_at files c.file) c.row ≡ None
  no_outline c past =
      ap (λ o. slice_get (unwrap_or (option_map (λ (p : Assembly). map (outline_of k (assemblies_of files) c.file) p.types) o) []) c.row)
      (whole_at files c.file ∙ ap (option_map (assembly_with k files ps c.file)) (slice_get_past files c.file past))

  -- ---- data

  pub data_is : (file n : ℕ) (f : FilePart) (row : List ℕ) → slice_get files file ≡ Some f → slice_get (rows_of f.metadata fields) n ≡ Some row → data_of k files ps (id_at file n) ≡ data_by files file n (field_type_meant files file (bytes_at f.metadata (slice_index row 2)))
  unfolding data_of
  data_is file n f row here at =
      ap (λ o. on_some o (λ x. on_some (slice_get ps file) (λ (p : Assembly). on_some (slice_get p.fields n) (λ (y : FieldRow). bytes_by x (rva_of x n) (size_of_type k files ps file y.signature))))) here
      ∙ ap (λ o. on_some o (λ (p : Assembly). on_some (slice_get p.fields n) (λ (y : FieldRow). bytes_by f (rva_of f n) (size_of_type k files ps file y.signature)))) (alone_at files file ∙ ap (option_map alone) here)
      ∙ ap (λ o. on_some o (λ (y : FieldRow). bytes_by f (rva_of f n) (size_of_type k files ps file y.signature))) field_here
      ∙ ap (bytes_by f (rva_of f n)) (size_is file (field_signature f.metadata (bytes_at f.metadata (slice_index row 2))))
      ∙ sym (ap (λ o. on_some o (λ x. bytes_by x (rva_of x n) (on_some (field_type_meant files file (bytes_at f.metadata (slice_index row 2))) (signature_size files)))) here
      ∙ ap (λ o. bytes_by f (rva_of f n) (on_some (on_some o (λ x. expanded k (assemblies_of files) file (field_signature x.metadata (bytes_at f.metadata (slice_index row 2))))) (signature_size files))) here)
    where
      field_here : slice_get (alone f).fields n ≡ Some (field_row f.metadata (λ n. []) n row)
      field_here =
          let same : 0 + n ≡ n = omega arith in
          get_numbered (field_row f.metadata (λ n. [])) 0 n (rows_of f.metadata fields)
          ∙ ap (λ i. option_map (field_row f.metadata (λ n. []) i) (slice_get (rows_of f.metadata fields) n)) same
          ∙ ap (option_map (field_row f.metadata (λ n. []) n)) at

  pub rva_none : (file n : ℕ) (m : MetadataPart) (s : Option SigType) → option_map (λ (f : FilePart). f.metadata) (slice_get files file) ≡ Some m → None ≡ option_map (λ row. slice_index row 0) (row_with 1 (n + 1) (rows_of m field_rvas)) → data_by files file n s ≡ None
  rva_none file n m s tables none = go (slice_get files file) tables
    where
      go : (x : Option FilePart) → option_map (λ (f : FilePart). f.metadata) x ≡ Some m → on_some x (λ f. bytes_by f (rva_of f n) (on_some s (signature_size files))) ≡ None
      go None e = refl
      go (Some f) e =
          let same : f.metadata ≡ m = cc e in
          ap (λ o. bytes_by f o (on_some s (signature_size files)))
          (ap (λ z. option_map (λ row. slice_index row 0) (row_with 1 (suc n) (rows_of z field_rvas))) same
          ∙ ap (λ i. option_map (λ row. slice_index row 0) (row_with 1 i (rows_of m field_rvas))) (sym (add-one n))
          ∙ sym none)

  pub value_size : (of : TypeKey) (c : ClassId) → of.ranks ≡ 0 → of.element ≡ Value c → signature_size files (type_seen of) ≡ class_size files (class_seen c)
  value_size of c e g = ap (λ n. signature_size files (arrays n (element_seen of.element))) e ∙ ap (λ x. signature_size files (element_seen x)) g

pub layouts_there : (files : List FilePart) (layouts : List (BTreeMap ℕ ℕ)) (file : ℕ) (m : MetadataPart) (places : BTreeMap ℕ ℕ) → AreLayouts files layouts → option_map (λ (f : FilePart). f.metadata) (slice_get files file) ≡ Some m → slice_get layouts file ≡ Some places → FindsRows m class_layouts 2 places
layouts_there files layouts file m places known tables at = go (slice_get files file) refl tables
  where
    go : (x : Option FilePart) → slice_get files file ≡ x → option_map (λ (f : FilePart). f.metadata) x ≡ Some m → FindsRows m class_layouts 2 places
    go None here e = absurd (cc e)
    go (Some f) here e = let same : f.metadata ≡ m = cc e in subst (λ x. FindsRows x class_layouts 2 places) same (known.each file f places here at)

-- the rows of a file's types are as many as its table has
pub count_rows : (files : List FilePart) (file : ℕ) (m : MetadataPart) (rows : List ClassRow) → option_map (λ (f : FilePart). f.metadata) (slice_get files file) ≡ Some m → map outline_seen rows ≡ outlines_at files file → length rows ≡ row_count m type_defs
count_rows files file m rows tables read = go (slice_get files file) refl tables
  where
    go : (x : Option FilePart) → slice_get files file ≡ x → option_map (λ (f : FilePart). f.metadata) x ≡ Some m → length rows ≡ row_count m type_defs
    go None here e = absurd (cc e)
    go (Some f) here e =
        let same : f.metadata ≡ m = cc e in
        sym (length-map rows outline_seen)
        ∙ ap length (read ∙ outlines_are files file f here)
        ∙ length-map (numbered (type_row f.metadata _) 0 (rows_of f.metadata type_defs)) (outline_of (scopes files) (assemblies_of files) file)
        ∙ numbered_length (type_row f.metadata _) 0 (rows_of f.metadata type_defs)
        ∙ ap (λ x. row_count x type_defs) same
