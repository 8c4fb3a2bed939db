-- When an image's rows are read: exactly where each row of each table is.
use Rattle.std.proofs.Common.{◌≡◌, ℕ, ◌+◌, Bool, true, false, ◌&&◌, List, [], ◌∷◌, map, length, Option, Some, None, refl, sym, ap, ◌∙◌, inl, inr}
use Rattle.std.specs.Prelude.{is_some, nat_eq, nat_le, slice_index, if◌then◌else◌, unwrap_or, ◌⊎◌}
use Rattle.std.specs.Option.{option_map}
use Rattle.std.specs.List.{list_all}
use Rattle.std.proofs.lemmas.Bool.{and_parts, and_from, both_ways}
use Rattle.machine.specs.Throw.{on_some}
use Rattle.image_bytes.specs.Layout.{Image}
use Rattle.assemblies.specs.Rows.{RawFinally, RawCatch, RawOther, Assembly}
use Rattle.image_form.specs.Signatures.{type_token}
use Rattle.image_form.specs.Form.{on_both, all_some, checked, part, none_or, make_clause, name_at, assembly_at, ref_at, field_ref_at, method_ref_at, type_at, field_at, interface_at, clause_kind_at, clause_at, method_at, spec_at, data_at}
use Rattle.image_form.specs.Whole.{table, bytes_at, texts_in, row_in, has_row, make_assembly, rows_held, with_datas, with_clauses, with_interfaces, rows_with, image_rows}
use Rattle.msspot_read.specs.Marked.{HasTexts}
use Rattle.msspot_read.specs.Held.{texts, raw_kind, clause_of, clauses, held_of, reads, tables_read}
use Rattle.msspot_read.proofs.ReadLaws.{some_of, some_both}

-- ---- lists of things that are each read to one value or not at all

abbrev Given : {A B : Type 0} → (A → Option B) → (A → B) → Type 0
Given {A} f g = (x : A) → (f x ≡ Some (g x)) ⊎ (f x ≡ None)

pushed : {B : Type 0} (y : B) (ys : List B) (b : Bool) → on_both (Some (λ zs. y ∷ zs)) (if b then Some ys else None) ≡ (if b then Some (y ∷ ys) else None)
pushed y ys true = refl
pushed y ys false = refl

all_given : {A B : Type 0} (f : A → Option B) (g : A → B) → Given f g → (xs : List A) → all_some f xs ≡ (if list_all (λ x. is_some (f x)) xs then Some (map g xs) else None)
all_given f g h [] = refl
all_given f g h (x ∷ xs) =
    elim (h x) [
      | inl e ↦
          ap (λ o. on_both (option_map (λ y ys. y ∷ ys) o) (all_some f xs)) e
          ∙ ap (on_both (Some (λ ys. g x ∷ ys))) (all_given f g h xs)
          ∙ pushed (g x) (map g xs) (list_all (λ x. is_some (f x)) xs)
          ∙ sym (ap (λ o. if is_some o && list_all (λ x. is_some (f x)) xs then Some (g x ∷ map g xs) else None) e)
      | inr e ↦
          ap (λ o. on_both (option_map (λ y ys. y ∷ ys) o) (all_some f xs)) e
          ∙ sym (ap (λ o. if is_some o && list_all (λ x. is_some (f x)) xs then Some (g x ∷ map g xs) else None) e)
    ]

all_there : {A B : Type 0} (f : A → Option B) (xs : List A) → is_some (all_some f xs) ≡ list_all (λ x. is_some (f x)) xs
all_there f [] = refl
all_there f (x ∷ xs) =
    some_both (option_map (λ y ys. y ∷ ys) (f x)) (all_some f xs) ∙ ap (λ b. b && is_some (all_some f xs)) (some_of (λ y ys. y ∷ ys) (f x)) ∙ ap (λ b. is_some (f x) && b) (all_there f xs)

more : {A B : Type 0} (f : Option (A → B)) (o : Option A) (b c : Bool) → is_some f ≡ b → is_some o ≡ c → is_some (on_both f o) ≡ (b && c)
more f o b c e g = some_both f o ∙ ap (λ x. x && is_some o) e ∙ ap (λ x. b && x) g

-- ---- what is on condition

on_if : {A B : Type 0} (b : Bool) (v : A) (k : A → Option B) → on_some (if b then Some v else None) k ≡ (if b then k v else None)
on_if true v k = refl
on_if false v k = refl

if_there : {A : Type 0} (b : Bool) (o : Option A) → is_some (if b then o else None) ≡ (b && is_some o)
if_there true o = refl
if_there false o = refl

there_is : (o : Option (List (List ℕ))) → is_some o ≡ true → o ≡ Some (unwrap_or o [])
there_is None h = absurd (cc h)
there_is (Some x) h = refl

checked_given : {A : Type 0} (b : Bool) (x : A) → (checked b x ≡ Some x) ⊎ (checked b x ≡ None)
checked_given true x = inl refl
checked_given false x = inr refl

module _ (i : Image) where
  token_given : Given (interface_at (held_of i)) (λ r. type_token (slice_index r 0))
  token_given [] = inr refl
  token_given (w ∷ []) = checked_given (has_row i (type_token w)) (type_token w)
  token_given (w ∷ v ∷ r) = inr refl

  data_given : Given (data_at (bytes_at i 3)) (λ r. part (slice_index r 0) (slice_index r 1) (bytes_at i 3))
  data_given [] = inr refl
  data_given (at ∷ []) = inr refl
  data_given (at ∷ n ∷ []) = checked_given (nat_le (at + n) (length (bytes_at i 3))) (part at n (bytes_at i 3))
  data_given (at ∷ n ∷ m ∷ r) = inr refl

  kind_given : (a b c d k w : ℕ) → (option_map (make_clause a b c d) (clause_kind_at (held_of i) k w) ≡ Some (make_clause a b c d (raw_kind k w))) ⊎ (option_map (make_clause a b c d) (clause_kind_at (held_of i) k w) ≡ None)
  kind_given a b c d k w = by (nat_eq k 2) (nat_eq w 65535) (has_row i (type_token w)) where
    by : (t u v : Bool)
        → (option_map (make_clause a b c d) (if t then checked u RawFinally else option_map (λ t. if nat_eq k 0 then RawCatch t else RawOther) (checked v (type_token w))) ≡ Some (make_clause a b c d (if t then RawFinally else (if nat_eq k 0 then RawCatch (type_token w) else RawOther))))
        ⊎ (option_map (make_clause a b c d) (if t then checked u RawFinally else option_map (λ t. if nat_eq k 0 then RawCatch t else RawOther) (checked v (type_token w))) ≡ None)
    by true true v = inl refl
    by true false v = inr refl
    by false u true = inl refl
    by false u false = inr refl

  clause_given : Given (clause_at (held_of i)) clause_of
  clause_given [] = inr refl
  clause_given (k ∷ []) = inr refl
  clause_given (k ∷ w ∷ []) = inr refl
  clause_given (k ∷ w ∷ a ∷ []) = inr refl
  clause_given (k ∷ w ∷ a ∷ b ∷ []) = inr refl
  clause_given (k ∷ w ∷ a ∷ b ∷ c ∷ []) = inr refl
  clause_given (k ∷ w ∷ a ∷ b ∷ c ∷ d ∷ []) = kind_given a b c d k w
  clause_given (k ∷ w ∷ a ∷ b ∷ c ∷ d ∷ e ∷ r) = inr refl

  abbrev rows : Option Assembly
  rows = rows_held i (texts i 0) (texts i 1) (held_of i)

  abbrev pub all_read : ℕ → Bool
  all_read t = list_all (reads i t) (table i t)

  rows_by : HasTexts i → image_rows i ≡ (if all_read 5 then (if all_read 8 then (if all_read 10 then rows else None) else None) else None)
  rows_by has =
      let s = texts i 0 in
      let t = texts i 1 in
      let interfaces = map (λ r. type_token (slice_index r 0)) (table i 5) in
      let datas = map (λ r. part (slice_index r 0) (slice_index r 1) (bytes_at i 3)) (table i 10) in
      ap (λ o. on_some o (λ strings. on_some (texts_in (bytes_at i 1)) (rows_with i strings))) (there_is (texts_in (bytes_at i 0)) has.0)
      ∙ ap (λ o. on_some o (rows_with i s)) (there_is (texts_in (bytes_at i 1)) has.1)
      ∙ ap (λ o. on_some o (with_interfaces i s t)) (all_given (interface_at (held_of i)) (λ r. type_token (slice_index r 0)) token_given (table i 5))
      ∙ on_if (all_read 5) interfaces (with_interfaces i s t)
      ∙ ap (λ o. if all_read 5 then o else None)
      (ap (λ o. on_some o (with_clauses i s t interfaces)) (all_given (clause_at (held_of i)) clause_of clause_given (table i 8))
      ∙ on_if (all_read 8) (clauses i) (with_clauses i s t interfaces)
      ∙ ap (λ o. if all_read 8 then o else None)
      (ap (λ o. on_some o (with_datas i s t interfaces (clauses i))) (all_given (data_at (bytes_at i 3)) (λ r. part (slice_index r 0) (slice_index r 1) (bytes_at i 3)) data_given (table i 10))
      ∙ on_if (all_read 10) datas (with_datas i s t interfaces (clauses i))))

  rows_there : is_some rows ≡ (is_some (name_at (held_of i) i.name) && is_some (none_or (row_in i 7) i.entry) && all_read 0 && all_read 1 && all_read 2 && all_read 3 && all_read 4 && all_read 6 && all_read 7 && all_read 9)
  rows_there =
      more _ _ _ _
      (more _ _ _ _
      (more _ _ _ _
      (more _ _ _ _
      (more _ _ _ _
      (more _ _ _ _
      (more _ _ _ _
      (more _ _ _ _
      (more _ _ _ _ (some_of (make_assembly i (texts i 0) (texts i 1)) (name_at (held_of i) i.name)) refl)
      (all_there (assembly_at (held_of i)) (table i 0)))
      (all_there (ref_at (held_of i)) (table i 1)))
      (all_there (field_ref_at (held_of i)) (table i 2)))
      (all_there (method_ref_at (held_of i)) (table i 3)))
      (all_there (type_at (held_of i)) (table i 4)))
      (all_there (field_at (held_of i)) (table i 6)))
      (all_there (method_at (held_of i)) (table i 7)))
      (all_there (spec_at (held_of i)) (table i 9))

  seen_law : HasTexts i → is_some (image_rows i) ≡ (all_read 5 && (all_read 8 && (all_read 10 && is_some rows)))
  seen_law has =
      ap is_some (rows_by has)
      ∙ if_there (all_read 5) (if all_read 8 then (if all_read 10 then rows else None) else None)
      ∙ ap (λ b. all_read 5 && b) (if_there (all_read 8) (if all_read 10 then rows else None) ∙ ap (λ b. all_read 8 && b) (if_there (all_read 10) rows))

  abbrev pub names_read : Bool
  names_read = is_some (name_at (held_of i) i.name)

  abbrev pub entry_read : Bool
  entry_read = is_some (none_or (row_in i 7) i.entry)

  -- each of eleven
  pub record Each : Type 0 where
    pub assemblies : all_read 0 ≡ true
    pub refs : all_read 1 ≡ true
    pub field_refs : all_read 2 ≡ true
    pub method_refs : all_read 3 ≡ true
    pub types : all_read 4 ≡ true
    pub interfaces : all_read 5 ≡ true
    pub fields : all_read 6 ≡ true
    pub methods : all_read 7 ≡ true
    pub clauses : all_read 8 ≡ true
    pub specs : all_read 9 ≡ true
    pub data_rows : all_read 10 ≡ true

  each_of : tables_read i ≡ true → Each
  each_of h =
      let p0 = and_parts _ _ h in
      let p1 = and_parts _ _ p0.1 in
      let p2 = and_parts _ _ p1.1 in
      let p3 = and_parts _ _ p2.1 in
      let p4 = and_parts _ _ p3.1 in
      let p5 = and_parts _ _ p4.1 in
      let p6 = and_parts _ _ p5.1 in
      let p7 = and_parts _ _ p6.1 in
      let p8 = and_parts _ _ p7.1 in
      let p9 = and_parts _ _ p8.1 in
      let p10 = and_parts _ _ p9.1 in
      record {
        assemblies = p0.0;
        refs = p1.0;
        field_refs = p2.0;
        method_refs = p3.0;
        types = p4.0;
        interfaces = p5.0;
        fields = p6.0;
        methods = p7.0;
        clauses = p8.0;
        specs = p9.0;
        data_rows = p10.0;
      }

  of_each : Each → tables_read i ≡ true
  of_each e =
      and_from _ _ e.assemblies
      (and_from _ _ e.refs
      (and_from _ _ e.field_refs
      (and_from _ _ e.method_refs
      (and_from _ _ e.types
      (and_from _ _ e.interfaces
      (and_from _ _ e.fields
      (and_from _ _ e.methods
      (and_from _ _ e.clauses
      (and_from _ _ e.specs
      (and_from _ _ e.data_rows refl))))))))))

  pub all_good : HasTexts i → names_read ≡ true → entry_read ≡ true → tables_read i ≡ true → is_some (image_rows i) ≡ true
  all_good has name entry h =
      let e = each_of h in
      seen_law has
      ∙ and_from _ _ e.interfaces
      (and_from _ _ e.clauses
      (and_from _ _ e.data_rows
      (rows_there
      ∙ and_from _ _
      (and_from _ _
      (and_from _ _
      (and_from _ _
      (and_from _ _
      (and_from _ _
      (and_from _ _
      (and_from _ _
      (and_from _ _ name entry)
      e.assemblies)
      e.refs)
      e.field_refs)
      e.method_refs)
      e.types)
      e.fields)
      e.methods)
      e.specs)))

  pub record Parts : Type 0 where
    pub name : names_read ≡ true
    pub entry : entry_read ≡ true
    pub tables : tables_read i ≡ true

  parts_of : HasTexts i → is_some (image_rows i) ≡ true → Parts
  parts_of has h =
      let q5 = and_parts _ _ (sym (seen_law has) ∙ h) in
      let q8 = and_parts _ _ q5.1 in
      let q10 = and_parts _ _ q8.1 in
      let r9 = and_parts _ _ (sym rows_there ∙ q10.1) in
      let r7 = and_parts _ _ r9.0 in
      let r6 = and_parts _ _ r7.0 in
      let r4 = and_parts _ _ r6.0 in
      let r3 = and_parts _ _ r4.0 in
      let r2 = and_parts _ _ r3.0 in
      let r1 = and_parts _ _ r2.0 in
      let r0 = and_parts _ _ r1.0 in
      let n = and_parts _ _ r0.0 in
      record {
        name = n.0;
        entry = n.1;
        tables = of_each (record { assemblies = r0.1; refs = r1.1; field_refs = r2.1; method_refs = r3.1; types = r4.1; interfaces = q5.0; fields = r6.1; methods = r7.1; clauses = q8.0; specs = r9.1; data_rows = q10.0 });
      }

  same_bools : (a b : Bool) → (a ≡ true → b ≡ true) → (b ≡ true → a ≡ true) → a ≡ b
  same_bools true b f g = sym (f refl)
  same_bools false true f g = g refl
  same_bools false false f g = refl

  pub bad_name : HasTexts i → names_read ≡ false → false ≡ is_some (image_rows i)
  bad_name has bad = same_bools false (is_some (image_rows i)) (λ e. absurd (both_ways false refl e)) (λ h. absurd (both_ways _ bad (parts_of has h).name))

  pub bad_entry : HasTexts i → entry_read ≡ false → false ≡ is_some (image_rows i)
  bad_entry has bad = same_bools false (is_some (image_rows i)) (λ e. absurd (both_ways false refl e)) (λ h. absurd (both_ways _ bad (parts_of has h).entry))

  pub tables_tell : HasTexts i → names_read ≡ true → entry_read ≡ true → tables_read i ≡ is_some (image_rows i)
  tables_tell has name entry = same_bools (tables_read i) (is_some (image_rows i)) (λ h. all_good has name entry h) (λ h. (parts_of has h).tables)
