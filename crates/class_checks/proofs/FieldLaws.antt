-- The instance fields of a class as rows.
use Rattle.std.proofs.Common.{◌≡◌, ◌∙◌, ℕ, zero, suc, ◌+◌, ◌<◌, Bool, cond, true, false, List, [], ◌∷◌, ◌++◌, length, get_or, take, Option, Some, None, refl, sym, ap, arith, length-append}
use Rattle.std.specs.Prelude.{◌&&◌, nat_eq, slice_get, unwrap_or}
use Rattle.std.specs.List.{filter}
use Rattle.std.specs.Option.{option_map}
use Rattle.std.proofs.lemmas.Bool.{ne_eqb}
use Rattle.std.proofs.lemmas.List.{append-nil}
use Rattle.std.proofs.lemmas.List.Elements.{filter_more}
use Rattle.plain_types.specs.declared.elem.Elem.{Elem}
use Rattle.machine.specs.Data.{Id}
use Rattle.machine.specs.Throw.{on_some}
use Rattle.classes.specs.Classes.{SigType, OwnField}
use Rattle.classes.specs.Queries.{is_instance, fields_of, own_instance_fields}
use Rattle.assemblies.specs.Binding.{numbered, range}
use Rattle.member_keys.specs.Seen.{arrays, type_seen}
use Rattle.class_table.specs.declared.rows.ClassRow.{ClassRow}
use Rattle.class_table.specs.declared.rows.FieldRow.{FieldRow}
use Rattle.class_table.specs.declared.rows.FileRows.{FileRows}
use Rattle.class_table.specs.declared.rows.ClassTable.{ClassTable}
use Rattle.class_table.specs.Seen.{classes_seen, field_seen, row_seen}
use Rattle.class_rules.specs.Rules.{is_none_there, is_one_of, is_spelt}
use Rattle.class_checks.specs.declared.values.Instances.{Instances}
use Rattle.class_checks.specs.Fields.{AreInstances, own_rows, is_instance_row, instance_rows, last_signature}

-- a type that is spelt has no arrays round it
pub spelt_inside : (e : Elem) (n : ℕ) (s : SigType) → is_spelt e (Some (arrays n s)) ≡ (nat_eq n 0 && is_spelt e (Some s))
spelt_inside e zero s = refl
spelt_inside e (suc n) s = ap (λ b. b && is_spelt e (Some s)) (sym (ne_eqb (suc n) 0 (λ h. omega (arith, h))))

-- the last of a list that grew
last_more : (fs : List FieldRow) (f : FieldRow) → last_signature (fs ++ f ∷ []) ≡ f.signature
last_more [] f = refl
last_more (g ∷ []) f = refl
last_more (g ∷ h ∷ fs) f = last_more (h ∷ fs) f

-- one field more
module _ (fs : List FieldRow) (i : ℕ) (d : FieldRow) (within : i < length fs) where
  by_kind : (b : Bool) → is_instance_row (get_or fs i d) ≡ b → instance_rows (take (i + 1) fs) ≡ instance_rows (take i fs) ++ cond b (get_or fs i d ∷ []) []
  by_kind b e = filter_more is_instance_row fs i d within ∙ ap (λ b. instance_rows (take i fs) ++ cond b (get_or fs i d ∷ []) []) e

  pub one_more : is_instance_row (get_or fs i d) ≡ true → length (instance_rows (take (i + 1) fs)) ≡ length (instance_rows (take i fs)) + 1
  one_more e = ap length (by_kind true e) ∙ length-append (instance_rows (take i fs)) (get_or fs i d ∷ [])

  pub now_last : is_instance_row (get_or fs i d) ≡ true → last_signature (instance_rows (take (i + 1) fs)) ≡ (get_or fs i d).signature
  now_last e = ap last_signature (by_kind true e) ∙ last_more (instance_rows (take i fs)) (get_or fs i d)

  pub no_more : is_instance_row (get_or fs i d) ≡ false → instance_rows (take (i + 1) fs) ≡ instance_rows (take i fs)
  no_more e = by_kind false e ∙ append-nil (instance_rows (take i fs))

-- fields behind one another, with their numbers
same_none : (file : ℕ) (fs : List FieldRow) (n : ℕ) → is_none_there (filter is_instance (numbered (field_seen file) n fs)) ≡ is_none_there (instance_rows fs)
same_none file [] n = refl
same_none file (f ∷ fs) n = go (is_instance_row f) (same_none file fs (suc n))
  where
    go : (b : Bool) → is_none_there (filter is_instance (numbered (field_seen file) (suc n) fs)) ≡ is_none_there (instance_rows fs) → is_none_there (cond b (field_seen file n f ∷ filter is_instance (numbered (field_seen file) (suc n) fs)) (filter is_instance (numbered (field_seen file) (suc n) fs))) ≡ is_none_there (cond b (f ∷ instance_rows fs) (instance_rows fs))
    go true rest = refl
    go false rest = rest

none_counted : (fs : List FieldRow) → is_none_there fs ≡ nat_eq (length fs) 0
none_counted [] = refl
none_counted (f ∷ fs) = sym (ne_eqb (suc (length fs)) 0 (λ h. omega (arith, h)))

same_one : (e : Elem) (file : ℕ) (fs : List FieldRow) (n : ℕ) → is_one_of e (filter is_instance (numbered (field_seen file) n fs)) ≡ (nat_eq (length (instance_rows fs)) 1 && is_spelt e (option_map type_seen (last_signature (instance_rows fs))))
same_one e file [] n = refl
same_one e file (f ∷ fs) n = go (is_instance_row f) (same_one e file fs (suc n))
  where
    by_rest : (xs : List OwnField) (ys : List FieldRow) → is_none_there xs ≡ is_none_there ys → is_one_of e (field_seen file n f ∷ xs) ≡ (nat_eq (suc (length ys)) 1 && is_spelt e (option_map type_seen (last_signature (f ∷ ys))))
    by_rest [] [] same = refl
    by_rest [] (y ∷ ys) same = absurd (cc same)
    by_rest (x ∷ xs) [] same = absurd (cc same)
    by_rest (x ∷ xs) (y ∷ ys) same = ap (λ b. b && is_spelt e (option_map type_seen (last_signature (f ∷ y ∷ ys)))) (sym (ne_eqb (suc (suc (length ys))) 1 (λ h. omega (arith, h))))

    go : (b : Bool) → is_one_of e (filter is_instance (numbered (field_seen file) (suc n) fs)) ≡ (nat_eq (length (instance_rows fs)) 1 && is_spelt e (option_map type_seen (last_signature (instance_rows fs)))) → is_one_of e (cond b (field_seen file n f ∷ filter is_instance (numbered (field_seen file) (suc n) fs)) (filter is_instance (numbered (field_seen file) (suc n) fs))) ≡ (nat_eq (length (cond b (f ∷ instance_rows fs) (instance_rows fs))) 1 && is_spelt e (option_map type_seen (last_signature (cond b (f ∷ instance_rows fs) (instance_rows fs)))))
    go true rest = by_rest (filter is_instance (numbered (field_seen file) (suc n) fs)) (instance_rows fs) (same_none file fs (suc n))
    go false rest = rest

-- the fields of a class are its rows with their numbers
module _ (t : ClassTable) (c : Id) where
  fields_told : (n : ℕ) × (fields_of (classes_seen t) c ≡ numbered (field_seen c.file) n (own_rows t c))
  fields_told = go (slice_get t.files.items c.file)
    where
      in_file : (f : FileRows) (o : Option ClassRow) → (n : ℕ) × (unwrap_or (option_map (λ k. k.fields) (option_map (row_seen c.file f) o)) [] ≡ numbered (field_seen c.file) n (unwrap_or (option_map (λ (r : ClassRow). range r.first_field r.field_count f.fields.items) o) []))
      in_file f None = (0, refl)
      in_file f (Some r) = (r.first_field, refl)

      go : (o : Option FileRows) → (n : ℕ) × (unwrap_or (option_map (λ k. k.fields) (on_some o (λ (f : FileRows). option_map (row_seen c.file f) (slice_get f.classes.items c.row)))) [] ≡ numbered (field_seen c.file) n (unwrap_or (on_some o (λ (f : FileRows). option_map (λ (r : ClassRow). range r.first_field r.field_count f.fields.items) (slice_get f.classes.items c.row))) []))
      go None = (0, refl)
      go (Some f) = in_file f (slice_get f.classes.items c.row)

  pub fields_none : is_none_there (fields_of (classes_seen t) c) ≡ nat_eq (length (own_rows t c)) 0
  fields_none = ap is_none_there fields_told.1 ∙ none_numbered (own_rows t c) fields_told.0 ∙ none_counted (own_rows t c)
    where
      none_numbered : (fs : List FieldRow) (n : ℕ) → is_none_there (numbered (field_seen c.file) n fs) ≡ is_none_there fs
      none_numbered [] n = refl
      none_numbered (f ∷ fs) n = refl

  pub none_told : is_none_there (own_instance_fields (classes_seen t) c) ≡ nat_eq (length (instance_rows (own_rows t c))) 0
  none_told = ap (λ fs. is_none_there (filter is_instance fs)) fields_told.1 ∙ same_none c.file (own_rows t c) fields_told.0 ∙ none_counted (instance_rows (own_rows t c))

  one_told : (e : Elem) → is_one_of e (own_instance_fields (classes_seen t) c) ≡ (nat_eq (length (instance_rows (own_rows t c))) 1 && is_spelt e (option_map type_seen (last_signature (instance_rows (own_rows t c)))))
  one_told e = ap (λ fs. is_one_of e (filter is_instance fs)) fields_told.1 ∙ same_one e c.file (own_rows t c) fields_told.0

  -- by what was counted
  module _ (e : Elem) (i : Instances) (are : AreInstances (own_rows t c) i) where
    by_count : is_one_of e (own_instance_fields (classes_seen t) c) ≡ (nat_eq i.count 1 && is_spelt e (option_map type_seen i.last))
    by_count =
        one_told e
        ∙ ap (λ n. nat_eq n 1 && is_spelt e (option_map type_seen (last_signature (instance_rows (own_rows t c))))) (sym are.count)
        ∙ ap (λ s. nat_eq i.count 1 && is_spelt e (option_map type_seen s)) (sym are.last)

    pub counted_one : i.count ≡ 1 → is_one_of e (own_instance_fields (classes_seen t) c) ≡ is_spelt e (option_map type_seen i.last)
    counted_one one = by_count ∙ ap (λ n. nat_eq n 1 && is_spelt e (option_map type_seen i.last)) one

    pub counted_other : (i.count ≡ 1 → ⊥) → nat_eq i.count 1 ≡ is_one_of e (own_instance_fields (classes_seen t) c)
    counted_other other =
        let none : nat_eq i.count 1 ≡ false = ne_eqb i.count 1 other in
        none ∙ sym (by_count ∙ ap (λ b. b && is_spelt e (option_map type_seen i.last)) none)
