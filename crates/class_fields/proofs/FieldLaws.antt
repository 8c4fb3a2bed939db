-- Instance fields by the chain of superclasses, and a class's own by its rows.
use Rattle.std.proofs.Common.{◌≡◌, ◌⊎◌, inl, inr, ◌∙◌, ℕ, zero, suc, ◌+◌, ◌<◌, ◌≤◌, List, [], ◌∷◌, ◌++◌, length, get_or, take, drop, map, Option, Some, None, refl, sym, ap, add-one, append_assoc}
use Rattle.std.specs.Prelude.{slice_get, unwrap_or}
use Rattle.std.specs.List.{filter}
use Rattle.std.specs.Option.{option_map}
use Rattle.std.proofs.lemmas.Bool.{cases_lt}
use Rattle.std.proofs.lemmas.List.{drop_all, drop_more, map-append}
use Rattle.std.proofs.lemmas.List.Elements.{filter-append}
use Rattle.machine.specs.Data.{Id}
use Rattle.machine.specs.Throw.{on_some}
use Rattle.classes.specs.Classes.{Classes, OwnField}
use Rattle.classes.specs.Queries.{chain_within, instance_fields_within, is_instance, own_instance_fields, superclass_of}
use Rattle.assemblies.specs.Binding.{numbered, range}
use Rattle.member_keys.specs.declared.keys.ClassId.{ClassId}
use Rattle.member_keys.specs.Seen.{class_seen}
use Rattle.class_table.specs.declared.rows.ClassRow.{ClassRow}
use Rattle.class_table.specs.declared.rows.FieldRow.{FieldRow}
use Rattle.class_table.specs.declared.rows.FileRows.{FileRows}
use Rattle.class_table.specs.declared.rows.ClassTable.{ClassTable}
use Rattle.class_table.specs.Seen.{classes_seen, field_seen, row_seen}
use Rattle.class_queries.specs.Found.{found_row}

-- ---- the chain

module _ (cs : Classes) where
  -- the instance fields that classes declare, those of the last one first
  abbrev pub fields_up : List Id → List OwnField
  fields_up [] = []
  fields_up (c ∷ xs) = fields_up xs ++ own_instance_fields cs c

  pub by_chain : (n : ℕ) (c : Id) → fields_up (chain_within n cs c) ≡ instance_fields_within n cs c
  by_chain zero c = refl
  by_chain (suc n) c = go (superclass_of cs c) (by_chain n)
    where
      go : (o : Option Id) → ((d : Id) → fields_up (chain_within n cs d) ≡ instance_fields_within n cs d) → fields_up (c ∷ unwrap_or (option_map (chain_within n cs) o) []) ≡ unwrap_or (option_map (instance_fields_within n cs) o) [] ++ own_instance_fields cs c
      go None above = refl
      go (Some d) above = ap (λ fs. fs ++ own_instance_fields cs c) (above d)

  pub chain_top : (n : ℕ) (c : Id) → superclass_of cs c ≡ None → chain_within n cs c ≡ c ∷ []
  chain_top zero c up = refl
  chain_top (suc n) c up = ap (λ o. c ∷ unwrap_or (option_map (chain_within n cs) o) []) up

  pub chain_up : (n : ℕ) (c d : Id) → superclass_of cs c ≡ Some d → chain_within (suc n) cs c ≡ c ∷ chain_within n cs d
  chain_up n c d up = ap (λ o. c ∷ unwrap_or (option_map (chain_within n cs) o) []) up

  -- one class more on the way up, and the topmost one
  pub walks_on : (xs : List ClassId) (c d : ClassId) (n : ℕ) → superclass_of cs (class_seen c) ≡ Some (class_seen d) → map class_seen (xs ++ c ∷ []) ++ chain_within n cs (class_seen d) ≡ map class_seen xs ++ chain_within (suc n) cs (class_seen c)
  walks_on xs c d n up =
      ap (λ ys. ys ++ chain_within n cs (class_seen d)) (map-append class_seen xs (c ∷ []))
      ∙ (append_assoc (map class_seen xs) (class_seen c ∷ []) (chain_within n cs (class_seen d))
      ∙ ap (λ ys. map class_seen xs ++ ys) (sym (chain_up n (class_seen c) (class_seen d) up)))

  pub walks_out : (xs : List ClassId) (c : ClassId) (n : ℕ) → superclass_of cs (class_seen c) ≡ None → map class_seen (xs ++ c ∷ []) ≡ map class_seen xs ++ chain_within n cs (class_seen c)
  walks_out xs c n up = map-append class_seen xs (c ∷ []) ∙ ap (λ ys. map class_seen xs ++ ys) (sym (chain_top n (class_seen c) up))

-- ---- rows

module _ (file : ℕ) (rows : List FieldRow) where
  abbrev pub instances_from : ℕ → ℕ → List OwnField
  instances_from place n = filter is_instance (numbered (field_seen file) place (take n (drop place rows)))

  pub one_more : (place n : ℕ) (d : FieldRow) → place < length rows → filter is_instance (field_seen file place (get_or rows place d) ∷ []) ++ instances_from (place + 1) n ≡ instances_from place (suc n)
  one_more place n d low =
      sym (filter-append is_instance (field_seen file place (get_or rows place d) ∷ []) (numbered (field_seen file) (place + 1) (take n (drop (place + 1) rows))))
      ∙ ap (λ k. filter is_instance (field_seen file place (get_or rows place d) ∷ numbered (field_seen file) k (take n (drop (place + 1) rows)))) (add-one place)
      ∙ sym (ap (λ xs. filter is_instance (numbered (field_seen file) place (take (suc n) xs))) (drop_more rows place d low))

  pub goes_on : (old new : List OwnField) (place n : ℕ) (d : FieldRow) → place < length rows → new ≡ old ++ filter is_instance (field_seen file place (get_or rows place d) ∷ []) → new ++ instances_from (place + 1) n ≡ old ++ instances_from place (suc n)
  goes_on old new place n d low added =
      ap (λ fs. fs ++ instances_from (place + 1) n) added
      ∙ (append_assoc old (filter is_instance (field_seen file place (get_or rows place d) ∷ [])) (instances_from (place + 1) n)
      ∙ ap (λ fs. old ++ fs) (one_more place n d low))

  pub none_left : (place n : ℕ) → length rows ≤ place → instances_from place n ≡ []
  none_left place n high = ap (λ xs. filter is_instance (numbered (field_seen file) place (take n xs))) (drop_all place rows high) ∙ nothing n
    where
      nothing : (n : ℕ) → filter is_instance (numbered (field_seen file) place (take n [])) ≡ []
      nothing zero = refl
      nothing (suc n) = refl

  pub ends_at : (place n : ℕ) → (place < length rows → n ≡ 0) → instances_from place n ≡ []
  ends_at place n none = go (cases_lt place (length rows))
    where
      go : (place < length rows) ⊎ (length rows ≤ place) → instances_from place n ≡ []
      go (inl low) = ap (instances_from place) (none low)
      go (inr high) = none_left place n high

-- ---- a class's own

module _ (t : ClassTable) (c : Id) where
  pub no_file : slice_get t.files.items c.file ≡ None → own_instance_fields (classes_seen t) c ≡ []
  no_file none = ap (λ (o : Option FileRows). filter is_instance (unwrap_or (option_map (λ k. k.fields) (on_some o (λ f. option_map (row_seen c.file f) (slice_get f.classes.items c.row)))) [])) none

  module _ (f : FileRows) (here : slice_get t.files.items c.file ≡ Some f) (o : Option ClassRow) (found : o ≡ found_row t c) where
    by_row : own_instance_fields (classes_seen t) c ≡ filter is_instance (unwrap_or (option_map (λ k. k.fields) (option_map (row_seen c.file f) o)) [])
    by_row =
        ap (λ (x : Option FileRows). filter is_instance (unwrap_or (option_map (λ k. k.fields) (on_some x (λ f. option_map (row_seen c.file f) (slice_get f.classes.items c.row)))) [])) here
        ∙ ap (λ (x : Option ClassRow). filter is_instance (unwrap_or (option_map (λ k. k.fields) (option_map (row_seen c.file f) x)) [])) (sym (found ∙ ap (λ (x : Option FileRows). on_some x (λ f. slice_get f.classes.items c.row)) here))

    pub no_class : o ≡ None → own_instance_fields (classes_seen t) c ≡ []
    no_class none = by_row ∙ ap (λ (x : Option ClassRow). filter is_instance (unwrap_or (option_map (λ k. k.fields) (option_map (row_seen c.file f) x)) [])) none

    pub in_class : (r : ClassRow) → o ≡ Some r → own_instance_fields (classes_seen t) c ≡ filter is_instance (numbered (field_seen c.file) r.first_field (range r.first_field r.field_count f.fields.items))
    in_class r there = by_row ∙ ap (λ (x : Option ClassRow). filter is_instance (unwrap_or (option_map (λ k. k.fields) (option_map (row_seen c.file f) x)) [])) there
