-- What the tokens of rows of members name.
use Rattle.std.proofs.Common.{◌≡◌, ℕ, ◌+◌, ◌≤◌, Bool, true, false, List, [], length, take, Some, None, refl, ap, ◌∙◌, arith, add-one}
use Rattle.std.specs.Prelude.{◌==◌, slice_get, slice_index_or, count_by, if◌then◌else◌}
use Rattle.std.specs.List.{filter, position}
use Rattle.std.specs.Option.{option_map}
use Rattle.std.proofs.lemmas.Bool.Decides.{nat_tests}
use Rattle.std.proofs.lemmas.Option.{slice_get-map, get_or_from_slice_get}
use Rattle.file_tables.specs.Metadata.{MetadataPart, rows_of, row_count}
use Rattle.file_tables.specs.File.{FilePart}
use Rattle.machine.specs.Data.{Id}
use Rattle.machine.specs.Throw.{on_some}
use Rattle.assemblies.specs.Rows.{MemberToken, Own, Reference, TypeRow, FieldRow, MethodRow, Assembly}
use Rattle.assemblies.specs.Binding.{id_at, numbered, holds, resolve_field, resolve_method}
use Rattle.assemblies.proofs.Back.{get_past}
use Rattle.assemblies.proofs.Numbered.{get_numbered}
use Rattle.world_rows.specs.Tokens.{fields, methods, member_refs, from_zero, is_field_ref, is_method_ref, reference_of, no_field, no_method, field_token, method_token}
use Rattle.world_rows.specs.Rows.{field_ref, method_ref}
use Rattle.world_rows.specs.World.{rows_alone, assembly_with, assemblies_of, size_of}
use Rattle.member_reading.proofs.TypeLaws.{whole_at}
use Rattle.member_references.specs.Resolved.{field_of, method_of}
use Rattle.member_references.specs.Meant.{field_meant, method_meant}
use Rattle.member_references.proofs.Lists.{passing_there, passing_past}

past_numbered : {A B : Type 0} (make : ℕ → A → B) (xs : List A) → slice_get (numbered make 0 xs) (length xs) ≡ None
past_numbered make xs = get_numbered make 0 (length xs) xs ∙ ap (option_map (make (0 + length xs))) (get_past xs (length xs) (omega arith))

-- a row of the other kind
other_kind : (m : MetadataPart) (of_kind : List ℕ → Bool) (none : MemberToken) (n : ℕ) → of_kind (slice_index_or (rows_of m member_refs) n []) ≡ false → reference_of m of_kind none (n + 1) ≡ none
other_kind m of_kind none n e = ap (reference_of m of_kind none) (add-one n) ∙ ap (λ (b : Bool). if b then Reference (count_by of_kind (take n (rows_of m member_refs))) else none) e

its_kind : (m : MetadataPart) (of_kind : List ℕ → Bool) (none : MemberToken) (n : ℕ) → of_kind (slice_index_or (rows_of m member_refs) n []) ≡ true → reference_of m of_kind none (n + 1) ≡ Reference (count_by of_kind (take n (rows_of m member_refs)))
its_kind m of_kind none n e = ap (reference_of m of_kind none) (add-one n) ∙ ap (λ (b : Bool). if b then Reference (count_by of_kind (take n (rows_of m member_refs))) else none) e

module _ (files : List FilePart) (file : ℕ) (f : FilePart) (there : slice_get files file ≡ Some f) where
  abbrev k : ℕ
  k = size_of (rows_alone files)

  abbrev ps : List Assembly
  ps = assemblies_of files

  abbrev m : MetadataPart
  m = f.metadata

  abbrev rows : List (List ℕ)
  rows = rows_of m member_refs

  whole_there : slice_get ps file ≡ Some (assembly_with k files (rows_alone files) file f)
  whole_there = whole_at files file ∙ ap (option_map (assembly_with k files (rows_alone files) file)) there

  -- ---- fields

  field_by_tables : (table row : ℕ) → field_of files file table row ≡ resolve_field k ps file (field_token m table row)
  field_by_tables table row = ap (λ o. on_some o (λ (x : FilePart). resolve_field k ps file (field_token x.metadata table row))) there

  no_field_named : resolve_field k ps file (no_field m) ≡ None
  no_field_named =
      ap (option_map (λ (owner : Id). id_at file (row_count m fields)))
      (ap (λ o. on_some o (λ (p : Assembly). on_some (slice_get p.fields (row_count m fields)) (λ x. option_map (id_at file) (position (λ (t : TypeRow). holds t.first_field t.field_count (row_count m fields)) p.types)))) whole_there
      ∙ ap (λ o. on_some o (λ (x : FieldRow). option_map (id_at file) (position (λ (t : TypeRow). holds t.first_field t.field_count (row_count m fields)) (assembly_with k files (rows_alone files) file f).types))) (past_numbered _ (rows_of m fields)))

  field_numbered : (n : ℕ) → resolve_field k ps file (Reference n) ≡ on_some (option_map (field_ref m) (slice_get (filter (is_field_ref m) rows) n)) (field_meant files file)
  field_numbered n =
      ap (λ o. on_some o (λ (p : Assembly). on_some (slice_get p.field_refs n) (field_meant files file))) whole_there
      ∙ ap (λ o. on_some o (field_meant files file)) (slice_get-map (field_ref m) (filter (is_field_ref m) rows) n)

  field_reference : (row : ℕ) → field_token m member_refs row ≡ reference_of m (is_field_ref m) (no_field m) row
  unfolding field_token
  field_reference row = refl

  field_by_reference : (row : ℕ) → field_of files file member_refs row ≡ resolve_field k ps file (reference_of m (is_field_ref m) (no_field m) row)
  field_by_reference row = field_by_tables member_refs row ∙ ap (resolve_field k ps file) (field_reference row)

  pub field_is : (n : ℕ) (row : List ℕ) → slice_get rows n ≡ Some row → is_field_ref m row ≡ true → field_of files file member_refs (n + 1) ≡ field_meant files file (field_ref m row)
  field_is n row at kind =
      field_by_reference (n + 1)
      ∙ ap (resolve_field k ps file) (its_kind m (is_field_ref m) (no_field m) n (ap (is_field_ref m) (get_or_from_slice_get rows n row [] at) ∙ kind))
      ∙ field_numbered (count_by (is_field_ref m) (take n rows))
      ∙ ap (λ o. on_some (option_map (field_ref m) o) (field_meant files file)) (passing_there (is_field_ref m) rows n row at kind)

  pub field_is_none : (n : ℕ) (row : List ℕ) → slice_get rows n ≡ Some row → is_field_ref m row ≡ false → field_of files file member_refs (n + 1) ≡ None
  field_is_none n row at kind =
      field_by_reference (n + 1)
      ∙ ap (resolve_field k ps file) (other_kind m (is_field_ref m) (no_field m) n (ap (is_field_ref m) (get_or_from_slice_get rows n row [] at) ∙ kind))
      ∙ no_field_named

  pub field_past : (n : ℕ) → length rows ≤ n → field_of files file member_refs (n + 1) ≡ None
  field_past n past = field_by_reference (n + 1) ∙ go (is_field_ref m (slice_index_or rows n [])) refl
    where
      go : (b : Bool) → is_field_ref m (slice_index_or rows n []) ≡ b → resolve_field k ps file (reference_of m (is_field_ref m) (no_field m) (n + 1)) ≡ None
      go true e =
          ap (resolve_field k ps file) (its_kind m (is_field_ref m) (no_field m) n e)
          ∙ field_numbered (count_by (is_field_ref m) (take n rows))
          ∙ ap (λ o. on_some (option_map (field_ref m) o) (field_meant files file)) (passing_past (is_field_ref m) rows n past)
      go false e = ap (resolve_field k ps file) (other_kind m (is_field_ref m) (no_field m) n e) ∙ no_field_named

  pub field_row_0 : field_of files file member_refs 0 ≡ None
  field_row_0 = field_by_reference 0 ∙ no_field_named

  field_own_token : (row : ℕ) → field_token m fields row ≡ Own (from_zero (row_count m fields) row)
  unfolding field_token
  field_own_token row = refl

  pub field_own : (row : ℕ) → field_of files file fields row ≡ resolve_field k ps file (Own (from_zero (row_count m fields) row))
  field_own row = field_by_tables fields row ∙ ap (resolve_field k ps file) (field_own_token row)

  pub field_other : (table row : ℕ) → (table ≡ fields → ⊥) → (table ≡ member_refs → ⊥) → field_of files file table row ≡ None
  unfolding field_token
  field_other table row not_own not_reference = field_by_tables table row ∙ go (table == fields) refl (table == member_refs) refl
    where
      go : (a : Bool) → (table == fields) ≡ a → (b : Bool) → (table == member_refs) ≡ b → resolve_field k ps file (if a then Own (from_zero (row_count m fields) row) else if b then reference_of m (is_field_ref m) (no_field m) row else no_field m) ≡ None
      go true e b g = absurd (not_own (grind (arith, nat_tests)))
      go false e true g = absurd (not_reference (grind (arith, nat_tests)))
      go false e false g = no_field_named

  -- ---- methods

  method_by_tables : (table row : ℕ) → method_of files file table row ≡ resolve_method k ps file (method_token m table row)
  method_by_tables table row = ap (λ o. on_some o (λ (x : FilePart). resolve_method k ps file (method_token x.metadata table row))) there

  no_method_named : resolve_method k ps file (no_method m) ≡ None
  no_method_named =
      ap (option_map (λ (owner : Id). id_at file (row_count m methods)))
      (ap (λ o. on_some o (λ (p : Assembly). on_some (slice_get p.methods (row_count m methods)) (λ x. option_map (id_at file) (position (λ (t : TypeRow). holds t.first_method t.method_count (row_count m methods)) p.types)))) whole_there
      ∙ ap (λ o. on_some o (λ (x : MethodRow). option_map (id_at file) (position (λ (t : TypeRow). holds t.first_method t.method_count (row_count m methods)) (assembly_with k files (rows_alone files) file f).types))) (past_numbered _ (rows_of m methods)))

  method_numbered : (n : ℕ) → resolve_method k ps file (Reference n) ≡ on_some (option_map (method_ref m) (slice_get (filter (is_method_ref m) rows) n)) (method_meant files file)
  method_numbered n =
      ap (λ o. on_some o (λ (p : Assembly). on_some (slice_get p.method_refs n) (method_meant files file))) whole_there
      ∙ ap (λ o. on_some o (method_meant files file)) (slice_get-map (method_ref m) (filter (is_method_ref m) rows) n)

  method_reference : (row : ℕ) → method_token m member_refs row ≡ reference_of m (is_method_ref m) (no_method m) row
  unfolding method_token
  method_reference row = refl

  method_by_reference : (row : ℕ) → method_of files file member_refs row ≡ resolve_method k ps file (reference_of m (is_method_ref m) (no_method m) row)
  method_by_reference row = method_by_tables member_refs row ∙ ap (resolve_method k ps file) (method_reference row)

  pub method_is : (n : ℕ) (row : List ℕ) → slice_get rows n ≡ Some row → is_method_ref m row ≡ true → method_of files file member_refs (n + 1) ≡ method_meant files file (method_ref m row)
  method_is n row at kind =
      method_by_reference (n + 1)
      ∙ ap (resolve_method k ps file) (its_kind m (is_method_ref m) (no_method m) n (ap (is_method_ref m) (get_or_from_slice_get rows n row [] at) ∙ kind))
      ∙ method_numbered (count_by (is_method_ref m) (take n rows))
      ∙ ap (λ o. on_some (option_map (method_ref m) o) (method_meant files file)) (passing_there (is_method_ref m) rows n row at kind)

  pub method_is_none : (n : ℕ) (row : List ℕ) → slice_get rows n ≡ Some row → is_method_ref m row ≡ false → method_of files file member_refs (n + 1) ≡ None
  method_is_none n row at kind =
      method_by_reference (n + 1)
      ∙ ap (resolve_method k ps file) (other_kind m (is_method_ref m) (no_method m) n (ap (is_method_ref m) (get_or_from_slice_get rows n row [] at) ∙ kind))
      ∙ no_method_named

  pub method_past : (n : ℕ) → length rows ≤ n → method_of files file member_refs (n + 1) ≡ None
  method_past n past = method_by_reference (n + 1) ∙ go (is_method_ref m (slice_index_or rows n [])) refl
    where
      go : (b : Bool) → is_method_ref m (slice_index_or rows n []) ≡ b → resolve_method k ps file (reference_of m (is_method_ref m) (no_method m) (n + 1)) ≡ None
      go true e =
          ap (resolve_method k ps file) (its_kind m (is_method_ref m) (no_method m) n e)
          ∙ method_numbered (count_by (is_method_ref m) (take n rows))
          ∙ ap (λ o. on_some (option_map (method_ref m) o) (method_meant files file)) (passing_past (is_method_ref m) rows n past)
      go false e = ap (resolve_method k ps file) (other_kind m (is_method_ref m) (no_method m) n e) ∙ no_method_named

  pub method_row_0 : method_of files file member_refs 0 ≡ None
  method_row_0 = method_by_reference 0 ∙ no_method_named

  method_own_token : (row : ℕ) → method_token m methods row ≡ Own (from_zero (row_count m methods) row)
  unfolding method_token
  method_own_token row = refl

  pub method_own : (row : ℕ) → method_of files file methods row ≡ resolve_method k ps file (Own (from_zero (row_count m methods) row))
  method_own row = method_by_tables methods row ∙ ap (resolve_method k ps file) (method_own_token row)

  pub method_other : (table row : ℕ) → (table ≡ methods → ⊥) → (table ≡ member_refs → ⊥) → method_of files file table row ≡ None
  unfolding method_token
  method_other table row not_own not_reference = method_by_tables table row ∙ go (table == methods) refl (table == member_refs) refl
    where
      go : (a : Bool) → (table == methods) ≡ a → (b : Bool) → (table == member_refs) ≡ b → resolve_method k ps file (if a then Own (from_zero (row_count m methods) row) else if b then reference_of m (is_method_ref m) (no_method m) row else no_method m) ≡ None
      go true e b g = absurd (not_own (grind (arith, nat_tests)))
      go false e true g = absurd (not_reference (grind (arith, nat_tests)))
      go false e false g = no_method_named
