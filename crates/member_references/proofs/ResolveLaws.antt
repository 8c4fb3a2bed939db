-- What tokens name, by the table and the references of a world.
use Rattle.std.proofs.Common.{◌≡◌, ℕ, zero, suc, ◌<◌, ◌≤◌, Bool, List, length, map, Option, Some, None, refl, sym, ap, ◌∙◌, arith, add-one}
use Rattle.std.specs.Prelude.{nat_lt, slice_get, if◌then◌else◌}
use Rattle.std.specs.Option.{option_map}
use Rattle.std.specs.Global.{Vec}
use Rattle.std.proofs.lemmas.Bool.{lt-ltb, le-ltb}
use Rattle.std.proofs.lemmas.Option.{slice_get-map, slice_get_within, slice_get_past}
use Rattle.file_tables.specs.Metadata.{MetadataPart, row_count}
use Rattle.file_tables.specs.File.{FilePart}
use Rattle.machine.specs.Data.{Id}
use Rattle.machine.specs.Throw.{on_some}
use Rattle.classes.specs.Classes.{Classes}
use Rattle.assemblies.specs.Binding.{id_at}
use Rattle.assemblies.specs.Binding as binding
use Rattle.world_rows.specs.Tokens.{fields, methods, member_refs, from_zero}
use Rattle.world_rows.specs.World.{assemblies_of}
use Rattle.type_names.proofs.IndexLaws.{none_past}
use Rattle.class_table.specs.declared.rows.ClassTable.{ClassTable}
use Rattle.class_table.specs.Seen.{field_owner, method_owner}
use Rattle.class_table.specs.Whole.{IsTable}
use Rattle.class_table.proofs.TableLaws.{table_law}
use Rattle.member_references.specs.declared.reference.Reference.{Reference}
use Rattle.member_references.specs.declared.reference.References.{References}
use Rattle.member_references.specs.Resolved.{field_of, method_of, field_id, method_id, field_checked, method_checked}
use Rattle.member_references.specs.Meant.{field_in, method_in, reference_at, AreReferences}
use Rattle.member_references.proofs.TokenLaws.{field_own, field_row_0, field_other, method_own, method_row_0, method_other}
use Rattle.member_references.proofs.RowLaws.{file_there}

-- ---- a row as a public id

pub field_past_files : (files : List FilePart) (c : Id) → length files ≤ c.file → field_checked files c ≡ None
field_past_files files c past = ap (λ o. on_some o (λ (p : FilePart). if nat_lt c.row (row_count p.metadata fields) then Some (field_id c) else None)) (slice_get_past files c.file past)

pub method_past_files : (files : List FilePart) (c : Id) → length files ≤ c.file → method_checked files c ≡ None
method_past_files files c past = ap (λ o. on_some o (λ (p : FilePart). if nat_lt c.row (row_count p.metadata methods) then Some (method_id c) else None)) (slice_get_past files c.file past)

module _ (files : List FilePart) (c : Id) (m : MetadataPart) (there : option_map (λ (p : FilePart). p.metadata) (slice_get files c.file) ≡ Some m) where
  checked_at : {A : Type 0} (look : MetadataPart → Option A) → on_some (slice_get files c.file) (λ p. look p.metadata) ≡ look m
  checked_at look = let w = file_there files c.file m there in ap (λ o. on_some o (λ (p : FilePart). look p.metadata)) w.1 ∙ ap look w.2

  pub field_past_rows : row_count m fields ≤ c.row → field_checked files c ≡ None
  field_past_rows past = checked_at (λ x. if nat_lt c.row (row_count x fields) then Some (field_id c) else None) ∙ ap (λ (b : Bool). if b then Some (field_id c) else None) (le-ltb c.row (row_count m fields) past)

  pub field_within : c.row < row_count m fields → field_checked files c ≡ Some (field_id c)
  field_within within = checked_at (λ x. if nat_lt c.row (row_count x fields) then Some (field_id c) else None) ∙ ap (λ (b : Bool). if b then Some (field_id c) else None) (lt-ltb c.row (row_count m fields) within)

  pub method_past_rows : row_count m methods ≤ c.row → method_checked files c ≡ None
  method_past_rows past = checked_at (λ x. if nat_lt c.row (row_count x methods) then Some (method_id c) else None) ∙ ap (λ (b : Bool). if b then Some (method_id c) else None) (le-ltb c.row (row_count m methods) past)

  pub method_within : c.row < row_count m methods → method_checked files c ≡ Some (method_id c)
  method_within within = checked_at (λ x. if nat_lt c.row (row_count x methods) then Some (method_id c) else None) ∙ ap (λ (b : Bool). if b then Some (method_id c) else None) (lt-ltb c.row (row_count m methods) within)

-- ---- tokens

module _ (files : List FilePart) (file : ℕ) (m : MetadataPart) (there : option_map (λ (p : FilePart). p.metadata) (slice_get files file) ≡ Some m) where
  part : FilePart
  part = (file_there files file m there).0

  part_there : slice_get files file ≡ Some part
  unfolding part
  part_there = (file_there files file m there).1

  part_tables : part.metadata ≡ m
  unfolding part
  part_tables = (file_there files file m there).2

  -- the references of the file, where a number is one of its rows
  row_of_file : (meaning : Reference → Option Id) (r : References) (n : ℕ) → length r.files.items ≡ length files → (wanted : Option Id) → ((rs : List Reference) → slice_get (map (λ v. v.items) r.files.items) file ≡ Some rs → on_some (slice_get rs n) meaning ≡ wanted) → on_some (reference_at r file (suc n)) meaning ≡ wanted
  row_of_file meaning r n count wanted each = go (slice_get r.files.items file) refl
    where
      go : (o : Option (Vec Reference)) → slice_get r.files.items file ≡ o → on_some (on_some o (λ rs. slice_get rs.items n)) meaning ≡ wanted
      go None e = let few = none_past r.files.items file e in let within = slice_get_within files file part part_there in absurd (omega (arith, few, within, count))
      go (Some rs) e = each rs.items (slice_get-map (λ v. v.items) r.files.items file ∙ ap (option_map (λ v. v.items)) e)

  -- ---- fields

  pub own_field_named : (t : ClassTable) → IsTable files t → (table row n : ℕ) → table ≡ fields → n ≡ from_zero (row_count m fields) row → option_map (λ owner. id_at file n) (field_owner t (id_at file n)) ≡ field_of files file table row
  own_field_named t whole table row n is same =
      ap (λ (cs : Classes). option_map (λ (owner : Id). id_at file n) (cs.field_owner (id_at file n))) (table_law files t whole)
      ∙ sym
      (ap (λ x. field_of files file x row) is
      ∙ field_own files file part part_there row
      ∙ ap (λ j. option_map (λ (owner : Id). id_at file j) (binding.field_owner (assemblies_of files) (id_at file j))) (ap (λ x. from_zero (row_count x fields) row) part_tables ∙ sym same))

  pub referenced_field : (r : References) → AreReferences files r → (table row : ℕ) → table ≡ member_refs → (o : Option Reference) → o ≡ reference_at r file row → on_some o field_in ≡ field_of files file table row
  referenced_field r known table row is o e = ap (λ x. on_some x field_in) e ∙ go row ∙ ap (λ x. field_of files file x row) (sym is)
    where
      go : (row : ℕ) → on_some (reference_at r file row) field_in ≡ field_of files file member_refs row
      go zero = sym (field_row_0 files file part part_there)
      go (suc n) = row_of_file field_in r n known.count (field_of files file member_refs (suc n)) (λ rs at. (known.each file rs at).fields n ∙ ap (field_of files file member_refs) (add-one n))

  pub other_field : (table row : ℕ) → (table ≡ fields → ⊥) → (table ≡ member_refs → ⊥) → field_of files file table row ≡ None
  other_field table row not_own not_reference = field_other files file part part_there table row not_own not_reference

  -- ---- methods

  pub own_method_named : (t : ClassTable) → IsTable files t → (table row n : ℕ) → table ≡ methods → n ≡ from_zero (row_count m methods) row → option_map (λ owner. id_at file n) (method_owner t (id_at file n)) ≡ method_of files file table row
  own_method_named t whole table row n is same =
      ap (λ (cs : Classes). option_map (λ (owner : Id). id_at file n) (cs.method_owner (id_at file n))) (table_law files t whole)
      ∙ sym
      (ap (λ x. method_of files file x row) is
      ∙ method_own files file part part_there row
      ∙ ap (λ j. option_map (λ (owner : Id). id_at file j) (binding.method_owner (assemblies_of files) (id_at file j))) (ap (λ x. from_zero (row_count x methods) row) part_tables ∙ sym same))

  pub referenced_method : (r : References) → AreReferences files r → (table row : ℕ) → table ≡ member_refs → (o : Option Reference) → o ≡ reference_at r file row → on_some o method_in ≡ method_of files file table row
  referenced_method r known table row is o e = ap (λ x. on_some x method_in) e ∙ go row ∙ ap (λ x. method_of files file x row) (sym is)
    where
      go : (row : ℕ) → on_some (reference_at r file row) method_in ≡ method_of files file member_refs row
      go zero = sym (method_row_0 files file part part_there)
      go (suc n) = row_of_file method_in r n known.count (method_of files file member_refs (suc n)) (λ rs at. (known.each file rs at).methods n ∙ ap (method_of files file member_refs) (add-one n))

  pub other_method : (table row : ℕ) → (table ≡ methods → ⊥) → (table ≡ member_refs → ⊥) → method_of files file table row ≡ None
  other_method table row not_own not_reference = method_other files file part part_there table row not_own not_reference
