-- What the row of a class says is what the classes of the table say.
use Rattle.std.proofs.Common.{◌≡◌, [], map, Option, Some, None, refl}
use Rattle.std.specs.Prelude.{false, slice_get, unwrap_or}
use Rattle.std.specs.Option.{option_map}
use Rattle.machine.specs.Data.{Id}
use Rattle.machine.specs.Throw.{on_some}
use Rattle.classes.specs.Queries.{superclass_of, enclosing_of, interfaces_of, is_interface, kind_of}
use Rattle.assemblies.specs.Binding.{id_at}
use Rattle.member_keys.specs.Seen.{class_seen}
use Rattle.class_table.specs.declared.rows.ClassRow.{ClassRow}
use Rattle.class_table.specs.declared.rows.FileRows.{FileRows}
use Rattle.class_table.specs.declared.rows.ClassTable.{ClassTable}
use Rattle.class_table.specs.Seen.{row_seen, kind_seen, classes_seen}
use Rattle.class_queries.specs.Found.{found_row}

module _ (t : ClassTable) (c : Id) where
  pub superclass_found : superclass_of (classes_seen t) c ≡ on_some (found_row t c) (λ (r : ClassRow). option_map class_seen r.superclass)
  superclass_found = go (slice_get t.files.items c.file)
    where
      in_file : (f : FileRows) (o : Option ClassRow) → on_some (option_map (row_seen c.file f) o) (λ k. k.superclass) ≡ on_some o (λ (r : ClassRow). option_map class_seen r.superclass)
      in_file f None = refl
      in_file f (Some r) = refl

      go : (o : Option FileRows) → on_some (on_some o (λ (f : FileRows). option_map (row_seen c.file f) (slice_get f.classes.items c.row))) (λ k. k.superclass) ≡ on_some (on_some o (λ (f : FileRows). slice_get f.classes.items c.row)) (λ (r : ClassRow). option_map class_seen r.superclass)
      go None = refl
      go (Some f) = in_file f (slice_get f.classes.items c.row)

  pub enclosing_found : enclosing_of (classes_seen t) c ≡ on_some (found_row t c) (λ (r : ClassRow). option_map (id_at c.file) r.enclosing)
  enclosing_found = go (slice_get t.files.items c.file)
    where
      in_file : (f : FileRows) (o : Option ClassRow) → on_some (option_map (row_seen c.file f) o) (λ k. k.enclosing) ≡ on_some o (λ (r : ClassRow). option_map (id_at c.file) r.enclosing)
      in_file f None = refl
      in_file f (Some r) = refl

      go : (o : Option FileRows) → on_some (on_some o (λ (f : FileRows). option_map (row_seen c.file f) (slice_get f.classes.items c.row))) (λ k. k.enclosing) ≡ on_some (on_some o (λ (f : FileRows). slice_get f.classes.items c.row)) (λ (r : ClassRow). option_map (id_at c.file) r.enclosing)
      go None = refl
      go (Some f) = in_file f (slice_get f.classes.items c.row)

  pub interfaces_found : interfaces_of (classes_seen t) c ≡ unwrap_or (option_map (λ (r : ClassRow). map class_seen r.interfaces.items) (found_row t c)) []
  interfaces_found = go (slice_get t.files.items c.file)
    where
      in_file : (f : FileRows) (o : Option ClassRow) → unwrap_or (option_map (λ k. k.interfaces) (option_map (row_seen c.file f) o)) [] ≡ unwrap_or (option_map (λ (r : ClassRow). map class_seen r.interfaces.items) o) []
      in_file f None = refl
      in_file f (Some r) = refl

      go : (o : Option FileRows) → unwrap_or (option_map (λ k. k.interfaces) (on_some o (λ (f : FileRows). option_map (row_seen c.file f) (slice_get f.classes.items c.row)))) [] ≡ unwrap_or (option_map (λ (r : ClassRow). map class_seen r.interfaces.items) (on_some o (λ (f : FileRows). slice_get f.classes.items c.row))) []
      go None = refl
      go (Some f) = in_file f (slice_get f.classes.items c.row)

  pub interface_found : is_interface (classes_seen t) c ≡ unwrap_or (option_map (λ (r : ClassRow). r.is_interface) (found_row t c)) false
  interface_found = go (slice_get t.files.items c.file)
    where
      in_file : (f : FileRows) (o : Option ClassRow) → unwrap_or (option_map (λ k. k.is_interface) (option_map (row_seen c.file f) o)) false ≡ unwrap_or (option_map (λ (r : ClassRow). r.is_interface) o) false
      in_file f None = refl
      in_file f (Some r) = refl

      go : (o : Option FileRows) → unwrap_or (option_map (λ k. k.is_interface) (on_some o (λ (f : FileRows). option_map (row_seen c.file f) (slice_get f.classes.items c.row)))) false ≡ unwrap_or (option_map (λ (r : ClassRow). r.is_interface) (on_some o (λ (f : FileRows). slice_get f.classes.items c.row))) false
      go None = refl
      go (Some f) = in_file f (slice_get f.classes.items c.row)

  pub kind_found : kind_of (classes_seen t) c ≡ option_map (λ (r : ClassRow). kind_seen r.kind) (found_row t c)
  kind_found = go (slice_get t.files.items c.file)
    where
      in_file : (f : FileRows) (o : Option ClassRow) → option_map (λ k. k.kind) (option_map (row_seen c.file f) o) ≡ option_map (λ (r : ClassRow). kind_seen r.kind) o
      in_file f None = refl
      in_file f (Some r) = refl

      go : (o : Option FileRows) → option_map (λ k. k.kind) (on_some o (λ (f : FileRows). option_map (row_seen c.file f) (slice_get f.classes.items c.row))) ≡ option_map (λ (r : ClassRow). kind_seen r.kind) (on_some o (λ (f : FileRows). slice_get f.classes.items c.row))
      go None = refl
      go (Some f) = in_file f (slice_get f.classes.items c.row)
