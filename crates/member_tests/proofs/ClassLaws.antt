-- The class of a row.
use Rattle.std.proofs.Common.{◌≡◌, Option, Some, None, refl, ap}
use Rattle.std.specs.Prelude.{slice_get}
use Rattle.std.specs.Option.{option_map}
use Rattle.machine.specs.Data.{Id}
use Rattle.machine.specs.Throw.{on_some}
use Rattle.class_table.specs.declared.rows.ClassRow.{ClassRow}
use Rattle.class_table.specs.declared.rows.FileRows.{FileRows}
use Rattle.class_table.specs.declared.rows.ClassTable.{ClassTable}
use Rattle.class_table.specs.Seen.{row_seen, class_row}
use Rattle.class_queries.specs.Found.{found_row}

module _ (t : ClassTable) (c : Id) where
  pub class_found : (row : ClassRow) → found_row t c ≡ Some row → (f : FileRows) × (class_row t c ≡ Some (row_seen c.file f row))
  class_found row e = go (slice_get t.files.items c.file) e
    where
      go : (o : Option FileRows) → on_some o (λ (f : FileRows). slice_get f.classes.items c.row) ≡ Some row → (f : FileRows) × (on_some o (λ (f : FileRows). option_map (row_seen c.file f) (slice_get f.classes.items c.row)) ≡ Some (row_seen c.file f row))
      go None h = absurd (cc h)
      go (Some f) h = (f, ap (option_map (row_seen c.file f)) h)

  pub class_missing : found_row t c ≡ None → class_row t c ≡ None
  class_missing e = go (slice_get t.files.items c.file) e
    where
      go : (o : Option FileRows) → on_some o (λ (f : FileRows). slice_get f.classes.items c.row) ≡ None → on_some o (λ (f : FileRows). option_map (row_seen c.file f) (slice_get f.classes.items c.row)) ≡ None
      go None h = refl
      go (Some f) h = ap (option_map (row_seen c.file f)) h
