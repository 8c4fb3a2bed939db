-- The row of a class tells its flags.
use Rattle.std.proofs.Common.{◌≡◌, ℕ, Option, Some, None, refl, ap, ◌∙◌}
use Rattle.std.specs.Prelude.{◌||◌, slice_get}
use Rattle.std.specs.Option.{option_map}
use Rattle.file_tables.specs.Bytes.{has_bit}
use Rattle.machine.specs.Data.{Id}
use Rattle.machine.specs.Throw.{on_some}
use Rattle.classes.specs.Queries.{some_eq}
use Rattle.class_table.specs.declared.rows.ClassRow.{ClassRow}
use Rattle.class_table.specs.declared.rows.FileRows.{FileRows}
use Rattle.class_table.specs.declared.rows.ClassTable.{ClassTable}
use Rattle.class_table.specs.Seen.{classes_seen, row_seen}
use Rattle.class_queries.specs.Found.{found_row}
use Rattle.method_facts.specs.Members.{Flagged}

module _ (t : ClassTable) (arrays : Option Id) (c : Id) (k : ClassRow) (n : ℕ) where
  pub flagged : found_row t c ≡ Some k → has_bit n 7 ≡ (k.is_abstract || some_eq (Some c) arrays) → has_bit n 5 ≡ k.is_interface → Flagged (classes_seen t) arrays c n
  flagged e a i = go (slice_get t.files.items c.file) refl e
    where
      go : (o : Option FileRows) → slice_get t.files.items c.file ≡ o → on_some o (λ (f : FileRows). slice_get f.classes.items c.row) ≡ Some k → Flagged (classes_seen t) arrays c n
      go None at e = absurd (cc e)
      go (Some f) at e =
          record {
            class = row_seen c.file f k;
            class_is = ap (λ o. on_some o (λ (f : FileRows). option_map (row_seen c.file f) (slice_get f.classes.items c.row))) at ∙ ap (option_map (row_seen c.file f)) e;
            unmade = a;
            interface = i;
          }
