-- The rows of a class's methods.
use Rattle.std.specs.Prelude.{◌≡◌, ℕ, ◌+◌, ◌-◌, ◌<◌, Option, Some, None, length, min, slice_get}
use Rattle.machine.specs.Data.{Id}
use Rattle.classes.specs.Queries.{methods_of}
use Rattle.assemblies.specs.Binding.{id_at}
use Rattle.class_table.specs.declared.rows.ClassRow.{ClassRow}
use Rattle.class_table.specs.declared.rows.FileRows.{FileRows}
use Rattle.class_table.specs.declared.rows.ClassTable.{ClassTable}
use Rattle.class_table.specs.Seen.{classes_seen, method_row}
use Rattle.class_slots.specs.declared.own.OwnRows.{OwnRows}

-- rows from one on, so many as are wanted and there
pub record AreClipped (count first wanted : ℕ) (r : OwnRows) : Type 0 where
  pub start : r.start ≡ first
  pub end : r.end ≡ first + min wanted (count - first)

-- the rows of the methods of a class of a file: none where the file has no such class
abbrev pub InClass : FileRows → OwnRows → Option ClassRow → Type 0
InClass f r None = (r.start ≡ 0) × (r.end ≡ 0)
InClass f r (Some k) = AreClipped (length f.methods.items) k.first_method k.method_count r

abbrev pub AreIn : FileRows → ℕ → OwnRows → Type 0
AreIn f n r = InClass f r (slice_get f.classes.items n)

-- the rows of the methods of a class
pub record AreOwn (t : ClassTable) (c : Id) (r : OwnRows) : Type 0 where
  pub count : r.end ≡ r.start + length (methods_of (classes_seen t) c)
  pub rows : (i : ℕ) → i < length (methods_of (classes_seen t) c) → slice_get (methods_of (classes_seen t) c) i ≡ method_row t (id_at c.file (r.start + i))
