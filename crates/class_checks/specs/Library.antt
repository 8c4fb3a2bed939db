-- The classes of the base library that rules name.
use Rattle.std.specs.Prelude.{◌≡◌, codes, ℕ, zero, suc, List, [], ◌∷◌, length, slice_get, unwrap_or}
use Rattle.std.specs.Option.{option_map}
use Rattle.plain_types.specs.declared.elem.Elem.TheVariants as elem
use Rattle.machine.specs.Data.{Id}
use Rattle.classes.specs.Queries.{basic, array, library_class}
use Rattle.assemblies.specs.Binding.{id_at}
use Rattle.member_keys.specs.Seen.{class_seen}
use Rattle.class_table.specs.declared.rows.FileRows.{FileRows}
use Rattle.class_table.specs.declared.rows.ClassTable.{ClassTable}
use Rattle.class_table.specs.Seen.{classes_seen}
use Rattle.class_checks.specs.declared.library.Library.{Library}

-- rows of a file behind one another
abbrev pub rows_from : ℕ → ℕ → ℕ → List Id
rows_from file first zero = []
rows_from file first (suc n) = id_at file first ∷ rows_from file (suc first) n

-- the classes of a file
abbrev pub file_rows : ClassTable → ℕ → List Id
file_rows t file = unwrap_or (option_map (λ (f : FileRows). rows_from file 0 (length f.classes.items)) (slice_get t.files.items file)) []

pub record IsLibrary (t : ClassTable) (l : Library) : Type 0 where
  pub object : option_map class_seen l.object ≡ basic (classes_seen t) elem.Object
  pub string : option_map class_seen l.string ≡ basic (classes_seen t) elem.String
  pub array : option_map class_seen l.array ≡ array (classes_seen t)
  pub handle : option_map class_seen l.handle ≡ library_class (classes_seen t) (codes "RuntimeFieldHandle")
