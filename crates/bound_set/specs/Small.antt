-- Rows that are named, with numbers of 16 bits.
use Rattle.std.specs.Prelude.{◌≡◌, ℕ, ◌<◌, ◌^◌, List, Option, Some, slice_get}
use Rattle.member_keys.specs.declared.keys.ClassId.{ClassId}
use Rattle.set_binding.specs.declared.tables.FileBindings.{FileBindings}

pub record IsSmall (c : ClassId) : Type 0 where
  pub file : c.file < 2 ^ 16
  pub row : c.row < 2 ^ 16

abbrev pub ColumnIsSmall : List (Option ClassId) → Type 0
ColumnIsSmall column = (n : ℕ) (c : ClassId) → slice_get column n ≡ Some (Some c) → IsSmall c

pub record FileIsSmall (b : FileBindings) : Type 0 where
  pub assemblies : ColumnIsSmall b.assemblies.items
  pub types : ColumnIsSmall b.types.items
  pub fields : ColumnIsSmall b.fields.items
  pub methods : ColumnIsSmall b.methods.items

abbrev pub FilesAreSmall : List FileBindings → Type 0
FilesAreSmall files = (file : ℕ) (b : FileBindings) → slice_get files file ≡ Some b → FileIsSmall b
