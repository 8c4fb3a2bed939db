-- The fields and methods of each file.
use Rattle.std.specs.Prelude.{◌≡◌, ℕ, List, Some, slice_get}
use Rattle.file_tables.specs.File.{FilePart}
use Rattle.class_table.specs.Whole.{AreFields, AreMethods}
use Rattle.cil_world.specs.declared.table.Members.{Members}

pub record IsMembers (files : List FilePart) (file : ℕ) (m : Members) : Type 0 where
  pub fields : AreFields files file m.fields.items
  pub methods : AreMethods files file m.methods.items

abbrev pub AreMembers : List FilePart → List Members → Type 0
AreMembers files all = (file : ℕ) (m : Members) → slice_get all file ≡ Some m → IsMembers files file m
