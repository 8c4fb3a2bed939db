-- When a table is that of a set: each part of it says what the set's assemblies do.
use Rattle.std.specs.Prelude.{◌≡◌, codes, ℕ, List, length, map, Option, Some, slice_get}
use Rattle.std.specs.Option.{option_map}
use Rattle.machine.specs.Texts.{same_text}
use Rattle.machine.specs.Throw.{on_some}
use Rattle.assemblies.specs.Rows.{Assembly}
use Rattle.assemblies.specs.Binding.{id_at, numbered, own_field, own_method, field_owner, method_owner, first_number}
use Rattle.world_rows.specs.World.{size_of}
use Rattle.class_table.specs.declared.rows.FileRows.{FileRows}
use Rattle.class_table.specs.declared.rows.ClassTable.{ClassTable}
use Rattle.class_table.specs.Seen.{field_seen, method_seen}
use Rattle.class_table.specs.Outlines.{outline_seen, outline_of}
use Rattle.tiny_rows.specs.Rows.{rows_seen}
use Rattle.set_names.specs.Names.{seen_all}
use Rattle.set_table.specs.declared.subject.Subject.{Subject}

-- the rows are those of an assembly of the set, and each member has the first type that has it
pub record AreRows (ps : List Assembly) (file : ℕ) (p : Assembly) (f : FileRows) : Type 0 where
  pub classes : map outline_seen f.classes.items ≡ map (outline_of (size_of ps) ps file) p.types
  pub fields : numbered (field_seen file) 0 f.fields.items ≡ numbered (own_field (size_of ps) ps file) 0 p.fields
  pub field_owners : (n : ℕ) → on_some (slice_get f.fields.items n) (λ x. option_map (id_at file) x.owner) ≡ field_owner ps (id_at file n)
  pub methods : numbered (method_seen file) 0 f.methods.items ≡ numbered (own_method (size_of ps) ps file) 0 p.methods
  pub method_owners : (n : ℕ) → on_some (slice_get f.methods.items n) (λ x. option_map (id_at file) x.owner) ≡ method_owner ps (id_at file n)

abbrev pub IsRead : Subject → FileRows → Type 0
IsRead s f = AreRows (seen_all s.names.now) s.tokens.file (rows_seen s.image.now) f

-- of the assembly of a number
abbrev pub IsSetFile : List Assembly → ℕ → FileRows → Type 0
IsSetFile ps file f = (p : Assembly) → slice_get ps file ≡ Some p → AreRows ps file p f

abbrev pub AreFiles : List Assembly → List FileRows → Type 0
AreFiles ps all = (file : ℕ) (f : FileRows) → slice_get all file ≡ Some f → IsSetFile ps file f

-- the first assembly of the base library's name
abbrev pub library_number : List Assembly → Option ℕ
library_number ps = first_number (λ (p : Assembly). same_text p.name (codes "mscorlib")) ps

pub record IsSetTable (ps : List Assembly) (t : ClassTable) : Type 0 where
  pub count : length t.files.items ≡ length ps
  pub files : AreFiles ps t.files.items
  pub library : t.library ≡ library_number ps
  pub size : t.size ≡ size_of ps
