-- Types without their members: what a file's own rows say of each type, with each token replaced by what it names.
use Rattle.std.specs.Prelude.{◌≡◌, ℕ, Bool, List, [], map, Option, Some, slice_get, unwrap_or}
use Rattle.std.specs.List.{filter_map}
use Rattle.std.specs.Option.{option_map}
use Rattle.file_tables.specs.File.{FilePart}
use Rattle.machine.specs.Data.{Id}
use Rattle.machine.specs.Throw.{on_some}
use Rattle.classes.specs.Classes.{TypeKind}
use Rattle.assemblies.specs.Rows.{TypeRow, Assembly}
use Rattle.assemblies.specs.Binding.{resolve}
use Rattle.world_rows.specs.World.{rows_alone, assemblies_of, size_of}
use Rattle.member_keys.specs.Seen.{class_seen}
use Rattle.class_table.specs.declared.rows.ClassRow.{ClassRow}
use Rattle.class_table.specs.Seen.{kind_seen}

pub record Outline : Type 0 where
  pub namespace : List ℕ
  pub name : List ℕ
  pub enclosing : Option ℕ
  pub superclass : Option Id
  pub interfaces : List Id
  pub kind : TypeKind
  pub is_interface : Bool
  pub is_abstract : Bool
  pub is_lazy : Bool
  pub first_field : ℕ
  pub field_count : ℕ
  pub first_method : ℕ
  pub method_count : ℕ

-- of a row of a table
abbrev pub outline_seen : ClassRow → Outline
outline_seen c =
    record {
      namespace = c.namespace.now;
      name = c.name.now;
      enclosing = c.enclosing;
      superclass = option_map class_seen c.superclass;
      interfaces = map class_seen c.interfaces.items;
      kind = kind_seen c.kind;
      is_interface = c.is_interface;
      is_abstract = c.is_abstract;
      is_lazy = c.is_lazy;
      first_field = c.first_field;
      field_count = c.field_count;
      first_method = c.first_method;
      method_count = c.method_count;
    }

-- of a type of a file
abbrev pub outline_of : ℕ → List Assembly → ℕ → TypeRow → Outline
outline_of k ps file t =
    record {
      namespace = t.namespace;
      name = t.name;
      enclosing = t.enclosing;
      superclass = on_some t.extends (resolve k ps file);
      interfaces = filter_map (resolve k ps file) t.interfaces;
      kind = t.kind;
      is_interface = t.is_interface;
      is_abstract = t.is_abstract;
      is_lazy = t.is_lazy;
      first_field = t.first_field;
      field_count = t.field_count;
      first_method = t.first_method;
      method_count = t.method_count;
    }

-- of all types of a file, in the order of their rows
abbrev pub outlines_at : List FilePart → ℕ → List Outline
outlines_at files file =
    unwrap_or (option_map (λ (p : Assembly). map (outline_of (size_of (rows_alone files)) (assemblies_of files) file) p.types) (slice_get (assemblies_of files) file)) []

-- the types of each file
abbrev pub AreRead : List FilePart → List (List ClassRow) → Type 0
AreRead files all = (file : ℕ) (rows : List ClassRow) → slice_get all file ≡ Some rows → map outline_seen rows ≡ outlines_at files file
