-- The fields of a class as rows of a table, and its instance fields among them.
use Rattle.std.specs.Prelude.{◌≡◌, Bool, List, [], ◌∷◌, length, Option, None, slice_get, unwrap_or}
use Rattle.std.specs.List.{filter}
use Rattle.std.specs.Option.{option_map}
use Rattle.machine.specs.Data.{Id}
use Rattle.machine.specs.Throw.{on_some}
use Rattle.classes.specs.Queries.{is_instance_kind}
use Rattle.assemblies.specs.Binding.{range}
use Rattle.member_keys.specs.declared.keys.TypeKey.{TypeKey}
use Rattle.class_table.specs.declared.rows.ClassRow.{ClassRow}
use Rattle.class_table.specs.declared.rows.FieldRow.{FieldRow}
use Rattle.class_table.specs.declared.rows.FileRows.{FileRows}
use Rattle.class_table.specs.declared.rows.ClassTable.{ClassTable}
use Rattle.class_table.specs.Seen.{field_kind_seen}
use Rattle.class_checks.specs.declared.values.Instances.{Instances}

-- where the table has the class
abbrev pub found_rows : ClassTable → Id → Option (List FieldRow)
found_rows t c = on_some (slice_get t.files.items c.file) (λ (f : FileRows). option_map (λ (r : ClassRow). range r.first_field r.field_count f.fields.items) (slice_get f.classes.items c.row))

abbrev pub own_rows : ClassTable → Id → List FieldRow
own_rows t c = unwrap_or (found_rows t c) []

abbrev pub is_instance_row : FieldRow → Bool
is_instance_row f = is_instance_kind (field_kind_seen f.kind)

abbrev pub instance_rows : List FieldRow → List FieldRow
instance_rows fs = filter is_instance_row fs

-- the signature of the last one
abbrev pub last_signature : List FieldRow → Option TypeKey
last_signature [] = None
last_signature (f ∷ []) = f.signature
last_signature (f ∷ g ∷ fs) = last_signature (g ∷ fs)

pub record AreInstances (fs : List FieldRow) (i : Instances) : Type 0 where
  pub count : i.count ≡ length (instance_rows fs)
  pub last : i.last ≡ last_signature (instance_rows fs)
