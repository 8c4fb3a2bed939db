-- Virtual methods of the name and signature of a method's row.
use Rattle.std.specs.Prelude.{◌≡◌}
use Rattle.std.specs.Option.{option_map}
use Rattle.classes.specs.Classes.{OwnMethod}
use Rattle.board_ids.specs.Ids.{id_of}
use Rattle.member_keys.specs.Seen.{signature_seen}
use Rattle.class_table.specs.declared.rows.MethodRow.{MethodRow}
use Rattle.class_targets.specs.Virtual.{Slot}
use Rattle.tiny_types.specs.declared.own.Virtual.{Virtual}

-- the row has the method's name and signature
pub record IsRowOf (row : MethodRow) (m : OwnMethod) : Type 0 where
  pub name : m.name ≡ row.name.now
  pub signature : m.signature ≡ option_map signature_seen row.signature

abbrev pub slot_seen : Virtual → Slot
slot_seen v = record { id = id_of v.method; is_newslot = v.is_newslot }
