-- What kinds are told by.
use Rattle.std.specs.Prelude.{◌≡◌, codes, map}
use Rattle.std.specs.Option.{option_map}
use Rattle.classes.specs.Queries.{elements}
use Rattle.world_rows.specs.Kinds.{library_type}
use Rattle.world_rows.specs.World.{rows_alone}
use Rattle.member_keys.specs.Seen.{class_seen}
use Rattle.class_reading.specs.declared.kinds.Kinds.TheInside.{Inside}
use Rattle.class_reading.specs.Base.{basic_seen, basic_of}

pub record IsKinds (k : Inside) : Type 0 where
  pub basics : map basic_seen k.basics.items ≡ map (basic_of (rows_alone k.names.now)) elements
  pub enumeration : option_map class_seen k.enumeration ≡ library_type (rows_alone k.names.now) (codes "Enum")
  pub value_type : option_map class_seen k.value_type ≡ library_type (rows_alone k.names.now) (codes "ValueType")
