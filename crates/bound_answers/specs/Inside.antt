-- The parts of a bound set.
use Rattle.std.specs.Prelude.{◌≡◌}
use Rattle.board_model.specs.Bound.{bound_classes, named}
use Rattle.class_table.specs.Seen.{classes_seen}
use Rattle.set_names.specs.Names.{seen_all}
use Rattle.set_binding.specs.Columns.{named_by}
use Rattle.bound_answers.specs.declared.set.BoundSet.TheInside.{Inside}

-- the types are the images', and the references are theirs
pub record IsBound (s : Inside) : Type 0 where
  pub types : classes_seen s.types.now ≡ bound_classes (seen_all s.names.now)
  pub bound : named_by s.bindings.now.files.items ≡ named (seen_all s.names.now)
