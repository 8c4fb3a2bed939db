use Rattle.std.proofs.Common.{◌≡◌, subst}
use Rattle.world_rows.specs.World.{ecma_sources}
use Rattle.class_table.specs.Seen.{classes_seen}
use Rattle.class_table.proofs.TableLaws.{table_law}
use Rattle.cil_world.proofs.world.World.classes.Goals as goal

pub returns-clause-classes : goal.returns-clause-classes
returns-clause-classes c = subst (λ files. classes_seen c.self.inside.classes ≡ (ecma_sources files).classes) c.self.view_is (table_law _ _ c.self.invariant.table)
