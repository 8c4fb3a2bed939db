-- What the rules of a world's files are read from is the world's.
use Rattle.std.specs.Prelude.{◌≡◌}
use Rattle.member_search.specs.declared.sort.Sort.TheVariants.{Method}
use Rattle.class_table.specs.Seen.{classes_seen}
use Rattle.class_table.specs.Whole.{IsTable}
use Rattle.class_targets.specs.Virtual.{AreApart}
use Rattle.member_references.specs.Meant.{AreReferences}
use Rattle.member_rules.specs.Thrown.{IsThrown}
use Rattle.table_minimise.specs.declared.sources.Sources.{Sources as Read}

pub record AreSources (s : Read) : Type 0 where
  pub table : IsTable s.world.now s.methods.table
  pub sort : s.methods.sort ≡ Method
  pub apart : AreApart (classes_seen s.methods.table)
  pub references : AreReferences s.world.now s.references.now
  pub thrown : IsThrown (classes_seen s.methods.table) s.thrown
