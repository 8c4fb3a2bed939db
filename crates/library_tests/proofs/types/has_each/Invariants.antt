use Rattle.std.proofs.Common.{◌≡◌, true, take}
use Rattle.std.specs.Prelude.{◌==◌}
use Rattle.std.specs.List.{list_all}
use Rattle.class_rules.specs.Rules.{only_if}
use Rattle.verdict_rules.specs.World.{world_of}
use Rattle.verdict_rules.specs.Library.{has_type}
use Rattle.library_tests.specs.declared.base.BaseType.{BaseType}
use Rattle.library_tests.specs.Base.{base_seen}
use Rattle.library_tests.specs.Types.{files_of}
use Rattle.library_tests.proofs.types.has_each.Given as goal

abbrev pub invariant-loop-base : goal.invariant-loop-base
invariant-loop-base l = list_all (λ (t : BaseType). only_if ((base_seen t).file == l.library.own.file) (has_type (world_of (files_of l.library)) (base_seen t))) (take l.base-index l.types) ≡ true
