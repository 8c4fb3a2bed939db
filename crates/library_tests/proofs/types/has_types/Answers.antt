use Rattle.std.proofs.Common.{ap, sym, ◌∙◌}
use Rattle.std.specs.Prelude.{◌==◌}
use Rattle.std.specs.List.{list_all}
use Rattle.std.proofs.lemmas.List.Folds.{list_all-map}
use Rattle.class_rules.specs.Rules.{only_if}
use Rattle.verdict_rules.specs.World.{world_of}
use Rattle.verdict_rules.specs.Library.{BaseType, has_type}
use Rattle.library_tests.specs.Base.{base_seen}
use Rattle.library_tests.specs.Types.{files_of}
use Rattle.library_tests.proofs.types.has_types.Goals as goal

pub returns : goal.returns
returns c =
    c.has_each.ensures
    ∙ sym (list_all-map (λ (t : BaseType). only_if (t.file == c.args.library.now.own.file) (has_type (world_of (files_of c.args.library.now)) t)) base_seen c.base_types.result)
    ∙ ap (list_all (λ (t : BaseType). only_if (t.file == c.args.library.now.own.file) (has_type (world_of (files_of c.args.library.now)) t))) c.base_types.ensures
