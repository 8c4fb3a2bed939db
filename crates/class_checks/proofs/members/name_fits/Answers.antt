use Rattle.std.proofs.Common.{◌∙◌, sym, ap}
use Rattle.std.specs.Prelude.{◌&&◌}
use Rattle.class_table.specs.Seen.{method_seen}
use Rattle.class_rules.specs.Rules.{initialiser_fits, is_initialiser_name, only_if}
use Rattle.class_checks.proofs.members.name_fits.Goals as goal

pub returns-then-constructor_name_fits : goal.returns-then-constructor_name_fits
returns-then-constructor_name_fits c =
    λ f file n. c.initialiser_name_fits.ensures file n ∙ sym (ap (λ b. b && only_if (is_initialiser_name (method_seen file n c.args.method.now)) (initialiser_fits (method_seen file n c.args.method.now))) (sym (c.constructor_name_fits.ensures f file n) ∙ c.if-constructor_name_fits.true))

pub returns-else-constructor_name_fits : goal.returns-else-constructor_name_fits
returns-else-constructor_name_fits c =
    λ f file n. c.if-constructor_name_fits.false ∙ sym (ap (λ b. b && only_if (is_initialiser_name (method_seen file n c.args.method.now)) (initialiser_fits (method_seen file n c.args.method.now))) (sym (c.constructor_name_fits.ensures f file n) ∙ c.if-constructor_name_fits.false))
