use Rattle.std.proofs.Common.{◌∙◌, sym, ap}
use Rattle.class_table.specs.Seen.{method_seen}
use Rattle.class_rules.specs.Rules.{initialiser_fits, only_if}
use Rattle.class_checks.proofs.members.initialiser_name_fits.Goals as goal

pub returns-then-is_initialiser : goal.returns-then-is_initialiser
returns-then-is_initialiser c =
    λ file n. c.initialiser_fits.ensures file n ∙ sym (ap (λ b. only_if b (initialiser_fits (method_seen file n c.args.method.now))) (sym c.is_initialiser.ensures ∙ c.if-is_initialiser.true))

pub returns-else-is_initialiser : goal.returns-else-is_initialiser
returns-else-is_initialiser c = λ file n. sym (ap (λ b. only_if b (initialiser_fits (method_seen file n c.args.method.now))) (sym c.is_initialiser.ensures ∙ c.if-is_initialiser.false))
