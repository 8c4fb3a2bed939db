use Rattle.std.proofs.Common.{◌∙◌, sym, ap}
use Rattle.std.specs.Prelude.{◌&&◌}
use Rattle.classes.specs.Queries.{above, ends}
use Rattle.member_keys.specs.Seen.{class_seen}
use Rattle.class_table.specs.Seen.{classes_seen}
use Rattle.class_checks.proofs.supers.extends_well.Goals as goal

pub returns-then-superclass_fits : goal.returns-then-superclass_fits
returns-then-superclass_fits c =
    λ f. c.ends_above.ensures ∙ sym (ap (λ b. b && ends c.args.most (above (classes_seen c.args.setting.now.table.now)) (class_seen c.args.class)) (sym (c.superclass_fits.ensures f) ∙ c.if-superclass_fits.true))
