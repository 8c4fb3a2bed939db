use Rattle.std.proofs.Common.{◌∙◌, sym, ap}
use Rattle.std.specs.Option.{option_map}
use Rattle.member_keys.specs.Seen.{class_seen}
use Rattle.class_table.specs.Seen.{classes_seen, row_seen}
use Rattle.class_rules.specs.Rules.{superclass_fits}
use Rattle.class_checks.proofs.supers.superclass_fits.Goals as goal

pub returns-in-None : goal.returns-in-None
returns-in-None c =
    λ f. c.stands_alone.ensures f ∙ ap (λ o. superclass_fits (classes_seen c.args.setting.now.table.now) (class_seen c.args.class) (row_seen c.args.class.file f c.args.row.now) (option_map class_seen o)) (sym c.in-None.is)
