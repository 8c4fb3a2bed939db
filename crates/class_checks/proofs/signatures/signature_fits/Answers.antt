use Rattle.std.proofs.Common.{◌∙◌, ap}
use Rattle.std.specs.List.{list_all}
use Rattle.member_keys.specs.Seen.{class_seen}
use Rattle.class_table.specs.Seen.{classes_seen}
use Rattle.class_checks.specs.Parameters.{place_fits}
use Rattle.class_checks.proofs.TypeLaws.{signature_told}
use Rattle.class_checks.proofs.signatures.signature_fits.Goals as goal

pub returns-then-result_fits : goal.returns-then-result_fits
returns-then-result_fits c =
    c.parameters_fit.ensures
    ∙ ap (list_all (place_fits (classes_seen c.args.setting.now.table.now) c.args.class.file)) c.deref.ensures.value
    ∙ signature_told (classes_seen c.args.setting.now.table.now) (class_seen c.args.class) c.args.signature.now c.result_fits.result c.if-result_fits.true c.result_fits.ensures
