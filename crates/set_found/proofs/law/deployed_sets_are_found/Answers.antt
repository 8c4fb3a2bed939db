use Rattle.std.proofs.Common.{◌∙◌}
use Rattle.base_rows.specs.Facts.{base}
use Rattle.deploy_model.specs.Deployment.{banks, plan_for}
use Rattle.boot_scan.specs.Images.{FORMAT}
use Rattle.converted.specs.Images.{set_bytes}
use Rattle.set_found.proofs.law.deployed_sets_are_found.Goals as goal

pub returns : goal.returns
returns c xs marks start s bytes long fresh =
    c.safe_operations.ensures.end FORMAT (set_bytes (base xs) marks) start c.images_are_a_format.ensures.format (c.sets_are_found.ensures.deployable xs marks s bytes) long fresh
    ∙ c.sets_are_found.ensures.found xs marks s (plan_for (banks FORMAT start)).target
