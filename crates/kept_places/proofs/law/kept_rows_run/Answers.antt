use Rattle.base_rows.specs.Facts.{base}
use Rattle.world_rows.specs.World.{size_of, rows_alone, assemblies_of}
use Rattle.rows_resolved.specs.Resolved.{resolved_rows}
use Rattle.converted.specs.Choosing.{choice_of}
use Rattle.kept_places.proofs.law.kept_rows_run.Goals as goal

pub returns : goal.returns
returns c xs marks more accepted bytes closed grows n most fine =
    c.kept_rows_are_joined.ensures.traces (size_of (rows_alone (base xs))) more (assemblies_of (base xs)) (resolved_rows (size_of (rows_alone (base xs))) (assemblies_of (base xs))) (choice_of (base xs) marks) grows
    (c.accepted_files_have_all.ensures (base xs) accepted)
    (c.accepted_names_resolve.ensures (base xs) accepted)
    (c.accepted_classes_are_judged.ensures xs accepted)
    closed
    (c.places_lead_back.ensures.lead (base xs) marks accepted bytes closed.keeps.named)
    (c.places_lead_back.ensures.rise (base xs) marks)
    n most fine
