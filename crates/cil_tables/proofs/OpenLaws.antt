-- The whole answer from the rules in their order.
use Rattle.std.proofs.Common.{◌≡◌, ℕ, true, false, List, [], ◌++◌, Some, None, Ok, Err, refl, ◌∙◌}
use Rattle.plain_types.specs.declared.fault.Fault.{Fault}
use Rattle.file_tables.specs.Rules.{rule_at, first_broken}
use Rattle.file_tables.specs.Streams as streams
use Rattle.file_tables.specs.Metadata as metadata
use Rattle.cil_tables.specs.Layout.{layout_rules}
use Rattle.cil_tables.proofs.CheckLaws.{append_none, append_some}

refused : (region : List ℕ) (fault : Fault) → first_broken (metadata.metadata_rules region) ≡ Some fault → metadata.metadata_of region ≡ Err fault
unfolding metadata.metadata_of
refused region fault e = rw e refl

pub root_broken : (region : List ℕ) (fault : Fault) → streams.is_root region ≡ false → fault ≡ (rule_at 8 0 false).fault → metadata.metadata_of region ≡ Err fault
unfolding metadata.metadata_rules
root_broken region fault bad e = refused region fault (rw (bad, e) refl)

pub streams_broken : (region : List ℕ) (fault : Fault) → streams.is_root region ≡ true → first_broken (streams.rules_of_streams region [] (streams.streams_of region)) ≡ Some fault → metadata.metadata_of region ≡ Err fault
unfolding metadata.metadata_rules
streams_broken region fault root bad =
    refused region fault (rw root (append_some (streams.rules_of_streams region [] (streams.streams_of region)) _ fault bad))

-- behind the stream headers
rest_is : (region : List ℕ) → streams.is_root region ≡ true → first_broken (streams.rules_of_streams region [] (streams.streams_of region)) ≡ None → first_broken (metadata.metadata_rules region) ≡ first_broken (layout_rules region ++ metadata.rules_of_tables (metadata.metadata_part region))
unfolding metadata.metadata_rules
rest_is region root kept = rw root (append_none (streams.rules_of_streams region [] (streams.streams_of region)) _ kept)

pub layout_broken : (region : List ℕ) (fault : Fault) → streams.is_root region ≡ true → first_broken (streams.rules_of_streams region [] (streams.streams_of region)) ≡ None → first_broken (layout_rules region) ≡ Some fault → metadata.metadata_of region ≡ Err fault
layout_broken region fault root kept bad =
    refused region fault (rest_is region root kept ∙ append_some (layout_rules region) (metadata.rules_of_tables (metadata.metadata_part region)) fault bad)

pub rows_broken : (region : List ℕ) (fault : Fault) → streams.is_root region ≡ true → first_broken (streams.rules_of_streams region [] (streams.streams_of region)) ≡ None → first_broken (layout_rules region) ≡ None → first_broken (metadata.rules_of_tables (metadata.metadata_part region)) ≡ Some fault → metadata.metadata_of region ≡ Err fault
rows_broken region fault root kept layout bad =
    refused region fault (rest_is region root kept ∙ append_none (layout_rules region) (metadata.rules_of_tables (metadata.metadata_part region)) layout ∙ bad)

pub opened : (region : List ℕ) → streams.is_root region ≡ true → first_broken (streams.rules_of_streams region [] (streams.streams_of region)) ≡ None → first_broken (layout_rules region) ≡ None → first_broken (metadata.rules_of_tables (metadata.metadata_part region)) ≡ None → metadata.metadata_of region ≡ Ok (metadata.metadata_part region)
unfolding metadata.metadata_of
opened region root kept layout rows =
    rw (rest_is region root kept ∙ append_none (layout_rules region) (metadata.rules_of_tables (metadata.metadata_part region)) layout ∙ rows) refl
