use Rattle.std.proofs.lemmas.Result.{on_ok_weaker}
use Rattle.row_rules.proofs.LinkLaws.{adds_after}
use Rattle.table_minimise.specs.FileLinks.{field_type_links, spec_links}
use Rattle.table_minimise.proofs.file.add_signatures.Goals as goal

pub returns : goal.returns
returns c =
    let f = c.args.file in
    let m = c.args.tables.now in
    on_ok_weaker c.add_spec_types.result (λ specs. adds_after (field_type_links f m) (spec_links f m) c.args.rules.now c.add_field_types.new.rules c.add_spec_types.new.rules c.in_ok-add_field_types.ensures specs) c.add_spec_types.ensures
