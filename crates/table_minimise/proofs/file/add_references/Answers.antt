use Rattle.std.proofs.Common.{◌++◌}
use Rattle.std.proofs.lemmas.Result.{on_ok_weaker}
use Rattle.row_rules.proofs.LinkLaws.{adds_after}
use Rattle.table_minimise.specs.FileLinks.{type_ref_links, field_ref_links, method_ref_links}
use Rattle.table_minimise.proofs.file.add_references.Goals as goal

pub returns : goal.returns
returns c =
    let f = c.args.file in
    let m = c.args.tables.now in
    on_ok_weaker c.add_method_refs.result
    (λ methods.
    adds_after (type_ref_links f m) (field_ref_links f m ++ method_ref_links f m) c.args.rules.now c.add_scopes.new.rules c.add_method_refs.new.rules c.in_ok-add_scopes.ensures
    (adds_after (field_ref_links f m) (method_ref_links f m) c.add_scopes.new.rules c.add_field_refs.new.rules c.add_method_refs.new.rules c.in_ok-add_field_refs.ensures methods))
    c.add_method_refs.ensures
