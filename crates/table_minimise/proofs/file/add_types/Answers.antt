use Rattle.std.proofs.Common.{◌++◌, map}
use Rattle.std.proofs.lemmas.Result.{on_ok_weaker}
use Rattle.file_tables.specs.Metadata.{rows_of}
use Rattle.kept_rules.specs.Row.{TypeAt}
use Rattle.world_rows.specs.Tokens.{type_defs, interface_impls}
use Rattle.row_rules.specs.Links.{links_from}
use Rattle.row_rules.specs.Named.{named_by_extends, interface_link}
use Rattle.row_rules.proofs.LinkLaws.{adds_after}
use Rattle.member_rules.specs.Members.{enclosing_links}
use Rattle.table_minimise.proofs.file.add_types.Goals as goal

pub returns : goal.returns
returns c =
    let f = c.args.file in
    let m = c.args.tables.now in
    let supers = links_from (TypeAt f) (named_by_extends f m) 0 (rows_of m type_defs) in
    let interfaces = map (interface_link f m) (rows_of m interface_impls) in
    on_ok_weaker c.add_interfaces.result
    (λ last.
    adds_after (enclosing_links f c.args.rows.now) (supers ++ interfaces) c.args.rules.now c.add_enclosing.new.rules c.add_interfaces.new.rules c.in_ok-add_enclosing.ensures
    (adds_after supers interfaces c.add_enclosing.new.rules c.add_extends.new.rules c.add_interfaces.new.rules c.in_ok-add_extends.ensures last))
    c.add_interfaces.ensures
