use Rattle.std.proofs.lemmas.Result.{on_ok_weaker}
use Rattle.file_tables.specs.Metadata.{rows_of}
use Rattle.kept_rules.specs.Row.{MethodAt}
use Rattle.world_rows.specs.Tokens.{methods}
use Rattle.looked_rows.specs.Looked.{file_with}
use Rattle.row_rules.specs.Links.{links_from}
use Rattle.row_rules.specs.Named.{named_by_method}
use Rattle.row_rules.proofs.LinkLaws.{adds_after}
use Rattle.body_rules.specs.Code.{code_links}
use Rattle.table_minimise.proofs.file.add_methods.Goals as goal

pub returns : goal.returns
returns c =
    let f = c.args.file in
    let m = c.args.tables.now in
    on_ok_weaker c.add_code_names.result
    (λ code.
    adds_after (links_from (MethodAt f) (named_by_method f m) 0 (rows_of m methods)) (code_links f (file_with c.args.pe.now m)) c.args.rules.now c.add_method_types.new.rules c.add_code_names.new.rules c.in_ok-add_method_types.ensures code)
    c.add_code_names.ensures
