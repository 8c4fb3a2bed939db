use Rattle.std.proofs.Common.{◌≡◌, ◌≤◌, ◌-◌, take, ◌∙◌, arith}
use Rattle.std.specs.Prelude.{count_by}
use Rattle.file_tables.specs.Metadata.{row_count, rows_of}
use Rattle.world_rows.specs.Tokens.{member_refs, is_method_ref}
use Rattle.body_rules.proofs.RefLaws.{apart, up_to_last}
use Rattle.body_rules.proofs.references.method_number.Goals as goal

pub returns : goal.returns
returns c =
    let m = c.args.tables.now in
    let few : c.min-last.result ≤ row_count m member_refs = omega (arith, c.rows.ensures) in
    let rest : c.min-last.result - c.field_number.result ≡ count_by (is_method_ref m) (take c.min-last.result (rows_of m member_refs)) = omega (arith, c.field_number.ensures.exact, apart m c.min-last.result few) in
    rest ∙ up_to_last m (is_method_ref m) c.args.n c.min-last.result (omega (arith, c.rows.ensures))
