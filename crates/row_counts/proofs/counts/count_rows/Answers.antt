use Rattle.std.proofs.Common.{◌≡◌, ◌-◌, arith}
use Rattle.std.specs.Prelude.{count_by}
use Rattle.file_tables.specs.Metadata.{rows_of, row_count}
use Rattle.world_rows.specs.Tokens.{member_refs, is_field_ref}
use Rattle.row_counts.proofs.CountLaws.{is_count}
use Rattle.row_counts.proofs.counts.count_rows.Goals as goal

pub returns : goal.returns
returns c =
    let m = c.args.tables.now in
    let rest : c.rows-3.result - c.count_field_refs-field_refs.result ≡ row_count m member_refs - count_by (is_field_ref m) (rows_of m member_refs) = omega (arith, c.rows-3.ensures, c.count_field_refs-field_refs.ensures) in
    is_count m _ c.rows.ensures c.rows-2.ensures c.count_field_refs-field_refs.ensures rest c.rows-4.ensures c.rows-5.ensures c.rows-6.ensures c.rows-7.ensures
