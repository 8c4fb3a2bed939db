use Rattle.std.proofs.Common.{◌≡◌, ◌≤◌, suc, length, get_or, ap, ◌∙◌, arith}
use Rattle.file_tables.specs.Metadata.{row_count}
use Rattle.world_rows.specs.Tokens.{member_refs, is_field_ref}
use Rattle.body_rules.proofs.RefLaws.{counted_at, counts_long, apart, up_to_last}
use Rattle.body_rules.proofs.references.field_number.Goals as goal

pub bounds-counts-last : goal.bounds-counts-last
bounds-counts-last c =
    let long : length c.args.counts.now ≡ suc (row_count c.args.tables.now member_refs) = ap length c.requires ∙ counts_long c.args.tables.now in
    omega (arith, long, c.rows.ensures)

pub returns-clause-exact : goal.returns-clause-exact
returns-clause-exact c =
    let m = c.args.tables.now in
    let few : c.min-last.result ≤ row_count m member_refs = omega (arith, c.rows.ensures) in
    ap (λ xs. get_or xs c.min-last.result 0) c.requires ∙ counted_at m c.min-last.result few ∙ up_to_last m (is_field_ref m) c.args.n c.min-last.result (omega (arith, c.rows.ensures))

pub returns-clause-few : goal.returns-clause-few
returns-clause-few c =
    let m = c.args.tables.now in
    let few : c.min-last.result ≤ row_count m member_refs = omega (arith, c.rows.ensures) in
    let is = ap (λ xs. get_or xs c.min-last.result 0) c.requires ∙ counted_at m c.min-last.result few in
    omega (arith, is, apart m c.min-last.result few)

pub returns-clause-rows : goal.returns-clause-rows
returns-clause-rows c =
    let m = c.args.tables.now in
    let few : c.min-last.result ≤ row_count m member_refs = omega (arith, c.rows.ensures) in
    let is = ap (λ xs. get_or xs c.min-last.result 0) c.requires ∙ counted_at m c.min-last.result few in
    omega (arith, is, apart m c.min-last.result few, few)
