use Rattle.std.proofs.Common.{◌≡◌, length, sym, ap, arith}
use Rattle.std.specs.Option.{option_map_or}
use Rattle.assemblies.specs.Rows.{Assembly}
use Rattle.scope_walk.specs.Scopes.{references_in}
use Rattle.tiny_rows.specs.Rows.{rows_seen}
use Rattle.set_names.specs.Names.{seen_all}
use Rattle.set_table.proofs.SubjectLaws.{image_there}
use Rattle.set_binding.proofs.file.bind_types.Goals as goal

pub returns-clause-few : goal.returns-clause-few
returns-clause-few c =
    let ps = seen_all c.args.names.now in
    let rows : references_in ps c.args.file ≡ length (rows_seen c.args.image.now).refs = ap (λ o. option_map_or (λ (p : Assembly). length p.refs) o 0) (image_there c.args.names.now c.args.file c.args.image.now (sym c.requires)) in
    omega (arith, rows, c.in_ok-types.ensures.size, c.type_ref_count-few.ensures, c.type_ref_count-few.type_inv)
