use Rattle.std.proofs.Common.{◌≡◌, ◌∙◌, sym, ap, Some, None, [], length, arith}
use Rattle.std.specs.Prelude.{slice_get, unwrap_or}
use Rattle.std.specs.List.{find}
use Rattle.std.specs.Option.{option_copied, option_map}
use Rattle.classes.specs.Queries.{has_name}
use Rattle.class_table.specs.declared.rows.FileRows.{FileRows}
use Rattle.class_table.specs.Seen.{classes_seen}
use Rattle.class_checks.specs.Library.{rows_from}
use Rattle.class_checks.proofs.LibraryLaws.{rows_few}
use Rattle.class_checks.proofs.library.class_in.Goals as goal

pub class_among-requires : goal.class_among-requires
class_among-requires c =
    let at : slice_get c.args.table.now.files.items c.args.file ≡ Some c.in-Some.rows.now = sym c.find_file.ensures ∙ ap option_copied c.in-Some.is in
    let few = rows_few c.args.table.now c.args.file c.in-Some.rows.now at c.requires in
    omega (arith, few, c.len.ensures, c.in-Some.rows.now.classes.ok)

pub returns-in-Some : goal.returns-in-Some
returns-in-Some c =
    let at : slice_get c.args.table.now.files.items c.args.file ≡ Some c.in-Some.rows.now = sym c.find_file.ensures ∙ ap option_copied c.in-Some.is in
    let count : c.len.result ≡ length c.in-Some.rows.now.classes.items = omega (arith, c.len.ensures, c.in-Some.rows.now.classes.ok) in
    c.class_among.ensures
    ∙ ap (λ n. find (has_name (classes_seen c.args.table.now) c.args.name.now) (rows_from c.args.file 0 n)) count
    ∙ ap (λ o. find (has_name (classes_seen c.args.table.now) c.args.name.now) (unwrap_or (option_map (λ (f : FileRows). rows_from c.args.file 0 (length f.classes.items)) o) [])) (sym at)

pub returns-in-None : goal.returns-in-None
returns-in-None c =
    let at : slice_get c.args.table.now.files.items c.args.file ≡ None = sym c.find_file.ensures ∙ ap option_copied c.in-None.is in
    sym (ap (λ o. find (has_name (classes_seen c.args.table.now) c.args.name.now) (unwrap_or (option_map (λ (f : FileRows). rows_from c.args.file 0 (length f.classes.items)) o) [])) at)
