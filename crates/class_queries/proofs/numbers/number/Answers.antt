use Rattle.std.proofs.Common.{◌≡◌, ◌∙◌, sym, ap, true, arith}
use Rattle.std.specs.Prelude.{is_some}
use Rattle.std.specs.Option.{option_copied}
use Rattle.std.proofs.lemmas.Option.{get_or_from_slice_get}
use Rattle.member_keys.specs.Seen.{class_seen}
use Rattle.class_queries.specs.Found.{found_row}
use Rattle.class_queries.specs.Numbers.{start_at}
use Rattle.class_queries.proofs.NumberLaws.{row_within, number_found, number_low}
use Rattle.class_queries.proofs.numbers.number.Goals as goal

pub overflow_add-result : goal.overflow_add-result
overflow_add-result c =
    let found : is_some (found_row c.args.table.now (class_seen c.args.class)) ≡ true = ap is_some (sym c.find_class.ensures ∙ ap option_copied c.in-Some.is) in
    let within = row_within c.args.table.now (class_seen c.args.class) found in
    let start : c.index.result.now ≡ start_at c.args.table.now c.args.class.file = c.index.ensures ∙ get_or_from_slice_get c.args.numbers.now.starts.items c.args.class.file (start_at c.args.table.now c.args.class.file) _ (c.requires.starts c.args.class.file within.0) in
    let low = number_low c.args.table.now (class_seen c.args.class) found in
    omega (arith, start, low, c.requires.few)

pub returns-in-Some : goal.returns-in-Some
returns-in-Some c =
    let found : is_some (found_row c.args.table.now (class_seen c.args.class)) ≡ true = ap is_some (sym c.find_class.ensures ∙ ap option_copied c.in-Some.is) in
    let within = row_within c.args.table.now (class_seen c.args.class) found in
    let start : c.index.result.now ≡ start_at c.args.table.now c.args.class.file = c.index.ensures ∙ get_or_from_slice_get c.args.numbers.now.starts.items c.args.class.file (start_at c.args.table.now c.args.class.file) _ (c.requires.starts c.args.class.file within.0) in
    let is = number_found c.args.table.now (class_seen c.args.class) found in
    omega (arith, start, is)
