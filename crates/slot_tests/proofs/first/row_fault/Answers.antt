use Rattle.std.proofs.Common.{◌≡◌, ◌∙◌, Some, None, sym, ap}
use Rattle.std.specs.Option.{option_copied}
use Rattle.assemblies.specs.Binding.{id_at}
use Rattle.class_rules.specs.Rules.{slots_filled}
use Rattle.class_table.specs.Seen.{classes_seen, row_seen}
use Rattle.class_queries.specs.Found.{found_row}
use Rattle.slot_tests.proofs.PhaseLaws.{a_class, no_class}
use Rattle.slot_tests.proofs.first.row_fault.Goals as goal

pub slots_filled-requires : goal.slots_filled-requires
slots_filled-requires c = c.requires.methods.methods

pub returns-in_ok-is_filled-in-Some : goal.returns-in_ok-is_filled-in-Some
returns-in_ok-is_filled-in-Some c =
    let s = c.args.subject.now in
    let t = s.setting.table.now in
    let file = c.args.file in
    let n = c.args.n in
    let r = c.in-Some.row.now in
    let row : found_row t (id_at file n) ≡ Some r = ap (λ g. found_row t (id_at g n)) (sym c.from.ensures) ∙ sym c.find_class.ensures ∙ ap option_copied c.in-Some.is in
    a_class s.world.now t c.requires.subject.table file n c.requires.file c.requires.row r c.in_ok-is_filled-in-Some.is_filled c.unless_kept.result row
    (λ f. c.in_ok-is_filled-in-Some.ensures file f ∙ ap (λ x. slots_filled (classes_seen x) (id_at c.from.result n) (row_seen file f r)) c.requires.methods.table ∙ ap (λ g. slots_filled (classes_seen t) (id_at g n) (row_seen file f r)) c.from.ensures)
    c.unless_kept.ensures

pub returns-in-None : goal.returns-in-None
returns-in-None c =
    let s = c.args.subject.now in
    let t = s.setting.table.now in
    let row : found_row t (id_at c.args.file c.args.n) ≡ None = ap (λ g. found_row t (id_at g c.args.n)) (sym c.from.ensures) ∙ sym c.find_class.ensures ∙ ap option_copied c.in-None.is in
    sym (no_class s.world.now t c.requires.subject.table c.args.file c.args.n c.requires.file c.requires.row row)
