use Rattle.std.proofs.Common.{ap, sym, ◌∙◌}
use Rattle.deploy_model.specs.Banks.{located, is_late, old_found, bank_found, bank_of, number_in}
use Rattle.boot_scan.specs.Images.{FORMAT}
use Rattle.boot_scan.specs.Sets.{found_view}
use Rattle.boot_scan.proofs.ChooseLaws.{late, first, second, old, none, choose_same}
use Rattle.boot_scan.proofs.finding.locate.Goals as goal

pub returns-then-old-clause-located : goal.returns-then-old-clause-located
returns-then-old-clause-located c =
    let flash = c.args.flash.now in
    ap (λ x. located x 2 0 0) c.read_front-old.ensures.found
    ∙ late (old_found FORMAT flash) (bank_found FORMAT 0 (bank_of 0 flash)) (bank_found FORMAT 1 (bank_of 1 flash)) (number_in (bank_of 0 flash)) (number_in (bank_of 1 flash)) (sym c.read_front-old.ensures.late ∙ c.if-old.true)

pub returns-then-goes_first-clause-located : goal.returns-then-goes_first-clause-located
returns-then-goes_first-clause-located c =
    let flash = c.args.flash.now in
    first (found_view flash c.read_front-old.result.found) (found_view flash c.read_bank-first.result) (found_view flash c.read_bank-second.result) c.number_of-n.result c.number_of-m.result
    (ap is_late c.read_front-old.ensures.found ∙ sym c.read_front-old.ensures.late ∙ c.if-old.false)
    (sym (c.goes_first.ensures flash) ∙ c.if-goes_first.true)
    ∙ choose_same _ _ _ _ _ _ _ _ _ _ c.read_front-old.ensures.found c.read_bank-first.ensures.found c.read_bank-second.ensures.found c.number_of-n.ensures c.number_of-m.ensures

pub returns-then-is_set-clause-located : goal.returns-then-is_set-clause-located
returns-then-is_set-clause-located c =
    let flash = c.args.flash.now in
    second (found_view flash c.read_front-old.result.found) (found_view flash c.read_bank-first.result) (found_view flash c.read_bank-second.result) c.number_of-n.result c.number_of-m.result
    (ap is_late c.read_front-old.ensures.found ∙ sym c.read_front-old.ensures.late ∙ c.if-old.false)
    (sym (c.goes_first.ensures flash) ∙ c.if-goes_first.false)
    (sym (c.is_set.ensures flash) ∙ c.if-is_set.true)
    ∙ choose_same _ _ _ _ _ _ _ _ _ _ c.read_front-old.ensures.found c.read_bank-first.ensures.found c.read_bank-second.ensures.found c.number_of-n.ensures c.number_of-m.ensures

pub returns-then-is_set-2-clause-located : goal.returns-then-is_set-2-clause-located
returns-then-is_set-2-clause-located c =
    let flash = c.args.flash.now in
    old (found_view flash c.read_front-old.result.found) (found_view flash c.read_bank-first.result) (found_view flash c.read_bank-second.result) c.number_of-n.result c.number_of-m.result
    (ap is_late c.read_front-old.ensures.found ∙ sym c.read_front-old.ensures.late ∙ c.if-old.false)
    (sym (c.goes_first.ensures flash) ∙ c.if-goes_first.false)
    (sym (c.is_set.ensures flash) ∙ c.if-is_set.false)
    (sym (c.is_set-else-is_set.ensures flash) ∙ c.if-is_set-2.true)
    ∙ choose_same _ _ _ _ _ _ _ _ _ _ c.read_front-old.ensures.found c.read_bank-first.ensures.found c.read_bank-second.ensures.found c.number_of-n.ensures c.number_of-m.ensures

pub returns-else-is_set-2-clause-located : goal.returns-else-is_set-2-clause-located
returns-else-is_set-2-clause-located c =
    let flash = c.args.flash.now in
    ap (λ x. located x 0 0 0) (c.first_bad.ensures.view flash)
    ∙ none (found_view flash c.read_front-old.result.found) (found_view flash c.read_bank-first.result) (found_view flash c.read_bank-second.result) c.number_of-n.result c.number_of-m.result
    (ap is_late c.read_front-old.ensures.found ∙ sym c.read_front-old.ensures.late ∙ c.if-old.false)
    (sym (c.goes_first.ensures flash) ∙ c.if-goes_first.false)
    (sym (c.is_set.ensures flash) ∙ c.if-is_set.false)
    (sym (c.is_set-else-is_set.ensures flash) ∙ c.if-is_set-2.false)
    ∙ choose_same _ _ _ _ _ _ _ _ _ _ c.read_front-old.ensures.found c.read_bank-first.ensures.found c.read_bank-second.ensures.found c.number_of-n.ensures c.number_of-m.ensures
