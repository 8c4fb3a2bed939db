use Rattle.std.proofs.Common.{◌+◌, ◌*◌, ap, sym, ◌∙◌, arith}
use Rattle.deploy_model.specs.Banks.{holds, bank_marker, judge, walk, bank_of}
use Rattle.boot_scan.specs.Images.{FORMAT}
use Rattle.boot_scan.proofs.BankLaws.{front_view, bank_region}
use Rattle.boot_scan.proofs.ChooseLaws.{bank_is}
use Rattle.boot_scan.proofs.banks.read_bank.Goals as goal

pub returns-clause-found : goal.returns-clause-found
returns-clause-found c =
    sym (front_view c.min-end.result c.args.flash.now c.read_set.result.found c.read_set.ensures.inside)
    ∙ c.read_set.ensures.found
    ∙ ap (λ xs. judge FORMAT (131072 * c.args.bank) (walk FORMAT 32 (131072 * c.args.bank + 16) xs)) (bank_region c.args.bank c.min-end.result c.args.flash.now (omega arith))
    ∙ bank_is c.args.bank (bank_of c.args.bank c.args.flash.now) (sym (ap (holds bank_marker 0) c.bank_bytes.ensures) ∙ sym c.has_marker.ensures ∙ c.if-not-has_marker.false)
