use Rattle.deploy_model.specs.Banks.{bank_of}
use Rattle.boot_scan.proofs.ChooseLaws.{number_is}
use Rattle.boot_scan.proofs.banks.number_of.Goals as goal

pub returns : goal.returns
returns c =
    number_is c.bank_bytes-bytes.result.now (bank_of c.args.bank c.args.flash.now) c.read_u32.result c.byte_at.result c.byte_at-2.result c.byte_at-3.result c.byte_at-4.result
    c.bank_bytes-bytes.ensures c.byte_at.ensures c.byte_at-2.ensures c.byte_at-3.ensures c.byte_at-4.ensures c.read_u32.ensures
