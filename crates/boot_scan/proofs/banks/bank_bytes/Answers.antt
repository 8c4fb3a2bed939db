use Rattle.std.proofs.Common.{◌≡◌, min, length, take, ap, ◌∙◌, arith}
use Rattle.std.proofs.lemmas.List.{take_min}
use Rattle.boot_scan.proofs.banks.bank_bytes.Goals as goal

pub returns : goal.returns
returns c =
    let turned : c.min.result ≡ min 122880 (length c.rest_of-rest.result.now) = omega arith in
    ap (λ n. take n c.rest_of-rest.result.now) turned ∙ take_min 122880 c.rest_of-rest.result.now ∙ ap (take 122880) c.rest_of-rest.ensures
