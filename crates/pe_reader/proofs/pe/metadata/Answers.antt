use Rattle.std.proofs.Common.{◌∙◌, Err, ap, sym}
use Rattle.pe_reader.proofs.PeLaws.{no_region}
use Rattle.pe_reader.proofs.pe.metadata.Goals as goal

pub returns-in-None : goal.returns-in-None
returns-in-None c =
    ap Err c.broken.ensures
    ∙ sym
    (no_region c.args.file.now c.in_ok-headers.headers c.in_ok-cli.cli c.in_ok-headers.ensures.kept c.in_ok-cli.ensures.kept
    (rw (← c.u32_at-rva.ensures, ← c.u32_at-size.ensures) c.in-None.ensures.place))
