use Rattle.std.proofs.Common.{Some, ap, sym, ◌∙◌}
use Rattle.pe_reader.specs.Seen.{seen}
use Rattle.pe_reader.proofs.PeLaws.{tail_found}
use Rattle.file_tables.specs.Pe.{pe_part}
use Rattle.pe_reader.proofs.pe.Pe.tail.Goals as goal

pub returns : goal.returns
unfolding pe_part
returns c =
    let s = seen c.in_ok-section.section in
    rw (← c.self.view_is)
    (sym
    (tail_found c.self.inside.file.now c.self.inside.sections c.self.inside.count c.args.rva s c.self.invariant.sections c.self.invariant.count c.in_ok-section.ensures.first
    ∙ ap Some (sym c.rest_of.ensures.bytes)))
