use Rattle.std.proofs.Common.{◌+◌, ◌∙◌, sym, ap, arith}
use Rattle.image_bytes.specs.Layout.{padding}
use Rattle.msspot_read.specs.Rows.{size_of}
use Rattle.msspot_read.proofs.PartLaws.{end_is}
use Rattle.msspot_read.proofs.parts.Parts.size.Goals as goal

pub padded-requires : goal.padded-requires
padded-requires c = omega (arith, c.self.invariant.pools 4 (omega arith), c.self.invariant.small)

pub returns : goal.returns
returns c =
    let inv = c.self.invariant in
    c.padded.ensures ∙ ap (λ n. n + padding n) (inv.pools 4 (omega arith) ∙ sym (end_is c.self.inside.bytes.now inv.inside)) ∙ ap size_of c.self.view_is
