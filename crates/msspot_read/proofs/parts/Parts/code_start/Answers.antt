use Rattle.std.proofs.Common.{◌≡◌, ◌∙◌, sym, ap, get_or, arith}
use Rattle.msspot_read.specs.Places.{pool_start}
use Rattle.msspot_read.specs.Rows.{code_start}
use Rattle.msspot_read.proofs.PartLaws.{code_begins, pool_fits}
use Rattle.msspot_read.proofs.parts.Parts.code_start.Goals as goal

pub returns-clause-place : goal.returns-clause-place
returns-clause-place c =
    let inv = c.self.invariant in
    ap (λ k. get_or c.self.inside.pools k 0) c.from.ensures ∙ inv.pools 2 (omega arith) ∙ sym (code_begins c.self.inside.bytes.now inv.inside) ∙ ap code_start c.self.view_is

pub returns-clause-small : goal.returns-clause-small
returns-clause-small c =
    let inv = c.self.invariant in
    let bytes = c.self.inside.bytes.now in
    let start : get_or c.self.inside.pools c.from.result 0 ≡ pool_start bytes 2 = ap (λ k. get_or c.self.inside.pools k 0) c.from.ensures ∙ inv.pools 2 (omega arith) in
    let fits = pool_fits bytes 2 (omega arith) in
    omega (arith, start, fits, inv.small)
