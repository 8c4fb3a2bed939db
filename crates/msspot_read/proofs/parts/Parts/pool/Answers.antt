use Rattle.std.proofs.Common.{◌≡◌, ◌+◌, ◌-◌, ◌*◌, ◌∙◌, sym, ap, get_or, arith}
use Rattle.image_form.specs.Whole.{bytes_at}
use Rattle.msspot_read.specs.Places.{lengths_at, pool_start}
use Rattle.msspot_read.proofs.PartLaws.{word_is, pool_is}
use Rattle.msspot_read.proofs.parts.Parts.pool.Goals as goal

pub returns-clause-pool : goal.returns-clause-pool
returns-clause-pool c =
    let bytes = c.self.inside.bytes.now in
    let starts = c.self.inside.pools in
    let k = c.args.number in
    let start : get_or starts c.from-number.result 0 ≡ pool_start bytes k = ap (λ j. get_or starts j 0) c.from-number.ensures ∙ c.self.invariant.pools k (omega (arith, c.requires)) in
    let size : c.from-size.result ≡ get_or (lengths_at bytes) k 0 = c.from-size.ensures ∙ c.u16_at.ensures ∙ sym (word_is 4 46 k (46 + 2 * c.from-number.result) bytes c.requires (omega (arith, c.from-number.ensures))) in
    let cancel : get_or starts c.from-number.result 0 + c.from-size.result - get_or starts c.from-number.result 0 ≡ c.from-size.result = omega arith in
    rw (cancel, start, size) (sym (pool_is bytes k c.requires) ∙ ap (λ i. bytes_at i k) c.self.view_is)
