use Rattle.std.proofs.Common.{◌≡◌, [], ◌∷◌, length, sym, ap, ◌∙◌}
use Rattle.image_pools.specs.Pools.{pool_onto}
use Rattle.msspot_write.specs.Parts.{PoolsOf}
use Rattle.msspot_write.proofs.EntryLaws.{size_bytes}
use Rattle.msspot_write.proofs.pooling.Pools.sizes.Goals as goal

pub returns : goal.returns
returns c =
    let g = c.self.inside.gathered in
    let strings : c.from.result ≡ length (pool_onto c.args.self.now.strings []) =
    c.from.ensures ∙ c.self.invariant.strings.size ∙ sym (size_bytes g.strings.entries.items) ∙ ap (λ (ps : PoolsOf). length (pool_onto ps.strings [])) c.self.view_is in
    let signatures : c.from-2.result ≡ length (pool_onto c.args.self.now.signatures []) =
    c.from-2.ensures ∙ c.self.invariant.signatures.size ∙ sym (size_bytes g.signatures.entries.items) ∙ ap (λ (ps : PoolsOf). length (pool_onto ps.signatures [])) c.self.view_is in
    λ i. strings i ∷ signatures i ∷ []
