use Rattle.std.proofs.Common.{◌≡◌, [], length, arith, sym, ap, ◌∙◌}
use Rattle.image_pools.specs.Pools.{pool_onto}
use Rattle.image_form.specs.Whole.{signature_entry}
use Rattle.msspot_write.specs.Parts.{PoolsOf}
use Rattle.msspot_write.specs.Starts.{pool_size}
use Rattle.msspot_write.proofs.EntryLaws.{size_bytes, offset_within}
use Rattle.msspot_write.proofs.pooling.Pools.signature.Goals as goal

pub returns-clause-within : goal.returns-clause-within
returns-clause-within c =
    let es = c.self.inside.gathered.signatures.entries.items in
    let size : pool_size es ≡ length (pool_onto c.args.self.now.signatures []) = sym (size_bytes es) ∙ ap (λ (ps : PoolsOf). length (pool_onto ps.signatures [])) c.self.view_is in
    omega (arith, c.offset.ensures, offset_within es (signature_entry c.args.bytes.now), size)
