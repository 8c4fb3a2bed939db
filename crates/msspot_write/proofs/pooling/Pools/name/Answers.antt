use Rattle.std.proofs.Common.{◌≡◌, [], length, arith, sym, ap, ◌∙◌}
use Rattle.image_pools.specs.Pools.{pool_onto}
use Rattle.image_form.specs.Whole.{name_entry}
use Rattle.msspot_write.specs.Parts.{PoolsOf}
use Rattle.msspot_write.specs.Starts.{pool_size}
use Rattle.msspot_write.proofs.EntryLaws.{size_bytes, offset_within}
use Rattle.msspot_write.proofs.pooling.Pools.name.Goals as goal

pub returns-clause-within : goal.returns-clause-within
returns-clause-within c =
    let es = c.self.inside.gathered.strings.entries.items in
    let size : pool_size es ≡ length (pool_onto c.args.self.now.strings []) = sym (size_bytes es) ∙ ap (λ (ps : PoolsOf). length (pool_onto ps.strings [])) c.self.view_is in
    omega (arith, c.offset.ensures, offset_within es (name_entry c.args.text.now), size)
