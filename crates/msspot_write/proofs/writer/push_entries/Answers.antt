use Rattle.std.proofs.Common.{◌≤◌, [], ◌++◌, take, length, ap, ◌∙◌, arith}
use Rattle.image_pools.specs.Pools.{entry_onto, pool_onto}
use Rattle.msspot_write.proofs.EntryLaws.{entry_small}
use Rattle.msspot_write.proofs.OntoLaws.{more_onto, entry_before, entry_pushed}
use Rattle.msspot_write.proofs.writer.push_entries.Goals as goal

pub overflow_cast-bytes : goal.overflow_cast-bytes
overflow_cast-bytes c =
    let e = c.entry-item.result in
    let long : length c.bytes-bytes.result.now ≤ 65535 = omega (arith, ap length c.bytes-bytes.ensures, entry_small c.args.entries.now c.loop-entry.entry-index e (omega arith) c.entry-item.is, c.requires) in
    omega (arith, long)

pub push_number-requires : goal.push_number-requires
push_number-requires c =
    let e = c.entry-item.result in
    omega (arith, ap length c.bytes-bytes.ensures, entry_small c.args.entries.now c.loop-entry.entry-index e (omega arith) c.entry-item.is, c.requires)

pub loop-entry-preserved : goal.loop-entry-preserved
loop-entry-preserved c =
    let e = c.entry-item.result in
    let es = c.args.entries.now in
    let i = c.loop-entry.entry-index in
    entry_pushed c.loop-entry.out.items c.push_number.new.out.items c.push_bytes.new.out.items c.bytes-bytes.result.now e c.bytes-bytes.ensures c.in_ok-push_number.ensures c.in_ok-push_bytes.ensures
    ∙ ap (λ ys. ys ++ entry_onto e []) c.loop-entry.invariant
    ∙ ap (λ x. (c.args.out.now.items ++ pool_onto (take i es) []) ++ entry_onto x []) c.entry-item.is
    ∙ more_onto entry_onto entry_before c.args.out.now.items es i e (omega arith)
