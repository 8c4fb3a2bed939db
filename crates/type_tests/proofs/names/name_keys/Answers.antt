use Rattle.std.proofs.Common.{ap, ◌∙◌, map}
use Rattle.assemblies.specs.Rows.{AssemblyRow}
use Rattle.type_tests.specs.declared.names.AssemblyName.{AssemblyName}
use Rattle.type_tests.proofs.NameLaws.{name_more}
use Rattle.type_tests.proofs.names.name_keys.Goals as goal

pub loop-file-preserved : goal.loop-file-preserved
loop-file-preserved c =
    let key : AssemblyName = record { name = c.assembly_key.result.name } in
    ap (map (λ (k : AssemblyName). k.name.now)) c.in_ok-push.ensures.items
    ∙ name_more c.args.world.now c.loop-file.file c.tables.result.now c.tables.ensures c.loop-file.keys.items key c.loop-file.invariant (ap (λ (r : AssemblyRow). r.name) c.assembly_key.ensures)
