use Rattle.std.proofs.Common.{ap, sym, ◌∙◌, Some, None}
use Rattle.std.specs.Prelude.{nat_lt}
use Rattle.assemblies.specs.Rows.{AssemblyRow}
use Rattle.type_tests.specs.declared.names.AssemblyName.{AssemblyName}
use Rattle.type_tests.proofs.NameLaws.{before_by}
use Rattle.type_tests.proofs.names.is_named_before.Goals as goal

pub returns-in-Some : goal.returns-in-Some
returns-in-Some c files names there =
    let key : AssemblyName = record { name = c.assembly_key.result.name } in
    ap (nat_lt c.in-Some.first.now) c.from.ensures
    ∙ sym (before_by files c.args.file c.args.tables.now there c.assembly_key.result.name.now (Some c.in-Some.first.now) (ap (λ (r : AssemblyRow). r.name) c.assembly_key.ensures) (c.in-Some.ensures.value ∙ names key))

pub returns-in-None : goal.returns-in-None
returns-in-None c files names there =
    let key : AssemblyName = record { name = c.assembly_key.result.name } in
    sym (before_by files c.args.file c.args.tables.now there c.assembly_key.result.name.now None (ap (λ (r : AssemblyRow). r.name) c.assembly_key.ensures) (c.in-None.ensures.value ∙ names key))
