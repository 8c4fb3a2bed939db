use Rattle.std.proofs.Common.{codes, ap, ◌∙◌}
use Rattle.machine.specs.Texts.{same_text}
use Rattle.assemblies.specs.Rows.{AssemblyRow}
use Rattle.member_keys.proofs.KeyLaws.{same_bytes}
use Rattle.set_table.proofs.library.is_library.Goals as goal

pub returns : goal.returns
returns c =
    c.eq.ensures
    ∙ same_bytes c.assembly_name.result.name.now c.as_slice.result.now
    ∙ ap (same_text c.assembly_name.result.name.now) c.as_slice.ensures
    ∙ ap (λ (a : AssemblyRow). same_text a.name (codes "mscorlib")) c.assembly_name.ensures
