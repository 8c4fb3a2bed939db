use Rattle.std.proofs.Common.{codes, ap, ◌∙◌}
use Rattle.machine.specs.Texts.{same_text}
use Rattle.member_keys.proofs.KeyLaws.{same_bytes}
use Rattle.class_reading.proofs.library.is_library.Goals as goal

pub returns : goal.returns
returns c = c.eq.ensures ∙ same_bytes c.assembly_key.result.name.now (codes "mscorlib") ∙ ap (λ a. same_text a.name (codes "mscorlib")) c.assembly_key.ensures
