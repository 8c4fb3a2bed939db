use Rattle.set_binding.proofs.file.bind_members.Goals as goal

pub resolve_fields-requires : goal.resolve_fields-requires
resolve_fields-requires c = record { subject = c.requires.subject; fields = c.requires.members.fields }

pub resolve_methods-requires : goal.resolve_methods-requires
resolve_methods-requires c = record { subject = c.requires.subject; methods = c.requires.members.methods }

pub returns : goal.returns
returns c = record { fields = c.in_ok-fields.ensures; methods = c.in_ok-methods.ensures }
