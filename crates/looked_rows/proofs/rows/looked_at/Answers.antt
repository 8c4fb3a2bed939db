use Rattle.world_rows.specs.Tokens.{member_refs, type_specs}
use Rattle.looked_rows.specs.Looked.{file_with}
use Rattle.looked_rows.proofs.LookLaws.{all_looks, all_marked}
use Rattle.looked_rows.proofs.rows.looked_at.Goals as goal

pub returns-clause-members : goal.returns-clause-members
returns-clause-members c =
    let x = file_with c.args.pe.now c.args.tables.now in
    let all = all_looks x c.in_ok-looked.looked c.mark_superclasses.new.looked c.mark_interfaces.new.looked c.mark_fields.new.looked c.mark_methods.new.looked c.mark_all_locals.new.looked c.mark_bodies.new.looked c.mark_superclasses.ensures c.mark_interfaces.ensures c.mark_fields.ensures c.in_ok-mark_methods.ensures c.in_ok-mark_all_locals.ensures c.in_ok-mark_bodies.ensures in
    all_marked x member_refs c.in_ok-looked.looked.members.items c.mark_bodies.new.looked.members.items c.in_ok-looked.ensures.members all.members

pub returns-clause-specs : goal.returns-clause-specs
returns-clause-specs c =
    let x = file_with c.args.pe.now c.args.tables.now in
    let all = all_looks x c.in_ok-looked.looked c.mark_superclasses.new.looked c.mark_interfaces.new.looked c.mark_fields.new.looked c.mark_methods.new.looked c.mark_all_locals.new.looked c.mark_bodies.new.looked c.mark_superclasses.ensures c.mark_interfaces.ensures c.mark_fields.ensures c.in_ok-mark_methods.ensures c.in_ok-mark_all_locals.ensures c.in_ok-mark_bodies.ensures in
    all_marked x type_specs c.in_ok-looked.looked.specs.items c.mark_bodies.new.looked.specs.items c.in_ok-looked.ensures.specs all.specs
