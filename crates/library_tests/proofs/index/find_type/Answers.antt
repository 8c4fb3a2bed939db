use Rattle.std.proofs.Common.{None, Some, ap, ◌∙◌}
use Rattle.std.specs.Option.{option_map}
use Rattle.assemblies.specs.Binding.{id_at}
use Rattle.member_keys.specs.Seen.{class_seen}
use Rattle.type_names.specs.declared.keys.NameKey.{NameKey}
use Rattle.library_tests.proofs.IndexLaws.{type_found}
use Rattle.library_tests.proofs.index.find_type.Goals as goal

pub returns-in_err-row : goal.returns-in_err-row
returns-in_err-row c =
    let i = c.args.index.now in
    let key : NameKey = record { enclosing = None; namespace = c.args.namespace; name = c.args.name } in
    ap (option_map class_seen) c.from_residual.ensures ∙ ap (option_map (id_at i.file)) c.in_err-row.ensures.value ∙ type_found i.names.now i.file i.places c.requires.there c.requires.places key

pub returns : goal.returns
returns c =
    let i = c.args.index.now in
    let key : NameKey = record { enclosing = None; namespace = c.args.namespace; name = c.args.name } in
    ap (λ file. Some (id_at file c.in_ok-row.field-0.now)) c.from.ensures ∙ ap (option_map (id_at i.file)) c.in_ok-row.ensures.value ∙ type_found i.names.now i.file i.places c.requires.there c.requires.places key
