use Rattle.std.proofs.Common.{ap, ◌∙◌, subst}
use Rattle.std.proofs.lemmas.Result.{on_ok_weaker}
use Rattle.assemblies.specs.Binding.{range}
use Rattle.kept_rules.specs.Row.{FieldAt, MethodAt}
use Rattle.row_rules.specs.Links.{row_at, keeps_each, Adds}
use Rattle.row_rules.proofs.LinkLaws.{keeps_after}
use Rattle.member_rules.specs.Members.{is_instance, is_initialiser, passing_rows}
use Rattle.member_rules.proofs.parts.keep_parts.Goals as goal

pub returns : goal.returns
returns c =
    let r = row_at c.args.place in
    let f = c.args.place.file in
    let x = c.args.rows.now in
    let k = c.args.class.now in
    let fields = range k.first_field k.field_count x.fields.items in
    let methods = range k.first_method k.method_count x.methods.items in
    on_ok_weaker c.keep_initialisers.result
    (λ adds.
    keeps_after r (passing_rows (FieldAt f) is_instance k.first_field fields) (passing_rows (MethodAt f) is_initialiser k.first_method methods) c.args.rules.now c.keep_instance_fields.new.rules c.keep_initialisers.new.rules
    (subst (λ xs. Adds (keeps_each r (passing_rows (FieldAt f) is_instance k.first_field xs)) c.args.rules.now c.keep_instance_fields.new.rules) (c.range-fields.ensures ∙ ap (range k.first_field k.field_count) c.deref.ensures.value) c.in_ok-keep_instance_fields.ensures)
    (subst (λ xs. Adds (keeps_each r (passing_rows (MethodAt f) is_initialiser k.first_method xs)) c.keep_instance_fields.new.rules c.keep_initialisers.new.rules) (c.range-methods.ensures ∙ ap (range k.first_method k.method_count) c.deref-2.ensures.value) adds))
    c.keep_initialisers.ensures
