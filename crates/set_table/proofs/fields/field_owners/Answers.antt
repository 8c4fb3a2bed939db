use Rattle.std.proofs.Common.{◌≡◌, ◌∙◌, Some, length, map, ap, arith}
use Rattle.std.proofs.lemmas.List.{length-map}
use Rattle.row_owners.specs.Owners.{first_span}
use Rattle.set_table.specs.Subject.{field_span}
use Rattle.set_table.proofs.OwnerLaws.{fields_owned}
use Rattle.set_table.proofs.fields.field_owners.Goals as goal

pub find_owners-requires : goal.find_owners-requires
find_owners-requires c =
    let spans : c.deref.result.now ≡ map field_span c.args.classes.now = c.deref.ensures.value ∙ c.in_ok-spans.ensures in
    let many = ap length spans ∙ length-map c.args.classes.now field_span in
    omega (arith, many, c.requires.few)

pub returns-clause-size : goal.returns-clause-size
returns-clause-size c = c.in_ok-owners.ensures.size ∙ c.from.ensures ∙ c.field_count.ensures

pub returns-clause-each : goal.returns-clause-each
returns-clause-each c =
    let spans : c.deref.result.now ≡ map field_span c.args.classes.now = c.deref.ensures.value ∙ c.in_ok-spans.ensures in
    fields_owned c.args.subject.now c.requires.subject c.args.classes.now c.in_ok-owners.owners.items c.requires.classes (c.in_ok-owners.ensures.size ∙ c.from.ensures ∙ c.field_count.ensures)
    (λ n low. c.in_ok-owners.ensures.each n (omega (arith, low, c.from.ensures, c.field_count.ensures)) ∙ ap (λ s. Some (first_span s n)) spans)
