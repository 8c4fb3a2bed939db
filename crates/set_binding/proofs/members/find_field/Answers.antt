use Rattle.std.proofs.Common.{ap, ◌∙◌}
use Rattle.std.specs.Option.{option_map}
use Rattle.member_keys.specs.Seen.{class_seen}
use Rattle.set_binding.proofs.MemberLaws.{no_field_ref, field_of_none, field_untold, field_found}
use Rattle.set_binding.proofs.members.find_field.Goals as goal

pub returns-in_err-reference : goal.returns-in_err-reference
returns-in_err-reference c = ap (option_map class_seen) c.from_residual.ensures ∙ no_field_ref c.args.subject.now c.requires.subject c.args.n c.in_err-reference.ensures

pub returns-in_err-class : goal.returns-in_err-class
returns-in_err-class c = ap (option_map class_seen) c.from_residual-in_err-class.ensures ∙ field_of_none c.args.subject.now c.requires.subject c.args.n c.in_ok-reference.reference c.in_ok-reference.ensures c.in_err-class.ensures

pub returns-in_err-of : goal.returns-in_err-of
returns-in_err-of c = ap (option_map class_seen) c.from_residual-in_err-of.ensures ∙ field_untold c.args.subject.now c.requires.subject c.args.n c.in_ok-reference.reference c.in_ok-reference.ensures c.in_err-of.ensures

pub find_field-requires : goal.find_field-requires
find_field-requires c = c.requires.fields.members

pub returns : goal.returns
returns c = c.find_field.ensures ∙ field_found c.args.subject.now c.requires.subject c.args.n c.in_ok-reference.reference c.in_ok-reference.ensures c.args.fields.now c.requires.fields c.in_ok-class.class c.in_ok-of.of c.in_ok-class.ensures c.in_ok-of.ensures
