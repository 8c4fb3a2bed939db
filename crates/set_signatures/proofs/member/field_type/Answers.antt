use Rattle.std.proofs.Common.{◌∙◌, ap}
use Rattle.set_signatures.specs.Meant.{whole_of}
use Rattle.set_signatures.proofs.MemberLaws.{field_is}
use Rattle.set_signatures.proofs.member.field_type.Goals as goal

pub returns-in-Some : goal.returns-in-Some
returns-in-Some c = c.whole_type.ensures ∙ ap whole_of c.in-Some.ensures ∙ field_is c.args.tokens.now c.args.bytes.now

pub returns-in-None : goal.returns-in-None
returns-in-None c = ap whole_of c.in-None.ensures ∙ field_is c.args.tokens.now c.args.bytes.now
