use Rattle.std.proofs.Common.{◌∙◌, ap, true, false}
use Rattle.set_signatures.specs.Meant.{marked_meant}
use Rattle.set_signatures.proofs.PartLaws.{rest_is}
use Rattle.set_signatures.proofs.MemberLaws.{ok_as, method_this, method_static}
use Rattle.set_signatures.proofs.member.method_signature.Goals as goal

pub returns-then-code-eq-INSTANCE_METHOD : goal.returns-then-code-eq-INSTANCE_METHOD
returns-then-code-eq-INSTANCE_METHOD c =
    ok_as c.marked.result
    (λ key e. e ∙ ap (marked_meant c.args.tokens.now true) (rest_is 1 c.args.bytes.now) ∙ method_this c.args.tokens.now c.args.bytes.now c.in-len1-up.len_at_least c.if-code-eq-INSTANCE_METHOD.true)
    c.marked.ensures

pub returns-then-code-eq-STATIC_METHOD : goal.returns-then-code-eq-STATIC_METHOD
returns-then-code-eq-STATIC_METHOD c =
    ok_as c.marked-then-code-eq-STATIC_METHOD.result
    (λ key e. e ∙ ap (marked_meant c.args.tokens.now false) (rest_is 1 c.args.bytes.now) ∙ method_static c.args.tokens.now c.args.bytes.now c.in-len1-up.len_at_least c.if-code-eq-STATIC_METHOD.true)
    c.marked-then-code-eq-STATIC_METHOD.ensures
