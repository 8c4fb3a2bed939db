use Rattle.std.proofs.Common.{sym, ap, ◌∙◌}
use Rattle.std.specs.Option.{option_map}
use Rattle.member_keys.specs.Seen.{signature_seen}
use Rattle.set_binding.proofs.MemberLaws.{no_method_ref, method_of_none, method_untold, method_found}
use Rattle.set_binding.proofs.members.find_method.Goals as goal

pub returns-in_default : goal.returns-in_default
returns-in_default c = no_method_ref c.args.subject.now c.requires.subject c.args.n c.in_default.ensures

pub returns-in_default-find_named : goal.returns-in_default-find_named
returns-in_default-find_named c = method_of_none c.args.subject.now c.requires.subject c.args.n c.in-Some.reference c.in-Some.ensures c.in_default-find_named.ensures

pub returns-in_default-2 : goal.returns-in_default-2
returns-in_default-2 c = method_untold c.args.subject.now c.requires.subject c.args.n c.in-Some.reference c.in-Some.ensures (sym (sym c.in_ok-signature.ensures ∙ ap (option_map signature_seen) c.in_default-2.is))

pub find_method-requires : goal.find_method-requires
find_method-requires c = c.requires.methods.members

pub returns : goal.returns
returns c =
    c.find_method.ensures
    ∙ method_found c.args.subject.now c.requires.subject c.args.n c.in-Some.reference c.in-Some.ensures c.args.methods.now c.requires.methods c.in-Some-find_named.class c.in-Some-2.signature c.in-Some-find_named.ensures
    (sym (sym c.in_ok-signature.ensures ∙ ap (option_map signature_seen) c.in-Some-2.is))
