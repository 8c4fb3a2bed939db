use Rattle.member_rules.proofs.MemberLaws.{are_member_rules}
use Rattle.member_rules.proofs.law.links_are_of_members.Goals as goal

pub returns : goal.returns
returns c = λ files t f x table here. are_member_rules files t table f x here
