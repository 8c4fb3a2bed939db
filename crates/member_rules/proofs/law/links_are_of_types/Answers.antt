use Rattle.member_rules.proofs.TypeLaws.{are_type_names}
use Rattle.member_rules.proofs.law.links_are_of_types.Goals as goal

pub returns : goal.returns
returns c = λ files t f x y table here is. are_type_names files t table f x here y is
