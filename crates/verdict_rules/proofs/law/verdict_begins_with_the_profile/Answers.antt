use Rattle.verdict_rules.proofs.VerdictLaws.{profile_refuses, profile_accepts}
use Rattle.verdict_rules.proofs.law.verdict_begins_with_the_profile.Goals as goal

pub returns : goal.returns
returns c = record { refused = profile_refuses; accepted = profile_accepts }
