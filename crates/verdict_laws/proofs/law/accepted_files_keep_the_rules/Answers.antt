use Rattle.verdict_laws.proofs.VerdictLaws.{rules, begins, code}
use Rattle.verdict_laws.proofs.law.accepted_files_keep_the_rules.Goals as goal

pub returns : goal.returns
returns c = record { classes = λ xs opened accepted. rules xs accepted opened; entry = begins; code = code }
