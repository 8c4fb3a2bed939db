use Rattle.class_rules.proofs.MergeLaws.{same, up, merged}
use Rattle.class_rules.proofs.law.merge_lies_above.Goals as goal

pub returns : goal.returns
returns c = record { same = same; up = up; merged = merged }
