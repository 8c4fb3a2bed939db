-- What the code of a world's methods is judged by.
use Rattle.std.specs.Prelude.{◌≡◌}
use Rattle.member_keys.specs.Seen.{class_seen}
use Rattle.verdict_rules.specs.World.{world_of, exception_of}
use Rattle.profile_subject.specs.Subject.{IsSubject}
use Rattle.code_order.specs.declared.judge.CodeJudge.{CodeJudge}

pub record IsCodeJudge (j : CodeJudge) : Type 0 where
  pub subject : IsSubject j.subject.now
  pub lattice : j.lattice.now ≡ j.subject.now.setting.table.now
  pub exception : class_seen j.exception ≡ exception_of (world_of j.subject.now.world.now)
