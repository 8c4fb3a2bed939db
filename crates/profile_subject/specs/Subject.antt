-- A subject's setting is that of its world's classes.
use Rattle.class_table.specs.Whole.{IsTable}
use Rattle.class_checks.specs.Setting.{IsSetting}
use Rattle.profile_subject.specs.declared.Subject.{Subject as Judged}

pub record IsSubject (s : Judged) : Type 0 where
  pub setting : IsSetting s.setting
  pub table : IsTable s.world.now s.setting.table.now
