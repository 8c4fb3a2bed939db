use Rattle.std.proofs.Common.{◌∙◌, refl, sym, arith, below_more}
use Rattle.class_table.specs.Seen.{classes_seen}
use Rattle.slot_tests.specs.Told.{FileAdds}
use Rattle.slot_tests.proofs.added.all_add.Goals as goal

pub returns-then-not-adds : goal.returns-then-not-adds
returns-then-not-adds c = (λ e. absurd (cc e), λ all. sym c.if-not-adds.true ∙ c.in_ok-adds.ensures.1 (all c.loop-file.file (omega (arith, c.loop-file-test.true, c.files-file-end.ensures.count))))

pub loop-file-preserved : goal.loop-file-preserved
loop-file-preserved c = λ k below. below_more (λ j. FileAdds c.args.subject.now.world.now (classes_seen c.args.subject.now.setting.table.now) j) c.loop-file.file c.loop-file.invariant (c.in_ok-adds.ensures.0 c.if-not-adds.false) k below

pub returns : goal.returns
returns c = (λ e n below. c.loop-file.invariant n (omega (arith, below, c.loop-file-test.false, c.files-file-end.ensures.count)), λ all. refl)
