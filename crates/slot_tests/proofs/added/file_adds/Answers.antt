use Rattle.std.proofs.Common.{◌≡◌, ◌∙◌, true, refl, sym, arith, below_more}
use Rattle.assemblies.specs.Binding.{id_at}
use Rattle.class_table.specs.Seen.{classes_seen}
use Rattle.slot_tests.specs.Told.{class_adds}
use Rattle.slot_tests.proofs.added.file_adds.Goals as goal

pub returns-then-not-adds : goal.returns-then-not-adds
returns-then-not-adds c = (λ e. absurd (cc e), λ all. sym c.if-not-adds.true ∙ c.in_ok-adds.ensures ∙ all c.loop-n.n (omega (arith, c.loop-n-test.true, c.count_types-count.ensures)))

pub loop-n-preserved : goal.loop-n-preserved
loop-n-preserved c = λ k below. below_more (λ j. class_adds (classes_seen c.args.subject.now.setting.table.now) (id_at c.args.file j) ≡ true) c.loop-n.n c.loop-n.invariant (sym c.in_ok-adds.ensures ∙ c.if-not-adds.false) k below

pub returns : goal.returns
returns c = (λ e n below. c.loop-n.invariant n (omega (arith, below, c.loop-n-test.false, c.count_types-count.ensures)), λ all. refl)
