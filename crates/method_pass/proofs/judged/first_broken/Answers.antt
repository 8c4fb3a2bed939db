use Rattle.std.proofs.Common.{ap, ◌∙◌}
use Rattle.class_table.specs.Seen.{classes_seen}
use Rattle.class_table.proofs.TableLaws.{table_law}
use Rattle.forward_pass.proofs.EdgeLaws.{if_ok}
use Rattle.method_pass.proofs.judged.first_broken.Goals as goal

pub pass_over-requires-clause-lattice : goal.pass_over-requires-clause-lattice
pass_over-requires-clause-lattice c = ap classes_seen c.requires.lattice ∙ table_law c.args.subject.now.world.now c.args.subject.now.setting.table.now c.requires.subject.table

pub returns : goal.returns
returns c =
    if_ok c.pass_over.result c.pass_over.ensures
    (λ broken says. λ x columns m judged here at e code body before.
    says x m (c.judged_methods_are_known.ensures c.args.subject.now.world.now c.args.file c.args.row x columns m c.args.listing.now judged here at e code body before))
