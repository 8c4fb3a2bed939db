use Rattle.std.proofs.Common.{sym, ap, subst}
use Rattle.class_table.specs.Seen.{classes_seen}
use Rattle.class_table.specs.Whole.{IsTable}
use Rattle.class_targets.specs.Virtual.{AreApart}
use Rattle.member_rules.specs.Thrown.{IsThrown}
use Rattle.member_search.specs.Shown.{Indexed}
use Rattle.table_minimise.proofs.WorldLaws.{methods_apart}
use Rattle.table_minimise.proofs.sources.read_sources.Goals as goal

pub returns-clause-sources : goal.returns-clause-sources
returns-clause-sources c =
    let files = c.args.world.now in
    let t = c.classes-table.result.now in
    let index = c.in_ok-methods.ensures in
    record {
      table = subst (λ (i : Indexed). IsTable files i.table) (sym index) c.classes-table.ensures.rows;
      sort = ap (λ (i : Indexed). i.sort) index;
      apart = subst (λ (i : Indexed). AreApart (classes_seen i.table)) (sym index) (methods_apart files t c.classes-table.ensures.rows c.requires.judged);
      references = c.references.ensures;
      thrown = subst (λ (i : Indexed). IsThrown (classes_seen i.table) c.in_ok-thrown.thrown) (sym index) c.in_ok-thrown.ensures;
    }
