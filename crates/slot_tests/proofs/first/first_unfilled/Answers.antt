use Rattle.std.proofs.Common.{sym, ap, refl, subst}
use Rattle.class_table.proofs.TableLaws.{table_law}
use Rattle.member_search.specs.Shown.{Indexed}
use Rattle.class_slots.specs.Added.{GoUp}
use Rattle.class_slots.specs.Slots.{MethodsStand, StandWell}
use Rattle.slot_laws.proofs.StandLaws.{methods_stand_well}
use Rattle.slot_laws.proofs.UpLaws.{classes_go_up}
use Rattle.slot_tests.proofs.AddedLaws.{none_told}
use Rattle.slot_tests.proofs.first.first_unfilled.Goals as goal

pub all_add-requires : goal.all_add-requires
all_add-requires c =
    let s = c.args.subject.now in
    let stand = methods_stand_well s.world.now c.files-stand.ensures.stand c.requires.profile in
    record {
      table = ap (λ (x : Indexed). x.table) c.requires.index;
      methods =
          subst StandWell (sym c.requires.index)
          (record { sort = refl; methods = subst MethodsStand (sym (table_law s.world.now s.setting.table.now c.requires.subject.table)) stand });
    }

pub world_fault-requires-clause-methods : goal.world_fault-requires-clause-methods
world_fault-requires-clause-methods c =
    let s = c.args.subject.now in
    let stand = methods_stand_well s.world.now c.files-stand.ensures.stand c.requires.profile in
    record {
      table = ap (λ (x : Indexed). x.table) c.requires.index;
      methods =
          subst StandWell (sym c.requires.index)
          (record { sort = refl; methods = subst MethodsStand (sym (table_law s.world.now s.setting.table.now c.requires.subject.table)) stand });
    }

pub returns-then-all : goal.returns-then-all
returns-then-all c =
    let s = c.args.subject.now in
    let law = table_law s.world.now s.setting.table.now c.requires.subject.table in
    let stand = methods_stand_well s.world.now c.files-stand.ensures.stand c.requires.profile in
    let up = classes_go_up s.world.now c.files-stand.ensures.stand c.requires.profile in
    sym (none_told s.world.now s.setting.table.now c.requires.subject.table (subst MethodsStand (sym law) stand) (subst GoUp (sym law) up) (c.in_ok-all.ensures.0 c.if-all.true))
