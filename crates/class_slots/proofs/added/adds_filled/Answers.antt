use Rattle.std.proofs.Common.{◌≡◌, ◌∙◌, Some, map, sym, ap, subst}
use Rattle.std.specs.Prelude.{slice_get}
use Rattle.std.specs.List.{list_all, list_any}
use Rattle.std.specs.Option.{option_map}
use Rattle.std.specs.Result.{IfOk}
use Rattle.machine.specs.Data.{Id, id_eq}
use Rattle.classes.specs.Queries.{reaches}
use Rattle.class_rules.specs.Rules.{fills}
use Rattle.member_keys.specs.Seen.{class_seen}
use Rattle.class_table.specs.declared.rows.ClassTable.{ClassTable}
use Rattle.class_table.specs.Seen.{classes_seen}
use Rattle.class_reach.specs.Until.{parents_until}
use Rattle.class_targets.proofs.SlotLaws.{tested_listed}
use Rattle.class_slots.specs.Added.{made_above}
use Rattle.class_slots.proofs.MadeLaws.{reach_less}
use Rattle.class_slots.proofs.SlotLaws.{listed_here}
use Rattle.class_slots.proofs.added.adds_filled.Goals as goal

pub fills_each-requires-clause-implements : goal.fills_each-requires-clause-implements
fills_each-requires-clause-implements c =
    λ i d at.
    let at_class = class_seen c.args.class in
    let items = c.in_ok-owners.owners.items in
    let top = option_map class_seen c.made_above-top.result in
    let there : slice_get items i ≡ Some d = ap (λ xs. slice_get xs i) (sym c.as_slice.ensures.value) ∙ at in
    let reach = subst (λ (t : ClassTable). list_any (id_eq (class_seen d)) (map class_seen items) ≡ reaches t.size (parents_until (classes_seen t) top) at_class (class_seen d)) c.table-2.ensures (c.in_ok-owners.ensures.reaches (class_seen d)) in
    reach_less (classes_seen c.args.methods.now.table) top c.args.methods.now.table.size at_class (class_seen d) (sym reach ∙ listed_here items i d there)

pub returns : goal.returns
returns c =
    let t = c.args.methods.now.table in
    let cs = classes_seen t in
    let at_class = class_seen c.args.class in
    let items = c.in_ok-owners.owners.items in
    let top = option_map class_seen c.made_above-top.result in
    let is = subst (λ (t : ClassTable). top ≡ made_above (classes_seen t) at_class) c.table.ensures c.made_above-top.ensures in
    let reach = subst (λ (t : ClassTable). (d : Id) → list_any (id_eq d) (map class_seen items) ≡ reaches t.size (parents_until (classes_seen t) top) at_class d) c.table-2.ensures c.in_ok-owners.ensures.reaches in
    let same = subst (λ o. (d : Id) → list_any (id_eq d) (map class_seen items) ≡ reaches cs.size (parents_until cs o) at_class d) is reach in
    subst (λ b. IfOk c.fills_each.result (λ filled. filled ≡ b))
    (ap (λ xs. list_all (fills cs at_class) (map class_seen xs)) c.as_slice.ensures.value
    ∙ sym (tested_listed (parents_until cs (made_above cs at_class)) (fills cs at_class) cs.size at_class (map class_seen items) same))
    c.fills_each.ensures
