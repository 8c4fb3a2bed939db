use Rattle.std.proofs.Common.{◌≡◌, ◌∙◌, Some, map, sym, ap, subst}
use Rattle.std.specs.Prelude.{slice_get}
use Rattle.std.specs.List.{list_all, list_any}
use Rattle.std.specs.Result.{IfOk}
use Rattle.machine.specs.Data.{Id, id_eq}
use Rattle.classes.specs.Queries.{is_or_implements, parents}
use Rattle.class_rules.specs.Rules.{fills}
use Rattle.member_keys.specs.Seen.{class_seen}
use Rattle.class_table.specs.Seen.{classes_seen}
use Rattle.class_targets.proofs.SlotLaws.{tested_listed}
use Rattle.class_slots.proofs.SlotLaws.{listed_here}
use Rattle.class_slots.proofs.slots.is_filled.Goals as goal

pub fills_each-requires-clause-implements : goal.fills_each-requires-clause-implements
fills_each-requires-clause-implements c =
    λ i d at.
    let at_class = class_seen c.args.class in
    let items = c.in_ok-owners.owners.items in
    let there : slice_get items i ≡ Some d = ap (λ xs. slice_get xs i) (sym c.as_slice.ensures.value) ∙ at in
    let reach = subst (λ t. list_any (id_eq (class_seen d)) (map class_seen items) ≡ is_or_implements (classes_seen t) at_class (class_seen d)) c.table.ensures (c.in_ok-owners.ensures.reaches (class_seen d)) in
    sym reach ∙ listed_here items i d there

pub returns : goal.returns
returns c =
    let t = c.args.methods.now.table in
    let cs = classes_seen t in
    let at_class = class_seen c.args.class in
    let items = c.in_ok-owners.owners.items in
    let reach = subst (λ t. (d : Id) → list_any (id_eq d) (map class_seen items) ≡ is_or_implements (classes_seen t) at_class d) c.table.ensures c.in_ok-owners.ensures.reaches in
    subst (λ b. IfOk c.fills_each.result (λ filled. filled ≡ b))
    (ap (λ xs. list_all (fills cs at_class) (map class_seen xs)) c.as_slice.ensures.value
    ∙ sym (tested_listed (parents cs) (fills cs at_class) cs.size at_class (map class_seen items) reach))
    c.fills_each.ensures
