use Rattle.std.proofs.Common.{◌≡◌, ◌∙◌, true, false, map, sym, ap, subst}
use Rattle.std.specs.List.{flat_map, list_any}
use Rattle.std.proofs.lemmas.Result.{on_ok_weaker}
use Rattle.machine.specs.Data.{Id, id_eq}
use Rattle.classes.specs.Queries.{is_interface, is_or_implements}
use Rattle.member_keys.specs.Seen.{class_seen}
use Rattle.class_table.specs.Seen.{classes_seen}
use Rattle.row_rules.specs.Links.{Adds}
use Rattle.slot_links.specs.Slots.{implements}
use Rattle.slot_links.proofs.OwnLinks.{no_interfaces, with_interfaces}
use Rattle.slot_links.proofs.slots.add_class.Goals as goal

pub returns-then-is_interface : goal.returns-then-is_interface
returns-then-is_interface c =
    let cs = classes_seen c.args.methods.now.table in
    let of = class_seen c.args.class in
    let ds = map class_seen c.in_ok-above.above.items in
    let class : is_interface cs of ≡ true = ap (λ t. is_interface (classes_seen t) of) (sym c.table-2.ensures) ∙ sym c.is_interface.ensures ∙ c.if-is_interface.true in
    record {
      reached = ds;
      reach = subst (λ t. (d : Id) → list_any (id_eq d) ds ≡ is_or_implements (classes_seen t) of d) c.table.ensures c.in_ok-above.ensures.reaches;
      adds = no_interfaces cs of ds c.args.rules.now c.add_overrides.new.rules class c.in_ok-add_overrides.ensures;
    }

pub returns : goal.returns
returns c =
    let cs = classes_seen c.args.methods.now.table in
    let of = class_seen c.args.class in
    let ds = map class_seen c.in_ok-above.above.items in
    let class : is_interface cs of ≡ false = ap (λ t. is_interface (classes_seen t) of) (sym c.table-2.ensures) ∙ sym c.is_interface.ensures ∙ c.if-is_interface.false in
    on_ok_weaker c.add_reached.result
    (λ adds.
    record {
      reached = ds;
      reach = subst (λ t. (d : Id) → list_any (id_eq d) ds ≡ is_or_implements (classes_seen t) of d) c.table.ensures c.in_ok-above.ensures.reaches;
      adds =
          with_interfaces cs of ds c.args.rules.now c.add_overrides.new.rules c.add_reached.new.rules class c.in_ok-add_overrides.ensures
          (subst (λ xs. Adds (flat_map (implements cs of) (map class_seen xs)) c.add_overrides.new.rules c.add_reached.new.rules) c.as_slice.ensures.value adds);
    })
    c.add_reached.ensures
