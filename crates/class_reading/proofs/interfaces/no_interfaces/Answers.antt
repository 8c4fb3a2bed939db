use Rattle.std.proofs.Common.{◌+◌, ◌∷◌, ◌++◌, [], length, map, sym, ap, ◌∙◌, subst}
use Rattle.std.proofs.lemmas.List.{map-append}
use Rattle.type_names.proofs.Resolving.{longer}
use Rattle.class_reading.specs.Interfaces.{AreEmpty}
use Rattle.class_reading.proofs.InterfaceLaws.{empty_more}
use Rattle.class_reading.proofs.interfaces.no_interfaces.Goals as goal

pub loop-n-preserved : goal.loop-n-preserved
loop-n-preserved c =
    let pushed = c.in_ok-push.ensures.items in
    record {
      size = ap length pushed ∙ longer c.loop-n.lists.items c.new.result ∙ ap (λ k. k + 1) c.loop-n.invariant.size;
      empty = subst AreEmpty (sym (ap (map (λ list. list.items)) pushed ∙ map-append (λ list. list.items) c.loop-n.lists.items (c.new.result ∷ []) ∙ ap (λ list. map (λ list. list.items) c.loop-n.lists.items ++ list ∷ []) c.new.ensures.items)) (empty_more (map (λ list. list.items) c.loop-n.lists.items) c.loop-n.invariant.empty);
    }
