use Rattle.std.proofs.Common.{◌≡◌, ℕ, List, ◌+◌, ◌∷◌, ◌++◌, [], length, map, get_or, sym, ap, ◌∙◌, subst}
use Rattle.std.proofs.lemmas.List.{map-append, length-append}
use Rattle.image_rows.proofs.InterfaceLaws.{none_behind}
use Rattle.image_rows.proofs.interfaces.no_columns.Goals as goal

pub loop-n-preserved : goal.loop-n-preserved
loop-n-preserved c =
    let before = map (λ list. list.items) c.loop-n.lists.items in
    let after = map (λ list. list.items) c.push.new.self.items in
    let pushed : after ≡ before ++ [] ∷ [] = ap (map (λ list. list.items)) c.in_ok-push.ensures.items ∙ map-append (λ list. list.items) c.loop-n.lists.items (c.new.result ∷ []) ∙ ap (λ list. before ++ list ∷ []) c.new.ensures.items in
    let Empty : List (List ℕ) → Type 0 = λ lists. (n : ℕ) → get_or lists n [] ≡ [] in
    record {
      size = ap length pushed ∙ length-append before ([] ∷ []) ∙ ap (λ k. k + 1) c.loop-n.invariant.size;
      empty = subst Empty (sym pushed) (none_behind before c.loop-n.invariant.empty);
    }
