-- How the record of operations grows, whatever they answer.
use Rattle.std.proofs.Common.{◌≡◌, List, [], ◌∷◌, ◌++◌, map, refl, sym, ap, ◌∙◌, inl, inr, ◌⊎◌}
use Rattle.std.specs.Prelude.{IsTrue}
use Rattle.std.proofs.lemmas.List.{append_assoc, append-nil, map-append}
use Rattle.flash_trait.specs.Flash.{Operation}
use Rattle.flash_trait.specs.FlashCalls.{Done, FlashState, Logs, IsFailed, Made}

pub made_none : (s : FlashState) → Made [] s s
made_none s = record { telling = refl; log = λ t. ([], sym (append-nil s.log), refl) }

-- one more is in the record
pub made_more : (ops : List Operation) (op : Operation) (first old new : FlashState) → Made ops first old → new.tells ≡ old.tells → Logs op old new
    → Made (ops ++ op ∷ []) first new
made_more ops op first old new made telling logs =
    let last : List Done = (record { operation = op; before = old.content }) ∷ [] in
    record {
      telling = telling ∙ made.telling;
      log = λ t.
          let so = made.log t in
          let still : IsTrue old.tells = made.telling ∙ t in (
            so.0 ++ last,
            logs still ∙ ap (λ (l : List Done). l ++ last) so.1 ∙ append_assoc first.log so.0 last,
            map-append (λ (d : Done). d.operation) so.0 last ∙ ap (λ (os : List Operation). os ++ op ∷ []) so.2,
          );
    }

-- the record stays as it was
pub made_stays : (ops : List Operation) (first old new : FlashState) → Made ops first old → new.tells ≡ old.tells → new.log ≡ old.log → Made ops first new
made_stays ops first old new made telling log =
    record { telling = telling ∙ made.telling; log = λ t. let so = made.log t in (so.0, log ∙ so.1, so.2) }

-- a failed operation that changed nothing may be missing
pub made_failed : (ops : List Operation) (op : Operation) (first old new : FlashState) → Made ops first old → IsFailed op old new
    → Made (ops ++ op ∷ []) first new ⊎ Made ops first new
made_failed ops op first old new made is =
    elim is.log [
      | inl logs ↦ inl (made_more ops op first old new made is.telling logs)
      | inr same ↦ inr (made_stays ops first old new made is.telling same.1)
    ]

-- the operations of two calls, one after the other
pub made_join : (ops more : List Operation) (first middle last : FlashState) → Made ops first middle → Made more middle last → Made (ops ++ more) first last
made_join ops more first middle last a b =
    record {
      telling = b.telling ∙ a.telling;
      log = λ t.
          let x = a.log t in
          let y = b.log (a.telling ∙ t) in (
            x.0 ++ y.0,
            y.1 ∙ ap (λ (l : List Done). l ++ y.0) x.1 ∙ append_assoc first.log x.0 y.0,
            map-append (λ (d : Done). d.operation) x.0 y.0 ∙ ap (λ (os : List Operation). os ++ map (λ (d : Done). d.operation) y.0) x.2 ∙ ap (λ (os : List Operation). ops ++ os) y.2,
          );
    }
