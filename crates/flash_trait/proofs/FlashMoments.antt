-- How moments go on from one operation to the next, whatever it answers.
use Rattle.std.proofs.Common.{◌≡◌, ℕ, List, [], ◌∷◌, ◌++◌, refl, sym, ap, ◌∙◌, subst, inl, inr, ◌⊎◌}
use Rattle.std.specs.Prelude.{IsTrue, Result, Ok, Err, OnOk, IsErrOf}
use Rattle.std.proofs.lemmas.List.{append_assoc, append-nil}
use Rattle.flash_trait.specs.Flash.{Operation, cut, IsStopped}
use Rattle.flash_trait.specs.FlashCalls.{Done, FlashState, Logs, Completes, IsCut, IsFailed, AtEach, AtEachMoment}
use Rattle.flash_trait.specs.declared.flash.FlashErr.{FlashErr}
use Rattle.flash_trait.specs.declared.flash.FlashErr.TheVariants.{Failed, Cut}
use Rattle.flash_trait.proofs.FlashContents.{after_stopped, cut_stopped}

-- what every answer of an operation says
pub record IsMade (op : Operation) (old new : FlashState) : Type 0 where
  pub content : IsStopped op old.content new.content
  pub telling : new.tells ≡ old.tells
  pub log : Logs op old new ⊎ (new.log ≡ old.log)

made_whole : (op : Operation) (old new : FlashState) → Completes op old new → IsMade op old new
made_whole op old new whole =
    record {
      content = subst (λ (c : List ℕ). IsStopped op old.content c) (sym whole.content) (after_stopped op old.content);
      telling = whole.telling;
      log = inl whole.log;
    }

made_cut : (op : Operation) (old new : FlashState) → IsCut op old new → IsMade op old new
made_cut op old new is =
    record {
      content = subst (λ (c : List ℕ). IsStopped op old.content c) (sym is.stopped.3) (cut_stopped op is.stopped.0.mask old.content);
      telling = is.telling;
      log = inl is.log;
    }

made_failed : (op : Operation) (old new : FlashState) → IsFailed op old new → IsMade op old new
made_failed op old new is =
    record {
      content = is.content;
      telling = is.telling;
      log = elim is.log [ inl logs ↦ inl logs | inr same ↦ inr same.1 ];
    }

-- an operation was made, whatever its answer
pub made : (op : Operation) (old new : FlashState) (result : Result (Unit {0}) FlashErr)
    → OnOk result (Completes op old new) → (IsErrOf result Cut → IsCut op old new) → (IsErrOf result Failed → IsFailed op old new)
    → IsMade op old new
made op old new (Ok done) ok cut failed = made_whole op old new ok
made op old new (Err Failed) ok cut failed = made_failed op old new (failed refl)
made op old new (Err Cut) ok cut failed = made_cut op old new (cut refl)

AtEach-push : (P : List ℕ → Type 0) (ds : List Done) (d : Done) → AtEach P ds → P d.before → ((c : List ℕ) → IsStopped d.operation d.before c → P c) → AtEach P (ds ++ d ∷ [])
AtEach-push P [] d each before stops = ((before, stops), tt)
AtEach-push P (e ∷ ds) d each before stops = (each.0, AtEach-push P ds d each.1 before stops)

-- before the first operation there is one moment
pub moments_begin : (P : List ℕ → Type 0) (s : FlashState) → P s.content → AtEachMoment s s P
moments_begin P s now = record { end = now; telling = refl; moments = λ _. ([], sym (append-nil s.log), tt) }

-- an operation adds the moments of its stops
pub moments_go_on : (P : List ℕ → Type 0) (op : Operation) (first old new : FlashState) → AtEachMoment first old P → IsMade op old new
    → ((c : List ℕ) → IsStopped op old.content c → P c) → AtEachMoment first new P
moments_go_on P op first old new sofar is stops =
    record {
      end = stops new.content is.content;
      telling = is.telling ∙ sofar.telling;
      moments = λ tells.
          let so = sofar.moments tells in
          let still : IsTrue old.tells = sofar.telling ∙ tells in
          elim is.log [
            | inl logs ↦ (
              so.0 ++ (record { operation = op; before = old.content }) ∷ [],
              logs still ∙ ap (λ (l : List Done). l ++ (record { operation = op; before = old.content }) ∷ []) so.1 ∙ append_assoc first.log so.0 ((record { operation = op; before = old.content }) ∷ []),
              AtEach-push P so.0 (record { operation = op; before = old.content }) so.2 sofar.end stops,
            )
            | inr same ↦ (so.0, same ∙ so.1, so.2)
          ];
    }

-- a weaker fact holds at the same moments
AtEach-weaker : (P Q : List ℕ → Type 0) → ((c : List ℕ) → P c → Q c) → (ds : List Done) → AtEach P ds → AtEach Q ds
AtEach-weaker P Q weaker [] each = tt
AtEach-weaker P Q weaker (d ∷ ds) each =
    ((weaker d.before each.0.0, λ c stopped. weaker c (each.0.1 c stopped)), AtEach-weaker P Q weaker ds each.1)

pub moments_weaker : (P Q : List ℕ → Type 0) → ((c : List ℕ) → P c → Q c) → (first last : FlashState) → AtEachMoment first last P → AtEachMoment first last Q
moments_weaker P Q weaker first last at =
    record {
      end = weaker last.content at.end;
      telling = at.telling;
      moments = λ tells. let so = at.moments tells in (so.0, so.1, AtEach-weaker P Q weaker so.0 so.2);
    }

AtEach-append : (P : List ℕ → Type 0) (ds es : List Done) → AtEach P ds → AtEach P es → AtEach P (ds ++ es)
AtEach-append P [] es a b = b
AtEach-append P (d ∷ ds) es a b = (a.0, AtEach-append P ds es a.1 b)

-- the moments of two calls, one after the other, are those of both
pub moments_join : (P : List ℕ → Type 0) (first middle last : FlashState) → AtEachMoment first middle P → AtEachMoment middle last P → AtEachMoment first last P
moments_join P first middle last a b =
    record {
      end = b.end;
      telling = b.telling ∙ a.telling;
      moments = λ tells.
          let x = a.moments tells in
          let y = b.moments (a.telling ∙ tells) in
          (x.0 ++ y.0, y.1 ∙ ap (λ (l : List Done). l ++ y.0) x.1 ∙ append_assoc first.log x.0 y.0, AtEach-append P x.0 y.0 x.2 y.2);
    }

-- a call that leaves content and record adds no moment, as arming and turning on
pub moments_stay : (P : List ℕ → Type 0) (first old new : FlashState) → AtEachMoment first old P → new.content ≡ old.content → new.log ≡ old.log → new.tells ≡ old.tells → AtEachMoment first new P
moments_stay P first old new a content log tells =
    record {
      end = subst P (sym content) a.end;
      telling = tells ∙ a.telling;
      moments = λ t. let x = a.moments t in (x.0, log ∙ x.1, x.2);
    }
