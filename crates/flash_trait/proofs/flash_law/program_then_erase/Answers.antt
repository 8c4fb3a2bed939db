use Rattle.std.proofs.Common.{◌≡◌, ◌⊎◌, ℕ, List, inl, inr, subst}
use Rattle.flash_trait.specs.Flash.{Operation, Program, Erase, IsStopped, after}
use Rattle.flash_trait.specs.FlashCalls.{FlashState, AtEachMoment}
use Rattle.flash_trait.proofs.FlashContents.{same_stopped}
use Rattle.flash_trait.proofs.FlashMoments.{IsMade, made, moments_begin, moments_go_on}
use Rattle.flash_trait.proofs.flash_law.program_then_erase.Goals as goal

-- what a stop of the first or of the second operation may leave
abbrev OneOf : Operation → Operation → List ℕ → List ℕ → Type 0
OneOf first second old content = IsStopped first old content ⊎ IsStopped second (after first old) content

one : (first second : Operation) (old new : FlashState) → IsMade first old new → AtEachMoment old new (OneOf first second old.content)
one first second old new is =
    moments_go_on (OneOf first second old.content) first old old new
    (moments_begin (OneOf first second old.content) old (inl (same_stopped first old.content))) is (λ c stopped. inl stopped)

both : (first second : Operation) (old middle new : FlashState) → IsMade first old middle → middle.content ≡ after first old.content → IsMade second middle new
    → AtEachMoment old new (OneOf first second old.content)
both first second old middle new a whole b =
    moments_go_on (OneOf first second old.content) second old middle new (one first second old middle a) b
    (λ c stopped. inr (subst (λ (d : List ℕ). IsStopped second d c) whole stopped))

pub returns-in_err-program : goal.returns-in_err-program
returns-in_err-program g c =
    record { any_moment = one (Program c.args.at c.args.bytes.now) (Erase c.args.sector) _ _ (made _ _ _ c.program.result c.program.ensures.ok c.program.ensures.cut c.program.ensures.failed) }

pub returns-in_err-erase : goal.returns-in_err-erase
returns-in_err-erase g c =
    record {
      any_moment =
          both (Program c.args.at c.args.bytes.now) (Erase c.args.sector) _ _ _
          (made _ _ _ c.program.result c.program.ensures.ok c.program.ensures.cut c.program.ensures.failed)
          c.in_ok-program.ensures.ok.content
          (made _ _ _ c.erase.result c.erase.ensures.ok c.erase.ensures.cut c.erase.ensures.failed);
    }

pub returns : goal.returns
returns g c =
    record {
      any_moment =
          both (Program c.args.at c.args.bytes.now) (Erase c.args.sector) _ _ _
          (made _ _ _ c.program.result c.program.ensures.ok c.program.ensures.cut c.program.ensures.failed)
          c.in_ok-program.ensures.ok.content
          (made _ _ _ c.erase.result c.erase.ensures.ok c.erase.ensures.cut c.erase.ensures.failed);
    }
