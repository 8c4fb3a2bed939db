-- The order of the code's types, as the pass and the effects of instructions ask for it.
use Rattle.std.proofs.Common.{◌≡◌, Bool, refl, ap, ◌∙◌}
use Rattle.machine.specs.Data.{CliType}
use Rattle.classes.specs.Code.{Sources}
use Rattle.classes.specs.Queries.{fits}
use Rattle.code_rules.specs.Judgement.{lattice_of}
use Rattle.place_types.specs.Types.{Agrees as OrderAgrees}
use Rattle.place_types.proofs.Spellings.{spelt_type}
use Rattle.ecma_effects.specs.Steps.{FitsUp}
use Rattle.forward_pass.specs.Seen.{Agrees}
use Rattle.pass_steps.specs.Seen.{stack_seen, fits_seen, assignable_seen, Merges}
use Rattle.pass_steps.proofs.SeenLaws.{type_back}

both : (f : CliType → CliType → Bool) {a b c d : CliType} → a ≡ c → b ≡ d → f a b ≡ f c d
both f {a} {b} {c} {d} e h = ap (λ t. f t b) e ∙ ap (f c) h

pub orders : (x : Sources) → Agrees stack_seen (assignable_seen x) (Merges x) (lattice_of x)
orders x = record { fits = λ a b. refl; joins = λ a b both merges. merges }

pub effects_order : (x : Sources) → OrderAgrees (assignable_seen x) (fits_seen x)
effects_order x = record { same = λ a b. both (fits_seen x) (spelt_type a) (spelt_type b) }

pub up_order : (x : Sources) → FitsUp x (fits_seen x)
up_order x a b = both (fits x.classes) (type_back a) (type_back b)
