-- What the first limit is, of those of the parts and those of the codes behind them.
use Rattle.std.proofs.Common.{◌≡◌, ◌∙◌, ℕ, Option, None, sym, ap, subst}
use Rattle.std.specs.Prelude.{Result, Ok, Err, IfOk, OnOk, IfErr}
use Rattle.std.specs.Option.{option_or}
use Rattle.plain_types.specs.declared.fault.Limit.{Limit}
use Rattle.kept_image.specs.declared.refusal.ImageRefusal.{ImageRefusal}
use Rattle.kept_image.specs.declared.refusal.ImageRefusal.TheVariants as refusals
use Rattle.kept_image.specs.Kept.{of_file, Refuses}

pub on_ok : {A E : Type 0} (r : Result A E) (P Q : Type 0) → (P → Q) → OnOk r P → OnOk r Q
on_ok (Ok a) P Q h p = h p
on_ok (Err e) P Q h p = tt

pub if_ok : {A E : Type 0} (r : Result A E) (W : Type 0) (P Q : A → Type 0) → ((x : A) → W → P x → Q x) → OnOk r W → IfOk r P → IfOk r Q
if_ok (Ok a) W P Q h w p = h a w p
if_ok (Err e) W P Q h w p = tt

pub if_err : {A E : Type 0} (r : Result A E) (P Q : E → Type 0) → ((e : E) → P e → Q e) → IfErr r P → IfErr r Q
if_err (Ok a) P Q h p = tt
if_err (Err e) P Q h p = h e p

-- a limit of the parts is the first
first : (r : ImageRefusal) (a rest : Option Limit) → Refuses a r → Refuses (option_or a rest) r
first (refusals.Limit l) a rest told = ap (λ z. option_or z rest) told
first refusals.NoMemory a rest told = tt

-- where they pass none, one of the codes is
pub later : (r : ImageRefusal) (f : ℕ) (o rest : Option Limit) → o ≡ None → Refuses rest r → Refuses (option_or (of_file f o) rest) r
later r f o rest none told = subst (λ z. Refuses (option_or (of_file f z) rest) r) (sym none) told

module _ (f : ℕ) (over o far wide : Option Limit) (split : over ≡ option_or (of_file f o) (option_or far wide)) where
  pub none_over : o ≡ None → far ≡ None → wide ≡ None → over ≡ None
  none_over none near few =
      split
      ∙ ap (λ z. option_or (of_file f z) (option_or far wide)) none
      ∙ ap (λ z. option_or z wide) near
      ∙ few

  pub parts_refused : (r : ImageRefusal) → Refuses (of_file f o) r → Refuses over r
  parts_refused r told = subst (λ z. Refuses z r) (sym split) (first r (of_file f o) (option_or far wide) told)

  pub refused : (r : ImageRefusal) → Refuses (option_or (of_file f o) (option_or far wide)) r → Refuses over r
  refused r told = subst (λ z. Refuses z r) (sym split) told
