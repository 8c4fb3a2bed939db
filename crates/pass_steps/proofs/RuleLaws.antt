-- The rules that steps break, and their ranks.
use Rattle.std.proofs.Common.{◌≡◌, ℕ, ◌≤◌, min, Bool, true, false, List, [], ◌∷◌, ◌++◌, length, Option, Some, None, Result, Ok, Err, refl, sym, ap, subst, ◌∙◌, arith}
use Rattle.std.specs.Prelude.{nat_lt, slice_get}
use Rattle.std.proofs.lemmas.Option.{slice_get_past}
use Rattle.std.proofs.lemmas.Bool.{ltb-false}
use Rattle.machine.specs.Data.{CliType, PlaceType}
use Rattle.machine.specs.Program.{Program, Method, Instruction, LoadArgument, StoreArgument, LoadArgumentAddress, LoadLocal, StoreLocal, LoadLocalAddress}
use Rattle.machine_typed.specs.Typing.{StackType}
use Rattle.code_rules.specs.Pass.{Step}
use Rattle.code_rules.specs.Rows.{Row, with_place, judged}
use Rattle.code_rules.specs.Verdict.{number_fits, numbered, unless, act_of}
use Rattle.verdict_rules.specs.Code.{lowest}
use Rattle.verify_ops.specs.Effects.{lowest as lowest_in}
use Rattle.ecma_effects.proofs.Whole.{low_act}
use Rattle.forward_pass.specs.Told.{lowest_of, IsRanked}
use Rattle.pass_steps.specs.Listed.{lowest_unless}

-- the lowest of rules stands in two crates
pub lowest_same : (rules : List ℕ) → lowest_in rules ≡ lowest rules
lowest_same [] = refl
lowest_same (r ∷ rs) = ap (min r) (lowest_same rs)

pub lowest_three : (a b c : Bool) → lowest_of (unless a 45 ++ (unless b 46 ++ unless c 47)) ≡ lowest_unless a b c
lowest_three true true true = refl
lowest_three true true false = refl
lowest_three true false true = refl
lowest_three true false false = refl
lowest_three false true true = refl
lowest_three false true false = refl
lowest_three false false true = refl
lowest_three false false false = refl

-- an argument or local that isn't there is 47 alone
no_place : (ks : List PlaceType) (n most : ℕ) (make : PlaceType → Row) (ts : List StackType) → nat_lt n (length ks) ≡ false → judged (with_place (slice_get ks n) make) most ts ≡ Err (47 ∷ [])
no_place ks n most make ts e = ap (λ o. judged (with_place o make) most ts) (slice_get_past ks n (ltb-false n (length ks) e))

no_number : (p : Program) (exception : CliType) (m : Method) (i : Instruction) (ts : List StackType) → number_fits m i ≡ false → act_of p exception m (Some i) ts ≡ Err (47 ∷ [])
no_number p exception m (LoadArgument n) ts e = no_place m.arguments n m.max_stack _ ts e
no_number p exception m (StoreArgument n) ts e = no_place m.arguments n m.max_stack _ ts e
no_number p exception m (LoadArgumentAddress n) ts e = no_place m.arguments n m.max_stack _ ts e
no_number p exception m (LoadLocal n) ts e = no_place m.locals n m.max_stack _ ts e
no_number p exception m (StoreLocal n) ts e = no_place m.locals n m.max_stack _ ts e
no_number p exception m (LoadLocalAddress n) ts e = no_place m.locals n m.max_stack _ ts e
no_number p exception m _ ts e = absurd (cc e)

unnumbered : (p : Program) (exception : CliType) (m : Method) (i : Option Instruction) (ts : List StackType) → numbered m i ≡ false → act_of p exception m i ts ≡ Err (47 ∷ [])
unnumbered p exception m None ts e = absurd (cc e)
unnumbered p exception m (Some i) ts e = no_number p exception m i ts e

-- what an act breaks
abbrev Above : ℕ → Result (List StackType) (List ℕ) → Type 0
Above rule (Ok us) = Unit {0}
Above rule (Err rules) = rule ≤ lowest_in rules

above_less : (r : Result (List StackType) (List ℕ)) (a b : ℕ) → a ≤ b → Above b r → Above a r
above_less (Ok us) a b le h = tt
above_less (Err rules) a b le h = omega (arith, le, h)

acts_above : (p : Program) (exception : CliType) (m : Method) (i : Option Instruction) (ts : List StackType) → Above 46 (act_of p exception m i ts)
acts_above p exception m i ts = above_as (act_of p exception m i ts) (low_act p exception m i ts)
  where
    above_as : (r : Result (List StackType) (List ℕ)) → Above 46 r → Above 46 r
    above_as r h = h

counted_above : (p : Program) (exception : CliType) (m : Method) (i : Option Instruction) (ts : List StackType) → numbered m i ≡ false → Above 47 (act_of p exception m i ts)
counted_above p exception m i ts e = subst (Above 47) (sym (unnumbered p exception m i ts e)) (omega arith)

told_above : (rule : ℕ) (r : Result (List StackType) (List ℕ)) (rules : List ℕ) → Above rule r → r ≡ Err rules → rule ≤ lowest rules
told_above rule (Ok us) rules h e = absurd (cc e)
told_above rule (Err others) rules h e =
    let same : others ≡ rules = cc e in
    subst (λ rs. rule ≤ lowest rs) same (subst (λ n. rule ≤ n) (lowest_same others) h)

-- the rule that is told, and what an act breaks beside it
module _ (act : List StackType → Result (List StackType) (List ℕ)) (above : (ts : List StackType) → Above 46 (act ts)) where
  abbrev Ranks : Option ℕ → Type 0
  Ranks told = (rule : ℕ) → told ≡ Some rule → (rule ≤ 52) × ((types : List StackType) (rules : List ℕ) → act types ≡ Err rules → rule ≤ lowest rules)

  ranks_of : (n : ℕ) → n ≤ 52 → ((ts : List StackType) → Above n (act ts)) → Ranks (Some n)
  ranks_of n le h rule e =
      let same : n ≡ rule = cc e in
      (subst (λ k. k ≤ 52) same le, λ types rules broken. subst (λ k. k ≤ lowest rules) same (told_above n (act types) rules (h types) broken))

  pub ranks : (a b c : Bool) → (c ≡ false → (ts : List StackType) → Above 47 (act ts)) → Ranks (lowest_unless a b c)
  ranks false b c h = ranks_of 45 (omega arith) (λ ts. above_less (act ts) 45 46 (omega arith) (above ts))
  ranks true false c h = ranks_of 46 (omega arith) above
  ranks true true false h = ranks_of 47 (omega arith) (h refl)
  ranks true true true h = λ rule e. absurd (cc e)

pub step_ranked : (p : Program) (exception : CliType) (m : Method) (i : Option Instruction) (a b : Bool) (s : Step) → s.broken ≡ unless a 45 ++ (unless b 46 ++ unless (numbered m i) 47) → s.act ≡ act_of p exception m i → IsRanked s
step_ranked p exception m i a b s broken acts rule e =
    let r = ranks (act_of p exception m i) (acts_above p exception m i) a b (numbered m i) (λ none ts. counted_above p exception m i ts none) rule (sym (ap lowest_of broken ∙ lowest_three a b (numbered m i)) ∙ e) in
    (r.0, λ types rules bad. r.1 types rules (sym (ap (λ f. f types) acts) ∙ bad))
