-- What holds behind an instruction.
use Rattle.std.proofs.Common.{◌≡◌, ℕ, ◌≤◌, Bool, true, false, cond, List, [], ◌∷◌, ◌++◌, Option, Some, None, Result, Ok, Err, refl, sym, ap, ◌∙◌, arith, subst}
use Rattle.std.specs.Prelude.{nat_eq, nat_le, ◌||◌, is_some}
use Rattle.std.specs.Borrow.{Bor}
use Rattle.std.specs.Ordering.{nat_cmp}
use Rattle.std.specs.Option.{option_copied}
use Rattle.std.specs.List.{list_any}
use Rattle.std.specs.Global.{Vec}
use Rattle.std.specs.BTreeMap.{BTreeMap, get}
use Rattle.std.proofs.lemmas.Bool.{eqb-true, eq-eqb, le-leb, or_left, or_right}
use Rattle.ecma_types.specs.declared.stack.StackType.{StackType as WorldType}
use Rattle.machine_typed.specs.Typing.{StackType}
use Rattle.code_rules.specs.Pass.{Lattice, Step, Entry, After, put, standing, edges, incoming, acted, met, visit, fallen, not_empty}
use Rattle.verdict_rules.specs.Code.{lowest}
use Rattle.forward_pass.specs.declared.steps.StepFacts.{StepFacts}
use Rattle.forward_pass.specs.Seen.{AllNeeded, Keeps, is_needed, is_target, step_at, seen_stack, seen_falling, seen_there, seen_types}
use Rattle.forward_pass.specs.Told.{Acted, lowest_of, lower_of, Leaves, Goes, Behind, IsRanked, Tells, begun, left_behind}
use Rattle.forward_pass.proofs.RuleLaws.{first_counts, lowest_append, lowest_of_append, lowest_of_three, none_lowest}
use Rattle.forward_pass.proofs.EdgeLaws.{edges_high, one_rule, there_seen, FailsSo, merge_rules}

-- ---- the instruction at an offset

found_by : (b : Bool) (x s : Step) (at : ℕ) (rest : Option Step) → nat_eq x.at at ≡ b → cond b (Some x) rest ≡ Some s → (rest ≡ Some s → s.at ≡ at) → s.at ≡ at
found_by true x s at rest same e later = let is : x ≡ s = cc e in ap (λ (y : Step). y.at) (sym is) ∙ eqb-true x.at at same
found_by false x s at rest other e later = later e

pub found_at : (steps : List Step) (at : ℕ) (s : Step) → step_at steps at ≡ Some s → s.at ≡ at
found_at [] at s e = cc e
found_at (x ∷ xs) at s e = found_by (nat_eq x.at at) x s at (step_at xs at) refl e (found_at xs at s)

leads_by : (b : Bool) (x s : Step) (to : ℕ) (rest : Option Step) (later : Bool) → cond b (Some x) rest ≡ Some s → list_any (nat_eq to) s.goes ≡ true → (rest ≡ Some s → later ≡ true) → (list_any (nat_eq to) x.goes || later) ≡ true
leads_by true x s to rest later e h more = let is : x ≡ s = cc e in or_left (list_any (nat_eq to) x.goes) later (ap (λ (y : Step). list_any (nat_eq to) y.goes) is ∙ h)
leads_by false x s to rest later e h more = or_right (list_any (nat_eq to) x.goes) later (more e)

leads : (steps : List Step) (at : ℕ) (s : Step) (to : ℕ) → step_at steps at ≡ Some s → list_any (nat_eq to) s.goes ≡ true → is_target steps to ≡ true
leads [] at s to e h = cc e
leads (x ∷ xs) at s to e h = leads_by (nat_eq x.at at) x s to (step_at xs at) (is_target xs to) e h (λ e'. leads xs at s to e' h)

all_needed : (p q : ℕ → Bool) → ((to : ℕ) → p to ≡ true → q to ≡ true) → (tos : List ℕ) → AllNeeded p tos → AllNeeded q tos
all_needed p q more [] h = tt
all_needed p q more (x ∷ xs) h = (more x h.0, all_needed p q more xs h.1)

among : (tos : List ℕ) → AllNeeded (λ to. list_any (nat_eq to) tos) tos
among [] = tt
among (x ∷ xs) = (
  or_left (nat_eq x x) (list_any (nat_eq x) xs) (eq-eqb x x refl),
  all_needed (λ to. list_any (nat_eq to) xs) (λ to. list_any (nat_eq to) (x ∷ xs)) (λ to h. or_right (nat_eq to x) (list_any (nat_eq to) xs) h) xs (among xs),
)

pub targets_needed : (steps : List Step) (at from : ℕ) (s : Step) → step_at steps at ≡ Some s → AllNeeded (is_needed steps from) s.goes
targets_needed steps at from s e =
    all_needed (λ to. list_any (nat_eq to) s.goes) (is_needed steps from) (λ to h. or_left (is_target steps to) (nat_le from to) (leads steps at s to e h)) s.goes (among s.goes)

-- ---- rules

pub lower_none : (a b : Option ℕ) → lower_of a b ≡ None → (a ≡ None) × (b ≡ None)
lower_none None b e = (refl, e)
lower_none (Some a) None e = cc e
lower_none (Some a) (Some b) e = cc e

lower_nothing : (o : Option ℕ) → lower_of o None ≡ o
lower_nothing None = refl
lower_nothing (Some rule) = refl

lower_same : (a b a' b' : Option ℕ) → a ≡ a' → b ≡ b' → lower_of a b ≡ lower_of a' b'
lower_same a b a' b' e f = ap (λ o. lower_of o b) e ∙ ap (lower_of a') f

pub arrive_rules : (l : Lattice) (begins before falling : Option (List StackType)) → FailsSo (incoming l begins before falling)
arrive_rules l (Some ts) before falling = tt
arrive_rules l None (Some ts) (Some us) = merge_rules l ts us
arrive_rules l None (Some ts) None = tt
arrive_rules l None None (Some us) = tt
arrive_rules l None None None = tt

-- ---- an instruction

module _ (l : Lattice) (seen : WorldType → StackType) (needed : ℕ → Bool) (s : Step) (entries : List Entry) (table : BTreeMap ℕ (Vec WorldType)) where
  pub acted_goes : (old new : List WorldType) (rule : Option ℕ) → s.act (seen_stack seen old) ≡ Ok (seen_stack seen new) → Leaves seen needed table rule (edges l s.at (seen_stack seen new) s.goes entries) → Goes seen needed s table new rule (acted l s entries (s.act (seen_stack seen old)))
  acted_goes old new rule e leaves = subst (λ r. Goes seen needed s table new rule (acted l s entries r)) (sym e) (leaves.0, λ none. (leaves.1, refl, (seen_stack seen old, seen_stack seen new, e)))

  pub met_goes : (ts : List StackType) (new : List WorldType) (filled rule : Option ℕ) → filled ≡ lowest_of (not_empty s.tries ts) → Goes seen needed s table new rule (acted l s (put s.at ts entries) (s.act ts)) → Goes seen needed s table new (lower_of filled rule) (met l s entries (Ok ts))
  met_goes ts new filled rule e goes = (
    lower_same filled rule _ _ e goes.0 ∙ sym (lowest_of_append (not_empty s.tries ts) (acted l s (put s.at ts entries) (s.act ts)).broken),
    λ none. goes.1 (lower_none filled rule none).1,
  )

  abbrev GoesOn : Bool → Type 0
  GoesOn falls = (types left : List StackType) → s.act types ≡ Ok left → falls ≡ s.falls

  falls_so : (falls : Bool) → GoesOn falls → Acted s → falls ≡ s.falls
  falls_so falls f a = f a.0 a.1 a.2

  behind_goes : (o : Option ℕ) (falls : Bool) (stack : Vec WorldType) (after : After) → GoesOn falls → Goes seen needed s table stack.items o after → Behind seen needed table (left_behind o falls stack) after
  behind_goes (Some rule) falls stack after f goes = sym goes.0
  behind_goes None true stack after f goes =
      (none_lowest after.broken (sym goes.0), (goes.1 refl).0, ap (λ b. cond b (Some (seen_stack seen stack.items)) None) (falls_so true f (goes.1 refl).2) ∙ (goes.1 refl).1)
  behind_goes None false stack after f goes =
      (none_lowest after.broken (sym goes.0), (goes.1 refl).0, ap (λ b. cond b (Some (seen_stack seen stack.items)) None) (falls_so false f (goes.1 refl).2) ∙ (goes.1 refl).1)

  visit_goes : (falling : Option (List StackType)) (ts : List StackType) (new : List WorldType) (before rule : Option ℕ) → before ≡ lower_of (lowest_of (fallen s falling)) (lowest_of s.broken) → Ok ts ≡ incoming l s.begins (standing entries s.at) falling → Goes seen needed s table new rule (met l s entries (Ok ts)) → Goes seen needed s table new (lower_of before rule) (visit l s entries falling)
  visit_goes falling ts new before rule e came goes =
      let goes' : Goes seen needed s table new rule (met l s entries (incoming l s.begins (standing entries s.at) falling)) = subst (λ r. Goes seen needed s table new rule (met l s entries r)) came goes in (
        lower_same before rule _ _ e goes'.0 ∙ sym (lowest_of_three (fallen s falling) s.broken (met l s entries (incoming l s.begins (standing entries s.at) falling)).broken),
        λ none. goes'.1 (lower_none before rule none).1,
      )

  pub visit_behind : (falling : Option (List StackType)) (ts : List StackType) (stack : Vec WorldType) (before rule : Option ℕ) (falls : Bool) → before ≡ lower_of (lowest_of (fallen s falling)) (lowest_of s.broken) → Ok ts ≡ incoming l s.begins (standing entries s.at) falling → GoesOn falls → Goes seen needed s table stack.items rule (met l s entries (Ok ts)) → Behind seen needed table (left_behind (lower_of before rule) falls stack) (visit l s entries falling)
  visit_behind falling ts stack before rule falls e came f goes = behind_goes (lower_of before rule) falls stack (visit l s entries falling) f (visit_goes falling ts stack.items before rule e came goes)

  pub visit_fails : (falling : Option (List StackType)) (before : Option ℕ) (rule lowest : ℕ) → before ≡ lower_of (lowest_of (fallen s falling)) (lowest_of s.broken) → Err rule ≡ incoming l s.begins (standing entries s.at) falling → lower_of before (Some rule) ≡ Some lowest → Behind seen needed table (Err lowest) (visit l s entries falling)
  visit_fails falling before rule lowest e came is =
      let so : (52 ≤ rule) × (rule ≤ 54) = subst FailsSo (sym came) (arrive_rules l s.begins (standing entries s.at) falling) in
      ap (λ r. lowest_of (fallen s falling ++ (s.broken ++ (met l s entries r).broken))) (sym came)
      ∙ lowest_of_three (fallen s falling) s.broken (rule ∷ [])
      ∙ lower_same _ _ _ _ (sym e) (sym (one_rule rule so.1))
      ∙ is

-- ---- an instruction that breaks something whatever lies on the stack

not_empty_high : (tries : Bool) (ts : List StackType) → 52 ≤ lowest (not_empty tries ts)
not_empty_high true [] = omega arith
not_empty_high true (t ∷ ts) = omega arith
not_empty_high false [] = omega arith
not_empty_high false (t ∷ ts) = omega arith

module _ (l : Lattice) (s : Step) (rule : ℕ) (low : rule ≤ 52) where
  acted_above : (entries : List Entry) (r : Result (List StackType) (List ℕ)) → ((rules : List ℕ) → r ≡ Err rules → rule ≤ lowest rules) → rule ≤ lowest (acted l s entries r).broken
  acted_above entries (Ok us) h = omega (arith, low, edges_high l s.at us s.goes entries)
  acted_above entries (Err rules) h = h rules refl

  met_above : (entries : List Entry) (r : Result (List StackType) ℕ) → ((types : List StackType) (rules : List ℕ) → s.act types ≡ Err rules → rule ≤ lowest rules) → FailsSo r → rule ≤ lowest (met l s entries r).broken
  met_above entries (Err other) acts so = omega (arith, low, so.0)
  met_above entries (Ok ts) acts so =
      omega (arith, low, lowest_append (not_empty s.tries ts) (acted l s (put s.at ts entries) (s.act ts)).broken, not_empty_high s.tries ts, acted_above (put s.at ts entries) (s.act ts) (acts ts))

pub visit_breaks : (l : Lattice) (seen : WorldType → StackType) (needed : ℕ → Bool) (s : Step) (entries : List Entry) (table : BTreeMap ℕ (Vec WorldType)) (falling : Option (List StackType)) (fell : Option ℕ) (rule lowest : ℕ) → IsRanked s → lowest_of s.broken ≡ Some rule → fell ≡ lowest_of (fallen s falling) → lower_of fell (Some rule) ≡ Some lowest → Behind seen needed table (Err lowest) (visit l s entries falling)
visit_breaks l seen needed s entries table falling fell rule lowest ranked broken e is =
    let came = incoming l s.begins (standing entries s.at) falling in
    let rank = ranked rule broken in
    let others = (met l s entries came).broken in
    lowest_of_append (fallen s falling) (s.broken ++ others)
    ∙ ap (lower_of (lowest_of (fallen s falling)))
    (lowest_of_append s.broken others
    ∙ ap (λ o. lower_of o (lowest_of others)) broken
    ∙ first_counts rule others (met_above l s rule rank.0 entries came rank.1 (arrive_rules l s.begins (standing entries s.at) falling)))
    ∙ ap (λ o. lower_of o (Some rule)) (sym e)
    ∙ is

-- ---- what comes to an instruction

falls_seen : (seen : WorldType → StackType) (falling : Option (Vec WorldType)) → is_some falling ≡ is_some (seen_falling seen falling)
falls_seen seen None = refl
falls_seen seen (Some types) = refl

module _ (seen : WorldType → StackType) (steps : List Step) (s : Step) (at : ℕ) (facts : StepFacts) (tells : Tells seen s (is_target steps at) facts) (falling : Option (Vec WorldType)) where
  pub fell_is : (falls : Bool) (fell : Option ℕ) → falls ≡ is_some falling → ((s : Step) (falling : Option (List StackType)) → falls ≡ is_some falling → facts.falls_well ≡ s.falls_well → fell ≡ lowest_of (fallen s falling)) → fell ≡ lowest_of (fallen s (seen_falling seen falling))
  fell_is falls fell e says = says s (seen_falling seen falling) (e ∙ falls_seen seen falling) tells.falls_well

  pub before_is : (fell : Option ℕ) → fell ≡ lowest_of (fallen s (seen_falling seen falling)) → s.broken ≡ [] → fell ≡ lower_of (lowest_of (fallen s (seen_falling seen falling))) (lowest_of s.broken)
  before_is fell is clean = is ∙ sym (lower_nothing (lowest_of (fallen s (seen_falling seen falling)))) ∙ ap (λ rules. lower_of (lowest_of (fallen s (seen_falling seen falling))) (lowest_of rules)) (sym clean)

  pub arrives : (l : Lattice) (entries : List Entry) (table : BTreeMap ℕ (Vec WorldType)) (there : Option (Bor (Vec WorldType))) (types : Result (Vec WorldType) ℕ) → step_at steps at ≡ Some s → Keeps seen (is_needed steps at) table entries → option_copied there ≡ get nat_cmp table at → seen_types seen types ≡ incoming l (begun seen facts.begins) (seen_there seen there) (seen_falling seen falling) → seen_types seen types ≡ incoming l s.begins (standing entries s.at) (seen_falling seen falling)
  arrives l entries table there types found keeps got is =
      let asked : is_needed steps at at ≡ true = or_right (is_target steps at) (nat_le at at) (le-leb at at (omega arith)) in
      is
      ∙ ap (λ b. incoming l b (seen_there seen there) (seen_falling seen falling)) tells.begins
      ∙ ap (λ o. incoming l s.begins o (seen_falling seen falling)) (there_seen seen there ∙ ap (seen_falling seen) got ∙ keeps at asked ∙ ap (standing entries) (sym (found_at steps at s found)))
